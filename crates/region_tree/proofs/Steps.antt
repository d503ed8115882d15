-- Laws of steps up.
use Rattle.std.specs.Prelude.{option_and_then, slice_index_or, IfSome, ◌*◌}
use Rattle.std.proofs.Common.{◌≡◌, ◌≢◌, ℕ, zero, suc, ◌+◌, ◌-◌, ◌<◌, ◌≤◌, inl, inr, Bool, true, false, List, [], ◌∷◌, map, length, get_or, refl, ap, sym, ◌∙◌, subst, arith, Option, Some, None}
use Rattle.std.specs.List.{range_with_len, list_any}
use Rattle.std.proofs.lemmas.Bool.{cases_lt}
use Rattle.std.proofs.lemmas.List.{get_or_past, length-map}
use Rattle.std.proofs.lemmas.List.FromFn.{get_or-map-range_with_len, length-map-range_with_len, fill_by_all}
use Rattle.region_tree.specs.Ancestors.{parent_at, AreParentNumbers, ancestor, ancestors}

pub ancestor-none : (up : ℕ → Option ℕ) (n : ℕ) → ancestor up n None ≡ None
unfolding ancestor
ancestor-none up zero = refl
ancestor-none up (suc n) = ancestor-none up n

pub ancestor-zero : (up : ℕ → Option ℕ) (o : Option ℕ) → ancestor up 0 o ≡ o
unfolding ancestor
ancestor-zero up o = refl

pub ancestor-one : (up : ℕ → Option ℕ) (r : ℕ) → ancestor up 1 (Some r) ≡ up r
unfolding ancestor
ancestor-one up r = refl

pub ancestor-suc : (up : ℕ → Option ℕ) (n : ℕ) (r : ℕ) → ancestor up (suc n) (Some r) ≡ ancestor up n (up r)
unfolding ancestor
ancestor-suc up n r = refl

pub ancestor-add : (up : ℕ → Option ℕ) (i j : ℕ) (o : Option ℕ) → ancestor up (i + j) o ≡ ancestor up j (ancestor up i o)
unfolding ancestor
ancestor-add up zero j o = let e : zero + j ≡ j = omega arith in rw e refl
ancestor-add up (suc i) j o = let e : suc i + j ≡ suc (i + j) = omega arith in rw e (ancestor-add up i j (option_and_then up o))

-- where fewer steps lead to none, so do more
pub ancestor-past : (up : ℕ → Option ℕ) (i j : ℕ) (o : Option ℕ) → i ≤ j → ancestor up i o ≡ None → ancestor up j o ≡ None
ancestor-past up i j o l h =
    let e : i + (j - i) ≡ j = omega arith in
    subst (λ k. ancestor up k o ≡ None) e (ancestor-add up i (j - i) o ∙ ap (ancestor up (j - i)) h ∙ ancestor-none up (j - i))

-- steps that lead back do so as often as one likes
pub ancestor-again : (up : ℕ → Option ℕ) (d m x : ℕ) → ancestor up d (Some x) ≡ Some x → ancestor up (d * m) (Some x) ≡ Some x
ancestor-again up d zero x h = let e : d * zero ≡ 0 = omega arith in rw e (ancestor-zero up (Some x))
ancestor-again up d (suc m) x h =
    let e : d + d * m ≡ d * suc m = omega arith in
    subst (λ k. ancestor up k (Some x) ≡ Some x) e (ancestor-add up d (d * m) (Some x) ∙ ap (ancestor up (d * m)) h ∙ ancestor-again up d m x h)

some_or : (o : Option ℕ) → o ≢ None → (x : ℕ) × (o ≡ Some x)
some_or None h = absurd (h refl)
some_or (Some x) h = (x, refl)

-- where more steps lead somewhere, so do fewer
pub ancestor-before : (up : ℕ → Option ℕ) (i j x : ℕ) (o : Option ℕ) → i ≤ j → ancestor up j o ≡ Some x → (y : ℕ) × (ancestor up i o ≡ Some y)
ancestor-before up i j x o l h = some_or (ancestor up i o) (λ none. let e = ancestor-past up i j o l none in cc)

module _ (parents : List (Option ℕ)) (places : AreParentNumbers parents) where
  step-within : (n p : ℕ) → ((q : ℕ) → q < length parents → ancestor (parent_at parents) n (Some q) ≡ Some p → p < length parents) → (k : ℕ) (o : Option ℕ) → parent_at parents k ≡ o → ancestor (parent_at parents) n o ≡ Some p → p < length parents
  step-within n p more k None e h = let none = ancestor-none (parent_at parents) n in absurd (cc)
  step-within n p more k (Some q) e h = more q (places k q e) h

  -- steps stay within the places
  pub ancestor-within : (n k p : ℕ) → k < length parents → ancestor (parent_at parents) n (Some k) ≡ Some p → p < length parents
  unfolding ancestor
  ancestor-within zero k p l h = let e : k ≡ p = cc in omega arith
  ancestor-within (suc n) k p l h = step-within n p (λ q lq hq. ancestor-within n q p lq hq) k (parent_at parents k) refl h

  pub length-ancestors : (s : ℕ) → length (ancestors parents s) ≡ length parents
  length-ancestors s = length-map-range_with_len (λ k. ancestor (parent_at parents) s (Some k)) 0 (length parents)

  pub ancestors-at : (s k : ℕ) → k < length parents → parent_at (ancestors parents s) k ≡ ancestor (parent_at parents) s (Some k)
  ancestors-at s k l = get_or-map-range_with_len (λ k. ancestor (parent_at parents) s (Some k)) 0 (length parents) k k None l (omega arith)

  pub ancestors-places : (s : ℕ) → AreParentNumbers (ancestors parents s)
  ancestors-places s k p h = elim (cases_lt k (length parents)) [
    | inl l ↦ let w = ancestor-within s k p l (sym (ancestors-at s k l) ∙ h) in let e = length-ancestors s in omega (arith, w, e)
    | inr g ↦ let past = get_or_past (ancestors parents s) k None (let e = length-ancestors s in omega (arith, e)) in absurd (cc)
  ]

  beyond-at : (s : ℕ) (o : Option ℕ) → IfSome o (λ p. p < length parents) → option_and_then (parent_at (ancestors parents s)) o ≡ ancestor (parent_at parents) s o
  beyond-at s None h = sym (ancestor-none (parent_at parents) s)
  beyond-at s (Some k) h = ancestors-at s k h

  -- twice as many steps, from so many
  pub doubled-ancestors : (s : ℕ) → map (option_and_then (parent_at (ancestors parents s))) (ancestors parents s) ≡ ancestors parents (s + s)
  doubled-ancestors s = each 0 (length parents) (omega arith)
    where
      within : (k : ℕ) → k < length parents → (o : Option ℕ) → ancestor (parent_at parents) s (Some k) ≡ o → IfSome o (λ p. p < length parents)
      within k l None h = tt
      within k l (Some p) h = ancestor-within s k p l h

      each : (low n : ℕ) → low + n ≤ length parents
          → map (option_and_then (parent_at (ancestors parents s))) (map (λ k. ancestor (parent_at parents) s (Some k)) (range_with_len low n)) ≡ map (λ k. ancestor (parent_at parents) (s + s) (Some k)) (range_with_len low n)
      each low zero h = refl
      each low (suc n) h =
          let here = beyond-at s (ancestor (parent_at parents) s (Some low)) (within low (omega arith) (ancestor (parent_at parents) s (Some low)) refl) ∙ sym (ancestor-add (parent_at parents) s s (Some low)) in
          ap (λ w. w ∷ map (option_and_then (parent_at (ancestors parents s))) (map (λ k. ancestor (parent_at parents) s (Some k)) (range_with_len (low + 1) n))) here
          ∙ ap (λ w. ancestor (parent_at parents) (s + s) (Some low) ∷ w) (each (low + 1) n (omega arith))

pub ancestors-one : (parents : List (Option ℕ)) → parents ≡ ancestors parents 1
ancestors-one parents = fill_by_all (λ k. ancestor (parent_at parents) 1 (Some k)) parents (length parents) None refl (λ k l. sym (ancestor-one (parent_at parents) k))
