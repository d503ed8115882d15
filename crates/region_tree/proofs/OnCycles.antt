-- As many steps up as there are places, or more, lead exactly to the places on cycles.
use Rattle.std.specs.Prelude.{find, unwrap_or, nat_le, if◌then◌else◌, ◌*◌}
use Rattle.std.proofs.Common.{◌≡◌, ◌≢◌, ℕ, zero, suc, ◌+◌, ◌-◌, ◌<◌, ◌≤◌, inl, inr, Bool, true, false, List, [], ◌∷◌, map, length, get_or, refl, ap, sym, ◌∙◌, subst, arith, Option, Some, None, ◌==◌, eq-eqb}
use Rattle.std.specs.List.{range_with_len, list_any}
use Rattle.std.proofs.lemmas.Bool.{cases_lt, cases_Bool, both_ways, false_from_ne_true, leb-true, leb-false, eqb-true}
use Rattle.std.proofs.lemmas.List.FromFn.{get_or-map-range_with_len, length-map-range_with_len, length-range_with_len}
use Rattle.bit_words.specs.Lists.{is_at}
use Rattle.bit_words.proofs.Finds.{find-least, find-none}
use Rattle.orbits.proofs.Lists.{pigeon}
use Rattle.orbits.proofs.Numbers.{same_numbers, in_range, place_in, apart_at}
use Rattle.plane_model.specs.Sets.{has, is_distinct}
use Rattle.region_tree.specs.Ancestors.{parent_at, AreParentNumbers, ancestor, ancestors, comes_back, IsFarUp, IsLeastOf, lesser}
use Rattle.region_tree.proofs.Lookups.{some_in_range, in_range_some}
use Rattle.region_tree.proofs.Steps.{ancestor-add, ancestor-again, ancestor-before, ancestor-within, ancestor-none, ancestors-at, length-ancestors}

pub at_is : (o : Option ℕ) (x : ℕ) → o ≡ Some x → is_at o x ≡ true
at_is o x e = subst (λ p. is_at p x ≡ true) (sym e) (eq-eqb x x refl)

pub is_some_at : (o : Option ℕ) (x : ℕ) → is_at o x ≡ true → o ≡ Some x
is_some_at None x h = cc
is_some_at (Some y) x h = ap Some (eqb-true y x h)

-- what comes back, by the steps it takes
pub back-steps : (up : ℕ → Option ℕ) (n x : ℕ) → comes_back up n x ≡ true → (d : ℕ) × (1 ≤ d) × (d ≤ n) × (ancestor up d (Some x) ≡ Some x)
unfolding comes_back
back-steps up n x h = let r = some_in_range (λ j. is_at (ancestor up (j + 1) (Some x)) x) 0 n h in (r.0 + 1, omega arith, omega (arith, r.2), is_some_at _ x r.3)

pub steps-back : (up : ℕ → Option ℕ) (n x d : ℕ) → 1 ≤ d → d ≤ n → ancestor up d (Some x) ≡ Some x → comes_back up n x ≡ true
unfolding comes_back
steps-back up n x d a b h =
    let e : d - 1 + 1 ≡ d = omega arith in
    in_range_some (λ j. is_at (ancestor up (j + 1) (Some x)) x) 0 n (d - 1) (omega arith) (omega arith) (at_is _ x (rw e h))

module _ (parents : List (Option ℕ)) (places : AreParentNumbers parents) where
  abbrev up : ℕ → Option ℕ
  up = parent_at parents

  abbrev n : ℕ
  n = length parents

  -- far up each number is on a cycle
  pub far-back : (s k x : ℕ) → n ≤ s → k < n → ancestor up s (Some k) ≡ Some x → comes_back up n x ≡ true
  far-back s k x enough l h =
      elim (cases_Bool (comes_back up n x)) [
        | inl back ↦ back
        | inr never ↦
            let value = λ (j : ℕ). unwrap_or (ancestor up j (Some k)) 0 in
            let path = map value (range_with_len 0 (n + 1)) in
            let long : length path ≡ n + 1 = length-map-range_with_len value 0 (n + 1) in
            let at : (j : ℕ) → j < n + 1 → get_or path j 0 ≡ value j = λ j lt. get_or-map-range_with_len value 0 (n + 1) j j 0 lt (omega arith) in
            let there : (j : ℕ) → j < n + 1 → ancestor up j (Some k) ≡ Some (value j) =
            λ j lt. let w = ancestor-before up j s x (Some k) (omega arith) h in w.1 ∙ ap Some (sym (ap (λ o. unwrap_or o 0) w.1)) in
            let apart : is_distinct path ≡ true =
            apart_at path (λ i j less lt same.
            let vi = there i (omega (arith, long)) in
            let vj = there j (omega (arith, long)) in
            let e : value i ≡ value j = sym (at i (omega (arith, long))) ∙ same ∙ at j (omega (arith, long)) in
            let d = j - i in
            let round : ancestor up d (Some (value i)) ≡ Some (value i) =
            ap (ancestor up d) (sym vi) ∙ sym (ancestor-add up i d (Some k)) ∙ (let f : i + d ≡ j = omega arith in subst (λ q. ancestor up q (Some k) ≡ Some (value i)) (sym f) (vj ∙ ap Some (sym e))) in
            let m = s - i in
            let up_to : ancestor up m (Some (value i)) ≡ Some x =
            ap (ancestor up m) (sym vi) ∙ sym (ancestor-add up i m (Some k)) ∙ (let f : i + m ≡ s = omega (arith, long) in subst (λ q. ancestor up q (Some k) ≡ Some x) (sym f) h) in
            let again : ancestor up d (Some x) ≡ Some x =
            ap (ancestor up d) (sym up_to) ∙ sym (ancestor-add up m d (Some (value i))) ∙ (let f : m + d ≡ d + m = omega arith in ap (λ q. ancestor up q (Some (value i))) f)
            ∙ ancestor-add up d m (Some (value i)) ∙ ap (ancestor up m) round ∙ up_to in
            both_ways _ never (steps-back up n x d (omega arith) (omega (arith, long)) again)) in
            let inside : (y : ℕ) → has path y ≡ true → has (range_with_len 0 n) y ≡ true =
            λ y h'. let p = place_in path y h' in
            let lt : p.0 < n + 1 = omega (arith, long, p.1) in
            let w = ancestor-within parents places p.0 k (value p.0) l (there p.0 lt) in
            let e : value p.0 ≡ y = sym (at p.0 lt) ∙ p.2 in
            in_range 0 n y (omega arith) (omega (arith, w, e)) in
            let most = pigeon same_numbers path (range_with_len 0 n) apart inside in
            let short = length-range_with_len 0 n in
            absurd (omega (arith, most, long, short))
      ]

  -- and each number on a cycle is far up some place
  pub back-far : (s x : ℕ) → x < n → comes_back up n x ≡ true → (k : ℕ) × (k < n) × (ancestor up s (Some k) ≡ Some x)
  back-far s x l h =
      let r = back-steps up n x h in
      let d = r.0 in
      let all = ancestor-again up d s x r.3 in
      let more : s ≤ d * s = grind (arith, r.1) in
      let before = ancestor-before up (d * s - s) (d * s) x (Some x) (omega arith) all in
      let e : d * s - s + s ≡ d * s = omega (arith, more) in (
        before.0,
        ancestor-within parents places (d * s - s) x before.0 l before.1,
        ap (ancestor up s) (sym before.1) ∙ sym (ancestor-add up (d * s - s) s (Some x)) ∙ subst (λ q. ancestor up q (Some x) ≡ Some x) (sym e) all,
      )

  -- so the least of the places far up is the least on a cycle
  pub least-far : (s : ℕ) → n ≤ s → (o : Option ℕ) → IsLeastOf (ancestors parents s) n o → o ≡ find (comes_back up n) (range_with_len 0 n)
  least-far s enough None h =
      sym (find-none (comes_back up n) 0 n (λ q a b. false_from_ne_true _ (λ back.
      let f = back-far s q (omega (arith, b)) back in
      let none = h f.0 f.1 in
      let at = ancestors-at parents places s f.0 f.1 in
      let found = f.2 in
      absurd (cc))))
  least-far s enough (Some p) h =
      let first = h.0 in
      let found : ancestor up s (Some first.0) ≡ Some p = sym (ancestors-at parents places s first.0 first.1) ∙ first.2 in
      sym (find-least (comes_back up n) 0 n p (record {
        from = omega arith;
        within = (let w = ancestor-within parents places s first.0 p first.1 found in omega (arith, w));
        passes = far-back s first.0 p enough first.1 found;
        before = λ q a b. false_from_ne_true _ (λ back.
            let within = ancestor-within parents places s first.0 p first.1 found in
            let f = back-far s q (omega (arith, within)) back in
            let least = h.1 f.0 q f.1 (ancestors-at parents places s f.0 f.1 ∙ f.2) in
            omega (arith, least));
      }))

  pub least-on_cycle : (far : List (Option ℕ)) (o : Option ℕ) → IsFarUp parents far → IsLeastOf far (length far) o → o ≡ find (comes_back up n) (range_with_len 0 n)
  least-on_cycle far o is h =
      let long = ap length is.is ∙ length-ancestors parents places is.steps in
      least-far is.steps is.enough o (subst (λ xs. IsLeastOf xs n o) is.is (subst (λ m. IsLeastOf far m o) long h))
