-- How many sets have a least number below some number.
use Rattle.std.proofs.Common.{◌≡◌, ℕ, zero, suc, ◌+◌, ◌-◌, ◌<◌, ◌≤◌, inl, inr, ◌==◌, List, [], ◌∷◌, ◌++◌, filter, map, length, get_or, set, refl, sym, ap, ◌∙◌, subst, arith, add-one, eq-eqb}
use Rattle.std.specs.List.{range_with_len}
use Rattle.std.proofs.lemmas.Bool.{cases_eq, ne_eqb}
use Rattle.std.proofs.lemmas.List.{ext_get_or, get_or-map, get_or-set_same, get_or-set_other, length-append, length-map, length-set}
use Rattle.std.proofs.lemmas.List.Elements.{filter-append}
use Rattle.disjoint_sets.specs.Links.{AreLinks, leasts}
use Rattle.disjoint_sets.specs.Sets.{sets_below}
use Rattle.disjoint_sets.proofs.Leading.{solved, leasts_length, root_least}

-- one number more is one at the end
range_more : (a n : ℕ) → range_with_len a (suc n) ≡ range_with_len a n ++ (a + n) ∷ []
range_more a zero = let e : a ≡ a + 0 = omega arith in ap (λ x. x ∷ []) e
range_more a (suc n) =
    let e : a + 1 + n ≡ a + suc n = omega arith in
    ap (λ xs. a ∷ xs) (range_more (a + 1) n ∙ ap (λ x. range_with_len (a + 1) n ++ x ∷ []) e)

module _ (xs : List ℕ) where
  one_more : (k : ℕ) → sets_below xs (k + 1) ≡ sets_below xs k + length (filter (λ i. get_or xs i 0 == i) (k ∷ []))
  one_more k =
      let e : 0 + k ≡ k = omega arith in
      let p = λ (i : ℕ). get_or xs i 0 == i in
      ap (sets_below xs) (add-one k) ∙ ap (λ r. length (filter p r)) (range_more 0 k ∙ ap (λ x. range_with_len 0 k ++ x ∷ []) e)
      ∙ ap length (filter-append p (range_with_len 0 k) (k ∷ [])) ∙ length-append (filter p (range_with_len 0 k)) (filter p (k ∷ []))

  pub next_least : (k : ℕ) → get_or xs k 0 ≡ k → sets_below xs (k + 1) ≡ sets_below xs k + 1
  next_least k e =
      let more = one_more k in
      let one : length (filter (λ i. get_or xs i 0 == i) (k ∷ [])) ≡ 1 = rw (eq-eqb (get_or xs k 0) k e) refl in
      omega arith

  pub next_other : (k : ℕ) → (get_or xs k 0 ≡ k → ⊥) → sets_below xs (k + 1) ≡ sets_below xs k
  next_other k ne =
      let more = one_more k in
      let none : length (filter (λ i. get_or xs i 0 == i) (k ∷ [])) ≡ 0 = rw (ne_eqb (get_or xs k 0) k ne) refl in
      omega arith

  pub below_more : (a d : ℕ) → sets_below xs a ≤ sets_below xs (a + d)
  below_more a zero = let e : sets_below xs (a + 0) ≡ sets_below xs a = ap (sets_below xs) (let z : a + 0 ≡ a = omega arith in z) in omega arith
  below_more a (suc d) =
      let more = below_more a d in
      let e : sets_below xs (a + suc d) ≡ sets_below xs (a + d + 1) = ap (sets_below xs) (let z : a + suc d ≡ a + d + 1 = omega arith in z) in
      elim (cases_eq (get_or xs (a + d) 0) (a + d)) [
        | inl is ↦ let n = next_least (a + d) is in omega arith
        | inr ne ↦ let n = next_other (a + d) ne in omega arith
      ]

  -- no fewer below a greater number
  pub below_rises : (a b : ℕ) → a ≤ b → sets_below xs a ≤ sets_below xs b
  below_rises a b le =
      let e : sets_below xs (a + (b - a)) ≡ sets_below xs b = ap (sets_below xs) (let z : a + (b - a) ≡ b = omega arith in z) in
      let more = below_more a (b - a) in
      omega arith

  -- a least number counts below each greater one
  pub below_strictly : (a b : ℕ) → get_or xs a 0 ≡ a → a < b → sets_below xs a < sets_below xs b
  below_strictly a b is lt =
      let one = next_least a is in
      let more = below_rises (a + 1) b (omega arith) in
      omega arith

  pub below_most : (a : ℕ) → sets_below xs a ≤ a
  below_most zero = omega arith
  below_most (suc a) =
      let more = below_most a in
      let e : sets_below xs (suc a) ≡ sets_below xs (a + 1) = ap (sets_below xs) (sym (add-one a)) in
      elim (cases_eq (get_or xs a 0) a) [
        | inl is ↦ let n = next_least a is in omega arith
        | inr ne ↦ let n = next_other a ne in omega arith
      ]

-- the first links are replaced by numbers
pub record AreNumbered (start links : List ℕ) (member count : ℕ) : Type 0 where
  pub size : length links ≡ length start
  pub count_is : count ≡ sets_below (leasts start) member
  pub done : (j : ℕ) → j < member → get_or links j 0 ≡ sets_below (leasts start) (get_or (leasts start) j 0)
  pub left : (j : ℕ) → member ≤ j → get_or links j 0 ≡ get_or start j 0

pub numbered_fits : (start links : List ℕ) (member count : ℕ) → AreNumbered start links member count → count ≤ member
numbered_fits start links member count h = let c = h.count_is in let b = below_most (leasts start) member in omega arith

numbered_set : (start links : List ℕ) (member count more number : ℕ) → AreNumbered start links member count → member < length start
    → more ≡ sets_below (leasts start) (member + 1) → number ≡ sets_below (leasts start) (get_or (leasts start) member 0)
    → AreNumbered start (set links member number) (member + 1) more
numbered_set start links member count more number h lt more_is is =
    let size = h.size in
    record {
      size = length-set links member number ∙ h.size;
      count_is = more_is;
      done = λ j l. elim (cases_eq j member) [
        | inl same ↦
            subst (λ n. get_or (set links member number) n 0 ≡ sets_below (leasts start) (get_or (leasts start) n 0)) (sym same)
            (get_or-set_same links member number 0 (omega arith) ∙ is)
        | inr ne ↦ get_or-set_other links member j number 0 ne ∙ h.done j (omega arith)
      ];
      left = λ j le. (let ne : j ≡ member → ⊥ = λ e. absurd (omega arith) in get_or-set_other links member j number 0 ne) ∙ h.left j (omega arith);
    }

-- where a member's link is itself
pub numbered_root : (start links : List ℕ) (member count : ℕ) → AreLinks start → AreNumbered start links member count → member < length start → get_or links member 0 ≡ member
    → AreNumbered start (set links member count) (member + 1) (count + 1)
numbered_root start links member count are h lt e =
    let root : get_or start member 0 ≡ member = sym (h.left member (omega arith)) ∙ e in
    let is : get_or (leasts start) member 0 ≡ member = (solved start are).root member lt root in
    let c = h.count_is in
    let n = next_least (leasts start) member is in
    numbered_set start links member count (count + 1) count h lt (omega arith) (c ∙ ap (sets_below (leasts start)) (sym is))

-- where it is a lesser one
pub numbered_other : (start links : List ℕ) (member count : ℕ) → AreLinks start → AreNumbered start links member count → member < length start → (get_or links member 0 ≡ member → ⊥)
    → AreNumbered start (set links member (get_or links (get_or links member 0) 0)) (member + 1) count
numbered_other start links member count are h lt ne =
    let l = h.left member (omega arith) in
    let le = are member lt in
    let other : get_or (leasts start) member 0 ≡ member → ⊥ = λ e. ne (l ∙ root_least start are member lt e) in
    let n = next_other (leasts start) member other in
    let c = h.count_is in
    let same : get_or (leasts start) (get_or links member 0) 0 ≡ get_or (leasts start) member 0 = ap (λ k. get_or (leasts start) k 0) l ∙ (solved start are).step member lt in
    numbered_set start links member count count (get_or links (get_or links member 0) 0) h lt (omega arith)
    (h.done (get_or links member 0) (omega arith) ∙ ap (sets_below (leasts start)) same)

pub numbered_all : (start links : List ℕ) (count : ℕ) → AreNumbered start links (length start) count
    → (count ≡ sets_below (leasts start) (length (leasts start))) × (links ≡ map (sets_below (leasts start)) (leasts start))
numbered_all start links count h =
    let long = leasts_length start in
    let size = h.size in (
      h.count_is ∙ ap (sets_below (leasts start)) (sym long),
      ext_get_or 0 links (map (sets_below (leasts start)) (leasts start)) (h.size ∙ sym long ∙ sym (length-map (leasts start) (sets_below (leasts start))))
          (λ j l. h.done j (omega arith) ∙ sym (get_or-map (sets_below (leasts start)) (leasts start) j 0 0 (omega arith))),
    )
