-- Sets of which two are joined.
use Rattle.std.proofs.Common.{◌≡◌, ℕ, ◌<◌, ◌⊎◌, inl, inr, List, length, get_or, sym, ap, ◌∙◌, subst, arith}
use Rattle.std.specs.Prelude.{◌↔◌, min, max}
use Rattle.std.specs.List.{range_with_len}
use Rattle.std.proofs.lemmas.Bool.{cases_eq}
use Rattle.std.proofs.lemmas.List.{get_or-map, length-map}
use Rattle.std.proofs.lemmas.List.FromFn.{length-range_with_len}
use Rattle.disjoint_sets.specs.Sets.{AreSets, joined}
use Rattle.disjoint_sets.proofs.Leading.{alone_at, in_order, moved, moved_at, moved_low, moved_other}

pub alone_sets : (count : ℕ) → AreSets (range_with_len 0 count)
alone_sets count =
    let long = length-range_with_len 0 count in
    record {
      below = λ i lt. let at = alone_at count i (omega arith) in omega arith;
      own = λ i lt. ap (λ k. get_or (range_with_len 0 count) k 0) (alone_at count i (omega arith));
    }

module _ (leasts : List ℕ) (a b : ℕ) where
  pub joined_length : length (joined leasts a b) ≡ length leasts
  joined_length = length-map leasts (moved (min (get_or leasts a 0) (get_or leasts b 0)) (max (get_or leasts a 0) (get_or leasts b 0)))

  pub joined_at : (i : ℕ) → i < length leasts → get_or (joined leasts a b) i 0 ≡ moved (min (get_or leasts a 0) (get_or leasts b 0)) (max (get_or leasts a 0) (get_or leasts b 0)) (get_or leasts i 0)
  joined_at i lt = get_or-map (moved (min (get_or leasts a 0) (get_or leasts b 0)) (max (get_or leasts a 0) (get_or leasts b 0))) leasts i 0 0 lt

module _ (leasts : List ℕ) (a b : ℕ) (are : AreSets leasts) (in_a : a < length leasts) (in_b : b < length leasts) where
  pub joined_sets : AreSets (joined leasts a b)
  joined_sets =
      let x = get_or leasts a 0 in
      let y = get_or leasts b 0 in
      let long = joined_length leasts a b in
      let at = joined_at leasts a b in
      let own_low : get_or leasts (min x y) 0 ≡ min x y = elim (in_order x y) [
        | inl o ↦ subst (λ n. get_or leasts n 0 ≡ n) (sym o.0) (are.own a in_a)
        | inr o ↦ subst (λ n. get_or leasts n 0 ≡ n) (sym o.0) (are.own b in_b)
      ] in
      let below_a = are.below a in_a in
      let below_b = are.below b in_b in
      record {
        below = λ i lt.
            let l : i < length leasts = omega arith in
            let is = at i l in
            let was = are.below i l in
            elim (cases_eq (get_or leasts i 0) (max x y)) [
              | inl e ↦ let m = moved_at (min x y) (max x y) (get_or leasts i 0) e in omega arith
              | inr ne ↦ let m = moved_other (min x y) (max x y) (get_or leasts i 0) ne in omega arith
            ];
        own = λ i lt.
            let l : i < length leasts = omega arith in
            let was = are.below i l in
            elim (cases_eq (get_or leasts i 0) (max x y)) [
              | inl e ↦
                  let is : get_or (joined leasts a b) i 0 ≡ min x y = at i l ∙ moved_at (min x y) (max x y) (get_or leasts i 0) e in
                  let there : get_or (joined leasts a b) (min x y) 0 ≡ min x y = at (min x y) (omega arith) ∙ ap (moved (min x y) (max x y)) own_low ∙ moved_low (min x y) (max x y) in
                  subst (λ n. get_or (joined leasts a b) n 0 ≡ n) (sym is) there
              | inr ne ↦
                  let is : get_or (joined leasts a b) i 0 ≡ get_or leasts i 0 = at i l ∙ moved_other (min x y) (max x y) (get_or leasts i 0) ne in
                  let there : get_or (joined leasts a b) (get_or leasts i 0) 0 ≡ get_or leasts i 0 =
                  at (get_or leasts i 0) (omega arith) ∙ ap (moved (min x y) (max x y)) (are.own i l) ∙ moved_other (min x y) (max x y) (get_or leasts i 0) ne in
                  subst (λ n. get_or (joined leasts a b) n 0 ≡ n) (sym is) there
            ];
      }

-- one, or the first with x and the second with y, or the other way round
abbrev pub OneOrBoth : ℕ → ℕ → ℕ → ℕ → Type 0
OneOrBoth x y p q = (p ≡ q) ⊎ (((p ≡ x) × (q ≡ y)) ⊎ ((p ≡ y) × (q ≡ x)))

moved_one : (x y p q : ℕ) → moved (min x y) (max x y) p ≡ moved (min x y) (max x y) q → OneOrBoth x y p q
moved_one x y p q e = elim (cases_eq p (max x y)) [
  | inl high_p ↦ elim (cases_eq q (max x y)) [
    | inl high_q ↦ inl (high_p ∙ sym high_q)
    | inr ne ↦
        let low_q : q ≡ min x y = sym (moved_other (min x y) (max x y) q ne) ∙ sym e ∙ moved_at (min x y) (max x y) p high_p in
        elim (in_order x y) [ inl o ↦ inr (inr (high_p ∙ o.1, low_q ∙ o.0)) | inr o ↦ inr (inl (high_p ∙ o.1, low_q ∙ o.0)) ]
  ]
  | inr ne ↦
      let same_p = moved_other (min x y) (max x y) p ne in
      elim (cases_eq q (max x y)) [
        | inl high_q ↦
            let low_p : p ≡ min x y = sym same_p ∙ e ∙ moved_at (min x y) (max x y) q high_q in
            elim (in_order x y) [ inl o ↦ inr (inl (low_p ∙ o.0, high_q ∙ o.1)) | inr o ↦ inr (inr (low_p ∙ o.0, high_q ∙ o.1)) ]
        | inr nq ↦ inl (sym same_p ∙ e ∙ moved_other (min x y) (max x y) q nq)
      ]
]

-- both of what is joined go to the lesser
moved_both : (x y : ℕ) → (moved (min x y) (max x y) x ≡ min x y) × (moved (min x y) (max x y) y ≡ min x y)
moved_both x y = elim (in_order x y) [
  | inl o ↦ (ap (moved (min x y) (max x y)) (sym o.0) ∙ moved_low (min x y) (max x y), moved_at (min x y) (max x y) y (sym o.1))
  | inr o ↦ (moved_at (min x y) (max x y) x (sym o.1), ap (moved (min x y) (max x y)) (sym o.0) ∙ moved_low (min x y) (max x y))
]

one_moved : (x y p q : ℕ) → OneOrBoth x y p q → moved (min x y) (max x y) p ≡ moved (min x y) (max x y) q
one_moved x y p q h =
    let both = moved_both x y in
    elim h [
      | inl e ↦ ap (moved (min x y) (max x y)) e
      | inr other ↦ elim other [
        | inl o ↦ ap (moved (min x y) (max x y)) o.0 ∙ both.0 ∙ sym both.1 ∙ ap (moved (min x y) (max x y)) (sym o.1)
        | inr o ↦ ap (moved (min x y) (max x y)) o.0 ∙ both.1 ∙ sym both.0 ∙ ap (moved (min x y) (max x y)) (sym o.1)
      ]
    ]

-- of one set after two were joined
pub joined_same : (leasts : List ℕ) (a b i j : ℕ) → i < length leasts → j < length leasts
    → (get_or (joined leasts a b) i 0 ≡ get_or (joined leasts a b) j 0) ↔ OneOrBoth (get_or leasts a 0) (get_or leasts b 0) (get_or leasts i 0) (get_or leasts j 0)
joined_same leasts a b i j li lj =
    let at_i = joined_at leasts a b i li in
    let at_j = joined_at leasts a b j lj in (
      λ e. moved_one (get_or leasts a 0) (get_or leasts b 0) (get_or leasts i 0) (get_or leasts j 0) (sym at_i ∙ e ∙ at_j),
      λ h. at_i ∙ one_moved (get_or leasts a 0) (get_or leasts b 0) (get_or leasts i 0) (get_or leasts j 0) h ∙ sym at_j,
    )
