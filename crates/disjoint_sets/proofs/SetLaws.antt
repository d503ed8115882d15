-- Numbers of sets.
use Rattle.std.proofs.Common.{◌≡◌, ℕ, zero, suc, ◌+◌, ◌<◌, inl, inr, List, length, get_or, refl, sym, ap, ◌∙◌, arith, add-one}
use Rattle.std.specs.Prelude.{◌↔◌}
use Rattle.std.proofs.lemmas.Bool.{cases_eq, cases_lt}
use Rattle.std.proofs.lemmas.List.{get_or-map, length-map}
use Rattle.disjoint_sets.specs.Sets.{AreSets, numbered, sets_below}
use Rattle.disjoint_sets.proofs.Numbering.{below_strictly, next_least, next_other}

pub numbers_length : (leasts : List ℕ) → length (numbered leasts).of_members ≡ length leasts
numbers_length leasts = length-map leasts (sets_below leasts)

pub number_at : (leasts : List ℕ) (i : ℕ) → i < length leasts → get_or (numbered leasts).of_members i 0 ≡ sets_below leasts (get_or leasts i 0)
number_at leasts i lt = get_or-map (sets_below leasts) leasts i 0 0 lt

-- two least members with as many sets below them are one
least_once : (leasts : List ℕ) (p q : ℕ) → get_or leasts p 0 ≡ p → get_or leasts q 0 ≡ q → sets_below leasts p ≡ sets_below leasts q → p ≡ q
least_once leasts p q own_p own_q e = elim (cases_lt p q) [
  | inl lt ↦ let less = below_strictly leasts p q own_p lt in absurd (omega arith)
  | inr ge ↦ elim (cases_lt q p) [
    | inl gt ↦ let less = below_strictly leasts q p own_q gt in absurd (omega arith)
    | inr le ↦ omega arith
  ]
]

pub same_number : (leasts : List ℕ) (i j : ℕ) → AreSets leasts → i < length leasts → j < length leasts
    → (get_or (numbered leasts).of_members i 0 ≡ get_or (numbered leasts).of_members j 0) ↔ (get_or leasts i 0 ≡ get_or leasts j 0)
same_number leasts i j are li lj =
    let at_i = number_at leasts i li in
    let at_j = number_at leasts j lj in (
      λ e. least_once leasts (get_or leasts i 0) (get_or leasts j 0) (are.own i li) (are.own j lj) (sym at_i ∙ e ∙ at_j),
      λ e. at_i ∙ ap (sets_below leasts) e ∙ sym at_j,
    )

pub number_below : (leasts : List ℕ) (i : ℕ) → AreSets leasts → i < length leasts → get_or (numbered leasts).of_members i 0 < (numbered leasts).count
number_below leasts i are lt =
    let at = number_at leasts i lt in
    let le = are.below i lt in
    let less = below_strictly leasts (get_or leasts i 0) (length leasts) (are.own i lt) (omega arith) in
    omega arith

-- below n there is a least member with each number below the count there
number_from : (leasts : List ℕ) (n k : ℕ) → k < sets_below leasts n → (i : ℕ) × (i < n) × (get_or leasts i 0 ≡ i) × (sets_below leasts i ≡ k)
number_from leasts zero k lt = absurd (let none : sets_below leasts 0 ≡ 0 = refl in omega arith)
number_from leasts (suc n) k lt =
    let e : sets_below leasts (suc n) ≡ sets_below leasts (n + 1) = ap (sets_below leasts) (sym (add-one n)) in
    elim (cases_lt k (sets_below leasts n)) [
      | inl less ↦ let f = number_from leasts n k less in let before = f.1 in (f.0, omega arith, f.2, f.3)
      | inr ge ↦ elim (cases_eq (get_or leasts n 0) n) [
        | inl is ↦ let more = next_least leasts n is in (n, omega arith, is, omega arith)
        | inr ne ↦ let more = next_other leasts n ne in absurd (omega arith)
      ]
    ]

pub number_reached : (leasts : List ℕ) (k : ℕ) → k < (numbered leasts).count → (i : ℕ) × (i < length leasts) × (get_or leasts i 0 ≡ i) × (get_or (numbered leasts).of_members i 0 ≡ k)
number_reached leasts k lt =
    let f = number_from leasts (length leasts) k lt in
    (f.0, f.1, f.2, number_at leasts f.0 f.1 ∙ ap (sets_below leasts) f.2 ∙ f.3)

pub number_rises : (leasts : List ℕ) (i j : ℕ) → j < length leasts → get_or leasts i 0 ≡ i → get_or leasts j 0 ≡ j → i < j
    → get_or (numbered leasts).of_members i 0 < get_or (numbered leasts).of_members j 0
number_rises leasts i j lj own_i own_j lt =
    let at_i = number_at leasts i (omega arith) ∙ ap (sets_below leasts) own_i in
    let at_j = number_at leasts j lj ∙ ap (sets_below leasts) own_j in
    let less = below_strictly leasts i j own_i lt in
    omega arith
