-- So many numbers of a kind: those of two kinds that have nothing in common, and as many as there are below a bound.
use Rattle.std.specs.Prelude.{nat_lt}
use Rattle.std.specs.List.{list_any, AllByRecursion}
use Rattle.std.proofs.Common.{◌≡◌, ℕ, ◌+◌, ◌-◌, ◌<◌, ◌≤◌, true, false, cond, eqb, List, [], ◌∷◌, length, get_or, refl, sym, subst, ◌∙◌, arith, inl, inr}
use Rattle.std.proofs.lemmas.Bool.{cases_lt, cases_Bool, or_cases, or_parts, eqb-true, ne_eqb, lt-ltb, le-ltb}
use Rattle.std.proofs.lemmas.Map.Keys.{IsDistinct-from_apart, IsDistinct-cons}
use Rattle.std.proofs.lemmas.Map.Steps.{length-le_from_distinct_below}
use Rattle.std.proofs.lemmas.Map.Views.{Contains-from_any}
use Rattle.bit_words.specs.Lists.{tabulate}
use Rattle.bit_words.proofs.BitLists.{length-tabulate, get_or-tabulate}
use Rattle.id_names.specs.Ways.{AreMany}

pub none_yet : (P : ℕ → Type 0) → AreMany P 0
none_yet P = record {
  item = λ i. i;
  each = λ i h. absurd (omega arith);
  once = λ i j h l e. absurd (omega arith);
}

pub carried : (P Q : ℕ → Type 0) (n : ℕ) → ((y : ℕ) → P y → Q y) → AreMany P n → AreMany Q n
carried P Q n wider p = record {
  item = p.item;
  each = λ i h. wider (p.item i) (p.each i h);
  once = p.once;
}

module _ (P Q R : ℕ → Type 0) (a b : ℕ) (p : AreMany P a) (q : AreMany Q b) (apart : (y : ℕ) → P y → Q y → ⊥) (left : (y : ℕ) → P y → R y) (right : (y : ℕ) → Q y → R y) where
  abbrev both : ℕ → ℕ
  both i = cond (nat_lt i a) (p.item i) (q.item (i - a))

  at_left : (i : ℕ) → i < a → both i ≡ p.item i
  at_left i h = rw (lt-ltb i a h) refl

  at_right : (i : ℕ) → a ≤ i → both i ≡ q.item (i - a)
  at_right i h = rw (le-ltb i a h) refl

  meet : (i j : ℕ) → i < a → a ≤ j → j < a + b → both i ≡ both j → ⊥
  meet i j h g l e =
      let same : p.item i ≡ q.item (j - a) = sym (at_left i h) ∙ e ∙ at_right j g in
      apart (p.item i) (p.each i h) (subst Q (sym same) (q.each (j - a) (omega arith)))

  both_once : (i j : ℕ) → i < a + b → j < a + b → both i ≡ both j → i ≡ j
  both_once i j h l e = elim (cases_lt i a) [
    | inl i_left ↦ elim (cases_lt j a) [
      | inl j_left ↦ p.once i j i_left j_left (sym (at_left i i_left) ∙ e ∙ at_left j j_left)
      | inr j_right ↦ absurd (meet i j i_left j_right l e)
    ]
    | inr i_right ↦ elim (cases_lt j a) [
      | inl j_left ↦ absurd (meet j i j_left i_right h (sym e))
      | inr j_right ↦
          let same : i - a ≡ j - a = q.once (i - a) (j - a) (omega arith) (omega arith) (sym (at_right i i_right) ∙ e ∙ at_right j j_right) in
          omega arith
    ]
  ]

  pub joined : AreMany R (a + b)
  joined = record {
    item = both;
    each = λ i h. elim (cases_lt i a) [
      | inl l ↦ subst R (sym (at_left i l)) (left (p.item i) (p.each i l))
      | inr g ↦ subst R (sym (at_right i g)) (right (q.item (i - a)) (q.each (i - a) (omega arith)))
    ];
    once = both_once;
  }

none_is : (q : ℕ) (xs : List ℕ) → list_any (eqb q) xs ≡ false → AllByRecursion (λ y. eqb q y ≡ false) xs
none_is q [] e = tt
none_is q (x ∷ xs) e = let p = or_parts (eqb q x) (list_any (eqb q) xs) e in (p.0, none_is q xs p.1)

-- n numbers below n, no two the same, are all of them
module _ (item : ℕ → ℕ) (n : ℕ) (each : (i : ℕ) → i < n → item i < n) (once : (i j : ℕ) → i < n → j < n → item i ≡ item j → i ≡ j) where
  abbrev items : List ℕ
  items = tabulate n item

  differ : (i j d : ℕ) → i < j → j < length items → eqb (get_or items i d) (get_or items j d) ≡ false
  differ i j d l h =
      let j_in : j < n = omega (arith, h, length-tabulate n item) in
      let i_in : i < n = omega arith in
      ne_eqb _ _ (λ e.
      let same : i ≡ j = once i j i_in j_in (sym (get_or-tabulate n item i d i_in) ∙ e ∙ get_or-tabulate n item j d j_in) in
      omega arith)

  item_there : (x : ℕ) → list_any (eqb x) items ≡ true → (i : ℕ) × (i < n) × (item i ≡ x)
  item_there x h =
      let found = Contains-from_any {eq = eqb} eqb-true x items h in
      let within : found.0 < n = omega (arith, found.1, length-tabulate n item) in
      (found.0, within, sym (get_or-tabulate n item found.0 x within) ∙ found.2)

  all_below : (x : ℕ) → x < n → (y : ℕ) → list_any (eqb y) (x ∷ items) ≡ true → y < n
  all_below x h y e = elim (or_cases (eqb y x) (list_any (eqb y) items) e) [
    | inl f ↦ omega (arith, eqb-true y x f)
    | inr f ↦ let there = item_there y f in subst (λ z. z < n) there.2 (each there.0 there.1)
  ]

  pub reached : (x : ℕ) → x < n → (i : ℕ) × (i < n) × (item i ≡ x)
  reached x h = elim (cases_Bool (list_any (eqb x) items)) [
    | inl e ↦ item_there x e
    | inr e ↦
        let all : length (x ∷ items) ≤ n = length-le_from_distinct_below (x ∷ items) n (IsDistinct-cons eqb x items (none_is x items e) (IsDistinct-from_apart eqb items differ)) (all_below x h) in
        absurd (omega (arith, all, length-tabulate n item))
  ]
