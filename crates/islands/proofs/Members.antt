-- What is among numbers and signed edges, and what is at a place.
use Rattle.std.proofs.Common.{◌≡◌, ℕ, zero, suc, ◌<◌, ◌⊎◌, inl, inr, ℤ, pos, Bool, true, false, ◌==◌, List, [], ◌∷◌, ◌++◌, map, length, refl, sym, ap, subst, arith, eq-eqb}
use Rattle.std.specs.Prelude.{slice_get, unwrap_or}
use Rattle.std.specs.List.{list_any}
use Rattle.std.proofs.lemmas.Bool.{eqb-true, or_cases, or_left, or_right, both_ways}
use Rattle.topo_base.specs.SignedEdge.{same_edge}
use Rattle.plane_model.specs.Sets.{has, has_edge}
use Rattle.plane_model.specs.PlaneMap.{PlaneMap, rings}
use Rattle.plane_model.proofs.SetLaws.{same_is, same_self}
use Rattle.islands.specs.Numbered.{ring_at}

pub has_front : (xs ys : List ℕ) (f : ℕ) → has xs f ≡ true → has (xs ++ ys) f ≡ true
has_front [] ys f h = cc
has_front (x ∷ xs) ys f h = elim (or_cases (f == x) (has xs f) h) [ inl is ↦ or_left _ _ is | inr more ↦ or_right (f == x) _ (has_front xs ys f more) ]

pub has_back : (xs ys : List ℕ) (f : ℕ) → has ys f ≡ true → has (xs ++ ys) f ≡ true
has_back [] ys f h = h
has_back (x ∷ xs) ys f h = or_right (f == x) _ (has_back xs ys f h)

pub has_either : (xs ys : List ℕ) (f : ℕ) → has (xs ++ ys) f ≡ true → (has xs f ≡ true) ⊎ (has ys f ≡ true)
has_either [] ys f h = inr h
has_either (x ∷ xs) ys f h = elim (or_cases (f == x) (has (xs ++ ys) f) h) [
  | inl is ↦ inl (or_left _ _ is)
  | inr more ↦ elim (has_either xs ys f more) [ inl a ↦ inl (or_right (f == x) _ a) | inr b ↦ inr b ]
]

abbrev pub at : List ℤ → ℕ → ℤ
at xs i = unwrap_or (slice_get xs i) (pos 0)

pub at_in : (xs : List ℤ) (i : ℕ) → i < length xs → has_edge xs (at xs i) ≡ true
at_in [] i h = absurd (omega arith)
at_in (x ∷ xs) zero h = or_left _ _ (same_self x)
at_in (x ∷ xs) (suc i) h = or_right (same_edge (at xs i) x) _ (at_in xs i (omega arith))

pub in_at : (xs : List ℤ) (r : ℤ) → has_edge xs r ≡ true → (i : ℕ) × (i < length xs) × (at xs i ≡ r)
in_at [] r h = absurd (both_ways false refl h)
in_at (x ∷ xs) r h = elim (or_cases (same_edge r x) (has_edge xs r) h) [
  | inl is ↦ (zero, omega arith, sym (same_is r x is))
  | inr more ↦ let i = in_at xs r more in let lt : i.0 < length xs = i.1 in (suc i.0, omega arith, i.2)
]

pub ring_in : (m : PlaneMap) (i : ℕ) → i < length (rings m) → has_edge (rings m) (ring_at m i) ≡ true
ring_in m i h = at_in (rings m) i h

pub named : (f : ℕ → ℤ) (xs : List ℕ) (d : ℤ) → has_edge (map f xs) d ≡ true → (i : ℕ) × (has xs i ≡ true) × (f i ≡ d)
named f [] d h = absurd (both_ways false refl h)
named f (x ∷ xs) d h = elim (or_cases (same_edge d (f x)) (has_edge (map f xs) d) h) [
  | inl is ↦ (x, or_left _ _ (eq-eqb x x refl), sym (same_is d (f x) is))
  | inr more ↦ let i = named f xs d more in (i.0, or_right (i.0 == x) _ i.1, i.2)
]

pub to_name : (f : ℕ → ℤ) (xs : List ℕ) (i : ℕ) → has xs i ≡ true → has_edge (map f xs) (f i) ≡ true
to_name f [] i h = cc
to_name f (x ∷ xs) i h = elim (or_cases (i == x) (has xs i) h) [
  | inl is ↦ or_left (same_edge (f i) (f x)) _ (subst (λ z. same_edge (f i) (f z) ≡ true) (eqb-true i x is) (same_self (f i)))
  | inr more ↦ or_right (same_edge (f i) (f x)) _ (to_name f xs i more)
]

pub numbered : (f : ℕ → ℕ) (xs : List ℕ) (d : ℕ) → has (map f xs) d ≡ true → (i : ℕ) × (has xs i ≡ true) × (f i ≡ d)
numbered f [] d h = absurd (both_ways false refl h)
numbered f (x ∷ xs) d h = elim (or_cases (d == f x) (has (map f xs) d) h) [
  | inl is ↦ (x, or_left _ _ (eq-eqb x x refl), sym (eqb-true d (f x) is))
  | inr more ↦ let i = numbered f xs d more in (i.0, or_right (i.0 == x) _ i.1, i.2)
]

pub to_number : (f : ℕ → ℕ) (xs : List ℕ) (i : ℕ) → has xs i ≡ true → has (map f xs) (f i) ≡ true
to_number f [] i h = cc
to_number f (x ∷ xs) i h = elim (or_cases (i == x) (has xs i) h) [
  | inl is ↦ or_left (f i == f x) _ (eq-eqb (f i) (f x) (ap f (eqb-true i x is)))
  | inr more ↦ or_right (f i == f x) _ (to_number f xs i more)
]

pub any_edge : (s : ℤ → Bool) (ds : List ℤ) → list_any s ds ≡ true → (d : ℤ) × (has_edge ds d ≡ true) × (s d ≡ true)
any_edge s [] h = absurd (both_ways false refl h)
any_edge s (d ∷ ds) h = elim (or_cases (s d) (list_any s ds) h) [
  | inl is ↦ (d, or_left _ _ (same_self d), is)
  | inr more ↦ let there = any_edge s ds more in (there.0, or_right _ _ there.1, there.2)
]
