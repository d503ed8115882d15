-- Lists of signed edges: finding, mapping, and what a member is.
use Rattle.std.proofs.Common.{◌≡◌, ℕ, zero, suc, ◌<◌, inl, inr, ℤ, Bool, true, false, not, List, [], ◌∷◌, ◌++◌, map, length, refl, sym, ap, subst, arith, Some, None}
use Rattle.std.specs.Prelude.{slice_get, find}
use Rattle.std.specs.List.{list_all, list_any}
use Rattle.std.proofs.lemmas.Bool.{and_from, and_parts, or_cases, cases_Bool, or_left, or_right, both_ways, not-true, false_from_ne_true}
use Rattle.topo_base.specs.SignedEdge.{same_edge}
use Rattle.plane_model.specs.Sets.{has_edge, is_distinct_edges}
use Rattle.plane_model.proofs.SetLaws.{same_is, same_self}

-- the one that passes is found
pub find_one : (p : ℤ → Bool) (xs : List ℤ) (x : ℤ) → has_edge xs x ≡ true → p x ≡ true → ((y : ℤ) → has_edge xs y ≡ true → p y ≡ true → y ≡ x) → find p xs ≡ Some x
find_one p [] x h k one = cc
find_one p (y ∷ xs) x h k one = elim (cases_Bool (p y)) [
  | inl e ↦ rw e (ap Some (one y (or_left _ _ (same_self y)) e))
  | inr e ↦ elim (or_cases (same_edge x y) (has_edge xs x) h) [
    | inl is ↦ absurd (both_ways (p y) e (subst (λ z. p z ≡ true) (same_is x y is) k))
    | inr more ↦ rw e (find_one p xs x more k (λ z i j. one z (or_right (same_edge z y) _ i) j))
  ]
]

pub find_none : (p : ℤ → Bool) (xs : List ℤ) → ((y : ℤ) → has_edge xs y ≡ true → p y ≡ false) → find p xs ≡ None
find_none p [] none = refl
find_none p (y ∷ xs) none = rw (none y (or_left _ _ (same_self y))) (find_none p xs (λ z h. none z (or_right (same_edge z y) _ h)))

-- the place of one among some in front of others
pub place_of : (xs ys : List ℤ) (o : ℤ) → has_edge xs o ≡ true → (j : ℕ) × (j < length xs) × (slice_get (xs ++ ys) j ≡ Some o)
place_of [] ys o h = absurd (both_ways false refl h)
place_of (x ∷ xs) ys o h = elim (or_cases (same_edge o x) (has_edge xs o) h) [
  | inl is ↦ (zero, omega arith, ap Some (sym (same_is o x is)))
  | inr more ↦ let j = place_of xs ys o more in let lt : j.0 < length xs = j.1 in (suc j.0, omega arith, j.2)
]

pub place_has : (xs : List ℤ) (k : ℕ) (r : ℤ) → slice_get xs k ≡ Some r → has_edge xs r ≡ true
place_has [] k r h = cc
place_has (x ∷ xs) zero r h = let is : x ≡ r = cc in or_left (same_edge r x) _ (subst (λ z. same_edge r z ≡ true) (sym is) (same_self r))
place_has (x ∷ xs) (suc k) r h = or_right (same_edge r x) _ (place_has xs k r h)

pub length-map_edges : (f : ℤ → ℤ) (xs : List ℤ) → length (map f xs) ≡ length xs
length-map_edges f [] = refl
length-map_edges f (x ∷ xs) = ap suc (length-map_edges f xs)
