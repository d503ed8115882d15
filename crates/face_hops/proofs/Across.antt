-- The places across the edges of a face: those of the faces beside it, and perhaps its own.
use Rattle.std.specs.Prelude.{map, not, slice_index}
use Rattle.std.proofs.Common.{◌≡◌, ℕ, ◌+◌, ◌<◌, ◌≤◌, ◌⊎◌, inl, inr, true, false, ◌==◌, List, [], ◌∷◌, length, refl, sym, ap, subst}
use Rattle.std.proofs.lemmas.Bool.{cases_eq, eqb-true, eq-eqb, ne_eqb, or_cases, or_left, or_right, both_ways}
use Rattle.orbits.proofs.Lists.{in_filter, from_filter}
use Rattle.orbits.proofs.Numbers.{same_numbers}
use Rattle.plane_model.specs.Sets.{has}
use Rattle.plane_model.specs.PlaneMap.{PlaneMap}
use Rattle.plane_model.specs.Lists.{face_edges, adjacent}
use Rattle.file_laws.specs.Contents.{Contents}
use Rattle.file_laws.specs.MapOfFile.{signed_at, face_at_place}
use Rattle.file_laws.specs.Lawful.{is_whole}
use Rattle.navigate.specs.Bound.{map_with}
use Rattle.navigate.specs.Beside.{place_across, others, adjacent_places}
use Rattle.navigate.proofs.AcrossLaws.{adjacent_named}
use Rattle.face_hops.specs.Search.{IsSearch}
use Rattle.face_hops.proofs.Beside.{into_occurrences, from_occurrences}
use Rattle.face_hops.proofs.MapFacts.{all_low, place_one}
use Rattle.face_hops.proofs.Rounding.{IsRounding}

into_map : (g : ℕ → ℕ) (xs : List ℕ) (x : ℕ) → has xs x ≡ true → has (map g xs) (g x) ≡ true
into_map g [] x h = absurd (both_ways false refl h)
into_map g (y ∷ ys) x h = elim (or_cases (x == y) (has ys x) h) [
  | inl is ↦ or_left (g x == g y) _ (eq-eqb (g x) (g y) (ap g (eqb-true x y is)))
  | inr more ↦ or_right (g x == g y) _ (into_map g ys x more)
]

from_map : (g : ℕ → ℕ) (xs : List ℕ) (y : ℕ) → has (map g xs) y ≡ true → (x : ℕ) × (has xs x ≡ true) × (g x ≡ y)
from_map g [] y h = absurd (both_ways false refl h)
from_map g (x ∷ xs) y h = elim (or_cases (y == g x) (has (map g xs) y) h) [
  | inl e ↦ (x, or_left (x == x) (has xs x) (eq-eqb x x refl), sym (eqb-true y (g x) e))
  | inr more ↦ let r = from_map g xs y more in (r.0, or_right (r.0 == x) (has xs r.0) r.1, r.2)
]

module _ (c : Contents) (h : is_whole c ≡ true) (place : ℕ) (ps : List ℕ) (low : place ≤ length c.faces)
    (within : (x : ℕ) → has ps x ≡ true → x < length c.code.a) (edges : map (signed_at c) ps ≡ face_edges (map_with c) (face_at_place c place)) where
  abbrev m : PlaneMap
  m = map_with c

  abbrev face : ℕ → ℕ
  face p = face_at_place c p

  abbrev qs : List ℕ
  qs = map (place_across c) ps

  pub named_across : map face (adjacent_places c place ps) ≡ adjacent m (face place)
  named_across = adjacent_named c h place (face place) ps low refl within edges

  pub beside_or_own : (q : ℕ) → has qs q ≡ true → (q ≡ place) ⊎ (has (adjacent m (face place)) (face q) ≡ true)
  beside_or_own q on = elim (cases_eq q place) [
    | inl e ↦ inl e
    | inr n ↦
        let off : not (q == place) ≡ true = rw (ne_eqb q place n) refl in
        let there = into_occurrences [] (others place qs) q refl (in_filter same_numbers (λ g. not (g == place)) qs q off on) in
        inr (subst (λ xs. has xs (face q) ≡ true) named_across (into_map face (adjacent_places c place ps) q there))
  ]

  pub has_across : (q : ℕ) → q ≤ length c.faces → has (adjacent m (face place)) (face q) ≡ true → has qs q ≡ true
  has_across q l on =
      let r = from_map face (adjacent_places c place ps) (face q) (subst (λ xs. has xs (face q) ≡ true) (sym named_across) on) in
      let there = (from_filter same_numbers (λ g. not (g == place)) qs r.0 (from_occurrences [] (others place qs) r.0 r.1)).1 in
      let is = place_one c h r.0 q (all_low c h ps within r.0 there) l r.2 in
      subst (λ x. has qs x ≡ true) is there

  -- a search begins to go round the face
  pub started : (from head tail : ℕ) (ds : List ℕ) (queue : List ℕ) → IsSearch c from (slice_index ds) (slice_index queue) head tail → length ds ≡ length c.faces + 1
      → length queue ≡ length c.faces + 1 → head < tail → slice_index queue head ≡ place → IsRounding c from head place (slice_index ds place + 1) ds queue tail qs
  started from head tail ds queue s a b more at =
      record {
        search = s;
        numbers_long = a;
        queue_long = b;
        more = more;
        at = at;
        its_number = refl;
        half = λ p l on. inr (has_across p l on);
        beside = λ q on. (all_low c h ps within q on, beside_or_own q on);
      }
