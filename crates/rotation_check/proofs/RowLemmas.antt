-- The ids of rows, and what the map has at them.
use Rattle.std.proofs.Common.{◌≡◌, ℕ, inl, inr, false, not, ◌||◌, ◌==◌, List, [], ◌∷◌, map, filter, refl, sym, ap, ◌∙◌, eq-eqb}
use Rattle.std.specs.Prelude.{is_some}
use Rattle.std.proofs.lemmas.Bool.{eqb-true, cases_Bool, both_ways}
use Rattle.plane_model.specs.Rows.{Rows}
use Rattle.plane_model.specs.Sets.{has}
use Rattle.plane_model.specs.PlaneMap.{map_of}
use Rattle.plane_model.specs.Rotation.{is_face}
use Rattle.plane_model.proofs.Sorting.{rising-has}
use Rattle.plane_model.proofs.FaultParts.{has_key_at}

-- the map has a node, and an edge, at the ids of rows
pub node_at-has : (t : Rows) (id : ℕ) → is_some ((map_of t).nodes.at id) ≡ has (map (λ n. n.id) t.nodes) id
node_at-has t id = sym (has_key_at (λ n. n.id) (λ n. n.face) t.nodes id) ∙ rising-has (map (λ n. n.id) t.nodes) id

pub edge_at-has : (t : Rows) (id : ℕ) → is_some ((map_of t).edges.at id) ≡ has (map (λ e. e.id) t.edges) id
edge_at-has t id = sym (has_key_at (λ e. e.id) (λ e. e) t.edges id) ∙ rising-has (map (λ e. e.id) t.edges) id

not_zero : (ids : List ℕ) (f : ℕ) → (f == 0) ≡ false → has (filter (λ g. not (g == 0)) ids) f ≡ has ids f
not_zero [] f h = refl
not_zero (x ∷ xs) f h = elim (cases_Bool (x == 0)) [
  | inl e ↦ elim (cases_Bool (f == x)) [
    | inl is ↦ absurd (both_ways (f == 0) h (eq-eqb f 0 (eqb-true f x is ∙ eqb-true x 0 e)))
    | inr differ ↦ rw (e, differ) (not_zero xs f h)
  ]
  | inr e ↦ rw e (ap (λ b. (f == x) || b) (not_zero xs f h))
]

-- a face other than 0 is one that has a row
pub is_face-has : (t : Rows) (f : ℕ) → (f == 0) ≡ false → is_face (map_of t) f ≡ has (map (λ r. r.id) t.faces) f
is_face-has t f h = rw (h, rising-has (filter (λ g. not (g == 0)) (map (λ r. r.id) t.faces)) f) (not_zero (map (λ r. r.id) t.faces) f h)
