-- How the first faults of parts make the first of all.
use Rattle.std.proofs.Common.{◌≡◌, ℕ, List, [], ◌∷◌, ◌++◌, map, true, refl, sym, ap, ◌∙◌, Option, Some, None}
use Rattle.std.specs.Prelude.{is_none}
use Rattle.topo_base.specs.declared.refusal.Refusal.{Refusal}
use Rattle.topo_base.specs.declared.refusal.Table.{Table}
use Rattle.topo_base.specs.declared.refusal.Table.TheVariants as table
use Rattle.plane_model.specs.Rows.{Rows}
use Rattle.plane_model.specs.Sets.{is_distinct, or_else}
use Rattle.plane_model.specs.InRange.{is_in_range}
use Rattle.plane_model.specs.PlaneMap.{map_of}
use Rattle.plane_model.specs.Rotation.{is_rotation_system}
use Rattle.plane_model.specs.Faults.{first_of, first_in, id_twice, no_node, no_edge_row, no_face, no_containing_face, either_way, wrong_end, next_twice, split_node, node_with_face, rotation_fault}
use Rattle.plane_model.proofs.FaultParts.{none-id_twice}
use Rattle.plane_model.proofs.RotationFaults.{none-rotation_fault}
use Rattle.rotation_check.specs.Checked.{numbering_fault, face_fault, orbit_fault}

-- ids of which none stands twice are distinct
pub apart_from : (t : Table) (ids read : List ℕ) → read ≡ ids → id_twice t read ≡ None → is_distinct ids ≡ true
apart_from t ids read same none = sym (none-id_twice t ids) ∙ ap is_none (ap (id_twice t) (sym same) ∙ none)

first_of-append : (xs ys : List (Option Refusal)) → first_of (xs ++ ys) ≡ or_else (first_of xs) (first_of ys)
first_of-append [] ys = refl
first_of-append (None ∷ xs) ys = first_of-append xs ys
first_of-append (Some e ∷ xs) ys = refl

-- the first fault of a rotation, by its parts
parts : (t : Rows) → rotation_fault t ≡ or_else (numbering_fault t) (or_else (face_fault t) (orbit_fault t))
parts t =
    first_of-append (id_twice table.Node (map (λ r. r.id) t.nodes) ∷ id_twice table.Edge (map (λ r. r.id) t.edges) ∷ id_twice table.Face (map (λ r. r.id) t.faces) ∷ first_in (no_node (map_of t)) t.edges
    ∷ first_in (no_edge_row (map_of t)) t.edges ∷ []) (first_in (no_face (map_of t)) t.edges ∷ first_in (no_containing_face (map_of t)) t.nodes ∷ first_in (either_way (wrong_end (map_of t))) t.edges ∷ next_twice (map_of t)
    ∷ split_node (map_of t) ∷ first_in (node_with_face (map_of t)) t.nodes ∷ [])
    ∙ ap (or_else (numbering_fault t)) (first_of-append (first_in (no_face (map_of t)) t.edges ∷ first_in (no_containing_face (map_of t)) t.nodes ∷ []) (first_in (either_way (wrong_end (map_of t))) t.edges ∷ next_twice (map_of t)
    ∷ split_node (map_of t) ∷ first_in (node_with_face (map_of t)) t.nodes ∷ []))

pub last_part : (t : Rows) → numbering_fault t ≡ None → face_fault t ≡ None → rotation_fault t ≡ orbit_fault t
last_part t h k = parts t ∙ ap (λ a. or_else a (or_else (face_fault t) (orbit_fault t))) h ∙ ap (λ a. or_else a (orbit_fault t)) k

-- tables without a fault in any part are a rotation system
pub no_part : (t : Rows) → is_in_range t ≡ true → numbering_fault t ≡ None → face_fault t ≡ None → orbit_fault t ≡ None → is_rotation_system t ≡ true
no_part t range h k l = sym (none-rotation_fault t range) ∙ ap is_none (last_part t h k ∙ l)
