-- What a check of tables says.
use Rattle.std.specs.Prelude.{◌≡◌, [], ◌∷◌, map, Option, Some, ⊤}
use Rattle.topo_base.specs.declared.refusal.Refusal.{Refusal}
use Rattle.topo_base.specs.declared.refusal.Table.TheVariants as table
use Rattle.plane_model.specs.Rows.{Rows}
use Rattle.plane_model.specs.PlaneMap.{map_of}
use Rattle.plane_model.specs.Faults.{first_of, first_in, id_twice, no_node, no_edge_row, no_face, no_containing_face, either_way, wrong_end, next_twice, split_node, node_with_face}
use Rattle.rotation_check.specs.declared.checking.CheckFault.{CheckFault}
use Rattle.rotation_check.specs.declared.checking.CheckFault.TheVariants as fault

-- the first fault, or want of memory
abbrev pub Names : CheckFault → Option Refusal → Type 0
Names (fault.Refused e) first = first ≡ Some e
Names fault.Memory first = ⊤

-- the first fault of ids, and of the nodes and nexts of edges
abbrev pub numbering_fault : Rows → Option Refusal
numbering_fault t =
    first_of (
    id_twice table.Node (map (λ r. r.id) t.nodes)
    ∷ id_twice table.Edge (map (λ r. r.id) t.edges)
    ∷ id_twice table.Face (map (λ r. r.id) t.faces)
    ∷ first_in (no_node (map_of t)) t.edges
    ∷ first_in (no_edge_row (map_of t)) t.edges
    ∷ [])

-- the first face that has no row
abbrev pub face_fault : Rows → Option Refusal
face_fault t = first_of (first_in (no_face (map_of t)) t.edges ∷ first_in (no_containing_face (map_of t)) t.nodes ∷ [])

-- the first fault of nexts, and of the orbits of nodes
abbrev pub orbit_fault : Rows → Option Refusal
orbit_fault t = first_of (first_in (either_way (wrong_end (map_of t))) t.edges ∷ next_twice (map_of t) ∷ split_node (map_of t) ∷ first_in (node_with_face (map_of t)) t.nodes ∷ [])
