-- What a fault of a tour says.
use Rattle.std.specs.Prelude.{◌≡◌, ℕ, pos, List, Bool, IsFalse, length, ⊤}
use Rattle.topo_base.specs.SignedEdge.{edge_of}
use Rattle.plane_model.specs.Component.{is_plane_component}
use Rattle.rotation_check.specs.Darts.{RotationRows, map_of_rotation, signed_edge}
use Rattle.spanning_pair.specs.Rotations.{next_dart, node_row}
use Rattle.spanning_pair.specs.Tours.{number_at, flag_at, IsTheTour}
use Rattle.spanning_pair.specs.Crossings.{IsFirstCrossing}
use Rattle.spanning_pair.specs.declared.TourFault.{TourFault}
use Rattle.spanning_pair.specs.declared.TourFault.TheVariants.{Crossed, Memory}

-- the first crossing of the tour is where the edge of that id ends, whose component is not plane; want of memory says
-- nothing
abbrev pub IsTourFault : RotationRows → List ℕ → TourFault → Type 0
IsTourFault r starts (Crossed edge) =
    (darts : List ℕ) × (tree : List Bool) × (first : List Bool) × (places : List ℕ) × (closing : ℕ)
    × IsTheTour (length r.edges) (next_dart r) (node_row r) starts darts tree first places
    × IsFirstCrossing (number_at darts) (flag_at tree) (length darts) closing
    × (edge ≡ edge_of (signed_edge r.edges closing))
    × IsFalse (is_plane_component (map_of_rotation r) (pos edge))
IsTourFault r starts Memory = ⊤
