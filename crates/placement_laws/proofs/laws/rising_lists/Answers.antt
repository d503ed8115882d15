use Rattle.topo_base.specs.SignedEdge.{same_edge}
use Rattle.plane_model.specs.PlaneMap.{map_of, signed_edges, ring, smallest}
use Rattle.plane_model.specs.Component.{component}
use Rattle.plane_model.proofs.SortedEdges.{rising_filter}
use Rattle.placement_laws.proofs.Tables.{rise_of}
use Rattle.placement_laws.proofs.laws.rising_lists.Goals as goal

pub returns-clause-signed_edges : goal.returns-clause-signed_edges
returns-clause-signed_edges c = λ t h. rise_of t h

pub returns-clause-rings : goal.returns-clause-rings
returns-clause-rings c = λ t h. rising_filter (λ d. same_edge d (smallest d (ring (map_of t) d))) (signed_edges (map_of t)) (rise_of t h)

pub returns-clause-components : goal.returns-clause-components
returns-clause-components c = λ t h. rising_filter (λ d. same_edge d (smallest d (component (map_of t) d))) (signed_edges (map_of t)) (rise_of t h)
