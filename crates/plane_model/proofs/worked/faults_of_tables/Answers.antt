use Rattle.std.proofs.Common.{refl}
use Rattle.orbits.specs.Walks as walks
use Rattle.orbits.specs.Components as sets
use Rattle.plane_model.specs.PlaneMap.{signed_edges, smallest}
use Rattle.plane_model.specs.Faces.{reached_through}
use Rattle.plane_model.specs.Sets.{put, rising}
use Rattle.plane_model.specs.Regions.{upward}
use Rattle.plane_model.proofs.worked.faults_of_tables.Goals as goal

pub returns-clause-triangle : goal.returns-clause-triangle
unfolding signed_edges walks.until_return sets.grown_by reached_through put rising upward smallest
returns-clause-triangle c = refl

pub returns-clause-island : goal.returns-clause-island
unfolding signed_edges walks.until_return sets.grown_by reached_through put rising upward smallest
returns-clause-island c = refl

pub returns-clause-regions : goal.returns-clause-regions
unfolding signed_edges walks.until_return sets.grown_by reached_through put rising upward smallest
returns-clause-regions c = refl

pub returns-clause-id_twice : goal.returns-clause-id_twice
unfolding signed_edges walks.until_return sets.grown_by reached_through put rising upward smallest
returns-clause-id_twice c = refl

pub returns-clause-no_node : goal.returns-clause-no_node
unfolding signed_edges walks.until_return sets.grown_by reached_through put rising upward smallest
returns-clause-no_node c = refl

pub returns-clause-no_edge : goal.returns-clause-no_edge
unfolding signed_edges walks.until_return sets.grown_by reached_through put rising upward smallest
returns-clause-no_edge c = refl

pub returns-clause-no_face : goal.returns-clause-no_face
unfolding signed_edges walks.until_return sets.grown_by reached_through put rising upward smallest
returns-clause-no_face c = refl

pub returns-clause-wrong_end : goal.returns-clause-wrong_end
unfolding signed_edges walks.until_return sets.grown_by reached_through put rising upward smallest
returns-clause-wrong_end c = refl

pub returns-clause-next_twice : goal.returns-clause-next_twice
unfolding signed_edges walks.until_return sets.grown_by reached_through put rising upward smallest
returns-clause-next_twice c = refl

pub returns-clause-split_node : goal.returns-clause-split_node
unfolding signed_edges walks.until_return sets.grown_by reached_through put rising upward smallest
returns-clause-split_node c = refl

pub returns-clause-node_with_face : goal.returns-clause-node_with_face
unfolding signed_edges walks.until_return sets.grown_by reached_through put rising upward smallest
returns-clause-node_with_face c = refl

pub returns-clause-lone_node : goal.returns-clause-lone_node
unfolding signed_edges walks.until_return sets.grown_by reached_through put rising upward smallest
returns-clause-lone_node c = refl

pub returns-clause-mixed_ring : goal.returns-clause-mixed_ring
unfolding signed_edges walks.until_return sets.grown_by reached_through put rising upward smallest
returns-clause-mixed_ring c = refl

pub returns-clause-euler : goal.returns-clause-euler
unfolding signed_edges walks.until_return sets.grown_by reached_through put rising upward smallest
returns-clause-euler c = refl

pub returns-clause-unplaced : goal.returns-clause-unplaced
unfolding signed_edges walks.until_return sets.grown_by reached_through put rising upward smallest
returns-clause-unplaced c = refl

pub returns-clause-bare_face : goal.returns-clause-bare_face
unfolding signed_edges walks.until_return sets.grown_by reached_through put rising upward smallest
returns-clause-bare_face c = refl

pub returns-clause-face_cycle : goal.returns-clause-face_cycle
unfolding signed_edges walks.until_return sets.grown_by reached_through put rising upward smallest
returns-clause-face_cycle c = refl

pub returns-clause-region_cycle : goal.returns-clause-region_cycle
unfolding signed_edges walks.until_return sets.grown_by reached_through put rising upward smallest
returns-clause-region_cycle c = refl

pub returns-clause-no_member_region : goal.returns-clause-no_member_region
unfolding signed_edges walks.until_return sets.grown_by reached_through put rising upward smallest
returns-clause-no_member_region c = refl

pub returns-clause-member_twice : goal.returns-clause-member_twice
unfolding signed_edges walks.until_return sets.grown_by reached_through put rising upward smallest
returns-clause-member_twice c = refl
