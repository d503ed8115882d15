use Rattle.std.proofs.Common.{refl}
use Rattle.std.specs.Fmt.{digits}
use Rattle.topo_base.specs.Spelling.{digits_behind}
use Rattle.topo_base.specs.Script.{words}
use Rattle.orbits.specs.Walks as walks
use Rattle.orbits.specs.Components as sets
use Rattle.plane_model.specs.PlaneMap.{signed_edges, smallest}
use Rattle.plane_model.specs.Faces.{reached_through}
use Rattle.plane_model.specs.Sets.{put, rising}
use Rattle.plane_model.specs.Regions.{upward}
use Rattle.plane_model.proofs.worked.answers_of_maps.Goals as goal

pub returns-clause-nothing : goal.returns-clause-nothing
unfolding digits digits_behind words signed_edges walks.until_return sets.grown_by reached_through put rising upward smallest
returns-clause-nothing c = refl

pub returns-clause-closed_edge : goal.returns-clause-closed_edge
unfolding digits digits_behind words signed_edges walks.until_return sets.grown_by reached_through put rising upward smallest
returns-clause-closed_edge c = refl

pub returns-clause-bridge : goal.returns-clause-bridge
unfolding digits digits_behind words signed_edges walks.until_return sets.grown_by reached_through put rising upward smallest
returns-clause-bridge c = refl

pub returns-clause-triangle : goal.returns-clause-triangle
unfolding digits digits_behind words signed_edges walks.until_return sets.grown_by reached_through put rising upward smallest
returns-clause-triangle c = refl

pub returns-clause-island : goal.returns-clause-island
unfolding digits digits_behind words signed_edges walks.until_return sets.grown_by reached_through put rising upward smallest
returns-clause-island c = refl

pub returns-clause-two_triangles : goal.returns-clause-two_triangles
unfolding digits digits_behind words signed_edges walks.until_return sets.grown_by reached_through put rising upward smallest
returns-clause-two_triangles c = refl

pub returns-clause-theta : goal.returns-clause-theta
unfolding digits digits_behind words signed_edges walks.until_return sets.grown_by reached_through put rising upward smallest
returns-clause-theta c = refl

pub returns-clause-regions : goal.returns-clause-regions
unfolding digits digits_behind words signed_edges walks.until_return sets.grown_by reached_through put rising upward smallest
returns-clause-regions c = refl

pub returns-clause-other_lines : goal.returns-clause-other_lines
unfolding digits digits_behind words signed_edges walks.until_return sets.grown_by reached_through put rising upward smallest
returns-clause-other_lines c = refl

pub returns-clause-carriage_return : goal.returns-clause-carriage_return
unfolding digits digits_behind words signed_edges walks.until_return sets.grown_by reached_through put rising upward smallest
returns-clause-carriage_return c = refl

pub returns-clause-greatest_id : goal.returns-clause-greatest_id
unfolding digits digits_behind words signed_edges walks.until_return sets.grown_by reached_through put rising upward smallest
returns-clause-greatest_id c = refl
