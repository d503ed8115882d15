use Rattle.std.proofs.Common.{refl}
use Rattle.std.specs.Fmt.{digits}
use Rattle.topo_base.specs.Spelling.{digits_behind}
use Rattle.topo_base.specs.Script.{words}
use Rattle.orbits.specs.Walks as walks
use Rattle.orbits.specs.Components as sets
use Rattle.plane_model.specs.PlaneMap.{signed_edges, smallest}
use Rattle.plane_model.specs.Faces.{reached_through}
use Rattle.plane_model.specs.Sets.{put, rising}
use Rattle.plane_model.specs.Regions.{upward}
use Rattle.plane_model.proofs.worked.paths_and_outlines.Goals as goal

pub returns-clause-path : goal.returns-clause-path
unfolding digits digits_behind words signed_edges walks.until_return sets.grown_by reached_through put rising upward smallest
returns-clause-path c = refl

pub returns-clause-distance : goal.returns-clause-distance
unfolding digits digits_behind words signed_edges walks.until_return sets.grown_by reached_through put rising upward smallest
returns-clause-distance c = refl

pub returns-clause-no_move : goal.returns-clause-no_move
unfolding digits digits_behind words signed_edges walks.until_return sets.grown_by reached_through put rising upward smallest
returns-clause-no_move c = refl

pub returns-clause-outline : goal.returns-clause-outline
unfolding digits digits_behind words signed_edges walks.until_return sets.grown_by reached_through put rising upward smallest
returns-clause-outline c = refl

pub returns-clause-outline_with_hole : goal.returns-clause-outline_with_hole
unfolding digits digits_behind words signed_edges walks.until_return sets.grown_by reached_through put rising upward smallest
returns-clause-outline_with_hole c = refl

pub returns-clause-outline_of_two : goal.returns-clause-outline_of_two
unfolding digits digits_behind words signed_edges walks.until_return sets.grown_by reached_through put rising upward smallest
returns-clause-outline_of_two c = refl

pub returns-clause-edge_text : goal.returns-clause-edge_text
unfolding digits digits_behind words signed_edges walks.until_return sets.grown_by reached_through put rising upward smallest
returns-clause-edge_text c = refl

pub returns-clause-node_text : goal.returns-clause-node_text
unfolding digits digits_behind words signed_edges walks.until_return sets.grown_by reached_through put rising upward smallest
returns-clause-node_text c = refl
