use Rattle.std.proofs.Common.{refl}
use Rattle.orbits.specs.Walks as walks
use Rattle.orbits.specs.Components as sets
use Rattle.plane_model.specs.PlaneMap.{signed_edges, smallest}
use Rattle.plane_model.specs.Faces.{reached_through}
use Rattle.plane_model.specs.Sets.{put, rising}
use Rattle.plane_model.specs.Regions.{upward}
use Rattle.plane_model.proofs.worked.maps.Goals as goal

pub returns-clause-triangle : goal.returns-clause-triangle
unfolding signed_edges walks.until_return sets.grown_by reached_through put rising upward smallest
returns-clause-triangle c = refl

pub returns-clause-triangle_rings : goal.returns-clause-triangle_rings
unfolding signed_edges walks.until_return sets.grown_by reached_through put rising upward smallest
returns-clause-triangle_rings c = refl

pub returns-clause-triangle_ring : goal.returns-clause-triangle_ring
unfolding signed_edges walks.until_return sets.grown_by reached_through put rising upward smallest
returns-clause-triangle_ring c = refl

pub returns-clause-island : goal.returns-clause-island
unfolding signed_edges walks.until_return sets.grown_by reached_through put rising upward smallest
returns-clause-island c = refl

pub returns-clause-island_holes : goal.returns-clause-island_holes
unfolding signed_edges walks.until_return sets.grown_by reached_through put rising upward smallest
returns-clause-island_holes c = refl

pub returns-clause-island_size : goal.returns-clause-island_size
unfolding signed_edges walks.until_return sets.grown_by reached_through put rising upward smallest
returns-clause-island_size c = refl

pub returns-clause-regions : goal.returns-clause-regions
unfolding signed_edges walks.until_return sets.grown_by reached_through put rising upward smallest
returns-clause-regions c = refl

pub returns-clause-two_triangles : goal.returns-clause-two_triangles
unfolding signed_edges walks.until_return sets.grown_by reached_through put rising upward smallest
returns-clause-two_triangles c = refl

pub returns-clause-two_rings : goal.returns-clause-two_rings
unfolding signed_edges walks.until_return sets.grown_by reached_through put rising upward smallest
returns-clause-two_rings c = refl

pub returns-clause-two_components : goal.returns-clause-two_components
unfolding signed_edges walks.until_return sets.grown_by reached_through put rising upward smallest
returns-clause-two_components c = refl

pub returns-clause-theta : goal.returns-clause-theta
unfolding signed_edges walks.until_return sets.grown_by reached_through put rising upward smallest
returns-clause-theta c = refl

pub returns-clause-torus : goal.returns-clause-torus
unfolding signed_edges walks.until_return sets.grown_by reached_through put rising upward smallest
returns-clause-torus c = refl

pub returns-clause-six_triangles : goal.returns-clause-six_triangles
unfolding signed_edges walks.until_return sets.grown_by reached_through put rising upward smallest
returns-clause-six_triangles c = refl
