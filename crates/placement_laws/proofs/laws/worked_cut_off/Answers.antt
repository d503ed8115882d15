use Rattle.std.proofs.Common.{refl}
use Rattle.orbits.specs.Walks as walks
use Rattle.orbits.specs.Components as sets
use Rattle.plane_model.specs.PlaneMap.{signed_edges, smallest}
use Rattle.plane_model.specs.Faces.{reached_through}
use Rattle.plane_model.specs.Sets.{put, rising}
use Rattle.placement_laws.proofs.ClosedSets.{closed_by_test}
use Rattle.placement_laws.proofs.laws.worked_cut_off.Goals as goal

pub returns-clause-labelled : goal.returns-clause-labelled
unfolding signed_edges walks.until_return sets.grown_by put rising smallest
returns-clause-labelled c = record { edges = refl; ids = refl; faces = refl; rotation = refl; labelled = refl }

pub returns-clause-many : goal.returns-clause-many
unfolding signed_edges walks.until_return sets.grown_by put rising smallest
returns-clause-many c = refl

pub returns-clause-components : goal.returns-clause-components
unfolding signed_edges walks.until_return sets.grown_by put rising smallest
returns-clause-components c = refl

pub returns-clause-closed : goal.returns-clause-closed
unfolding signed_edges walks.until_return sets.grown_by put rising smallest
returns-clause-closed c = closed_by_test _ _ _ refl refl

pub returns-clause-not_reached : goal.returns-clause-not_reached
unfolding signed_edges walks.until_return sets.grown_by reached_through put rising smallest
returns-clause-not_reached c = refl

pub returns-clause-not_placed : goal.returns-clause-not_placed
unfolding signed_edges walks.until_return sets.grown_by reached_through put rising smallest
returns-clause-not_placed c = refl
