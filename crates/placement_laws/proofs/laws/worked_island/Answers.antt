use Rattle.std.proofs.Common.{refl}
use Rattle.orbits.specs.Walks as walks
use Rattle.orbits.specs.Components as sets
use Rattle.plane_model.specs.PlaneMap.{signed_edges, until_return, smallest}
use Rattle.plane_model.specs.Component.{grown_by}
use Rattle.plane_model.specs.Faces.{reached_through}
use Rattle.plane_model.specs.Sets.{put, rising}
use Rattle.placement_laws.proofs.laws.worked_island.Goals as goal

pub returns-clause-labelled : goal.returns-clause-labelled
unfolding signed_edges walks.until_return sets.grown_by put rising smallest
returns-clause-labelled c = record { edges = refl; ids = refl; faces = refl; rotation = refl; labelled = refl }

pub returns-clause-placed : goal.returns-clause-placed
unfolding signed_edges walks.until_return sets.grown_by reached_through put rising smallest
returns-clause-placed c = refl

pub returns-clause-outer : goal.returns-clause-outer
unfolding signed_edges walks.until_return sets.grown_by reached_through put rising smallest
returns-clause-outer c = refl

pub returns-clause-shells : goal.returns-clause-shells
unfolding signed_edges walks.until_return sets.grown_by reached_through put rising smallest
returns-clause-shells c = (refl, refl)
