use Rattle.plane_model.specs.PlaneMap.{map_of}
use Rattle.placement_laws.proofs.Parts.{parts_of}
use Rattle.placement_laws.proofs.ClosedSets.{in_each_closed, reached_from, all_in_each, all_reached_from, tree_of, placed_from}
use Rattle.placement_laws.proofs.laws.closed_along_rings.Goals as goal

pub returns-clause-reached : goal.returns-clause-reached
returns-clause-reached c = λ t d h k. (λ reached. in_each_closed (map_of t) (parts_of t h) d k reached, λ each. reached_from (map_of t) (parts_of t h) d each)

pub returns-clause-all : goal.returns-clause-all
returns-clause-all c = λ t h. (λ all. all_in_each (map_of t) (parts_of t h) all, λ each. all_reached_from (map_of t) (parts_of t h) each)

pub returns-clause-placed : goal.returns-clause-placed
returns-clause-placed c = λ t h. (λ placed. tree_of t h placed, λ tree. placed_from t h tree)
