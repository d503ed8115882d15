use Rattle.plane_model.specs.PlaneMap.{map_of}
use Rattle.placement_laws.proofs.Parts.{parts_of}
use Rattle.placement_laws.proofs.EachRound.{place_begin, place_round, place_end}
use Rattle.placement_laws.proofs.laws.placing_by_rounds.Goals as goal

pub returns-clause-begins : goal.returns-clause-begins
returns-clause-begins c = λ t. place_begin (map_of t)

pub returns-clause-goes_on : goal.returns-clause-goes_on
returns-clause-goes_on c = λ t left front entered next starts h now is. place_round (map_of t) (parts_of t h) left front entered starts now next is

pub returns-clause-ends : goal.returns-clause-ends
returns-clause-ends c = λ t left entered starts now. place_end (map_of t) left entered starts now
