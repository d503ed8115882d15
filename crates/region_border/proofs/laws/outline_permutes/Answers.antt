use Rattle.plane_model.specs.PlaneMap.{map_of}
use Rattle.region_border.proofs.Outlines.{outlines_permute, passed_inside}
use Rattle.region_border.proofs.BorderParts.{consistent_turned}
use Rattle.region_border.proofs.laws.outline_permutes.Goals as goal

pub returns-clause-permutes : goal.returns-clause-permutes
returns-clause-permutes c = λ t r range ok. outlines_permute (map_of t) r (consistent_turned t range ok).0

pub returns-clause-inside : goal.returns-clause-inside
returns-clause-inside c = λ t r d e range ok there b on. passed_inside (map_of t) r (consistent_turned t range ok).0 d e there b on
