use Rattle.plane_model.specs.PlaneMap.{map_of}
use Rattle.region_border.proofs.BorderParts.{consistent_turned, all_borders}
use Rattle.region_border.proofs.laws.border_is_all.Goals as goal

pub returns : goal.returns
returns c = λ t r range ok. let w = consistent_turned t range ok in all_borders (map_of t) r w.0 w.1
