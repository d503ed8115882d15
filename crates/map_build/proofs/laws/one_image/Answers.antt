use Rattle.std.proofs.Common.{ap}
use Rattle.plane_model.specs.PlaneMap.{PlaneMap}
use Rattle.file_laws.specs.Image.{image_of}
use Rattle.map_build.specs.Made.{contents_of_map}
use Rattle.map_build.proofs.laws.one_image.Goals as goal

pub returns : goal.returns
returns c = λ form t u same. ap (λ (m : PlaneMap). image_of form (contents_of_map m)) same.2
