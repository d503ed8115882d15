-- What a map lacks.
use Rattle.std.specs.Prelude.{◌≡◌, None}
use Rattle.topo_base.specs.Script.{Line}
use Rattle.plane_model.specs.PlaneMap.{PlaneMap}
use Rattle.plane_model.specs.Answers.{items}

-- a line asks for what the map lacks
abbrev pub IsUnknown : PlaneMap → Line → Type 0
IsUnknown m Line.Long = ⊥
IsUnknown m Line.Blank = ⊥
IsUnknown m (Line.Ask q) = items m q ≡ None
IsUnknown m Line.Bad = ⊥
