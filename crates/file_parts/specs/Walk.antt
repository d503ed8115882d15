-- The walk that a code is made of.
use Rattle.std.specs.Prelude.{Bool, List, map}
use Rattle.code_laws.specs.Code.{Code, is_first, positions}

-- for each position, whether it is the first of its edge
abbrev pub firsts : Code → List Bool
firsts c = map (is_first c) (positions c)
