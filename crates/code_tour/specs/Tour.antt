-- Where a tour stands.
use Rattle.std.specs.Prelude.{ℕ}
use Rattle.code_laws.specs.Code.{Code}
use Rattle.turan_code.specs.TuranView.{code_of_parts}
use Rattle.code_tour.specs.declared.tour.Tour.{Tour}

-- the code that it goes over
abbrev pub code_in : Tour → Code
code_in t = code_of_parts t.parts

-- the position that it passes next, or how many there are
abbrev pub position_of : Tour → ℕ
position_of t = t.position
