-- The code that a view stands for.
use Rattle.bit_words.specs.PackedView.{fields_of}
use Rattle.rank_select.specs.RankView.{counted}
use Rattle.parens.specs.ParenView.{parens_of}
use Rattle.code_laws.specs.Code.{Code, code_with}
use Rattle.turan_code.specs.declared.view.TuranParts.{TuranParts}
use Rattle.turan_code.specs.declared.view.TuranView.{TuranView}

-- the code of these parts
abbrev pub code_of_parts : TuranParts → Code
code_of_parts p = code_with (counted p.a) (parens_of p.tree) (parens_of p.dual) (fields_of p.starts)

-- the code that a view stands for
abbrev pub code_of_view : TuranView → Code
code_of_view v = code_of_parts v.parts
