use Rattle.turan_code.specs.Numbering.{code_of_walk, IsGap}
use Rattle.turan_code.proofs.Numbered.{AreNumberedTo}
use Rattle.turan_code.proofs.numbering.number.Given as goal

abbrev pub invariant-loop-p : goal.invariant-loop-p
invariant-loop-p l = record {
  gap : IsGap (code_of_walk l.walk) l.p l.gap;
  numbers : AreNumberedTo (code_of_walk l.walk) l.p l.numbering;
}
