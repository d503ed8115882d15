use Rattle.std.proofs.Common.{◌≡◌, ◌++◌, drop}
use Rattle.code_laws.specs.Tour.{picked}
use Rattle.turan_code.proofs.making.bits_of_kind.Given as goal

abbrev pub invariant-loop-p : goal.invariant-loop-p
invariant-loop-p l = l.maker ++ picked l.kind (drop l.p l.tree) (drop l.p l.first) ≡ picked l.kind l.tree l.first
