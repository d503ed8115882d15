use Rattle.std.proofs.Common.{true, false}
use Rattle.code_laws.proofs.Sound.{sound_parts}
use Rattle.code_laws.proofs.Mates.{mate_laws}
use Rattle.code_laws.proofs.Backs.{step_laws}
use Rattle.code_laws.proofs.laws.mates_and_steps.Goals as goal

pub returns-clause-mates : goal.returns-clause-mates
returns-clause-mates c = mate_laws

pub returns-clause-turns : goal.returns-clause-turns
returns-clause-turns c = λ code h p l. let s = step_laws code (sound_parts code h) true p l in (s.back, s.forth)

pub returns-clause-nexts : goal.returns-clause-nexts
returns-clause-nexts c = λ code h p l. let s = step_laws code (sound_parts code h) false p l in (s.back, s.forth)

pub returns-clause-steps : goal.returns-clause-steps
returns-clause-steps c = λ code h kind p l. step_laws code (sound_parts code h) kind p l
