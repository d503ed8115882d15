use Rattle.std.proofs.Common.{◌+◌, sym, ap}
use Rattle.turan_code.specs.Numbering.{code_of_walk}
use Rattle.turan_code.proofs.Numbered.{begins, goes_on}
use Rattle.turan_code.proofs.numbering.Walk.begun_with.Goals as goal

pub returns-then-self-begun-clause-begun : goal.returns-then-self-begun-clause-begun
returns-then-self-begun-clause-begun c =
    (begins (code_of_walk c.args.self) c.requires.walk.sound c.args.p c.args.begun c.requires.within c.requires.begun c.if-self-begun.true).0

pub returns-then-self-begun-clause-component : goal.returns-then-self-begun-clause-component
returns-then-self-begun-clause-component c =
    ap (λ n. n + 1) (sym (begins (code_of_walk c.args.self) c.requires.walk.sound c.args.p c.args.begun c.requires.within c.requires.begun c.if-self-begun.true).1)

pub returns-else-self-begun-clause-begun : goal.returns-else-self-begun-clause-begun
returns-else-self-begun-clause-begun c =
    (goes_on (code_of_walk c.args.self) c.requires.walk.sound c.args.p c.args.begun c.requires.within c.requires.begun c.if-self-begun.false).0

pub returns-else-self-begun-clause-component : goal.returns-else-self-begun-clause-component
returns-else-self-begun-clause-component c =
    sym (goes_on (code_of_walk c.args.self) c.requires.walk.sound c.args.p c.args.begun c.requires.within c.requires.begun c.if-self-begun.false).1
