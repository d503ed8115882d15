use Rattle.std.proofs.Common.{rules}
use Rattle.std.proofs.lemmas.Bool.{ne_eqb}
use Rattle.code_laws.specs.Code.{component_of}
use Rattle.pemb_file.specs.PlacedView.{contents_of_placed}
use Rattle.pemb_file.proofs.OuterRings.{outer-there, none-outer}
use Rattle.pemb_file.proofs.places.Placed.is_smaller.Goals as goal

pub returns-then-gap-eq0-clause-smaller : goal.returns-then-gap-eq0-clause-smaller
returns-then-gap-eq0-clause-smaller g c =
    let k = contents_of_placed c.args.self.now in
    let outer = outer-there k.code c.args.self.now.code.sound c.args.p c.requires.within c.args.gap c.requires.gap c.if-gap-eq0.true in
    rw outer (search rules)

pub returns-else-gap-eq0-clause-smaller : goal.returns-else-gap-eq0-clause-smaller
returns-else-gap-eq0-clause-smaller g c =
    let k = contents_of_placed c.args.self.now in
    let none = none-outer k.code c.args.self.now.code.sound c.args.p c.requires.within c.args.gap c.requires.gap c.if-gap-eq0.false (component_of k.code c.args.p) in
    rw none (ne_eqb c.args.gap.depth 0 c.if-gap-eq0.false)
