use Rattle.std.proofs.Common.{arith}
use Rattle.navigate.proofs.KeptLaws.{one_more}
use Rattle.navigate.proofs.kept_stops.KeptStops.keep.Goals as goal

pub returns-then-self-lt-KEPT : goal.returns-then-self-lt-KEPT
returns-then-self-lt-KEPT c names contents kind are is =
    let now = c.args.self.now in one_more names contents kind now.stops now.count c.in-Some.kept (omega (arith, c.fits-self, c.if-self-lt-KEPT.true)) are (c.in-Some.ensures names contents kind is)
