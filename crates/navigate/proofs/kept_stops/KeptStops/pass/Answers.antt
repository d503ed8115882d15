use Rattle.std.proofs.Common.{false, arith}
use Rattle.navigate.proofs.kept_stops.KeptStops.pass.Goals as goal

pub returns-clause-kept : goal.returns-clause-kept
returns-clause-kept c names contents kind are = are

pub returns-clause-stop : goal.returns-clause-stop
returns-clause-stop c names contents kind are = are c.args.self.now.turn (record { at = 0; over = 0; edge = record { rank = 0; is_forward = false } }) (omega (arith, c.if-self.false))
