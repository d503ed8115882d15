use Rattle.std.proofs.Common.{arith}
use Rattle.turan_code.specs.TuranView.{code_of_view}
use Rattle.file_parts.proofs.WalkBack.{starts_all}
use Rattle.file_parts.proofs.walk.starts.Goals as goal

pub returns-clause-starts : goal.returns-clause-starts
returns-clause-starts g c =
    starts_all (code_of_view c.args.code) c.args.code.sound c.loop-component.component c.loop-component.starts.items _ _
    (omega (arith, c.requires, c.loop-component-test.false, c.loop-component.auto.component-end)) c.loop-component.invariant.starts c.in_ok-push-2.ensures.items c.len.ensures.len
