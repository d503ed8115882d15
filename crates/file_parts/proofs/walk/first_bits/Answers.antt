use Rattle.std.proofs.Common.{arith}
use Rattle.turan_code.specs.TuranView.{code_of_view}
use Rattle.code_laws.specs.Code.{is_first}
use Rattle.file_parts.proofs.Taken.{mapped_more}
use Rattle.file_parts.proofs.walk.first_bits.Goals as goal

pub loop-p-preserved : goal.loop-p-preserved
loop-p-preserved g c =
    record {
      first = mapped_more (is_first (code_of_view c.args.code)) c.loop-p.p c.loop-p.first.items _ c.is_first-is_first.result c.loop-p.invariant.first c.in_ok-push.ensures.items c.is_first-is_first.ensures.first;
      grows = omega (arith, c.loop-p.invariant.grows, c.is_first-is_first.ensures.some_steps);
    }
