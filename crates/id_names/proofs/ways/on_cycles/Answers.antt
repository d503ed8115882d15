use Rattle.std.proofs.Common.{arith}
use Rattle.bit_words.specs.PackedView.{fields_of}
use Rattle.rank_select.specs.RankView.{counted}
use Rattle.id_names.specs.Ways.{IsOnCycle}
use Rattle.id_names.proofs.Many.{none_yet}
use Rattle.id_names.proofs.OnWays.{cycles_more}
use Rattle.id_names.proofs.ways.on_cycles.Goals as goal

pub loop-least-init : goal.loop-least-init
loop-least-init g c =
    let v = c.args.inverse in
    record {
      many = none_yet (IsOnCycle (fields_of v.places) (counted v.marks) (fields_of v.back) 0);
      few = omega arith;
      grows = omega arith;
      steps = omega arith;
    }

pub loop-least-preserved : goal.loop-least-preserved
loop-least-preserved g c =
    let v = c.args.inverse in
    let i = c.loop-least.invariant in
    let more = c.in_ok-count.ensures in
    record {
      many = cycles_more (fields_of v.places) (counted v.marks) (fields_of v.back) c.loop-least.least c.loop-least.count c.in_ok-count.field-0 i.many more.cycle;
      few = omega (arith, i.few, more.few);
      grows = omega (arith, i.grows, more.grows);
      steps = omega (arith, i.steps, more.cost);
    }
