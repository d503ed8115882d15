use Rattle.std.proofs.Common.{arith}
use Rattle.pemb_file.specs.Served.{contents_of_view}
use Rattle.file_parts.proofs.Taken.{taken_more}
use Rattle.file_parts.proofs.places.component_places.Goals as goal

pub loop-component-preserved : goal.loop-component-preserved
loop-component-preserved g c =
    let all = contents_of_view c.args.served in
    record {
      places = taken_more all.places c.loop-component.component 0 c.loop-component.places.items _ c.place-place.result (omega (arith, c.loop-component-test.true, c.counts-components.ensures.components)) c.loop-component.invariant.places c.in_ok-push.ensures.items c.place-place.ensures.place;
      grows = omega (arith, c.loop-component.invariant.grows, c.place-place.ensures.one_step);
    }
