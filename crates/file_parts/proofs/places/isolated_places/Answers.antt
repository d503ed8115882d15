use Rattle.std.proofs.Common.{arith}
use Rattle.pemb_file.specs.Served.{contents_of_view}
use Rattle.file_parts.proofs.Taken.{taken_more}
use Rattle.file_parts.proofs.places.isolated_places.Goals as goal

pub loop-j-preserved : goal.loop-j-preserved
loop-j-preserved g c =
    let all = contents_of_view c.args.served in
    record {
      places = taken_more all.isolated c.loop-j.j 0 c.loop-j.places.items _ c.isolated-place.result (omega (arith, c.loop-j-test.true, c.counts-isolated.ensures.isolated)) c.loop-j.invariant.places c.in_ok-push.ensures.items c.isolated-place.ensures.place;
      grows = omega (arith, c.loop-j.invariant.grows, c.isolated-place.ensures.one_step);
    }
