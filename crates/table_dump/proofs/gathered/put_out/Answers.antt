use Rattle.std.proofs.Common.{◌≡◌, rules}
use Rattle.table_dump.proofs.Putting.{put_all}
use Rattle.table_dump.proofs.gathered.put_out.Goals as goal

pub returns-clause-writes : goal.returns-clause-writes
returns-clause-writes g c =
    let same : c.as_slice.result.now ≡ c.args.text.now.items = search rules in
    put_all _ _ _ _ _ _ _ c.as_slice.result.now c.args.text.now.items _ same (search rules) c.in_ok-append.ensures.appended c.in_ok-append.ensures.others c.in_ok-append.ensures.held c.in_ok-append.ensures.counted
