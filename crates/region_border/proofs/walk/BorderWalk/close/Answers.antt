use Rattle.std.proofs.Common.{arith}
use Rattle.scratch_region.specs.Marks.{is_marked}
use Rattle.turan_code.specs.TuranView.{code_of_view}
use Rattle.region_border.specs.BorderWalk.{contents_in}
use Rattle.region_border.proofs.MapFacts.{as_long}
use Rattle.region_border.proofs.Closing.{given_low, all_cleared}
use Rattle.region_border.proofs.walk.BorderWalk.close.Goals as goal

pub clear_below-requires : goal.clear_below-requires
clear_below-requires g c =
    let v = c.args.self in
    let long = as_long (contents_in v) v.served.whole (code_of_view c.code.result.now) c.len-end.result c.code.ensures.code c.len-end.ensures.len in
    omega (arith, long, c.requires.room)

pub returns-clause-empty : goal.returns-clause-empty
returns-clause-empty g c =
    let v = c.args.self in
    let long = as_long (contents_in v) v.served.whole (code_of_view c.code.result.now) c.len-end.result c.code.ensures.code c.len-end.ensures.len in
    all_cleared (is_marked c.args.marks.now) (is_marked c.clear_below.new.marks) c.len-end.result (given_low v c.args.marks.now c.len-end.result long c.requires.marks) c.clear_below.ensures.cleared c.clear_below.ensures.kept
