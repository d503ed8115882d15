use Rattle.scratch_region.specs.Numbers.{numbers_of}
use Rattle.pemb_file.specs.Served.{contents_of_view}
use Rattle.face_hops.proofs.MapFacts.{beside-sym}
use Rattle.face_hops.proofs.Searching.{begun}
use Rattle.face_hops.proofs.breadth.Search.begin.Goals as goal

pub returns-clause-searching : goal.returns-clause-searching
returns-clause-searching c =
    let m = contents_of_view c.args.served in
    let all = begun m c.args.from (beside-sym m c.args.served.whole) (numbers_of c.args.numbers) (numbers_of c.args.queue) _ _ c.requires.from c.requires.numbers c.requires.queue c.set.ensures c.set-2.ensures in
    record { numbers_long = all.1; queue_long = all.2; from_in = c.requires.from; search = all.0 }
