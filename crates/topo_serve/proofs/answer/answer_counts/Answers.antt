use Rattle.pemb_file.specs.Served.{contents_of_view}
use Rattle.file_laws.proofs.FiveCounts.{counts_of_map}
use Rattle.navigate.specs.Bound.{served_map}
use Rattle.topo_serve.proofs.Answering.{same_bytes}
use Rattle.topo_serve.proofs.FiveItems.{listed_counts}
use Rattle.topo_serve.proofs.answer.answer_counts.Goals as goal

pub returns : goal.returns
returns g c =
    let contents = contents_of_view c.args.served.now in
    same_bytes _ _ _ _ _ (listed_counts contents c.counts-counts.result (served_map c.args.served.now) c.counts-counts.ensures (counts_of_map contents c.args.served.now.whole)) c.list_numbers.ensures
