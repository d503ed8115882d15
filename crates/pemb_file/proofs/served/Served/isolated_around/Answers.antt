use Rattle.std.proofs.Common.{sym, subst}
use Rattle.std.specs.Prelude.{slice_index}
use Rattle.pemb_file.specs.Milestones.{AreMilestones, IsAround}
use Rattle.pemb_file.specs.Served.{contents_of_view}
use Rattle.pemb_file.proofs.served.Served.isolated_around.Goals as goal

pub returns : goal.returns
returns c =
    let v = c.args.self.now in
    let at = slice_index (contents_of_view v).isolated in
    let marked = subst (λ n. AreMilestones at n v.file.now.isolated_milestones) (sym c.count-count.ensures) v.file.now.isolated_marked in
    subst (λ n. IsAround at n c.args.place c.around.result.0 c.around.result.1) c.count-count.ensures (c.around.ensures at marked)
