use Rattle.std.proofs.Common.{sym, subst}
use Rattle.pemb_file.specs.Milestones.{AreMilestones, IsAround, place_at}
use Rattle.pemb_file.specs.Served.{contents_of_view}
use Rattle.pemb_file.proofs.served.Served.components_around.Goals as goal

pub returns : goal.returns
returns c =
    let v = c.args.self.now in
    let at = place_at (contents_of_view v) in
    let marked = subst (λ n. AreMilestones at n v.file.now.component_milestones) (sym c.count-count.ensures) v.file.now.components_marked in
    subst (λ n. IsAround at n c.args.place c.around.result.0 c.around.result.1) c.count-count.ensures (c.around.ensures at marked)
