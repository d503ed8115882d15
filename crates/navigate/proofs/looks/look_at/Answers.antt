use Rattle.std.proofs.Common.{arith, ◌<◌, length, ap, ◌∙◌, subst}
use Rattle.code_laws.specs.Code.{Code, is_first, over}
use Rattle.code_laws.specs.Numbers.{edge_of}
use Rattle.turan_code.specs.TuranView.{code_of_view}
use Rattle.pemb_file.specs.Served.{contents_of_view}
use Rattle.navigate.proofs.Facts.{digits_view, edge_in}
use Rattle.navigate.proofs.looks.look_at.Goals as goal

pub ranked_with-edge-requires-clause-number : goal.ranked_with-edge-requires-clause-number
ranked_with-edge-requires-clause-number g c =
    edge_in (contents_of_view c.args.served) c.args.served.whole (code_of_view c.code.result.now) c.stop-stop.result.edge c.code.ensures.code c.stop-stop.ensures.edge_within

pub returns-clause-seen : goal.returns-clause-seen
returns-clause-seen g c =
    let same = c.code.ensures.code in
    let kind = c.args.kind in
    let p = c.args.p in
    let stop = c.stop-stop.ensures in
    record {
      over = stop.over ∙ ap (λ (x : Code). over x kind p) same;
      over_within = subst (λ (x : Code). c.stop-stop.result.over < length x.a) same stop.over_within;
      edge = c.ranked_with-edge.ensures.edge p (stop.edge ∙ ap (λ (x : Code). edge_of x p) same) (stop.first ∙ ap (λ (x : Code). is_first x p) same);
    }

pub returns-clause-cost : goal.returns-clause-cost
returns-clause-cost g c =
    let w = c.args.served in
    let d = digits_view (contents_of_view w) w.whole (code_of_view c.code.result.now) c.code.ensures.code in
    omega (arith, d, c.stop-stop.ensures.cost, c.ranked_with-edge.ensures.cost)
