use Rattle.std.proofs.Common.{arith, ap, ◌∙◌}
use Rattle.turan_code.specs.TuranView.{code_of_view}
use Rattle.code_laws.specs.Code.{Code, is_first}
use Rattle.code_laws.specs.Numbers.{edge_of}
use Rattle.pemb_file.specs.Served.{contents_of_view}
use Rattle.navigate.proofs.Facts.{digits_view, edge_in}
use Rattle.navigate.proofs.positions.edge_at.Goals as goal

pub edge_with-requires : goal.edge_with-requires
edge_with-requires g c = edge_in (contents_of_view c.args.served) c.args.served.whole (code_of_view c.code-code.result.now) c.edge_and_side-number.result.0 c.code-code.ensures.code c.edge_and_side-number.ensures.within

pub returns-clause-edge : goal.returns-clause-edge
returns-clause-edge g c =
    c.edge_with.ensures.edge c.args.p
    (c.edge_and_side-number.ensures.edge ∙ ap (λ (k : Code). edge_of k c.args.p) c.code-code.ensures.code)
    (c.edge_and_side-number.ensures.first ∙ ap (λ (k : Code). is_first k c.args.p) c.code-code.ensures.code)

pub returns-clause-cost : goal.returns-clause-cost
returns-clause-cost g c =
    let d = digits_view (contents_of_view c.args.served) c.args.served.whole (code_of_view c.code-code.result.now) c.code-code.ensures.code in
    omega (arith, d, c.edge_and_side-number.ensures.cost, c.edge_with.ensures.cost)
