use Rattle.std.specs.Prelude.{nat_lt}
use Rattle.std.proofs.Common.{ap, ◌∙◌}
use Rattle.turan_code.specs.TuranView.{code_of_view}
use Rattle.file_parts.proofs.TreeFirst.{kind_by_number}
use Rattle.file_parts.proofs.walk.is_tree_edge.Goals as goal

pub returns-clause-kind : goal.returns-clause-kind
returns-clause-kind g c =
    ap (λ e. nat_lt e c.args.tree_edges) c.edge_of.ensures.edge
    ∙ kind_by_number (code_of_view c.args.code) c.args.code.sound c.args.tree_edges c.args.p c.requires.count c.requires.within
