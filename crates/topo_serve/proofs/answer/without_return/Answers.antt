use Rattle.std.proofs.Common.{ap, ◌∙◌}
use Rattle.query_text.proofs.Returns.{stripped}
use Rattle.topo_serve.proofs.answer.without_return.Goals as goal

pub returns : goal.returns
returns c = ap (λ b. b.now) c.unwrap_or.ensures ∙ stripped c.args.line c.strip_suffix.result c.strip_suffix.ensures.cases
