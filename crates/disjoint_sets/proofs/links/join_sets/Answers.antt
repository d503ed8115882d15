use Rattle.std.proofs.Common.{◌∙◌, ap, get_or}
use Rattle.disjoint_sets.specs.Links.{leasts}
use Rattle.disjoint_sets.proofs.Leading.{joined_links}
use Rattle.disjoint_sets.proofs.links.join_sets.Goals as goal

pub returns-clause-joined : goal.returns-clause-joined
returns-clause-joined c =
    let kept = c.least-least_b.ensures.kept ∙ c.least-least_a.ensures.kept in
    let least_b = c.least-least_b.ensures.least ∙ ap (λ xs. get_or xs c.args.b 0) c.least-least_a.ensures.kept in
    ap leasts c.link.ensures
    ∙ joined_links c.args.links.now c.least-least_b.new.links c.least-least_b.ensures.links kept c.args.a c.args.b c.least-least_a.result c.least-least_b.result c.requires.a c.requires.b
    c.least-least_a.ensures.least least_b
