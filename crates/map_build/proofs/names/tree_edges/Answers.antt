use Rattle.std.specs.Prelude.{filter}
use Rattle.std.proofs.Common.{◌/◌, true, length, ap, sym, ◌∙◌}
use Rattle.code_laws.proofs.Walked.{length-picked}
use Rattle.turan_code.proofs.Picked.{kind_ranked}
use Rattle.map_build.proofs.names.tree_edges.Goals as goal

pub returns : goal.returns
returns c =
    let tour = c.args.tour.now in
    ap (λ n. n / 2) (c.ones.ensures ∙ ap (λ bits. length (filter (λ bit. bit) bits)) c.deref.ensures.value ∙ kind_ranked true tour.tree.items ∙ sym (length-picked true tour.tree.items tour.first.items c.requires))
