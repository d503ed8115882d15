use Rattle.std.proofs.Common.{arith, sym, ◌∙◌, ap, List, ℕ, length, refl}
use Rattle.std.specs.Prelude.{slice_index}
use Rattle.id_names.specs.Views.{names_in}
use Rattle.pemb_file.specs.Served.{contents_of_view}
use Rattle.navigate.proofs.Facts.{forward_many, id_ok, edge_is}
use Rattle.navigate.proofs.RankLaws.{rank_of_signed}
use Rattle.navigate.proofs.ranked.ranked_with.Goals as goal

pub forward-forward-requires : goal.forward-forward-requires
forward-forward-requires g c =
    let many = forward_many (contents_of_view c.args.served) c.args.served.whole in
    omega (arith, c.requires.number, many)

pub rank_of-requires : goal.rank_of-requires
rank_of-requires g c =
    let many = ap (λ (xs : List ℕ). length xs) c.requires.names in
    omega (arith, c.requires.number, many)

pub returns-clause-edge : goal.returns-clause-edge
returns-clause-edge g c = λ p number first.
    let m = contents_of_view c.args.served in
    let id = slice_index m.edges c.args.number in
    let many = ap (λ (xs : List ℕ). length xs) c.requires.names in
    let at = sym c.rank_of.ensures.id ∙ ap (λ (xs : List ℕ). slice_index xs c.args.number) c.requires.names in
    let is = edge_is m p c.args.number id c.args.first c.forward-forward.result _ number refl first c.forward-forward.ensures.forward refl in
    rank_of_signed (names_in c.args.edges.now) (record { rank = c.rank_of.result; is_forward = _ }) id _ (id_ok m c.args.served.whole c.args.number id c.requires.number refl) at
    (omega (arith, c.rank_of.ensures.within)) (sym is)
