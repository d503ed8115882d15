use Rattle.std.proofs.Common.{arith, sym, subst, ◌≡◌, true, ℤ}
use Rattle.plane_model.specs.Answers.{has_signed_edge}
use Rattle.pemb_file.specs.Served.{contents_of_view}
use Rattle.navigate.specs.Bound.{map_with}
use Rattle.navigate.proofs.Facts.{words_line}
use Rattle.region_border.proofs.MapFacts.{known_next}
use Rattle.region_border.proofs.looking.next_after.Goals as goal

pub returns-clause-known : goal.returns-clause-known
returns-clause-known g c =
    let k = contents_of_view c.args.served in
    subst (λ (d : ℤ). has_signed_edge (map_with k) d ≡ true) (sym c.in-Some.ensures.next) (known_next k c.args.served.whole c.args.edge c.requires)

pub returns-clause-cost : goal.returns-clause-cost
returns-clause-cost g c =
    let words = words_line (contents_of_view c.args.served) c.args.served.whole 0 1 in
    omega (arith, words, c.in-Some.ensures.paid)
