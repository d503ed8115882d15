use Rattle.std.proofs.Common.{arith, sym, subst, ◌≡◌, true, ℕ}
use Rattle.plane_model.specs.Rotation.{is_face}
use Rattle.pemb_file.specs.Served.{contents_of_view}
use Rattle.topo_base.specs.SignedEdge.{reverse}
use Rattle.navigate.specs.Bound.{map_with}
use Rattle.navigate.proofs.Facts.{words_line}
use Rattle.region_border.proofs.MapFacts.{known_face, known_reverse}
use Rattle.region_border.proofs.looking.is_border.Goals as goal

pub is_inside-requires-clause-face : goal.is_inside-requires-clause-face
is_inside-requires-clause-face g c =
    let k = contents_of_view c.args.served in
    subst (λ (f : ℕ). is_face (map_with k) f ≡ true) (sym c.in-Some.ensures.sides.0) (known_face k c.args.served.whole c.args.edge c.requires.edge)

pub is_inside-requires-2-clause-face : goal.is_inside-requires-2-clause-face
is_inside-requires-2-clause-face g c =
    let k = contents_of_view c.args.served in
    subst (λ (f : ℕ). is_face (map_with k) f ≡ true) (sym c.in-Some.ensures.sides.1) (known_face k c.args.served.whole (reverse c.args.edge) (known_reverse k c.args.served.whole c.args.edge c.requires.edge))

pub returns-then-not-is_inside-clause-cost : goal.returns-then-not-is_inside-clause-cost
returns-then-not-is_inside-clause-cost g c =
    let words = words_line (contents_of_view c.args.served) c.args.served.whole 0 2 in
    omega (arith, words, c.in-Some.ensures.paid, c.is_inside.ensures.cost)

pub returns-clause-cost : goal.returns-clause-cost
returns-clause-cost g c =
    let words = words_line (contents_of_view c.args.served) c.args.served.whole 0 2 in
    omega (arith, words, c.in-Some.ensures.paid, c.is_inside.ensures.cost, c.is_inside-2.ensures.cost)
