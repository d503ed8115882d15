use Rattle.std.specs.Prelude.{pos, neg_ℤ}
use Rattle.std.proofs.Common.{◌≡◌, ◌+◌, length, arith}
use Rattle.bit_words.proofs.DigitLaws.{digits-mono}
use Rattle.std.proofs.lemmas.Int.{ints}
use Rattle.file_laws.specs.MapOfFile.{signed_at}
use Rattle.pemb_file.specs.PlacedView.{contents_of_placed}
use Rattle.pemb_file.proofs.PlaceSteps.{signed-as, signed-other}
use Rattle.pemb_file.proofs.places.Placed.signed_at.Goals as goal

pub returns-then-is_first-bit-clause-value : goal.returns-then-is_first-bit-clause-value
returns-then-is_first-bit-clause-value g c =
    let k = contents_of_placed c.args.self.now in
    let e : signed_at k c.args.p ≡ pos c.id_of-id.result = signed-as k c.args.p c.edge_and_side-edge.result.0 c.id_of-id.result c.edge_and_side-edge.result.1 c.bit.result c.edge_and_side-edge.ensures.edge c.id_of-id.ensures.id c.edge_and_side-edge.ensures.first c.bit.ensures.bit c.if-is_first-bit.true in
    let few = (c.count-count.ensures.names.in_range c.edge_and_side-edge.result.0 (omega (arith, c.args.self.now.fits.edges, c.edge_and_side-edge.ensures.within))).1 in
    omega (arith, ints, e, few, c.count-count.ensures.narrow, c.id_of-id.ensures.id)

pub returns-else-is_first-bit-clause-value : goal.returns-else-is_first-bit-clause-value
returns-else-is_first-bit-clause-value g c =
    let k = contents_of_placed c.args.self.now in
    let e : signed_at k c.args.p ≡ neg_ℤ (pos c.id_of-id.result) = signed-other k c.args.p c.edge_and_side-edge.result.0 c.id_of-id.result c.edge_and_side-edge.result.1 c.bit.result c.edge_and_side-edge.ensures.edge c.id_of-id.ensures.id c.edge_and_side-edge.ensures.first c.bit.ensures.bit c.if-is_first-bit.false in
    let few = (c.count-count.ensures.names.in_range c.edge_and_side-edge.result.0 (omega (arith, c.args.self.now.fits.edges, c.edge_and_side-edge.ensures.within))).1 in
    omega (arith, ints, e, few, c.count-count.ensures.narrow, c.id_of-id.ensures.id)

pub returns-then-is_first-bit-clause-cost : goal.returns-then-is_first-bit-clause-cost
returns-then-is_first-bit-clause-cost g c =
    let k = contents_of_placed c.args.self.now in
    let d = digits-mono (length k.edges + 2) (length k.code.a + 2) (omega (arith, c.args.self.now.fits.positions)) in
    omega (arith, d, c.id_of-id.ensures.cost)

pub returns-else-is_first-bit-clause-cost : goal.returns-else-is_first-bit-clause-cost
returns-else-is_first-bit-clause-cost g c =
    let k = contents_of_placed c.args.self.now in
    let d = digits-mono (length k.edges + 2) (length k.code.a + 2) (omega (arith, c.args.self.now.fits.positions)) in
    omega (arith, d, c.id_of-id.ensures.cost)
