use Rattle.std.proofs.Common.{arith, ap, ◌∙◌}
use Rattle.turan_code.specs.TuranView.{code_of_view}
use Rattle.code_laws.specs.Code.{Code, mate}
use Rattle.code_laws.specs.Numbers.{ring_of}
use Rattle.code_laws.proofs.Mates.{mate_laws}
use Rattle.file_laws.specs.MapOfFile.{place_of_ring}
use Rattle.pemb_file.specs.Served.{contents_of_view}
use Rattle.navigate.specs.Beside.{place_across}
use Rattle.navigate.proofs.Facts.{digits_view, sound_code}
use Rattle.navigate.proofs.positions.place_across.Goals as goal

pub place_of_ring-requires : goal.place_of_ring-requires
place_of_ring-requires g c =
    let m = contents_of_view c.args.served in
    let laws = mate_laws m.code (sound_code m c.args.served.whole) c.args.p c.requires in
    (mate m.code c.args.p, laws.within, c.ring_across-ring.ensures.ring ∙ ap (λ (k : Code). ring_of k (mate k c.args.p)) c.code.ensures.code)

pub returns-clause-place : goal.returns-clause-place
unfolding place_across
returns-clause-place g c =
    let m = contents_of_view c.args.served in
    c.place_of_ring.ensures.place ∙ ap (place_of_ring m) (c.ring_across-ring.ensures.ring ∙ ap (λ (k : Code). ring_of k (mate k c.args.p)) c.code.ensures.code)

pub returns-clause-cost : goal.returns-clause-cost
returns-clause-cost g c =
    let d = digits_view (contents_of_view c.args.served) c.args.served.whole (code_of_view c.code.result.now) c.code.ensures.code in
    omega (arith, d, c.ring_across-ring.ensures.cost, c.place_of_ring.ensures.cost)
