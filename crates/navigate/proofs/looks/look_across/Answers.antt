use Rattle.std.proofs.Common.{arith, ap, ◌∙◌}
use Rattle.code_laws.specs.Code.{Code, is_first, mate}
use Rattle.code_laws.specs.Numbers.{edge_of, ring_of}
use Rattle.code_laws.proofs.Mates.{mate_laws}
use Rattle.turan_code.specs.TuranView.{code_of_view}
use Rattle.file_laws.specs.MapOfFile.{place_of_ring}
use Rattle.pemb_file.specs.Served.{contents_of_view}
use Rattle.navigate.specs.Beside.{place_across}
use Rattle.navigate.proofs.Facts.{digits_view, edge_in, sound_code}
use Rattle.navigate.proofs.looks.look_across.Goals as goal

pub ranked_with-edge-requires-clause-number : goal.ranked_with-edge-requires-clause-number
ranked_with-edge-requires-clause-number g c =
    edge_in (contents_of_view c.args.served) c.args.served.whole (code_of_view c.code.result.now) c.ring_stop-stop.result.edge c.code.ensures.code c.ring_stop-stop.ensures.edge_within

pub place_of_ring-requires : goal.place_of_ring-requires
place_of_ring-requires g c =
    let m = contents_of_view c.args.served in
    let laws = mate_laws m.code (sound_code m c.args.served.whole) c.args.p c.requires.within in
    (mate m.code c.args.p, laws.within, c.ring_stop-stop.ensures.across ∙ ap (λ (k : Code). ring_of k (mate k c.args.p)) c.code.ensures.code)

pub returns-clause-edge : goal.returns-clause-edge
returns-clause-edge g c =
    let same = c.code.ensures.code in
    let p = c.args.p in
    c.ranked_with-edge.ensures.edge p (c.ring_stop-stop.ensures.edge ∙ ap (λ (x : Code). edge_of x p) same) (c.ring_stop-stop.ensures.first ∙ ap (λ (x : Code). is_first x p) same)

pub returns-clause-across : goal.returns-clause-across
unfolding place_across
returns-clause-across g c =
    let m = contents_of_view c.args.served in
    c.place_of_ring.ensures.place ∙ ap (place_of_ring m) (c.ring_stop-stop.ensures.across ∙ ap (λ (k : Code). ring_of k (mate k c.args.p)) c.code.ensures.code)

pub returns-clause-cost : goal.returns-clause-cost
returns-clause-cost g c =
    let w = c.args.served in
    let d = digits_view (contents_of_view w) w.whole (code_of_view c.code.result.now) c.code.ensures.code in
    omega (arith, d, c.ring_stop-stop.ensures.cost, c.ranked_with-edge.ensures.cost, c.place_of_ring.ensures.cost)
