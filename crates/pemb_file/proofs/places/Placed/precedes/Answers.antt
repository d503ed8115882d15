use Rattle.std.proofs.Math.Facts.{to_z-of_z}
use Rattle.std.proofs.Common.{w64, SFits, to_z, of_z, rules, arith, sym, ap, ◌∙◌}
use Rattle.turan_code.specs.TuranView.{code_of_view}
use Rattle.code_laws.specs.Code.{start_of}
use Rattle.topo_base.specs.SignedEdge.{comes_before}
use Rattle.file_laws.specs.MapOfFile.{signed_at}
use Rattle.pemb_file.specs.PlacedView.{contents_of_placed}
use Rattle.pemb_file.proofs.PlaceSteps.{start-below, precedes-same}
use Rattle.pemb_file.proofs.places.Placed.precedes.Goals as goal

pub signed_at-requires : goal.signed_at-requires
signed_at-requires g c =
    let b = start-below (code_of_view c.args.self.now.code) c.args.self.now.code.sound c.args.i (omega (arith, c.args.self.now.fits.places, c.requires.first)) in
    omega (arith, b, c.start-start.ensures.start)

pub signed_at-requires-2 : goal.signed_at-requires-2
signed_at-requires-2 g c =
    let b = start-below (code_of_view c.args.self.now.code) c.args.self.now.code.sound c.args.j (omega (arith, c.args.self.now.fits.places, c.requires.second)) in
    omega (arith, b, c.start-next.ensures.start)

pub returns-clause-precedes : goal.returns-clause-precedes
returns-clause-precedes g c =
    let k = contents_of_placed c.args.self.now in
    let a = c.signed_at.ensures.value ∙ ap (signed_at k) c.start-start.ensures.start in
    let b = c.signed_at-2.ensures.value ∙ ap (signed_at k) c.start-next.ensures.start in
    let f : SFits w64 c.signed_at.result = search rules in
    let h : SFits w64 c.signed_at-2.result = search rules in
    c.comes_before.ensures ∙ ap (λ d. comes_before d (to_z w64 (of_z w64 c.signed_at-2.result))) (to_z-of_z f ∙ a) ∙ ap (comes_before (signed_at k (start_of k.code c.args.i))) (to_z-of_z h ∙ b)
    ∙ sym (precedes-same k c.args.i c.args.j c.field-p.result c.field-q.result c.field-p.ensures.field c.field-q.ensures.field c.if-p-q.false)
