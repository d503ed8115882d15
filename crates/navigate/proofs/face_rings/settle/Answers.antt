use Rattle.std.proofs.Common.{arith, sym, ◌∙◌, false}
use Rattle.pemb_file.specs.Served.{contents_of_view}
use Rattle.navigate.specs.OrbitWalk.{positions_left}
use Rattle.navigate.proofs.FaceLaws.{orbit-some, hole_next}
use Rattle.navigate.proofs.face_rings.settle.Goals as goal

pub returns-clause-positions : goal.returns-clause-positions
returns-clause-positions g c =
    hole_next (contents_of_view c.args.served) (positions_left c.args.ring.now) (positions_left c.from.result) c.args.hole.now c.args.end c.start_at-start.result.0 c.in_default.ensures.next (omega (arith, c.if-hole-end.false)) c.requires.ends
    c.start_at-start.ensures.start c.from.ensures.positions

pub returns-clause-ready : goal.returns-clause-ready
returns-clause-ready g c = λ e. absurd (orbit-some (contents_of_view c.args.served).code false c.start_at-start.result.0 c.start_at-start.ensures.within (sym c.from.ensures.positions ∙ e))
