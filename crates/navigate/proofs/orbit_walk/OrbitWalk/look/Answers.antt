use Rattle.std.proofs.Common.{refl, arith, ◌<◌, length, sym, subst}
use Rattle.code_laws.specs.Code.{Code}
use Rattle.file_laws.specs.MapOfFile.{signed_at}
use Rattle.turan_code.specs.TuranView.{code_of_view}
use Rattle.pemb_file.specs.Served.{contents_of_view}
use Rattle.navigate.specs.Ranked.{IsRankOf}
use Rattle.navigate.specs.OrbitWalk.{contents_in, edge_names, positions_left}
use Rattle.navigate.proofs.Facts.{digits_view}
use Rattle.navigate.proofs.KeptLaws.{next_kept}
use Rattle.navigate.proofs.orbit_walk.OrbitWalk.look.Goals as goal

pub invariant_of-self : goal.invariant_of-self
invariant_of-self g c = let w = c.args.self.now in record { within = w.within; ids = w.ids; right = c.in-Some.ensures.kept (edge_names w) (contents_in w) w.kind w.right }

pub after-requires : goal.after-requires
after-requires g c =
    let w = c.args.self.now in
    subst (λ (x : Code). c.in-Some.kept.over < length x.a) (sym c.code.ensures.code) (c.in-Some.ensures.stop (edge_names w) (contents_in w) w.kind w.right).over_within

pub returns-in-Some-clause-edge : goal.returns-in-Some-clause-edge
returns-in-Some-clause-edge g c =
    let w = c.args.self.now in
    subst (λ p. IsRankOf (edge_names w) c.in-Some.kept.edge (signed_at (contents_in w) p)) c.in-Some.ensures.at (c.in-Some.ensures.stop (edge_names w) (contents_in w) w.kind w.right).edge

pub returns-in-Some-clause-next : goal.returns-in-Some-clause-next
returns-in-Some-clause-next g c =
    let w = c.args.self.now in
    let is = c.in-Some.ensures.stop (edge_names w) (contents_in w) w.kind w.right in
    next_kept (edge_names w) (contents_in w) w.kind (code_of_view c.code.result.now) w.at c.after.result c.in-Some.kept c.code.ensures.code is c.in-Some.ensures.at c.after.ensures.after

pub returns-in-Some-clause-positions : goal.returns-in-Some-clause-positions
unfolding positions_left
returns-in-Some-clause-positions g c = refl

pub returns-in-Some-clause-cost : goal.returns-in-Some-clause-cost
returns-in-Some-clause-cost g c =
    let w = c.args.self.now.served in
    let d = digits_view (contents_of_view w) w.whole (code_of_view c.code.result.now) c.code.ensures.code in
    omega (arith, d, c.after.ensures.cost)

pub invariant_of-self-2 : goal.invariant_of-self-2
invariant_of-self-2 g c =
    let w = c.args.self.now in
    let m = contents_in w in
    let names = edge_names w in
    record { within = w.within; ids = w.ids; right = c.keep.ensures names m w.kind (c.in_default.ensures.kept names m w.kind w.right) c.look_at-stop.ensures.seen }

pub returns-clause-positions : goal.returns-clause-positions
unfolding positions_left
returns-clause-positions g c = refl
