use Rattle.std.proofs.Common.{◌≤◌, ◌+◌, ℕ, List, length, ◌∙◌, ap, sym, ◌∷◌, arith}
use Rattle.bit_words.specs.Digits.{digits}
use Rattle.code_laws.specs.Code.{step}
use Rattle.file_laws.specs.MapOfFile.{signed_at}
use Rattle.id_names.specs.Views.{ids_of}
use Rattle.pemb_file.specs.Served.{contents_of_view}
use Rattle.navigate.specs.OrbitWalk.{contents_in, edge_names, positions_left}
use Rattle.navigate.specs.Bound.{line_digits}
use Rattle.navigate.proofs.Facts.{digits_edges}
use Rattle.navigate.proofs.RankLists.{rank_id, rank_signed}
use Rattle.navigate.proofs.Walking.{walk-no}
use Rattle.navigate.proofs.orbit_walk.OrbitWalk.stop.Goals as goal

pub returns-then-self-eq0-clause-next : goal.returns-then-self-eq0-clause-next
unfolding positions_left
returns-then-self-eq0-clause-next g c = let w = c.args.self.now in walk-no w.left (step (contents_of_view w.served).code w.kind) w.first w.at c.if-self-eq0.true

pub returns-then-self-eq0-clause-within : goal.returns-then-self-eq0-clause-within
unfolding positions_left
returns-then-self-eq0-clause-within g c = let w = c.args.self.now in walk-no w.left (step (contents_of_view w.served).code w.kind) w.first w.at c.if-self-eq0.true

pub id_at-id-requires : goal.id_at-id-requires
id_at-id-requires g c = c.look-stop.ensures.edge.within

pub with_direction-requires : goal.with_direction-requires
with_direction-requires g c =
    let w = c.args.self.now in rank_id (edge_names w) c.look-stop.result.edge (signed_at (contents_in w) w.at) c.id_at-id.result c.look-stop.ensures.edge c.id_at-id.ensures.id

pub returns-clause-edge : goal.returns-clause-edge
returns-clause-edge g c =
    let w = c.args.self.now in
    rank_signed (edge_names w) c.look-stop.result.edge (signed_at (contents_in w) w.at) c.with_direction.result c.id_at-id.result c.look-stop.ensures.edge c.id_at-id.ensures.id c.with_direction.ensures

pub returns-clause-next : goal.returns-clause-next
returns-clause-next g c = let here = c.look-stop.ensures in sym here.positions ∙ c.go_on.ensures.left ∙ ap (λ p. p ∷ positions_left c.go_on.new.self) here.same.0

pub returns-clause-cost : goal.returns-clause-cost
returns-clause-cost g c =
    let w = c.args.self.now in
    let m = contents_in w in
    let few : digits (length (ids_of w.edges.now) + 2) ≤ line_digits m = let d = digits_edges m w.served.whole in let e = ap (λ (xs : List ℕ). digits (length xs + 2)) w.ids in omega (arith, d, e) in
    omega (arith, few, c.look-stop.ensures.cost, c.id_at-id.ensures.cost)
