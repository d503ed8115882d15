use Rattle.std.proofs.Common.{length, refl, sym, ap, arith}
use Rattle.std.proofs.lemmas.Bool.{both_ways}
use Rattle.pemb_file.specs.Served.{contents_of_view}
use Rattle.navigate.specs.Bound.{served_map}
use Rattle.face_hops.proofs.MapFacts.{as_many}
use Rattle.topo_cli.specs.Text.{has_both_faces}
use Rattle.topo_cli.proofs.HopLine.{walked_least}
use Rattle.topo_cli.proofs.hopping.hops_line.Goals as goal
use Rattle.topo_cli.proofs.hopping.hops_line.Goals.{in-Walk+in_ok-append_walk-in-Walk, in-Unknown+in_ok-extend_from_slice-in-Unknown}

pub unreachable-requires : goal.unreachable-requires
unreachable-requires g c =
    let many = as_many (contents_of_view c.args.served) c.args.served.whole in
    let words = ap length c.deref_mut.ensures.value in
    let all = c.in_ok-words.ensures.room in
    let left = c.new-room.ensures in
    let few = c.in-Short.ensures.short.0 refl in
    omega (arith, many, words, all, left, few)

pub returns-clause-least : goal.returns-clause-least
returns-clause-least g c = λ known. elim c.match-hop_walk.branch [
  | in-Walk+in_ok-append_walk-in-Walk w ↦
      let grows = c.hop_walk.ensures.grows in
      let least = w.in_ok-append_walk-in-Walk.ensures.least in
      let is = w.steps-is in
      walked_least (contents_of_view c.args.served) c.args.served.whole c.args.from.0 c.args.to.0 _ c.args.steps.now c.match-hop_walk.steps _
      (w.in-Walk.ensures.known refl) w.in-Walk.ensures.moves w.in-Walk.ensures.list (omega (arith, grows, least, is))
  | in-Unknown+in_ok-extend_from_slice-in-Unknown w ↦
      absurd (both_ways (has_both_faces (served_map c.args.served) c.args.from.0 c.args.to.0) (sym (w.in-Unknown.ensures.known refl)) known)
]
