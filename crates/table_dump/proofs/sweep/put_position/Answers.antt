use Rattle.std.specs.Prelude.{slice_index}
use Rattle.std.proofs.Math.Facts.{to_z-of_z}
use Rattle.std.proofs.Common.{w64, SFits, rules, ℕ, List, length, arith, ap, ◌∙◌}
use Rattle.scratch_region.specs.Numbers.{numbers_of}
use Rattle.file_laws.specs.MapOfFile.{node_at}
use Rattle.file_laws.proofs.Bridge.{e_in}
use Rattle.pemb_file.specs.Served.{contents_of_view}
use Rattle.navigate.proofs.Facts.{w, edge_is, few_edges, forward_many, id_ok}
use Rattle.table_dump.specs.Ends.{with_sides}
use Rattle.table_dump.specs.Sweep.{end_of}
use Rattle.table_dump.proofs.Reading.{node_listed, node_read}
use Rattle.table_dump.proofs.Sweeping.{end_there, followed_there, forward_there}
use Rattle.table_dump.proofs.sweep.put_position.Goals as goal

pub rank_of-place-requires : goal.rank_of-place-requires
rank_of-place-requires g c =
    let m = contents_of_view c.args.served in
    let at = c.requires.passed in
    let low = e_in m (w m c.args.served.whole).seen at.position at.within in
    let many = ap (λ (xs : List ℕ). length xs) c.requires.edges in
    omega (arith, low, many, at.numbers.edge)

pub forward-requires : goal.forward-requires
forward-requires g c =
    let m = contents_of_view c.args.served in
    let at = c.requires.passed in
    let low = e_in m (w m c.args.served.whole).seen at.position at.within in
    let many = forward_many m c.args.served.whole in
    omega (arith, low, many, at.numbers.edge)

pub node-node-requires : goal.node-node-requires
node-node-requires g c =
    let m = contents_of_view c.args.served in
    let at = c.requires.passed in
    node_listed m (w m c.args.served.whole) (numbers_of c.args.ids.now.nodes) at.position c.args.passed.node c.requires.ids.nodes at.within at.numbers.node

pub edge-requires : goal.edge-requires
edge-requires g c =
    let m = contents_of_view c.args.served in
    let at = c.requires.passed in
    let low = e_in m (w m c.args.served.whole).seen at.position at.within in
    let many = ap (λ (xs : List ℕ). length xs) c.requires.ids.edges in
    omega (arith, low, many, at.numbers.edge)

pub end_at-requires : goal.end_at-requires
end_at-requires g c =
    let m = contents_of_view c.args.served in
    let few = few_edges m c.args.served.whole in
    let many = ap (λ (xs : List ℕ). length xs) c.requires.edges in
    omega (arith, few, many, c.rank_of-place.ensures.within)

pub number_with-requires : goal.number_with-requires
number_with-requires g c =
    let m = contents_of_view c.args.served in
    let at = c.requires.passed in
    let edge = c.args.passed.edge in
    let low = e_in m (w m c.args.served.whole).seen at.position at.within in
    id_ok m c.args.served.whole edge c.edge.result (omega (arith, low, at.numbers.edge)) (c.edge.ensures ∙ ap (λ (xs : List ℕ). slice_index xs edge) c.requires.ids.edges)

pub end_at-requires-2 : goal.end_at-requires-2
end_at-requires-2 g c =
    let m = contents_of_view c.args.served in
    let few = few_edges m c.args.served.whole in
    let many = ap (λ (xs : List ℕ). length xs) c.requires.edges in
    omega (arith, few, many, c.rank_of-place.ensures.within)

pub returns-clause-put : goal.returns-clause-put
returns-clause-put g c = λ p l numbers.
    let m = contents_of_view c.args.served in
    let parts = w m c.args.served.whole in
    let edges = c.args.edges.now in
    let edge = c.args.passed.edge in
    let side = forward_there m parts edges c.requires.edges p edge c.args.passed.first c.forward.result numbers.edge numbers.first c.forward.ensures.forward in
    let id = c.edge.ensures ∙ ap (λ (xs : List ℕ). slice_index xs edge) c.requires.ids.edges in
    let end = c.end_at.ensures.end ∙ end_there m parts edges c.requires.edges p edge c.rank_of-place.result _ numbers.edge c.rank_of-place.ensures.place side in
    let node = node_read m parts (numbers_of c.args.ids.now.nodes) p c.args.passed.node c.node-node.result c.requires.ids.nodes l numbers.node c.node-node.ensures in
    let face = c.face_beside-face.ensures.face p numbers in
    let before = numbers_of c.args.ends.now in
    let f : SFits w64 c.number_with.result = search rules in
    record {
      ends =
          c.put_sides.ensures
          ∙ ap (λ x. with_sides before x c.node-node.result c.face_beside-face.result) end
          ∙ ap (λ x. with_sides before (end_of m edges p) x c.face_beside-face.result) node
          ∙ ap (λ x. with_sides before (end_of m edges p) (node_at m p) x) face;
      component = numbers.component;
      first = to_z-of_z f ∙ edge_is m p edge c.edge.result c.args.passed.first c.forward.result c.number_with.result numbers.edge id numbers.first c.forward.ensures.forward c.number_with.ensures;
      end = c.end_at-2.ensures.end ∙ followed_there m parts edges c.requires.edges p edge c.rank_of-place.result _ c.args.passed.tree l numbers.edge c.rank_of-place.ensures.place side numbers.tree;
    }
