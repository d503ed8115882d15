use Rattle.std.proofs.Common.{◌≡◌, ◌*◌, ◌∙◌, sym, subst, length, arith, rules}
use Rattle.rotation_check.proofs.EndLemmas.{one_node}
use Rattle.euler_check.specs.Counts.{AreLabelParts, LeavesRow}
use Rattle.euler_check.proofs.Counting.{places_next}
use Rattle.euler_check.proofs.places.components_of_nodes.Goals as goal

pub loop-dart-preserved : goal.loop-dart-preserved
loop-dart-preserved c =
    let r = c.args.rotation.now in
    places_next c.args.components.now (LeavesRow r) (length r.nodes) c.loop-dart.dart c.node.result c.number.result c.loop-dart.numbers.items c.node.ensures.within (sym c.node.ensures.node) c.number.ensures
    (λ x h has. one_node r.nodes c.nodes.ensures.rotation.nodes x c.node.result h c.node.ensures.within (sym has ∙ sym c.node.ensures.node)) c.loop-dart.invariant

pub returns : goal.returns
returns c =
    let r = c.args.rotation.now in
    let whole : c.loop-dart.dart ≡ 2 * length r.edges = (let a = c.edges-dart-end.ensures.edges in let b = c.loop-dart-test.false in let d = c.loop-dart.auto.dart-end in omega arith) in
    record {
      places = subst (λ n. AreLabelParts c.args.components.now (LeavesRow r) (length r.nodes) n c.loop-dart.numbers.items) whole c.loop-dart.invariant;
      few = search rules;
      rotation = c.edges-dart-end.ensures.rotation;
    }
