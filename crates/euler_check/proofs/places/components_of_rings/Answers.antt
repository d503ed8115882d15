use Rattle.std.proofs.Common.{◌≡◌, ◌*◌, ◌<◌, ◌∙◌, sym, subst, length, arith, rules}
use Rattle.euler_check.specs.Counts.{AreLabelParts, HasNumber}
use Rattle.euler_check.proofs.Counting.{places_next}
use Rattle.euler_check.proofs.places.components_of_rings.Goals as goal

pub loop-dart-preserved : goal.loop-dart-preserved
loop-dart-preserved c =
    let rings = c.args.rings.now in
    let lt : c.loop-dart.dart < 2 * length c.args.rotation.now.edges = (let a = c.edges-dart-end.ensures.edges in let b = c.loop-dart-test.true in omega arith) in
    places_next c.args.components.now (HasNumber rings) rings.count c.loop-dart.dart c.number-in-loop-dart.result c.number.result c.loop-dart.numbers.items
    (let below = c.requires.rings.below c.loop-dart.dart lt in let is = c.number-in-loop-dart.ensures in omega arith)
    (sym c.number-in-loop-dart.ensures) c.number.ensures (λ x h has. sym has ∙ sym c.number-in-loop-dart.ensures) c.loop-dart.invariant

pub returns : goal.returns
returns c =
    let rings = c.args.rings.now in
    let whole : c.loop-dart.dart ≡ 2 * length c.args.rotation.now.edges = (let a = c.edges-dart-end.ensures.edges in let b = c.loop-dart-test.false in let d = c.loop-dart.auto.dart-end in omega arith) in
    record {
      places = subst (λ n. AreLabelParts c.args.components.now (HasNumber rings) rings.count n c.loop-dart.numbers.items) whole c.loop-dart.invariant;
      few = search rules;
      rotation = c.edges-dart-end.ensures.rotation;
    }
