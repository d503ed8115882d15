use Rattle.std.proofs.Common.{◌≡◌, ◌*◌, ◌<◌, ◌∙◌, sym, subst, length, arith}
use Rattle.plane_model.specs.PlaneMap.{ring, signed_edges}
use Rattle.plane_model.proofs.ComponentParts.{ring_partition}
use Rattle.rotation_check.specs.Darts.{map_of_rotation}
use Rattle.rotation_check.proofs.FirstIn.{not_some, is_its_value}
use Rattle.euler_check.specs.Marks.{FirstAreNumbered, number_at}
use Rattle.euler_check.proofs.Walking.{own_rows, there}
use Rattle.euler_check.proofs.Numbered.{numbered_none, numbered_next, numbered_skip, numbers_are}
use Rattle.euler_check.proofs.Counted.{as_many_rings}
use Rattle.euler_check.proofs.rings.number_rings.Goals as goal
use Rattle.euler_check.proofs.rings.number_rings.Goals.{then-not-has, else-not-has}

pub loop-dart-init : goal.loop-dart-init
loop-dart-init c =
    let t = c.args.rotation.now in
    let is = c.edges-darts.ensures.rotation in
    numbered_none t.edges (signed_edges (map_of_rotation t)) (ring (map_of_rotation t)) (ring_partition (own_rows t) is.rotation) (there t is) c.in_ok-numbers.numbers c.edges-darts.result c.edges-darts.ensures.edges c.in_ok-numbers.ensures

pub loop-dart-preserved : goal.loop-dart-preserved
loop-dart-preserved c =
    let t = c.args.rotation.now in
    let is = c.edges-darts.ensures.rotation in
    let lt : c.loop-dart.dart < 2 * length t.edges = (let a = c.edges-darts.ensures.edges in let b = c.loop-dart-test.true in omega arith) in
    elim c.if-not-has.branch [
      | then-not-has w ↦
          let none = not_some (number_at c.loop-dart.numbers c.loop-dart.dart) (sym c.has.ensures ∙ w.if-not-has.true) in
          rw (w.numbers-is, w.count-is)
          (numbered_next t.edges (signed_edges (map_of_rotation t)) (ring (map_of_rotation t)) (ring_partition (own_rows t) is.rotation) (there t is) c.loop-dart.dart c.loop-dart.count c.loop-dart.numbers w.mark_ring.new.numbers
          lt c.loop-dart.invariant none w.mark_ring.ensures)
      | else-not-has w ↦
          let some = is_its_value (number_at c.loop-dart.numbers c.loop-dart.dart) (sym c.has.ensures ∙ w.if-not-has.false) in
          rw (w.numbers-is, w.count-is)
          (numbered_skip t.edges (signed_edges (map_of_rotation t)) (ring (map_of_rotation t)) (ring_partition (own_rows t) is.rotation) (there t is) c.loop-dart.dart c.loop-dart.count some.0 c.loop-dart.numbers c.loop-dart.invariant some.1)
    ]

pub returns-clause-numbers : goal.returns-clause-numbers
returns-clause-numbers c =
    let t = c.args.rotation.now in
    let is = c.edges-darts.ensures.rotation in
    let all : c.loop-dart.dart ≡ 2 * length t.edges = (let a = c.edges-darts.ensures.edges in let b = c.loop-dart-test.false in let d = c.loop-dart.auto.dart-end in omega arith) in
    numbers_are t.edges (signed_edges (map_of_rotation t)) (ring (map_of_rotation t)) (ring_partition (own_rows t) is.rotation) (there t is) c.loop-dart.count c.loop-dart.numbers
    (subst (λ k. FirstAreNumbered t.edges (ring (map_of_rotation t)) k c.loop-dart.count c.loop-dart.numbers) all c.loop-dart.invariant)
    c.new.result c.new.ensures.count (c.new.ensures.of_darts ∙ c.or_zero.ensures)

pub returns-clause-count : goal.returns-clause-count
returns-clause-count c = as_many_rings c.args.rotation.now c.edges-darts.ensures.rotation c.new.result (returns-clause-numbers c)
