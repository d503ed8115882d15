use Rattle.std.proofs.Common.{◌<◌, ℕ, length, List, arith, subst, sym, ◌∙◌}
use Rattle.std.specs.Prelude.{slice_index}
use Rattle.plane_model.specs.PlaneMap.{rings}
use Rattle.plane_model.specs.Component.{component}
use Rattle.rotation_check.specs.Darts.{map_of_rotation}
use Rattle.islands.specs.Darts.{AreDartsOf}
use Rattle.islands.specs.Rising.{IsFirstAdded}
use Rattle.islands.proofs.LeastDarts.{firsts_next, components_in_order, components_end}
use Rattle.islands.proofs.least.least_darts.Goals as goal

pub loop-dart-preserved : goal.loop-dart-preserved
loop-dart-preserved c =
    let r = c.args.rotation.now in
    let order : List ℕ = c.deref-dart-items.result.now in
    let k : ℕ = c.loop-dart.dart-index in
    let lt : k < length order = c.loop-dart-test.true in
    let dart : ℕ = slice_index order k in
    let darts : AreDartsOf r.edges (rings (map_of_rotation r)) order = subst (AreDartsOf r.edges (rings (map_of_rotation r))) (sym c.deref-dart-items.ensures.value) c.in_ok-rings.ensures.darts in
    let numbers = c.args.parts.now.components in
    let are = c.requires.components in
    let parts = components_in_order r c.in_ok-rings.ensures.rotation numbers order are darts in
    let fits : slice_index numbers.of_darts dart < length c.loop-dart.seen.items = (let a = are.below dart (darts.within k lt) in let b = c.loop-dart.invariant.marks in omega arith) in
    let added : IsFirstAdded dart c.component_of.result c.loop-dart.seen.items c.add_first.new.seen.items c.loop-dart.components.items c.add_first.new.firsts.items = c.in_ok-add_first.ensures in
    record {
      marks = added.size ∙ c.loop-dart.invariant.marks;
      components = firsts_next r.edges (component (map_of_rotation r)) numbers order (rings (map_of_rotation r)) darts parts k lt c.loop-dart.seen.items c.loop-dart.components.items c.loop-dart.invariant.components c.add_first.new.seen.items c.add_first.new.firsts.items fits
          (subst (λ n. IsFirstAdded dart n c.loop-dart.seen.items c.add_first.new.seen.items c.loop-dart.components.items c.add_first.new.firsts.items) c.component_of.ensures added);
    }

pub returns-clause-components : goal.returns-clause-components
returns-clause-components c =
    let r = c.args.rotation.now in
    let darts : AreDartsOf r.edges (rings (map_of_rotation r)) c.deref-dart-items.result.now = subst (AreDartsOf r.edges (rings (map_of_rotation r))) (sym c.deref-dart-items.ensures.value) c.in_ok-rings.ensures.darts in
    components_end r c.in_ok-rings.ensures.rotation c.args.parts.now.components.of_darts c.deref-dart-items.result.now c.loop-dart.dart-index c.loop-dart.seen.items c.loop-dart.components.items darts c.loop-dart.invariant.components c.loop-dart-test.false
