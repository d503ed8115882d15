use Rattle.std.proofs.Common.{◌<◌, ◌*◌, ◌∙◌, pos, length, sym, ap, arith}
use Rattle.std.specs.Prelude.{is_none}
use Rattle.plane_model.specs.Faults.{mixed_ring}
use Rattle.plane_model.proofs.AllFaults.{none-mixed_ring}
use Rattle.rotation_check.specs.Darts.{map_of_rotation}
use Rattle.rotation_check.proofs.DartLists.{dart_edges, length-dart_edges, get-dart_edges}
use Rattle.rotation_check.proofs.FirstIn.{first_in-darts, first_in-further, first_in-found, first_in-end}
use Rattle.euler_check.proofs.Walking.{own_rows}
use Rattle.euler_check.proofs.labels.first_mixed_ring.Goals as goal

pub loop-dart-init : goal.loop-dart-init
loop-dart-init c = sym (first_in-darts (mixed_ring (map_of_rotation c.args.rotation.now)) c.args.rotation.now.edges)

pub loop-dart-preserved : goal.loop-dart-preserved
loop-dart-preserved c =
    let m = map_of_rotation c.args.rotation.now in
    let edges = c.args.rotation.now.edges in
    let k = c.loop-dart.dart in
    let lt : k < 2 * length edges = omega (arith, c.edges-dart-end.ensures.edges) in
    let size = length-dart_edges edges in
    first_in-further (mixed_ring m) (dart_edges edges) k (pos 0) c.mixed_ring-fault.result _ (omega arith) (c.mixed_ring-fault.ensures ∙ ap (mixed_ring m) (sym (get-dart_edges edges k (pos 0) lt)))
    (sym c.is_some.ensures ∙ c.if-is_some.false) c.loop-dart.invariant

pub returns-then-is_some : goal.returns-then-is_some
returns-then-is_some c =
    let m = map_of_rotation c.args.rotation.now in
    let edges = c.args.rotation.now.edges in
    let k = c.loop-dart.dart in
    let lt : k < 2 * length edges = omega (arith, c.edges-dart-end.ensures.edges) in
    let size = length-dart_edges edges in
    let fault =
    first_in-found (mixed_ring m) (dart_edges edges) k (pos 0) c.mixed_ring-fault.result _ (omega arith) (c.mixed_ring-fault.ensures ∙ ap (mixed_ring m) (sym (get-dart_edges edges k (pos 0) lt)))
    (sym c.is_some.ensures ∙ c.if-is_some.true) c.loop-dart.invariant in
    record { fault = fault; labelled = ap is_none fault ∙ none-mixed_ring (own_rows c.args.rotation.now) }

pub returns : goal.returns
returns c =
    let edges = c.args.rotation.now.edges in
    let size = length-dart_edges edges in
    let fault = sym (first_in-end (mixed_ring (map_of_rotation c.args.rotation.now)) (dart_edges edges) c.loop-dart.dart (omega (arith, c.edges-dart-end.ensures.edges))) ∙ c.loop-dart.invariant in
    record { fault = fault; labelled = ap is_none fault ∙ none-mixed_ring (own_rows c.args.rotation.now) }
