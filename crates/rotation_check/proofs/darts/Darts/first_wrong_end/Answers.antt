use Rattle.std.proofs.Common.{◌<◌, ◌*◌, ◌∙◌, pos, length, sym, ap, arith}
use Rattle.plane_model.specs.PlaneMap.{map_of}
use Rattle.plane_model.specs.Rows.{rows_of}
use Rattle.plane_model.specs.Faults.{wrong_end}
use Rattle.rotation_check.proofs.DartLists.{dart_edges, length-dart_edges, get-dart_edges}
use Rattle.rotation_check.proofs.FirstIn.{first_in-darts, first_in-further, first_in-found, first_in-end}
use Rattle.rotation_check.proofs.darts.Darts.first_wrong_end.Goals as goal

pub loop-dart-init : goal.loop-dart-init
loop-dart-init c = sym (first_in-darts (wrong_end (map_of (rows_of c.args.self.now.tables.now))) c.args.self.now.tables.now.edges)

pub loop-dart-preserved : goal.loop-dart-preserved
loop-dart-preserved c =
    let m = map_of (rows_of c.args.self.now.tables.now) in
    let edges = c.args.self.now.tables.now.edges in
    let k = c.loop-dart.dart in
    let lt : k < 2 * length edges = omega (arith, c.count-dart-end.ensures) in
    let size = length-dart_edges edges in
    first_in-further (wrong_end m) (dart_edges edges) k (pos 0) c.wrong_end-fault.result _ (omega arith) (c.wrong_end-fault.ensures ∙ ap (wrong_end m) (sym (get-dart_edges edges k (pos 0) lt)))
    (sym c.is_some.ensures ∙ c.if-is_some.false) c.loop-dart.invariant

pub returns-then-is_some : goal.returns-then-is_some
returns-then-is_some c =
    let m = map_of (rows_of c.args.self.now.tables.now) in
    let edges = c.args.self.now.tables.now.edges in
    let k = c.loop-dart.dart in
    let lt : k < 2 * length edges = omega (arith, c.count-dart-end.ensures) in
    let size = length-dart_edges edges in
    first_in-found (wrong_end m) (dart_edges edges) k (pos 0) c.wrong_end-fault.result _ (omega arith) (c.wrong_end-fault.ensures ∙ ap (wrong_end m) (sym (get-dart_edges edges k (pos 0) lt)))
    (sym c.is_some.ensures ∙ c.if-is_some.true) c.loop-dart.invariant

pub returns : goal.returns
returns c =
    let edges = c.args.self.now.tables.now.edges in
    let size = length-dart_edges edges in
    sym (first_in-end (wrong_end (map_of (rows_of c.args.self.now.tables.now))) (dart_edges edges) c.loop-dart.dart (omega (arith, c.count-dart-end.ensures))) ∙ c.loop-dart.invariant
