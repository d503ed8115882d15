use Rattle.std.proofs.Common.{◌<◌, ◌*◌, ◌∙◌, length, get_or, sym, arith}
use Rattle.std.proofs.lemmas.Bool.{lt-ltb, le-ltb}
use Rattle.plane_model.specs.Rows.{rows_of}
use Rattle.rotation_check.specs.Darts.{signed_edge}
use Rattle.rotation_check.proofs.SmallestNext.{is_next_of_two, smallest_step, smallest_kept, twice_at, twice_none, twice_some}
use Rattle.rotation_check.proofs.darts.Darts.smallest_next_of_two.Goals as goal
use Rattle.rotation_check.proofs.darts.Darts.smallest_next_of_two.Goals.{then-befores-dart-gt1, else-befores-dart-gt1}

pub loop-dart-preserved : goal.loop-dart-preserved
loop-dart-preserved c =
    let t = rows_of c.args.self.now.tables.now in
    let k = c.loop-dart.dart in
    let lt : k < 2 * length t.edges = omega (arith, c.count-dart-end.ensures) in
    let twice = twice_at t c.args.self.now.next.items c.args.self.now.node.items c.args.befores.now c.requires.numbered c.requires.counts k lt in
    elim c.if-befores-dart-gt1.branch [
      | then-befores-dart-gt1 w ↦
          smallest_step (is_next_of_two t) (signed_edge t.edges) k c.loop-dart.smallest c.if-befores-dart-gt1.smallest w.signed.result w.smaller_of.result
          (twice ∙ lt-ltb 1 (get_or c.args.befores.now k 0) w.if-befores-dart-gt1.true) w.signed.ensures w.smaller_of.ensures w.smallest-is c.loop-dart.invariant
      | else-befores-dart-gt1 w ↦
          smallest_kept (is_next_of_two t) (signed_edge t.edges) k c.loop-dart.smallest c.if-befores-dart-gt1.smallest
          (twice ∙ le-ltb 1 (get_or c.args.befores.now k 0) w.if-befores-dart-gt1.false) w.smallest-is c.loop-dart.invariant
    ]

pub returns-in_err-smallest : goal.returns-in_err-smallest
returns-in_err-smallest c =
    let t = rows_of c.args.self.now.tables.now in
    c.from_residual.ensures
    ∙ sym (twice_none t c.args.self.now.next.items c.args.self.now.node.items c.requires.numbered c.loop-dart.dart c.loop-dart.smallest (omega (arith, c.count-dart-end.ensures)) c.in_err-smallest.was c.loop-dart.invariant)

pub returns : goal.returns
returns c =
    let t = rows_of c.args.self.now.tables.now in
    sym (twice_some t c.args.self.now.next.items c.args.self.now.node.items c.requires.numbered c.loop-dart.dart c.loop-dart.smallest c.in_ok-smallest.field-0 c.value-next.result
    (omega (arith, c.count-dart-end.ensures)) c.in_ok-smallest.was c.value-next.ensures.value c.value-next.ensures.in_range c.loop-dart.invariant)
