use Rattle.std.proofs.Common.{arith}
use Rattle.plane_model.specs.Rows.{rows_of}
use Rattle.rotation_check.proofs.Ranges.{in_range}
use Rattle.rotation_check.proofs.RoundWalk.{round_first, round_left, round_next, round_done}
use Rattle.rotation_check.proofs.darts.Darts.round_length.Goals as goal

pub loop-at-init : goal.loop-at-init
loop-at-init c =
    round_first (rows_of c.args.self.now.tables.now) c.args.self.now.next.items c.args.self.now.node.items c.requires.numbered c.requires.permutes c.args.dart c.turn-at.result c.requires.within c.turn-at.ensures

pub loop-at-preserved : goal.loop-at-preserved
loop-at-preserved c =
    round_next (rows_of c.args.self.now.tables.now) c.args.self.now.next.items c.args.self.now.node.items c.requires.numbered c.args.dart c.loop-at.at c.turn-at-in-loop-at.result c.loop-at.length c.requires.within
    c.loop-at-test.true c.turn-at-in-loop-at.ensures c.loop-at.invariant

pub loop-at-smaller : goal.loop-at-smaller
loop-at-smaller c =
    let some =
    round_left (rows_of c.args.self.now.tables.now) c.args.self.now.next.items c.args.self.now.node.items c.requires.numbered c.args.dart c.loop-at.at c.loop-at.length c.requires.within c.loop-at-test.true
    c.loop-at.invariant in
    omega arith

pub overflow_add-length : goal.overflow_add-length
overflow_add-length c =
    let some =
    round_left (rows_of c.args.self.now.tables.now) c.args.self.now.next.items c.args.self.now.node.items c.requires.numbered c.args.dart c.loop-at.at c.loop-at.length c.requires.within c.loop-at-test.true
    c.loop-at.invariant in
    let few = (in_range (rows_of c.args.self.now.tables.now) c.requires.numbered.in_range).edge_rows in
    omega arith

pub returns : goal.returns
returns c = round_done (rows_of c.args.self.now.tables.now) c.args.dart c.loop-at.at c.loop-at.length c.loop-at-test.false c.loop-at.invariant
