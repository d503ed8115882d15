use Rattle.std.proofs.Common.{length, refl, arith}
use Rattle.std.proofs.lemmas.List.{length-map}
use Rattle.spanning_pair.specs.Rotations.{next_dart, node_row}
use Rattle.spanning_pair.specs.Marks.{is_seen, is_tree, seen_in, trees_in}
use Rattle.spanning_pair.proofs.Lists.{stepped, walking_start}
use Rattle.spanning_pair.proofs.walk.Goals as goal

pub walk-init : goal.walk-init
walk-init c =
    let q = c.requires in
    rw c.tail_row.ensures.tail (
      walking_start (length c.args.marks.now) (next_dart c.args.rotation.now) (node_row c.args.rotation.now) c.args.start c.args.tour.now.darts.items c.args.tour.now.tree.items c.args.tour.now.first.items
          (seen_in c.args.marks.now) (trees_in c.args.marks.now) c.args.visited.now q.system q.start_below q.tree_len q.first_len
          (length-map c.args.marks.now is_seen) (length-map c.args.marks.now is_tree),
      refl,
    )

pub returns-then-current-start-clause-walk : goal.returns-then-current-start-clause-walk
returns-then-current-start-clause-walk c =
    let m = c.mark_new_edge-is_new in
    let s = stepped c.walk.marks c.push.new.self.items c.push-in-walk.new.self.items c.push-in-walk-2.new.self.items m.new.marks m.new.visited
    m.result c.is_tree_edge-is_tree.result c.dart_after-current.result
    c.requires.system c.requires.clean c.walk.invariant.0 m.ensures.new m.ensures.marks m.ensures.visited c.is_tree_edge-is_tree.ensures c.dart_after-current.ensures
    c.in_ok-push.ensures.items c.in_ok-push-2.ensures.items c.in_ok-push-3.ensures.items in
    s.done c.if-current-start.true

pub returns-then-current-start-clause-marks : goal.returns-then-current-start-clause-marks
returns-then-current-start-clause-marks c =
    let m = c.mark_new_edge-is_new in
    let s = stepped c.walk.marks c.push.new.self.items c.push-in-walk.new.self.items c.push-in-walk-2.new.self.items m.new.marks m.new.visited
    m.result c.is_tree_edge-is_tree.result c.dart_after-current.result
    c.requires.system c.requires.clean c.walk.invariant.0 m.ensures.new m.ensures.marks m.ensures.visited c.is_tree_edge-is_tree.ensures c.dart_after-current.ensures
    c.in_ok-push.ensures.items c.in_ok-push-2.ensures.items c.in_ok-push-3.ensures.items in
    s.marks c.if-current-start.true

pub walk-smaller : goal.walk-smaller
walk-smaller c =
    let m = c.mark_new_edge-is_new in
    let s = stepped c.walk.marks c.push.new.self.items c.push-in-walk.new.self.items c.push-in-walk-2.new.self.items m.new.marks m.new.visited
    m.result c.is_tree_edge-is_tree.result c.dart_after-current.result
    c.requires.system c.requires.clean c.walk.invariant.0 m.ensures.new m.ensures.marks m.ensures.visited c.is_tree_edge-is_tree.ensures c.dart_after-current.ensures
    c.in_ok-push.ensures.items c.in_ok-push-2.ensures.items c.in_ok-push-3.ensures.items in
    omega (arith, s.few, s.one_more)

pub walk-preserved : goal.walk-preserved
walk-preserved c =
    let m = c.mark_new_edge-is_new in
    let s = stepped c.walk.marks c.push.new.self.items c.push-in-walk.new.self.items c.push-in-walk-2.new.self.items m.new.marks m.new.visited
    m.result c.is_tree_edge-is_tree.result c.dart_after-current.result
    c.requires.system c.requires.clean c.walk.invariant.0 m.ensures.new m.ensures.marks m.ensures.visited c.is_tree_edge-is_tree.ensures c.dart_after-current.ensures
    c.in_ok-push.ensures.items c.in_ok-push-2.ensures.items c.in_ok-push-3.ensures.items in
    (s.more c.if-current-start.false, c.walk.invariant.1)
