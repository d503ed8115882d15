use Rattle.std.proofs.Common.{◌≡◌, ◌-◌, length, subst, arith}
use Rattle.id_names.specs.Cycles.{cycle}
use Rattle.id_names.proofs.Members.{members_of}
use Rattle.id_names.proofs.Visiting.{passed, passed_is, visiting_first, visiting_front, visiting_rear, visited_all, none_left, is_member, at_within, end_within, behind_fewer}
use Rattle.id_names.proofs.Marking.{IsMarking, marking_first, marking_next, marking_last, are_marked, none_marked}
use Rattle.id_names.proofs.cycles.visit_and_mark.Goals as goal

pub loop-visited-init : goal.loop-visited-init
loop-visited-init c =
    let places = c.args.places.now in
    let numbers = c.args.numbers.now in
    let first = c.args.first in
    let members = cycle places first in
    let m = members_of places c.requires.places first c.requires.first in
    let v = visiting_first places numbers first members m c.requires.numbers c.clear.new.self.items c.args.visited.now c.requires.visited c.clear.ensures.items c.requires.unvisited in
    let one = passed_is places numbers first members m c.requires.numbers 1 _ _ _ _ _ v in
    record {
      visiting = rw one v;
      marking = rw one (marking_first places c.args.stride first members m c.requires.some c.args.marks.now c.requires.fresh);
    }

pub bounds-visited-member : goal.bounds-visited-member
bounds-visited-member c =
    let m = members_of c.args.places.now c.requires.places c.args.first c.requires.first in
    let v = c.loop-visited.invariant.visiting in
    omega (arith, at_within c.args.places.now c.args.numbers.now c.args.first (cycle c.args.places.now c.args.first) m c.requires.numbers _ _ _ _ _ _ v, v.size, c.requires.visited)

pub bounds-visited-member-in-loop-visited : goal.bounds-visited-member-in-loop-visited
bounds-visited-member-in-loop-visited c =
    let m = members_of c.args.places.now c.requires.places c.args.first c.requires.first in
    let v = c.loop-visited.invariant.visiting in
    omega (arith, at_within c.args.places.now c.args.numbers.now c.args.first (cycle c.args.places.now c.args.first) m c.requires.numbers _ _ _ _ _ _ v, v.size, c.requires.visited)

pub pass-requires-clause-within : goal.pass-requires-clause-within
pass-requires-clause-within c =
    let m = members_of c.args.places.now c.requires.places c.args.first c.requires.first in
    let s = c.loop-visited.invariant in
    let size = s.marking.size in
    omega (arith, at_within c.args.places.now c.args.numbers.now c.args.first (cycle c.args.places.now c.args.first) m c.requires.numbers _ _ _ _ _ _ s.visiting, c.requires.size)

pub bounds-places-member : goal.bounds-places-member
bounds-places-member c =
    let m = members_of c.args.places.now c.requires.places c.args.first c.requires.first in
    at_within c.args.places.now c.args.numbers.now c.args.first (cycle c.args.places.now c.args.first) m c.requires.numbers _ _ _ _ _ _ c.loop-visited.invariant.visiting

pub bounds-visited-end : goal.bounds-visited-end
bounds-visited-end c =
    let m = members_of c.args.places.now c.requires.places c.args.first c.requires.first in
    let v = visiting_front c.args.places.now c.args.numbers.now c.args.first (cycle c.args.places.now c.args.first) m c.requires.numbers _ _ _ _ _ _ c.loop-visited.invariant.visiting c.requires.visited c.loop-visited-test.true in
    omega (arith, end_within c.args.places.now c.args.numbers.now c.args.first (cycle c.args.places.now c.args.first) m c.requires.numbers _ _ _ _ _ _ v, v.size, c.requires.visited)

pub bounds-visited-end-then-not-visited-end : goal.bounds-visited-end-then-not-visited-end
bounds-visited-end-then-not-visited-end c =
    let m = members_of c.args.places.now c.requires.places c.args.first c.requires.first in
    let v = visiting_front c.args.places.now c.args.numbers.now c.args.first (cycle c.args.places.now c.args.first) m c.requires.numbers _ _ _ _ _ _ c.loop-visited.invariant.visiting c.requires.visited c.loop-visited-test.true in
    omega (arith, end_within c.args.places.now c.args.numbers.now c.args.first (cycle c.args.places.now c.args.first) m c.requires.numbers _ _ _ _ _ _ v, v.size, c.requires.visited)

pub bounds-numbers-end : goal.bounds-numbers-end
bounds-numbers-end c =
    let m = members_of c.args.places.now c.requires.places c.args.first c.requires.first in
    let size = c.requires.numbers.size in
    omega (arith, end_within c.args.places.now c.args.numbers.now c.args.first (cycle c.args.places.now c.args.first) m c.requires.numbers _ _ _ _ _ _ c.loop-visited.invariant.visiting)

pub loop-visited-smaller-then-not-visited-end : goal.loop-visited-smaller-then-not-visited-end
loop-visited-smaller-then-not-visited-end c =
    let places = c.args.places.now in
    let first = c.args.first in
    let m = members_of places c.requires.places first c.requires.first in
    let v = visiting_front places c.args.numbers.now first (cycle places first) m c.requires.numbers _ _ _ _ _ _ c.loop-visited.invariant.visiting c.requires.visited c.loop-visited-test.true in
    let more = passed_is places c.args.numbers.now first (cycle places first) m c.requires.numbers _ _ _ _ _ _ v in
    let l = (is_member places c.args.numbers.now first (cycle places first) m c.requires.numbers _ _ _ _ _ _ c.loop-visited.invariant.visiting c.loop-visited-test.true).0 in
    omega arith

pub loop-visited-preserved-then-not-visited-end : goal.loop-visited-preserved-then-not-visited-end
loop-visited-preserved-then-not-visited-end c =
    let places = c.args.places.now in
    let numbers = c.args.numbers.now in
    let first = c.args.first in
    let members = cycle places first in
    let m = members_of places c.requires.places first c.requires.first in
    let s = c.loop-visited.invariant in
    let at = c.loop-visited.member in
    let front = visiting_front places numbers first members m c.requires.numbers _ _ _ _ _ _ s.visiting c.requires.visited c.loop-visited-test.true in
    let rear = visiting_rear places numbers first members m c.requires.numbers _ _ _ _ _ _ front c.push.new.self.items c.requires.visited c.if-not-visited-end.true c.in_ok-push.ensures.items in
    let more = passed_is places numbers first members m c.requires.numbers _ _ _ _ _ _ front in
    let here = is_member places numbers first members m c.requires.numbers _ _ _ _ _ _ s.visiting c.loop-visited-test.true in
    record {
      visiting = rw more rear;
      marking = rw c.pass.ensures.marker (rw c.pass.ensures.marks (rw more
          (marking_next places c.args.stride first members m c.requires.some (passed members first at) at c.loop-visited.marker c.args.marks.now c.loop-visited.marks c.requires.size s.marking s.visiting.some here.0 here.1)));
    }

pub loop-visited-smaller : goal.loop-visited-smaller
loop-visited-smaller c =
    let places = c.args.places.now in
    let first = c.args.first in
    let m = members_of places c.requires.places first c.requires.first in
    let v = visiting_front places c.args.numbers.now first (cycle places first) m c.requires.numbers _ _ _ _ _ _ c.loop-visited.invariant.visiting c.requires.visited c.loop-visited-test.true in
    let more = passed_is places c.args.numbers.now first (cycle places first) m c.requires.numbers _ _ _ _ _ _ v in
    let l = (is_member places c.args.numbers.now first (cycle places first) m c.requires.numbers _ _ _ _ _ _ c.loop-visited.invariant.visiting c.loop-visited-test.true).0 in
    omega arith

pub loop-visited-preserved : goal.loop-visited-preserved
loop-visited-preserved c =
    let places = c.args.places.now in
    let numbers = c.args.numbers.now in
    let first = c.args.first in
    let members = cycle places first in
    let m = members_of places c.requires.places first c.requires.first in
    let s = c.loop-visited.invariant in
    let at = c.loop-visited.member in
    let front = visiting_front places numbers first members m c.requires.numbers _ _ _ _ _ _ s.visiting c.requires.visited c.loop-visited-test.true in
    let more = passed_is places numbers first members m c.requires.numbers _ _ _ _ _ _ front in
    let here = is_member places numbers first members m c.requires.numbers _ _ _ _ _ _ s.visiting c.loop-visited-test.true in
    record {
      visiting = rw more front;
      marking = rw c.pass.ensures.marker (rw c.pass.ensures.marks (rw more
          (marking_next places c.args.stride first members m c.requires.some (passed members first at) at c.loop-visited.marker c.args.marks.now c.loop-visited.marks c.requires.size s.marking s.visiting.some here.0 here.1)));
    }

pub loop-member-init : goal.loop-member-init
loop-member-init c =
    let places = c.args.places.now in
    let first = c.args.first in
    let members = cycle places first in
    let m = members_of places c.requires.places first c.requires.first in
    let s = c.loop-visited.invariant in
    let met = none_left places c.args.numbers.now first members m c.requires.numbers _ _ _ _ _ _ s.visiting c.loop-visited-test.false in
    let count : passed members first c.loop-visited.member ≡ length members - length c.loop-visited.behind.items = omega arith in
    record {
      last = s.visiting.last;
      marking = subst (λ n. IsMarking c.args.stride members n c.loop-visited.marker c.args.marks.now c.loop-visited.marks) count s.marking;
    }

pub pass-requires-in-Some-clause-within : goal.pass-requires-in-Some-clause-within
pass-requires-in-Some-clause-within c =
    let places = c.args.places.now in
    let members = cycle places c.args.first in
    let m = members_of places c.requires.places c.args.first c.requires.first in
    let k = c.loop-member.invariant in
    let size = k.marking.size in
    let few = k.last.few in
    let f = behind_fewer members c.loop-member.behind.items c.pop.new.self.items c.in-Some.member k.last c.in-Some.ensures.items in
    omega (arith, f.1, m.within (length members - length c.loop-member.behind.items) (omega (arith, f.2)), c.requires.size)

pub loop-member-preserved : goal.loop-member-preserved
loop-member-preserved c =
    let places = c.args.places.now in
    let members = cycle places c.args.first in
    let m = members_of places c.requires.places c.args.first c.requires.first in
    rw c.pass-in-Some.ensures.marker (rw c.pass-in-Some.ensures.marks
    (marking_last places c.args.stride c.args.first members m c.requires.some c.loop-member.behind.items c.pop.new.self.items c.in-Some.member c.loop-member.marker c.args.marks.now c.loop-member.marks c.requires.size c.loop-member.invariant c.in-Some.ensures.items))

pub returns-then-marker-first-clause-visited : goal.returns-then-marker-first-clause-visited
returns-then-marker-first-clause-visited c =
    let m = members_of c.args.places.now c.requires.places c.args.first c.requires.first in
    visited_all c.args.places.now c.args.numbers.now c.args.first (cycle c.args.places.now c.args.first) m c.requires.numbers _ _ _ _ _ _ c.loop-visited.invariant.visiting c.loop-visited-test.false

pub returns-then-marker-first-clause-marks : goal.returns-then-marker-first-clause-marks
returns-then-marker-first-clause-marks c =
    let places = c.args.places.now in
    let members = cycle places c.args.first in
    let m = members_of places c.requires.places c.args.first c.requires.first in
    let all : length members - length c.loop-member.behind.items ≡ length members = omega (arith, c.in_default.ensures.cases.0, c.loop-member.behind.ok.0) in
    are_marked places c.args.stride c.args.first members m c.requires.some _ _ c.args.marks.now _ c.requires.size c.loop-member.invariant.marking all c.if-marker-first.true

pub returns-else-marker-first-clause-visited : goal.returns-else-marker-first-clause-visited
returns-else-marker-first-clause-visited c =
    let m = members_of c.args.places.now c.requires.places c.args.first c.requires.first in
    visited_all c.args.places.now c.args.numbers.now c.args.first (cycle c.args.places.now c.args.first) m c.requires.numbers _ _ _ _ _ _ c.loop-visited.invariant.visiting c.loop-visited-test.false

pub returns-else-marker-first-clause-marks : goal.returns-else-marker-first-clause-marks
returns-else-marker-first-clause-marks c =
    let places = c.args.places.now in
    let members = cycle places c.args.first in
    let m = members_of places c.requires.places c.args.first c.requires.first in
    let all : length members - length c.loop-member.behind.items ≡ length members = omega (arith, c.in_default.ensures.cases.0, c.loop-member.behind.ok.0) in
    none_marked places c.args.stride c.args.first members m c.requires.some _ _ c.args.marks.now _ c.loop-member.invariant.marking all c.if-marker-first.false
