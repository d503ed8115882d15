use Rattle.std.proofs.Common.{arith, sym, ap, ◌∙◌, ◌≡◌, refl, List, ℤ}
use Rattle.std.proofs.lemmas.Bool.{both_ways}
use Rattle.scratch_region.specs.Marks.{is_marked}
use Rattle.region_border.specs.BorderWalk.{contents_in, map_in, region_in, rest, given, allowance}
use Rattle.region_border.specs.Items.{edges_in}
use Rattle.region_border.specs.declared.ring.Ring.{Ring}
use Rattle.region_border.proofs.ItemLaws.{append-nil}
use Rattle.region_border.proofs.Resting.{between}
use Rattle.region_border.proofs.Giving.{end_next, end_given, end_marks, ended_paid, edge_next, edge_given, edge_stands, edge_marks, given_paid}
use Rattle.region_border.proofs.walk.BorderWalk.give.Goals as goal

pub returns-in_default-clause-next : goal.returns-in_default-clause-next
returns-in_default-clause-next g c = c.requires.ready c.in_default.is

pub returns-in_default-clause-end : goal.returns-in_default-clause-end
returns-in_default-clause-end g c = λ _. c.requires.ready c.in_default.is

pub returns-in_default-clause-given : goal.returns-in_default-clause-given
unfolding edges_in
returns-in_default-clause-given g c = sym (append-nil (given c.args.self.now))

pub invariant_of-self : goal.invariant_of-self
invariant_of-self g c =
    let v = c.args.self.now in
    record { region_in = v.region_in; seen_in = v.seen_in; standing = between (map_in v) (region_in v) v.seen }

pub returns-then-ring-eq0-clause-next : goal.returns-then-ring-eq0-clause-next
unfolding rest
returns-then-ring-eq0-clause-next g c =
    let v = c.args.self.now in
    let q = c.in-Some.ring in
    end_next (contents_in v) (region_in v) v.seen v.ring q c.in-Some.is v.standing c.if-ring-eq0.true

pub returns-then-ring-eq0-clause-given : goal.returns-then-ring-eq0-clause-given
unfolding given rest edges_in
returns-then-ring-eq0-clause-given g c =
    let v = c.args.self.now in
    let q = c.in-Some.ring in
    end_given (contents_in v) (region_in v) v.seen v.ring q c.in-Some.is v.standing c.if-ring-eq0.true ∙ sym (append-nil (given v))

pub returns-then-ring-eq0-clause-marks : goal.returns-then-ring-eq0-clause-marks
unfolding given rest
returns-then-ring-eq0-clause-marks g c =
    let v = c.args.self.now in
    let q = c.in-Some.ring in
    end_marks (contents_in v) (region_in v) v.seen v.ring q c.in-Some.is v.standing c.if-ring-eq0.true (is_marked c.args.marks.now) c.requires.marks

pub returns-then-ring-eq0-clause-least : goal.returns-then-ring-eq0-clause-least
returns-then-ring-eq0-clause-least g c = λ wrong. absurd (both_ways _ refl wrong)

pub returns-then-ring-eq0-clause-paid : goal.returns-then-ring-eq0-clause-paid
unfolding allowance rest
returns-then-ring-eq0-clause-paid g c =
    let v = c.args.self.now in
    let q = c.in-Some.ring in
    ended_paid (contents_in v) (region_in v) v.seen v.ring q c.in-Some.is v.standing c.if-ring-eq0.true c.args.steps.now

pub mark_number-number-requires : goal.mark_number-number-requires
mark_number-number-requires g c =
    let v = c.args.self.now in
    let q = c.in-Some.ring in
    v.standing.on_map q c.in-Some.is

pub set-requires : goal.set-requires
set-requires g c = omega (arith, c.mark_number-number.ensures.within, c.requires.room)

pub outline_of-next-requires-clause-edge : goal.outline_of-next-requires-clause-edge
outline_of-next-requires-clause-edge g c =
    let v = c.args.self.now in
    let q = c.in-Some.ring in
    v.standing.on_map q c.in-Some.is

pub invariant_of-self-2 : goal.invariant_of-self-2
invariant_of-self-2 g c =
    let v = c.args.self.now in
    let q = c.in-Some.ring in
    let next = c.outline_of-next in
    record {
      region_in = v.region_in;
      seen_in = v.seen_in;
      standing = edge_stands (contents_in v) (region_in v) v.seen v.ring q c.in-Some.is v.standing next.result c.from.result (omega (arith, c.if-ring-eq0.false)) next.ensures.outline c.from.ensures next.ensures.known;
    }

pub returns-clause-next : goal.returns-clause-next
unfolding rest
returns-clause-next g c =
    let v = c.args.self.now in
    let q = c.in-Some.ring in
    let next = c.outline_of-next in
    edge_next (contents_in v) (region_in v) v.seen v.ring q c.in-Some.is v.standing next.result c.from.result (omega (arith, c.if-ring-eq0.false)) next.ensures.outline c.from.ensures

pub returns-clause-given : goal.returns-clause-given
unfolding given rest edges_in
returns-clause-given g c =
    let v = c.args.self.now in
    let q = c.in-Some.ring in
    let next = c.outline_of-next in
    edge_given (contents_in v) (region_in v) v.seen v.ring q c.in-Some.is v.standing next.result c.from.result (omega (arith, c.if-ring-eq0.false)) next.ensures.outline c.from.ensures

pub returns-clause-marks : goal.returns-clause-marks
unfolding given rest
returns-clause-marks g c =
    let v = c.args.self.now in
    let q = c.in-Some.ring in
    let next = c.outline_of-next in
    let number = c.mark_number-number in
    edge_marks (contents_in v) (region_in v) v.seen v.ring q c.in-Some.is v.standing next.result c.from.result (omega (arith, c.if-ring-eq0.false)) next.ensures.outline c.from.ensures
    number.result (is_marked c.args.marks.now) (is_marked c.set.new.self) number.ensures.number c.set.ensures.marked c.requires.marks

pub returns-clause-least : goal.returns-clause-least
returns-clause-least g c = λ _. omega (arith, c.mark_number-number.ensures.grows, c.outline_of-next.ensures.some_steps)

pub returns-clause-paid : goal.returns-clause-paid
unfolding allowance rest
returns-clause-paid g c =
    let v = c.args.self.now in
    let q = c.in-Some.ring in
    let next = c.outline_of-next in
    given_paid (contents_in v) (region_in v) v.seen v.ring q c.in-Some.is v.standing next.result c.from.result (omega (arith, c.if-ring-eq0.false)) next.ensures.outline c.from.ensures
    c.args.steps.now c.mark_number-number.new.steps next.new.steps c.mark_number-number.ensures.cost next.ensures.cost
