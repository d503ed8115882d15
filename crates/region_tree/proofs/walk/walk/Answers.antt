use Rattle.std.proofs.Common.{◌≡◌, ◌+◌, ◌++◌, ◌<◌, ◌∙◌, ◌∷◌, [], arith, sym, ap, length, None}
use Rattle.std.proofs.lemmas.List.{get_or_read}
use Rattle.region_tree.specs.Ancestors.{parent_at}
use Rattle.region_tree.specs.Walked.{steps_of}
use Rattle.region_tree.proofs.Walking.{walked_start, opened_within, opened_fewer, walked_opened, closed_fewer, walked_closed, walked_end}
use Rattle.region_tree.proofs.walk.walk.Goals as goal

pub loop-step-init : goal.loop-step-init
loop-step-init c =
    let are = c.requires.siblings in
    let first = c.args.siblings.now.first.items in
    let n = length c.args.slots.now in
    let read : c.index.result.now ≡ parent_at first n = get_or_read first n _ (let m = are.first_many in omega arith) c.index.ensures None in
    walked_start c.args.slots.now c.requires.forest first c.args.siblings.now.next.items are _ _ c.new-left.result.items c.put.new.left.items c.index.result.now c.new-bits.ensures.items c.new-order.ensures.items c.new-left.ensures.items read c.in_ok-put.ensures

pub loop-step-smaller-in-Continue-branch-4 : goal.loop-step-smaller-in-Continue-branch-4
loop-step-smaller-in-Continue-branch-4 c =
    let slots = c.args.slots.now in
    let old = c.loop-step.left.items in
    let within = opened_within slots c.loop-step.bits.items c.loop-step.order.items old c.pop.new.self.items c.in-Some.step c.in-Open.place c.loop-step.invariant c.in-Some.ensures.items c.in-Open.is in
    opened_fewer slots c.requires.forest c.args.siblings.now.first.items c.args.siblings.now.next.items c.requires.siblings old c.pop.new.self.items c.put_open.new.left.items c.in-Some.step c.in-Open.place within c.in-Some.ensures.items c.in-Open.is c.in_ok-put_open-in-Open.ensures

pub loop-step-preserved-in-Continue-branch-4 : goal.loop-step-preserved-in-Continue-branch-4
loop-step-preserved-in-Continue-branch-4 c =
    walked_opened c.args.slots.now c.requires.forest c.args.siblings.now.first.items c.args.siblings.now.next.items c.requires.siblings c.loop-step.bits.items c.push.new.self.items c.loop-step.order.items c.push-in-Open.new.self.items
    c.loop-step.left.items c.pop.new.self.items c.put_open.new.left.items c.in-Some.step c.in-Open.place c.loop-step.invariant c.in-Some.ensures.items c.in-Open.is c.in_ok-push-in-Open.ensures.items c.in_ok-push-in-Open-2.ensures.items c.in_ok-put_open-in-Open.ensures

pub loop-step-smaller : goal.loop-step-smaller
loop-step-smaller c = closed_fewer c.args.slots.now c.loop-step.left.items c.pop.new.self.items c.in-Some.step c.in-Some.ensures.items c.in-Close.is

pub loop-step-preserved : goal.loop-step-preserved
loop-step-preserved c =
    walked_closed c.args.slots.now c.loop-step.bits.items c.push-in-Close.new.self.items c.loop-step.order.items c.loop-step.left.items c.pop.new.self.items c.in-Some.step c.loop-step.invariant c.in-Some.ensures.items c.in-Close.is
    c.in_ok-push-in-Close.ensures.items

pub returns-clause-bits : goal.returns-clause-bits
returns-clause-bits c =
    let none : length c.loop-step.left.items ≡ 0 = omega (arith, c.in_default.ensures.cases.0, c.loop-step.left.ok.0) in
    (walked_end c.args.slots.now c.loop-step.bits.items c.loop-step.order.items c.loop-step.left.items c.loop-step.invariant none).0

pub returns-clause-order : goal.returns-clause-order
returns-clause-order c =
    let none : length c.loop-step.left.items ≡ 0 = omega (arith, c.in_default.ensures.cases.0, c.loop-step.left.ok.0) in
    (walked_end c.args.slots.now c.loop-step.bits.items c.loop-step.order.items c.loop-step.left.items c.loop-step.invariant none).1
