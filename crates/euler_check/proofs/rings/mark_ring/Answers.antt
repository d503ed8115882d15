use Rattle.std.proofs.Common.{◌≤◌, ◌*◌, ◌<◌, length, arith}
use Rattle.euler_check.proofs.Walking.{marking_first, marking_next, marking_back, marking_end}
use Rattle.euler_check.proofs.rings.mark_ring.Goals as goal

pub loop-init : goal.loop-init
loop-init c = marking_first c.args.rotation.now c.edges-end.ensures.rotation c.args.first c.args.number c.args.numbers.now c.requires.first

pub set-requires-clause-within : goal.set-requires-clause-within
set-requires-clause-within c =
    let within = c.loop.invariant.within in
    let size = c.requires.size in
    omega arith

pub loop-preserved : goal.loop-preserved
loop-preserved c =
    let more : c.loop.counter < 2 * length c.args.rotation.now.edges = (let a = c.edges-end.ensures.edges in let b = c.loop-test.true in omega arith) in
    rw c.set.ensures (marking_next c.args.rotation.now c.edges-end.ensures.rotation c.args.first c.args.number c.loop.counter c.loop.dart c.next-dart.result c.args.numbers.now c.loop.numbers
    c.requires.size c.requires.first more c.loop.invariant c.next-dart.ensures.within c.next-dart.ensures.next)

pub returns-after-loop : goal.returns-after-loop
returns-after-loop c =
    let all : 2 * length c.args.rotation.now.edges ≤ c.loop.counter = (let a = c.edges-end.ensures.edges in let b = c.loop-test.false in omega arith) in
    marking_end c.args.rotation.now c.edges-end.ensures.rotation c.args.first c.args.number c.loop.counter c.loop.dart c.args.numbers.now c.loop.numbers all c.loop.invariant

pub returns-then-dart-first : goal.returns-then-dart-first
returns-then-dart-first c =
    let more : c.loop.counter < 2 * length c.args.rotation.now.edges = (let a = c.edges-end.ensures.edges in let b = c.loop-test.true in omega arith) in
    rw c.set.ensures (marking_back c.args.rotation.now c.edges-end.ensures.rotation c.args.first c.args.number c.loop.counter c.loop.dart c.next-dart.result c.args.numbers.now c.loop.numbers
    c.requires.size more c.loop.invariant c.next-dart.ensures.next c.if-dart-first.true)
