use Rattle.std.proofs.Common.{◌≡◌, ◌<◌, length, subst, arith}
use Rattle.euler_check.proofs.Joining.{AreJoining, joining_none, joined_next, joining_done}
use Rattle.euler_check.proofs.components.joined_rings.Goals as goal

pub loop-row-init : goal.loop-row-init
loop-row-init c = joining_none c.args.rotation.now c.edges-row-end.ensures.rotation c.args.rings.now c.requires c.count.result c.in_ok-sets.sets c.count.ensures c.in_ok-sets.ensures.alone c.in_ok-sets.ensures.sets

pub loop-row-preserved : goal.loop-row-preserved
loop-row-preserved c =
    let r = c.args.rotation.now in
    let lt : c.loop-row.row < length r.edges = (let a = c.edges-row-end.ensures.edges in let b = c.loop-row-test.true in omega arith) in
    joined_next r c.edges-row-end.ensures.rotation c.args.rings.now c.requires c.loop-row.row c.number.result c.number-in-loop-row.result c.loop-row.sets c.join.new.self lt c.loop-row.invariant c.number.ensures c.number-in-loop-row.ensures
    c.join.ensures.joined c.join.ensures.sets

pub returns-clause-joined : goal.returns-clause-joined
returns-clause-joined c =
    let r = c.args.rotation.now in
    let all : c.loop-row.row ≡ length r.edges = (let a = c.edges-row-end.ensures.edges in let b = c.loop-row-test.false in let d = c.loop-row.auto.row-end in omega arith) in
    joining_done r c.edges-row-end.ensures.rotation c.args.rings.now c.requires c.loop-row.sets (subst (λ k. AreJoining r c.args.rings.now k c.loop-row.sets) all c.loop-row.invariant)
