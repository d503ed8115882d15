use Rattle.std.proofs.Common.{◌≡◌, length, subst, arith}
use Rattle.disjoint_sets.proofs.Numbering.{AreNumbered, numbered_all, numbered_fits, numbered_other, numbered_root}
use Rattle.disjoint_sets.proofs.links.number_sets.Goals as goal
use Rattle.disjoint_sets.proofs.links.number_sets.Goals.{then-lesser-member, else-lesser-member}

pub overflow_add-count : goal.overflow_add-count
overflow_add-count c =
    let few = numbered_fits c.args.links.now c.loop-member.links c.loop-member.member c.loop-member.count c.loop-member.invariant in
    let size = c.loop-member.invariant.size in
    let lt = c.loop-member-test.true in
    let end = c.loop-member.auto.member-end in
    let fits = c.requires.fits in
    omega arith

pub loop-member-preserved : goal.loop-member-preserved
loop-member-preserved c =
    let lt = c.loop-member-test.true in
    let end = c.loop-member.auto.member-end in
    elim c.if-lesser-member.branch [
      | then-lesser-member w ↦
          rw (w.links-is, w.count-is)
          (numbered_root c.args.links.now c.loop-member.links c.loop-member.member c.loop-member.count c.requires.links c.loop-member.invariant (omega arith) w.if-lesser-member.true)
      | else-lesser-member w ↦
          rw (w.links-is, w.count-is)
          (numbered_other c.args.links.now c.loop-member.links c.loop-member.member c.loop-member.count c.requires.links c.loop-member.invariant (omega arith) w.if-lesser-member.false)
    ]

pub returns-clause-count : goal.returns-clause-count
returns-clause-count c =
    let all : c.loop-member.member ≡ length c.args.links.now = (let past = c.loop-member-test.false in let end = c.loop-member.auto.member-end in omega arith) in
    (numbered_all c.args.links.now c.loop-member.links c.loop-member.count (subst (λ n. AreNumbered c.args.links.now c.loop-member.links n c.loop-member.count) all c.loop-member.invariant)).0

pub returns-clause-of_members : goal.returns-clause-of_members
returns-clause-of_members c =
    let all : c.loop-member.member ≡ length c.args.links.now = (let past = c.loop-member-test.false in let end = c.loop-member.auto.member-end in omega arith) in
    (numbered_all c.args.links.now c.loop-member.links c.loop-member.count (subst (λ n. AreNumbered c.args.links.now c.loop-member.links n c.loop-member.count) all c.loop-member.invariant)).1
