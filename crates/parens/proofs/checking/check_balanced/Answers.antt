use Rattle.std.specs.Prelude.{pos, ◌-ℤ◌}
use Rattle.std.proofs.Common.{◌≡◌, ◌+◌, ◌-◌, arith, subst}
use Rattle.bit_words.specs.Bits.{excess}
use Rattle.bit_words.specs.BitView.{bits_of}
use Rattle.min_max_tree.specs.Search.{Reaches}
use Rattle.parens.proofs.Balances.{balanced-none}
use Rattle.parens.proofs.Runs.{fault-reached, fault-none, fault-end}
use Rattle.parens.proofs.Matched.{mated-rests, unmatched-reaches, unmatched-rests}
use Rattle.parens.proofs.checking.check_balanced.Goals as goal

pub returns-in-Found-clause-fault : goal.returns-in-Found-clause-fault
returns-in-Found-clause-fault g c =
    let bits = bits_of c.args.bits in
    let r = c.in-Found.ensures.scanned in
    let place = c.in-Found.place in
    let e : place ≡ place - 1 + 1 = let after = r.after in omega (arith, after) in
    fault-reached bits c.args.from c.args.to (place - 1) (subst (λ p. Reaches bits (excess bits c.args.from -ℤ pos 1) c.args.from c.args.to p) e r)

pub returns-in-Found-clause-mates : goal.returns-in-Found-clause-mates
returns-in-Found-clause-mates g c =
    let bits = bits_of c.args.bits in
    let r = c.in-Found.ensures.scanned in
    let place = c.in-Found.place in
    let e : place ≡ place - 1 + 1 = let after = r.after in omega (arith, after) in
    unmatched-reaches bits c.args.from c.args.to (place - 1) c.requires.within (subst (λ p. Reaches bits (excess bits c.args.from -ℤ pos 1) c.args.from c.args.to p) e r)

pub returns-in-Above-eq1-clause-fault : goal.returns-in-Above-eq1-clause-fault
returns-in-Above-eq1-clause-fault g c =
    let bits = bits_of c.args.bits in
    balanced-none bits c.args.from c.args.to (fault-none bits c.args.from c.args.to c.in-Above-eq1.field-0 c.requires.order c.in-Above-eq1.ensures.scanned (omega arith))

pub returns-in-Above-eq1-clause-mates : goal.returns-in-Above-eq1-clause-mates
returns-in-Above-eq1-clause-mates g c = mated-rests (bits_of c.args.bits) c.args.from c.args.to c.in-Above-eq1.field-0 c.requires.within c.in-Above-eq1.ensures.scanned (omega arith)

pub returns-in-Above-clause-fault : goal.returns-in-Above-clause-fault
returns-in-Above-clause-fault g c =
    fault-end (bits_of c.args.bits) c.args.from c.args.to c.in-Above.field-0 c.requires.order c.in-Above.ensures.scanned c.in-Above.field-0-test.1

pub returns-in-Above-clause-mates : goal.returns-in-Above-clause-mates
returns-in-Above-clause-mates g c =
    unmatched-rests (bits_of c.args.bits) c.args.from c.args.to c.in-Above.field-0 c.requires.order c.requires.within c.in-Above.ensures.scanned c.in-Above.field-0-test.1
