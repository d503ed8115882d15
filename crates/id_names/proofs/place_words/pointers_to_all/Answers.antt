use Rattle.std.proofs.Common.{length, ap, arith}
use Rattle.bit_words.specs.Packed.{PackedList}
use Rattle.id_names.proofs.ToAll.{packed_more, few_before}
use Rattle.id_names.proofs.place_words.pointers_to_all.Goals as goal

pub push_pointer-requires-clause-room : goal.push_pointer-requires-clause-room
push_pointer-requires-clause-room c =
    let e = ap (λ (l : PackedList). length l.items) c.loop-number.invariant in
    omega (arith, e, few_before c.args.numbers.now c.loop-number.number, c.loop-number-test.true, c.requires.few)

pub loop-number-preserved : goal.loop-number-preserved
loop-number-preserved c =
    packed_more c.args.width c.args.numbers.now c.loop-number.number c.loop-number.back c.push_pointer.new.back c.one_before.result c.loop-number.invariant c.one_before.ensures c.in_ok-push_pointer.ensures
