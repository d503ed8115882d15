use Rattle.std.proofs.Common.{◌∙◌, length, ap, arith}
use Rattle.std.specs.Prelude.{is_some}
use Rattle.id_names.proofs.ToAll.{marks_more, many_marks}
use Rattle.id_names.proofs.place_words.marks_of_all.Goals as goal

pub push-requires : goal.push-requires
push-requires c =
    let e = ap length c.loop-number.invariant in
    omega (arith, e, many_marks c.args.numbers.now c.loop-number.number, c.loop-number-test.true, c.requires.few)

pub loop-number-preserved : goal.loop-number-preserved
loop-number-preserved c =
    marks_more c.args.numbers.now c.loop-number.number c.loop-number.marks c.push.new.self c.is_some.result c.loop-number.invariant (c.is_some.ensures ∙ ap is_some c.one_before.ensures) c.in_ok-push.ensures.ok
