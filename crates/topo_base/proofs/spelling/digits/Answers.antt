use Rattle.std.proofs.Common.{rules, ap, sym, ◌∙◌, arith, add-one}
use Rattle.std.specs.Prelude.{option_and_then}
use Rattle.std.proofs.lemmas.Bool.Decides.{nat_tests}
use Rattle.std.proofs.Math.ListN.{drop_of_length-le}
use Rattle.topo_base.specs.Spelling.{digits_behind, in_range}
use Rattle.topo_base.proofs.Digits.{behind_at, none_at, no_more, too_great, within}
use Rattle.topo_base.proofs.spelling.digits.Goals as goal

pub returns-then-not-is_ascii_digit : goal.returns-then-not-is_ascii_digit
returns-then-not-is_ascii_digit c =
    ap (option_and_then (in_range 0)) (none_at c.args.bytes.now c.loop-b.b-index c.loop-b.number _ (omega arith) c.loop-b.invariant.rest (sym c.is_ascii_digit.ensures.value ∙ search rules))

pub returns-then-is_past : goal.returns-then-is_past
returns-then-is_past c =
    sym (ap (option_and_then (in_range 0)) (sym (behind_at c.args.bytes.now c.loop-b.b-index c.loop-b.number _ (omega arith) c.loop-b.invariant.rest (sym c.is_ascii_digit.ensures.value ∙ c.if-not-is_ascii_digit.false)))
    ∙ too_great _ _ (let past = sym c.is_past.ensures ∙ c.if-is_past.true in let digit = c.from-digit.ensures in grind (arith, nat_tests)))

pub loop-b-preserved : goal.loop-b-preserved
loop-b-preserved c = record {
  rest = rw (c.from-digit.ensures, add-one c.loop-b.b-index) (behind_at c.args.bytes.now c.loop-b.b-index c.loop-b.number _ (omega arith) c.loop-b.invariant.rest (sym c.is_ascii_digit.ensures.value ∙ c.if-not-is_ascii_digit.false));
  bound = let fits = sym c.is_past.ensures ∙ c.if-is_past.false in let digit = c.from-digit.ensures in grind (arith, nat_tests);
}

pub returns : goal.returns
returns c =
    sym (ap (option_and_then (in_range 0)) (sym c.loop-b.invariant.rest ∙ ap (digits_behind c.loop-b.number) (drop_of_length-le c.args.bytes.now (omega arith)) ∙ no_more c.loop-b.number)
    ∙ within c.loop-b.number c.loop-b.invariant.bound)
