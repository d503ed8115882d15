use Rattle.std.proofs.Common.{ap, sym, ◌∙◌, arith, Some}
use Rattle.bit_words.specs.BitView.{bits_of}
use Rattle.bit_words.specs.PackedView.{fields_of}
use Rattle.code_laws.specs.Code.{code_with}
use Rattle.turan_code.proofs.Faults.{ones_none, ones_wrong, starts_first, ones_first, tree_first, dual_first, sound}
use Rattle.turan_code.proofs.checking.check.Goals as goal

pub wrong_start-requires : goal.wrong_start-requires
wrong_start-requires g c = record { positions = c.requires.few; starts = c.requires.few_starts; some = c.requires.some; sizes = c.requires.sizes }

pub returns-in-Some-clause-checked : goal.returns-in-Some-clause-checked
returns-in-Some-clause-checked g c =
    let code = code_with (bits_of c.args.a) (bits_of c.args.b) (bits_of c.args.dual) (fields_of c.args.starts) in
    starts_first code c.in-Some.index c.in-Some.ensures.index

pub ones-ones-requires : goal.ones-ones-requires
ones-ones-requires g c = record { positions = c.requires.few; starts = c.requires.few_starts; some = c.requires.some; sizes = c.requires.sizes }

pub returns-then-ones-len-clause-checked : goal.returns-then-ones-len-clause-checked
returns-then-ones-len-clause-checked g c =
    let code = code_with (bits_of c.args.a) (bits_of c.args.b) (bits_of c.args.dual) (fields_of c.args.starts) in
    ones_first code (sym c.wrong_start.ensures.index ∙ c.in_default.is) c.ones-ones.result
    (ones_wrong code (λ e. c.if-ones-len.true (c.ones-ones.ensures.ones ∙ e ∙ sym c.len.ensures)) ∙ ap Some (sym c.ones-ones.ensures.ones))

pub unbalanced-requires : goal.unbalanced-requires
unbalanced-requires g c =
    let code = code_with (bits_of c.args.a) (bits_of c.args.b) (bits_of c.args.dual) (fields_of c.args.starts) in
    record {
      few = record { positions = c.requires.few; starts = c.requires.few_starts; some = c.requires.some; sizes = c.requires.sizes };
      starts = sym c.wrong_start.ensures.index ∙ c.in_default.is;
      ones = ones_none code (sym c.ones-ones.ensures.ones ∙ c.if-ones-len.false ∙ c.len.ensures);
    }

pub returns-in-Some-unbalanced-clause-checked : goal.returns-in-Some-unbalanced-clause-checked
returns-in-Some-unbalanced-clause-checked g c =
    let code = code_with (bits_of c.args.a) (bits_of c.args.b) (bits_of c.args.dual) (fields_of c.args.starts) in
    tree_first code (sym c.wrong_start.ensures.index ∙ c.in_default.is) (ones_none code (sym c.ones-ones.ensures.ones ∙ c.if-ones-len.false ∙ c.len.ensures))
    c.in-Some-unbalanced.component c.in-Some-unbalanced.ensures.component

pub unbalanced-requires-2 : goal.unbalanced-requires-2
unbalanced-requires-2 g c =
    let code = code_with (bits_of c.args.a) (bits_of c.args.b) (bits_of c.args.dual) (fields_of c.args.starts) in
    record {
      few = record { positions = c.requires.few; starts = c.requires.few_starts; some = c.requires.some; sizes = c.requires.sizes };
      starts = sym c.wrong_start.ensures.index ∙ c.in_default.is;
      ones = ones_none code (sym c.ones-ones.ensures.ones ∙ c.if-ones-len.false ∙ c.len.ensures);
    }

pub returns-in-Some-unbalanced-2-clause-checked : goal.returns-in-Some-unbalanced-2-clause-checked
returns-in-Some-unbalanced-2-clause-checked g c =
    let code = code_with (bits_of c.args.a) (bits_of c.args.b) (bits_of c.args.dual) (fields_of c.args.starts) in
    dual_first code (sym c.wrong_start.ensures.index ∙ c.in_default.is) (ones_none code (sym c.ones-ones.ensures.ones ∙ c.if-ones-len.false ∙ c.len.ensures))
    (sym c.unbalanced.ensures.component ∙ c.in_default-unbalanced.is) c.in-Some-unbalanced-2.component c.in-Some-unbalanced-2.ensures.component

pub returns-in-Some-unbalanced-2-clause-cost : goal.returns-in-Some-unbalanced-2-clause-cost
returns-in-Some-unbalanced-2-clause-cost g c =
    let a = c.wrong_start.ensures.cost in
    let b = c.ones-ones.ensures.cost in
    let d = c.unbalanced.ensures.cost in
    let e = c.unbalanced-2.ensures.cost in
    let sizes = c.requires.sizes in
    omega (arith, a, b, d, e, sizes)

pub returns-clause-checked : goal.returns-clause-checked
returns-clause-checked g c =
    let code = code_with (bits_of c.args.a) (bits_of c.args.b) (bits_of c.args.dual) (fields_of c.args.starts) in
    sound code (record { positions = c.requires.few; starts = c.requires.few_starts; some = c.requires.some; sizes = c.requires.sizes })
    (sym c.wrong_start.ensures.index ∙ c.in_default.is) (ones_none code (sym c.ones-ones.ensures.ones ∙ c.if-ones-len.false ∙ c.len.ensures))
    (sym c.unbalanced.ensures.component ∙ c.in_default-unbalanced.is) (sym c.unbalanced-2.ensures.component ∙ c.in_default-unbalanced-2.is)

pub returns-clause-cost : goal.returns-clause-cost
returns-clause-cost g c =
    let a = c.wrong_start.ensures.cost in
    let b = c.ones-ones.ensures.cost in
    let d = c.unbalanced.ensures.cost in
    let e = c.unbalanced-2.ensures.cost in
    let sizes = c.requires.sizes in
    omega (arith, a, b, d, e, sizes)
