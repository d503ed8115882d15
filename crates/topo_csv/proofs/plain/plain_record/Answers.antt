use Rattle.std.proofs.Common.{[], ◌∷◌, map, sym, ◌∙◌, arith}
use Rattle.std.proofs.lemmas.List.{map-append, nil_from_length}
use Rattle.std.proofs.lemmas.Bool.{ne_eqb}
use Rattle.std.proofs.lemmas.Bool.Decides.{nat_tests}
use Rattle.topo_csv.specs.Texts.{text_of}
use Rattle.topo_csv.proofs.Cutting.{last_of_all, last_of_line, next_field, none_left, starts_ahead}
use Rattle.topo_csv.proofs.plain.plain_record.Goals as goal

pub returns-then-is_empty-clause-gives : goal.returns-then-is_empty-clause-gives
returns-then-is_empty-clause-gives c =
    (none_left c.args.bytes.now c.from_record-left.result.now c.from_record-left.ensures.same (let none = sym c.is_empty.ensures ∙ c.if-is_empty.true in grind (arith, nat_tests)), c.clear.ensures.items)

pub loop-end-init : goal.loop-end-init
loop-end-init c =
    let start = c.from_record-left.ensures in
    rw c.clear.ensures.items (starts_ahead c.args.bytes.now c.from_record-left.result.now start.same start.begins (sym c.is_empty.ensures ∙ c.if-is_empty.false) (start.plain c.requires))

pub returns-in_default-clause-gives : goal.returns-in_default-clause-gives
returns-in_default-clause-gives c =
    rw (c.in_ok-push.ensures.items, map-append text_of c.loop-end.fields.items (c.cut_field-cut.result.field ∷ [])) (last_of_all c.args.bytes.now (map text_of c.loop-end.fields.items) c.loop-end.left.now (text_of c.cut_field-cut.result.field) c.cut_field-cut.result.behind.now c.loop-end.invariant c.cut_field-cut.ensures (nil_from_length _ c.in_default.ensures.cases)).0

pub returns-then-end-ne44-clause-gives : goal.returns-then-end-ne44-clause-gives
returns-then-end-ne44-clause-gives c =
    rw (c.in_ok-push.ensures.items, map-append text_of c.loop-end.fields.items (c.cut_field-cut.result.field ∷ [])) (last_of_line c.args.bytes.now (map text_of c.loop-end.fields.items) c.loop-end.left.now (text_of c.cut_field-cut.result.field) c.cut_field-cut.result.behind.now _ c.in-Some.more.now c.loop-end.invariant c.cut_field-cut.ensures c.in-Some.ensures.cases.0 (ne_eqb _ 44 c.if-end-ne44.true)).0

pub loop-end-preserved : goal.loop-end-preserved
loop-end-preserved c =
    rw (c.in_ok-push.ensures.items, map-append text_of c.loop-end.fields.items (c.cut_field-cut.result.field ∷ [])) (next_field c.args.bytes.now (map text_of c.loop-end.fields.items) c.loop-end.left.now (text_of c.cut_field-cut.result.field) c.cut_field-cut.result.behind.now c.in-Some.more.now c.loop-end.invariant c.cut_field-cut.ensures (rw c.if-end-ne44.false at c.in-Some.ensures.cases.0))
