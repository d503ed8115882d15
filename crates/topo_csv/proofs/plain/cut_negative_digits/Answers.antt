use Rattle.std.proofs.Common.{sym, ◌∙◌}
use Rattle.topo_csv.proofs.Cutting.{cut_behind_sign}
use Rattle.topo_csv.proofs.plain.cut_negative_digits.Goals as goal

pub returns-then-is_end : goal.returns-then-is_end
returns-then-is_end c =
    cut_behind_sign c.args.bytes.now c.args.unsigned.now _ _ c.front_digits-digits.result.count c.front_digits-digits.result.number c.requires (c.of_negative_digits-field.ensures ∙ c.split_at.ensures.front) c.split_at.ensures.back c.front_digits-digits.ensures.spelled (sym c.is_end.ensures ∙ c.if-is_end.true)
