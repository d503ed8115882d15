use Rattle.std.proofs.Common.{◌∙◌}
use Rattle.topo_csv.proofs.Cutting.{cut_at_end, len_within}
use Rattle.topo_csv.proofs.plain.cut_any.Goals as goal

pub split_at-requires : goal.split_at-requires
split_at-requires c = rw c.field_len.ensures (len_within c.args.bytes.now)

pub returns : goal.returns
returns c = cut_at_end c.args.bytes.now _ _ c.field_len.result c.field_len.ensures (c.new-field.ensures ∙ c.split_at.ensures.front) c.split_at.ensures.back
