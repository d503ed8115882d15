use Rattle.table_dump.proofs.Fields.{two_fields}
use Rattle.table_dump.proofs.line.put_region.Goals as goal

pub returns : goal.returns
returns c = two_fields _ _ _ _ _ c.push_number.ensures.field c.push_optional.ensures.field
