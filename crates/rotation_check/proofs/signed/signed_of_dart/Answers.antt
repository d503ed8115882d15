use Rattle.std.proofs.Common.{rules, ◌/◌}
use Rattle.rotation_check.proofs.Ranges.{row_has_id}
use Rattle.rotation_check.proofs.signed.signed_of_dart.Goals as goal

pub unwrap-forward-requires : goal.unwrap-forward-requires
unwrap-forward-requires c = search (rules, row_has_id c.args.edges.now (c.args.dart / 2) c.row.result c.requires.ids c.row.ensures)

pub unwrap-requires : goal.unwrap-requires
unwrap-requires c = search (rules, row_has_id c.args.edges.now (c.args.dart / 2) c.row.result c.requires.ids c.row.ensures)
