use Rattle.plane_model.specs.Rows.{rows_of}
use Rattle.rotation_check.proofs.Ranges.{edge_ids_are}
use Rattle.rotation_check.proofs.darts.Darts.signed.Goals as goal

pub signed_of_dart-requires-clause-ids : goal.signed_of_dart-requires-clause-ids
signed_of_dart-requires-clause-ids c = edge_ids_are (rows_of c.args.self.now.tables.now) c.requires.numbered.in_range
