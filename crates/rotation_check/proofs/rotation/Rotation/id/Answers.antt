use Rattle.rotation_check.proofs.Ranges.{all_are_ids}
use Rattle.rotation_check.proofs.rotation.Rotation.id.Goals as goal

pub signed_of_dart-requires-clause-ids : goal.signed_of_dart-requires-clause-ids
signed_of_dart-requires-clause-ids c = all_are_ids c.self.inside.tables.now.edges c.self.invariant.0.ids c.self.invariant.0.largest
