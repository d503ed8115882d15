use Rattle.plane_model.specs.Rows.{rows_of}
use Rattle.rotation_check.proofs.Turning.{rotation_from}
use Rattle.rotation_check.proofs.rotation.Rotation.new.Goals as goal

pub invariant_of-result : goal.invariant_of-result
invariant_of-result c = rotation_from (rows_of c.args.darts.tables.now) c.args.darts.next.items c.args.darts.node.items c.requires.numbered c.requires.system
