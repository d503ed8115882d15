use Rattle.plane_model.specs.declared.rows.EdgeRow.{EdgeRow}
use Rattle.rotation_check.proofs.MoreIds.{more_ids}
use Rattle.rotation_check.proofs.repeated_ids.edge_ids.Goals as goal

pub loop-place-preserved : goal.loop-place-preserved
loop-place-preserved c = more_ids (λ (r : EdgeRow). r.id) c.args.table.now c.loop-place.place c.row.result c.loop-place.ids.items c.push.new.self.items c.row.ensures c.loop-place.invariant c.in_ok-push.ensures.items
