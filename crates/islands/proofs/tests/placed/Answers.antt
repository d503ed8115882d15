use Rattle.plane_model.specs.Rows.{rows_of}
use Rattle.islands.proofs.Regardless.{faces_of_checked}
use Rattle.islands.proofs.tests.placed.Goals as goal

pub place-requires-clause-faces : goal.place-requires-clause-faces
place-requires-clause-faces c = faces_of_checked c.in_ok-rotation.rotation c.deref.result.now (rows_of c.in_ok-tables.tables) c.in_ok-rotation.ensures.system c.in_ok-rotation.ensures.nodes c.in_ok-rotation.ensures.edges c.deref.ensures.value
