use Rattle.plane_model.specs.Rows.{rows_of}
use Rattle.map_build.proofs.Checks.{plane_rotation, starts_of_rotation}
use Rattle.map_build.proofs.checked.walk.Goals as goal

pub plane_tour-requires-clause-starts : goal.plane_tour-requires-clause-starts
plane_tour-requires-clause-starts c =
    starts_of_rotation c.in_ok-rotation.rotation (rows_of c.args.tables.now) c.starts.result.now c.in_ok-placement.placement.starts c.in_ok-rotation.ensures.nodes c.in_ok-rotation.ensures.edges c.requires.in_range c.in_ok-placement.ensures.consistent
    c.in_ok-placement.ensures.starts c.starts.ensures

pub plane_tour-requires-clause-plane : goal.plane_tour-requires-clause-plane
plane_tour-requires-clause-plane c =
    plane_rotation c.in_ok-rotation.rotation (rows_of c.args.tables.now) c.in_ok-rotation.ensures.nodes c.in_ok-rotation.ensures.edges c.requires.in_range c.in_ok-placement.ensures.consistent
