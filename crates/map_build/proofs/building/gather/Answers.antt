use Rattle.std.proofs.Common.{subst, sym, ◌∙◌}
use Rattle.plane_model.specs.Rows.{rows_of}
use Rattle.map_build.specs.Placed.{ArePlaced}
use Rattle.map_build.proofs.Placing as placing
use Rattle.map_build.proofs.building.gather.Goals as goal

pub place-requires-clause-faces : goal.place-requires-clause-faces
place-requires-clause-faces c = c.deref.ensures.value ∙ placing.faces_same (rows_of c.args.tables.now) c.requires.in_range c.in_ok-regions.ensures.consistent c.in_ok-walked.walked c.in_ok-walked.ensures.walk c.in_ok-names.names c.in_ok-names.ensures.names

pub returns-clause-contents : goal.returns-clause-contents
returns-clause-contents c =
    let placed = subst (λ fs. ArePlaced (rows_of c.args.tables.now) c.in_ok-walked.walked fs c.in_ok-placed.placed) c.deref.ensures.value c.in_ok-placed.ensures in
    placing.joined_is (rows_of c.args.tables.now) c.requires.in_range c.in_ok-regions.ensures.consistent c.in_ok-walked.walked c.in_ok-walked.ensures.walk c.in_ok-names.names c.in_ok-names.ensures.names c.in_ok-placed.placed placed c.in_ok-regions.regions c.in_ok-regions.ensures.regions

pub returns-clause-walk : goal.returns-clause-walk
returns-clause-walk c = c.in_ok-walked.ensures.walk.tour.tree_len ∙ sym c.in_ok-walked.ensures.walk.tour.first_len
