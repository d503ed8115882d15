use Rattle.std.proofs.Common.{refl, ◌+◌, ◌≡◌, ◌∷◌, ℕ, List, rules, subst, sym, ap, ◌∙◌}
use Rattle.topo_base.specs.declared.id.TheConstants.{LARGEST_ID}
use Rattle.id_names.specs.Names.{AreDistinctIds}
use Rattle.std.specs.Prelude.{map}
use Rattle.plane_model.specs.Rows.{rows_of}
use Rattle.plane_model.specs.PlaneMap.{map_of}
use Rattle.map_build.specs.Made.{place_of, member_number}
use Rattle.map_build.proofs.Placing as placing
use Rattle.map_build.proofs.building.place.Goals as goal

pub new-requires-clause-names : goal.new-requires-clause-names
new-requires-clause-names c = subst (AreDistinctIds (LARGEST_ID + 1)) (sym (c.requires.faces ∙ placing.faces_are (rows_of c.args.tables.now) c.requires.in_range c.requires.consistent c.args.walked.now c.requires.walk)) (placing.face_names (rows_of c.args.tables.now) c.requires.in_range c.requires.consistent c.args.walked.now c.requires.walk)

pub new-requires-clause-few : goal.new-requires-clause-few
new-requires-clause-few c = placing.few_given (rows_of c.args.tables.now) c.requires.in_range c.requires.consistent c.args.walked.now c.requires.walk c.args.faces.now c.requires.faces

pub of_components-requires : goal.of_components-requires
of_components-requires c = placing.sides_known (rows_of c.args.tables.now) c.requires.in_range c.requires.consistent c.args.walked.now c.requires.walk c.in_ok-face_places.face_places.faces.now c.faces.result.now (c.in_ok-face_places.ensures.faces ∙ c.requires.faces) c.faces.ensures

pub component_order-requires-clause-starts : goal.component_order-requires-clause-starts
component_order-requires-clause-starts c = placing.starts_within (rows_of c.args.tables.now) c.requires.in_range c.requires.consistent c.args.walked.now c.requires.walk c.args.tables.now.edges c.starts.result.now refl c.starts.ensures

pub component_order-requires-clause-ids : goal.component_order-requires-clause-ids
component_order-requires-clause-ids c = placing.small_ids (rows_of c.args.tables.now) c.requires.in_range c.requires.consistent c.args.walked.now c.requires.walk c.args.tables.now.edges refl

pub component_order-requires-clause-few : goal.component_order-requires-clause-few
component_order-requires-clause-few c = placing.few_places (rows_of c.args.tables.now) c.requires.in_range c.requires.consistent c.args.walked.now c.requires.walk c.in_ok-face_places.face_places.faces.now c.deref.result.now (c.deref.ensures.value ∙ c.in_ok-places.ensures ∙ ap (map (place_of c.in_ok-face_places.face_places.faces.now)) c.faces.ensures)

pub component_order-requires-clause-apart : goal.component_order-requires-clause-apart
component_order-requires-clause-apart c = placing.starts_apart (rows_of c.args.tables.now) c.requires.in_range c.requires.consistent c.args.walked.now c.requires.walk c.args.tables.now.edges c.starts.result.now refl c.starts.ensures

pub isolated_nodes-requires-clause-known : goal.isolated_nodes-requires-clause-known
isolated_nodes-requires-clause-known c = placing.nodes_known (rows_of c.args.tables.now) c.requires.in_range c.requires.consistent c.args.walked.now c.requires.walk c.in_ok-face_places.face_places.faces.now c.args.tables.now.nodes (c.in_ok-face_places.ensures.faces ∙ c.requires.faces) refl

pub member_regions-requires-clause-known : goal.member_regions-requires-clause-known
member_regions-requires-clause-known c = placing.members_known (rows_of c.args.tables.now) c.requires.in_range c.requires.consistent c.args.walked.now c.requires.walk c.in_ok-face_places.face_places.faces.now c.args.members.now (c.in_ok-face_places.ensures.faces ∙ c.requires.faces) c.requires.members

pub member_regions-requires-clause-few : goal.member_regions-requires-clause-few
member_regions-requires-clause-few c = placing.members_few (rows_of c.args.tables.now) c.requires.in_range c.requires.consistent c.args.walked.now c.requires.walk c.args.members.now c.requires.members

pub member_regions-requires-clause-apart : goal.member_regions-requires-clause-apart
member_regions-requires-clause-apart c = placing.members_apart (rows_of c.args.tables.now) c.requires.in_range c.requires.consistent c.args.walked.now c.requires.walk c.args.members.now c.requires.members

pub returns : goal.returns
returns c =
    let P : List ℕ → Type 0 = λ fs. c.in_ok-members.members.items ≡ map (member_number (map_of (rows_of c.args.tables.now))) (0 ∷ fs) in
    let members : P c.args.faces.now = subst P c.in_ok-face_places.ensures.faces (c.in_ok-members.ensures ∙ placing.member_numbers (rows_of c.args.tables.now) c.requires.in_range c.requires.consistent c.args.walked.now c.requires.walk c.args.members.now c.in_ok-face_places.face_places.faces.now c.requires.members) in
    search rules
