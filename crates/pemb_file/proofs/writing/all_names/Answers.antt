use Rattle.std.specs.Prelude.{◌^◌}
use Rattle.std.proofs.Common.{arith, subst, sym}
use Rattle.id_names.specs.Names.{AreDistinctIds}
use Rattle.file_laws.specs.Layout.{id_bits}
use Rattle.pemb_file.specs.Form.{number_of}
use Rattle.pemb_file.specs.Parts.{contents_of_parts}
use Rattle.pemb_file.proofs.MadeCounts.{many, few_seen}
use Rattle.pemb_file.proofs.NamesHeld.{ids_with_room}
use Rattle.pemb_file.proofs.writing.all_names.Goals as goal

pub names_in-requires-clause-few : goal.names_in-requires-clause-few
names_in-requires-clause-few c =
    let m = many (contents_of_parts c.args.parts.now) c.requires.whole in
    let few_nodes = m.few_nodes in
    few_seen _ _ 16777216 c.deref.ensures.value (omega (arith, few_nodes))

pub names_in-requires-clause-names : goal.names_in-requires-clause-names
names_in-requires-clause-names c =
    subst (AreDistinctIds (2 ^ id_bits (number_of c.args.form))) (sym c.deref.ensures.value)
    (ids_with_room (number_of c.args.form) (contents_of_parts c.args.parts.now) c.requires.whole c.requires.room).nodes

pub names_in-requires-2-clause-few : goal.names_in-requires-2-clause-few
names_in-requires-2-clause-few c =
    let m = many (contents_of_parts c.args.parts.now) c.requires.whole in
    let few_edges = m.few_edges in
    few_seen _ _ 16777216 c.deref-2.ensures.value (omega (arith, few_edges))

pub names_in-requires-2-clause-names : goal.names_in-requires-2-clause-names
names_in-requires-2-clause-names c =
    subst (AreDistinctIds (2 ^ id_bits (number_of c.args.form))) (sym c.deref-2.ensures.value)
    (ids_with_room (number_of c.args.form) (contents_of_parts c.args.parts.now) c.requires.whole c.requires.room).edges

pub names_in-requires-3-clause-few : goal.names_in-requires-3-clause-few
names_in-requires-3-clause-few c =
    let m = many (contents_of_parts c.args.parts.now) c.requires.whole in
    let faces = m.faces in
    let few_edges = m.few_edges in
    few_seen _ _ 16777216 c.deref-3.ensures.value (omega (arith, faces, few_edges))

pub names_in-requires-3-clause-names : goal.names_in-requires-3-clause-names
names_in-requires-3-clause-names c =
    subst (AreDistinctIds (2 ^ id_bits (number_of c.args.form))) (sym c.deref-3.ensures.value)
    (ids_with_room (number_of c.args.form) (contents_of_parts c.args.parts.now) c.requires.whole c.requires.room).faces

pub names_in-requires-4-clause-few : goal.names_in-requires-4-clause-few
names_in-requires-4-clause-few c =
    let m = many (contents_of_parts c.args.parts.now) c.requires.whole in
    let few_regions = m.few_regions in
    few_seen _ _ 16777216 c.deref-4.ensures.value (omega (arith, few_regions))

pub names_in-requires-4-clause-names : goal.names_in-requires-4-clause-names
names_in-requires-4-clause-names c =
    subst (AreDistinctIds (2 ^ id_bits (number_of c.args.form))) (sym c.deref-4.ensures.value)
    (ids_with_room (number_of c.args.form) (contents_of_parts c.args.parts.now) c.requires.whole c.requires.room).regions
