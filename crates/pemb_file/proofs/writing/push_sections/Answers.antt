use Rattle.std.specs.Prelude.{[], ◌∷◌}
use Rattle.std.proofs.Common.{arith, subst}
use Rattle.pemb_file.specs.Parts.{contents_of_parts}
use Rattle.file_laws.specs.Image.{with_bits, with_fields, with_tree, filled}
use Rattle.pemb_file.specs.Written.{Written}
use Rattle.pemb_file.proofs.MadeCounts.{many, few_seen}
use Rattle.pemb_file.proofs.Grown.{ok_then, both}
use Rattle.pemb_file.proofs.writing.push_sections.Goals as goal

pub push_code-requires-clause-few : goal.push_code-requires-clause-few
push_code-requires-clause-few c =
    let m = many (contents_of_parts c.args.parts.now) c.requires.whole in
    let positions = m.positions in
    let few_edges = m.few_edges in
    omega (arith, positions, few_edges)

pub push_code-requires-clause-few_starts : goal.push_code-requires-clause-few_starts
push_code-requires-clause-few_starts c =
    let m = many (contents_of_parts c.args.parts.now) c.requires.whole in
    let starts = m.starts in
    let few_components = m.few_components in
    let few_edges = m.few_edges in
    omega (arith, starts, few_components, few_edges)

pub push_bits-requires : goal.push_bits-requires
push_bits-requires c =
    let m = many (contents_of_parts c.args.parts.now) c.requires.whole in
    let forward = m.forward in
    let few_edges = m.few_edges in
    few_seen _ _ 2147483647 c.deref.ensures.value (omega (arith, forward, few_edges))

pub push_fields-requires : goal.push_fields-requires
push_fields-requires c =
    let m = many (contents_of_parts c.args.parts.now) c.requires.whole in
    let few_components = m.few_components in
    let few_edges = m.few_edges in
    few_seen _ _ 2147483647 c.deref-2.ensures.value (omega (arith, few_components, few_edges))

pub push_fields-requires-2 : goal.push_fields-requires-2
push_fields-requires-2 c =
    let m = many (contents_of_parts c.args.parts.now) c.requires.whole in
    let orders = m.orders in
    let few_components = m.few_components in
    let few_edges = m.few_edges in
    few_seen _ _ 2147483647 c.deref-3.ensures.value (omega (arith, orders, few_components, few_edges))

pub push_fields-requires-3 : goal.push_fields-requires-3
push_fields-requires-3 c =
    let m = many (contents_of_parts c.args.parts.now) c.requires.whole in
    let nodes = m.nodes in
    let few_nodes = m.few_nodes in
    few_seen _ _ 2147483647 c.deref-4.ensures.value (omega (arith, nodes, few_nodes))

pub push_fields-requires-4 : goal.push_fields-requires-4
push_fields-requires-4 c =
    let m = many (contents_of_parts c.args.parts.now) c.requires.whole in
    let members = m.members in
    let few_edges = m.few_edges in
    few_seen _ _ 2147483647 c.deref-6.ensures.value (omega (arith, members, few_edges))

pub push_parens-requires : goal.push_parens-requires
push_parens-requires c =
    let m = many (contents_of_parts c.args.parts.now) c.requires.whole in
    let region_bits = m.region_bits in
    let few_regions = m.few_regions in
    few_seen _ _ 2147483647 c.deref-5.ensures.value (omega (arith, region_bits, few_regions))

pub returns : goal.returns
unfolding filled
returns c =
    ok_then c.push_fields-4.result
    (λ e form h.
    both c.args.image.now.items c.push_code.new.image.items c.push_fields-4.new.image.items _ _
    (c.in_ok-push_code.ensures)
    (both c.push_code.new.image.items c.push_bits.new.image.items c.push_fields-4.new.image.items _ _
    (subst (λ xs. Written c.push_code.new.image.items c.push_bits.new.image.items (with_bits 10 xs ∷ [])) c.deref.ensures.value (c.in_ok-push_bits.ensures 10))
    (both c.push_bits.new.image.items c.push_names.new.image.items c.push_fields-4.new.image.items _ _
    (c.in_ok-push_names.ensures form 30 c.args.parts.now.nodes.items h.nodes)
    (both c.push_names.new.image.items c.push_names-2.new.image.items c.push_fields-4.new.image.items _ _
    (c.in_ok-push_names-2.ensures form 40 c.args.parts.now.edges.items h.edges)
    (both c.push_names-2.new.image.items c.push_names-3.new.image.items c.push_fields-4.new.image.items _ _
    (c.in_ok-push_names-3.ensures form 50 c.args.parts.now.faces.items h.faces)
    (both c.push_names-3.new.image.items c.push_fields.new.image.items c.push_fields-4.new.image.items _ _
    (subst (λ xs. Written c.push_names-3.new.image.items c.push_fields.new.image.items (with_fields 17 xs ∷ [])) c.deref-2.ensures.value (c.in_ok-push_fields.ensures 17))
    (both c.push_fields.new.image.items c.push_fields-2.new.image.items c.push_fields-4.new.image.items _ _
    (subst (λ xs. Written c.push_fields.new.image.items c.push_fields-2.new.image.items (with_fields 18 xs ∷ [])) c.deref-3.ensures.value (c.in_ok-push_fields-2.ensures 18))
    (both c.push_fields-2.new.image.items c.push_fields-3.new.image.items c.push_fields-4.new.image.items _ _
    (subst (λ xs. Written c.push_fields-2.new.image.items c.push_fields-3.new.image.items (with_fields 19 xs ∷ [])) c.deref-4.ensures.value (c.in_ok-push_fields-3.ensures 19))
    (both c.push_fields-3.new.image.items c.push_parens.new.image.items c.push_fields-4.new.image.items _ _
    (subst (λ xs. Written c.push_fields-3.new.image.items c.push_parens.new.image.items (with_tree 20 xs)) c.deref-5.ensures.value (c.in_ok-push_parens.ensures 20))
    (both c.push_parens.new.image.items c.push_names-4.new.image.items c.push_fields-4.new.image.items _ _
    (c.in_ok-push_names-4.ensures form 60 c.args.parts.now.regions.items h.regions)
    (subst (λ xs. Written c.push_names-4.new.image.items c.push_fields-4.new.image.items (with_fields 25 xs ∷ [])) c.deref-6.ensures.value (e 25))))))))))))
    c.push_fields-4.ensures
