-- No file is large: how many words there are at most, whatever a file's form.
use Rattle.std.proofs.Common.{◌≡◌, ℕ, ◌+◌, ◌*◌, ◌^◌, ◌<◌, ◌≤◌, true, List, length, arith, IsTrue}
use Rattle.std.proofs.Math.Nat.{mul-add, mul-le-mul_left, mul-le-mul_right}
use Rattle.bit_words.proofs.Ranks.{rank-le}
use Rattle.min_max_tree.proofs.Sizes.{tree-small}
use Rattle.id_names.specs.Making.{place_width}
use Rattle.id_names.proofs.DigitBounds.{power_few}
use Rattle.id_names.proofs.MadeSizes.{length-made_marks, as_many_marks}
use Rattle.file_laws.specs.Layout.{HeaderCounts, counts_in, words_of, sections, section_words, total_words, file_words, face_count, node_count, low_width, bits, fields, counted_bits, searched_bits, names}
use Rattle.file_laws.specs.Contents.{Contents}
use Rattle.file_laws.specs.Image.{counts_of_contents, names_for}
use Rattle.file_laws.specs.Lawful.{is_lawful, is_whole}
use Rattle.file_laws.proofs.Lengths.{no_faults, lawful_length}
use Rattle.file_laws.proofs.Whole.{whole_parts}
use Rattle.file_laws.proofs.Rooms.{bits_some, few_digits}
use Rattle.file_laws.proofs.Sections.{CountsFit, counts_fit}

-- the words of bits with their counts, and with their tree besides
counted_few : (number n : ℕ) → 1024 * total_words (counted_bits number n) ≤ 17 * n + 4096
unfolding total_words section_words
counted_few number n = omega arith

searched_few : (number n : ℕ) → n ≤ 33554432 → 1024 * total_words (searched_bits number n) ≤ 21 * n + 40960
unfolding total_words section_words
searched_few number n few = let t = tree-small n few in omega (arith, t)

-- the words of c fields of 32 bits
fields_few : (number c : ℕ) → 1024 * section_words (fields number c) ≤ 512 * c + 1024
unfolding section_words
fields_few number c = omega arith

bits_few : (number c : ℕ) → 1024 * section_words (bits number c) ≤ 16 * c + 1024
unfolding section_words
bits_few number c = omega arith

-- the low part and the place of each of c names, and a back pointer
widths_few : (form c back : ℕ) → c ≤ 16777216 → back ≤ c → (c * low_width form c + c * place_width c ≤ 64 * c) × (back * place_width c ≤ 25 * c)
widths_few form c back few less =
    let d = few_digits c few in
    let b = bits_some form in
    let both : low_width form c + place_width c ≤ 64 = omega (arith, d, b.0, b.1) in
    let place : place_width c ≤ 25 = omega (arith, d) in
    let sum = mul-add c (low_width form c) (place_width c) in
    let all = mul-le-mul_left c both in
    let each = mul-le-mul_right (place_width c) less in
    let most = mul-le-mul_left c place in
    (omega (arith, sum, all), omega (arith, each, most))

-- the words of the names of c things
names_few : (form number c back : ℕ) → c ≤ 16777216 → back ≤ c → 1024 * total_words (names form number c back) ≤ 1500 * c + 16384
unfolding total_words section_words
names_few form number c back few less =
    let w = widths_few form c back few less in
    let p = power_few c in
    omega (arith, w.0, w.1, p)

-- the words of all sections, part by part
parts_of : (c : HeaderCounts) → total_words (sections c)
    ≡ total_words (counted_bits 1 (2 * c.edges)) + total_words (searched_bits 3 (2 * c.tree_edges)) + total_words (searched_bits 6 (2 * face_count c))
    + section_words (fields 9 (c.components + 1)) + section_words (bits 10 c.edges)
    + total_words (names c.form 30 (node_count c) c.node_back) + total_words (names c.form 40 c.edges c.edge_back) + total_words (names c.form 50 (face_count c) c.face_back)
    + section_words (fields 17 c.components) + section_words (fields 18 c.components) + section_words (fields 19 c.isolated)
    + total_words (searched_bits 20 (2 * c.regions)) + total_words (names c.form 60 c.regions c.region_back) + section_words (fields 25 (face_count c + 1))
unfolding sections total_words
parts_of c = omega arith

pub file_small : (c : HeaderCounts) → CountsFit c → 8 * file_words c < 2 ^ 30
unfolding file_words
file_small c k =
    let e = parts_of c in
    let a = counted_few 1 (2 * c.edges) in
    let tree = searched_few 3 (2 * c.tree_edges) (omega (arith, k.tree, k.edges)) in
    let dual = searched_few 6 (2 * face_count c) (omega (arith, k.edges)) in
    let starts = fields_few 9 (c.components + 1) in
    let forward = bits_few 10 c.edges in
    let nodes = names_few c.form 30 (node_count c) c.node_back k.nodes k.node_back in
    let edges = names_few c.form 40 c.edges c.edge_back k.edges k.edge_back in
    let faces = names_few c.form 50 (face_count c) c.face_back (omega (arith, k.edges)) k.face_back in
    let places = fields_few 17 c.components in
    let order = fields_few 18 c.components in
    let isolated = fields_few 19 c.isolated in
    let region_bits = searched_few 20 (2 * c.regions) (omega (arith, k.regions)) in
    let regions = names_few c.form 60 c.regions c.region_back k.regions k.region_back in
    let members = fields_few 25 (face_count c + 1) in
    omega (arith, e, a, tree, dual, starts, forward, nodes, edges, faces, places, order, isolated, region_bits, regions, members, k.edges, k.tree, k.nodes, k.regions)

-- as many back pointers at most as ids
back_few : (form : ℕ) (ids : List ℕ) → length (names_for form ids).back ≤ length ids
back_few form ids =
    let low = low_width form (length ids) in
    let marks = (names_for form ids).marks in
    let same = as_many_marks low ids in
    let all = length-made_marks low ids in
    let few = rank-le true marks (length marks) in
    omega (arith, same, all, few)

-- the counts of whole contents are those of a lawful file, whatever the form
pub whole_counts_fit : (form : ℕ) (c : Contents) → is_whole c ≡ true → CountsFit (counts_of_contents form c)
whole_counts_fit form c h =
    let s = (whole_parts c h).sizes in
    let nodes = s.nodes in
    let faces = s.faces in
    let node_back = back_few form c.nodes in
    let face_back = back_few form c.faces in
    record {
      edges = s.few_edges;
      tree = omega (arith, faces);
      components = s.few_components;
      nodes = omega (arith, nodes, s.few_nodes);
      regions = s.few_regions;
      node_back = omega (arith, node_back, nodes);
      edge_back = back_few form c.edges;
      face_back = omega (arith, face_back, faces);
      region_back = back_few form c.regions;
    }

-- what is written of whole contents is no larger
pub whole_small : (form : ℕ) (c : Contents) → is_whole c ≡ true → 8 * file_words (counts_of_contents form c) < 2 ^ 30
whole_small form c h = file_small (counts_of_contents form c) (whole_counts_fit form c h)

pub lawful_few : (bytes : List ℕ) → IsTrue (is_lawful bytes) → length bytes < 2 ^ 30
lawful_few bytes h =
    let e = lawful_length bytes h in
    let s = file_small (counts_in (words_of bytes)) (counts_fit (counts_in (words_of bytes)) (no_faults bytes h).counts) in
    omega (arith, e, s)
