-- The code of a lawful file is small.
use Rattle.std.specs.Prelude.{filter}
use Rattle.std.proofs.Common.{◌≡◌, ℕ, ◌+◌, ◌*◌, ◌/◌, ◌≤◌, List, refl, arith, IsTrue}
use Rattle.min_max_tree.specs.Tree.{tree_size}
use Rattle.min_max_tree.proofs.Sizes.{tree-small}
use Rattle.file_laws.specs.Layout.{HeaderCounts, counts_in, words_of, sections, section_words, total_words, face_count, is_code_section}
use Rattle.file_laws.specs.Lawful.{is_lawful}
use Rattle.file_laws.proofs.Lengths.{no_faults}
use Rattle.file_laws.proofs.Sections.{counts_fit}

-- the words of sections 1 to 8 and 10
code_words : (c : HeaderCounts) → total_words (filter is_code_section (sections c))
    ≡ (2 * c.edges * 1 + 63) / 64 + ((((2 * c.edges + 511) / 512 + 1) * 32 + 63) / 64 + ((2 * c.tree_edges * 1 + 63) / 64 + ((((2 * c.tree_edges + 511) / 512 + 1) * 32 + 63) / 64
    + ((tree_size (2 * c.tree_edges) * 64 + 63) / 64 + ((2 * face_count c * 1 + 63) / 64 + ((((2 * face_count c + 511) / 512 + 1) * 32 + 63) / 64
    + ((tree_size (2 * face_count c) * 64 + 63) / 64 + ((c.edges * 1 + 63) / 64 + 0))))))))
unfolding sections section_words total_words
code_words c = refl

code_small : (c : HeaderCounts) → c.edges ≤ 16777216 → c.tree_edges ≤ c.edges → 64 * total_words (filter is_code_section (sections c)) ≤ 6 * c.edges + 16384
code_small c few within =
    let e = code_words c in
    let t = tree-small (2 * c.tree_edges) (omega arith) in
    let f = tree-small (2 * face_count c) (omega arith) in
    omega (arith, e, t, f)

pub lawful_small : (bytes : List ℕ) → IsTrue (is_lawful bytes) → 64 * total_words (filter is_code_section (sections (counts_in (words_of bytes)))) ≤ 6 * (counts_in (words_of bytes)).edges + 16384
lawful_small bytes h =
    let f = counts_fit (counts_in (words_of bytes)) (no_faults bytes h).counts in
    code_small (counts_in (words_of bytes)) f.edges f.tree
