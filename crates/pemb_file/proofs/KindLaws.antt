-- Sections by their kind.
use Rattle.std.specs.Prelude.{slice_range}
use Rattle.std.specs.Bool.{⊤}
use Rattle.std.proofs.Common.{lit≤, inl, inr, Bool, true, ◌||◌, ◌==◌, List, [], ◌∷◌, ◌++◌, ◌^◌, ◌≡◌, ℕ, ◌+◌, ◌-◌, ◌*◌, ◌≤◌, take, drop, refl, ap, sym, ◌∙◌, arith, subst, None}
use Rattle.std.proofs.lemmas.Bool.{cases_Bool, or_cases, eqb-true}
use Rattle.bit_words.specs.Digits.{digits}
use Rattle.rank_select.specs.Counts.{blocks}
use Rattle.min_max_tree.specs.Tree.{tree_size}
use Rattle.min_max_tree.proofs.Sizes.{tree-le}
use Rattle.id_names.proofs.DigitBounds.{power_few}
use Rattle.file_laws.specs.Layout.{HeaderCounts, Section, sections, section, section_words, section_from, counts_in, part, face_count, node_count, low_width, names, fields, searched_bits, no_section}
use Rattle.file_laws.specs.Faults.{count_fault}
use Rattle.file_laws.proofs.Sections.{CountsFit, counts_fit}
use Rattle.file_laws.proofs.Rooms.{bits_some, few_digits}
use Rattle.pemb_file.specs.Kinds.{has_bits, has_fields, is_tree, is_directory, is_named}
use Rattle.pemb_file.specs.Parens.{is_parens}
use Rattle.pemb_file.proofs.SectionWalk.{found}

first_of : (P : ℕ → Type 0) (k n : ℕ) → P k → (n == k) ≡ true → P n
first_of P k n here e = subst P (sym (eqb-true n k e)) here

-- a number is one of some
one_of : ℕ → Bool → List ℕ → Bool
one_of n before [] = before
one_of n before (k ∷ ks) = one_of n (before || (n == k)) ks

AllHave : (ℕ → Type 0) → List ℕ → Type 0
AllHave P [] = ⊤
AllHave P (k ∷ ks) = P k × AllHave P ks

from_one_of : (P : ℕ → Type 0) (n : ℕ) (before : Bool) (ks : List ℕ) → (before ≡ true → P n) → AllHave P ks → one_of n before ks ≡ true → P n
unfolding one_of AllHave
from_one_of P n before [] f all h = f h
from_one_of P n before (k ∷ ks) f all h =
    from_one_of P n (before || (n == k)) ks
    (λ e. elim (or_cases before (n == k) e) [
      | inl b ↦ f b
      | inr here ↦ first_of P k n all.0 here
    ]) all.1 h

each_bits : (P : ℕ → Type 0) → P 1 → P 3 → P 6 → P 10 → P 20 → P 31 → P 35 → P 41 → P 45 → P 51 → P 55 → P 61 → P 65 → (n : ℕ) → has_bits n ≡ true → P n
unfolding one_of AllHave
each_bits P p1 p3 p6 p10 p20 p31 p35 p41 p45 p51 p55 p61 p65 n h = from_one_of P n (n == 1) (3 ∷ 6 ∷ 10 ∷ 20 ∷ 31 ∷ 35 ∷ 41 ∷ 45 ∷ 51 ∷ 55 ∷ 61 ∷ 65 ∷ []) (first_of P 1 n p1) (p3, (p6, (p10, (p20, (p31, (p35, (p41, (p45, (p51, (p55, (p61, (p65, tt)))))))))))) h

each_fields : (P : ℕ → Type 0) → P 2 → P 4 → P 7 → P 9 → P 17 → P 18 → P 19 → P 21 → P 25 → P 32 → P 33 → P 34 → P 36 → P 37 → P 42 → P 43 → P 44 → P 46 → P 47 → P 52 → P 53 → P 54 → P 56 → P 57 → P 62 → P 63 → P 64 → P 66 → P 67 → (n : ℕ) → has_fields n ≡ true → P n
unfolding one_of AllHave
each_fields P p2 p4 p7 p9 p17 p18 p19 p21 p25 p32 p33 p34 p36 p37 p42 p43 p44 p46 p47 p52 p53 p54 p56 p57 p62 p63 p64 p66 p67 n h = from_one_of P n (n == 2) (4 ∷ 7 ∷ 9 ∷ 17 ∷ 18 ∷ 19 ∷ 21 ∷ 25 ∷ 32 ∷ 33 ∷ 34 ∷ 36 ∷ 37 ∷ 42 ∷ 43 ∷ 44 ∷ 46 ∷ 47 ∷ 52 ∷ 53 ∷ 54 ∷ 56 ∷ 57 ∷ 62 ∷ 63 ∷ 64 ∷ 66 ∷ 67 ∷ []) (first_of P 2 n p2) (p4, (p7, (p9, (p17, (p18, (p19, (p21, (p25, (p32, (p33, (p34, (p36, (p37, (p42, (p43, (p44, (p46, (p47, (p52, (p53, (p54, (p56, (p57, (p62, (p63, (p64, (p66, (p67, tt)))))))))))))))))))))))))))) h

each_tree : (P : ℕ → Type 0) → P 5 → P 8 → P 22 → (n : ℕ) → is_tree n ≡ true → P n
unfolding one_of AllHave
each_tree P p5 p8 p22 n h = from_one_of P n (n == 5) (8 ∷ 22 ∷ []) (first_of P 5 n p5) (p8, (p22, tt)) h

each_directory : (P : ℕ → Type 0) → P 2 → P 4 → P 7 → P 21 → (n : ℕ) → is_directory n ≡ true → P n
unfolding one_of AllHave
each_directory P p2 p4 p7 p21 n h = from_one_of P n (n == 2) (4 ∷ 7 ∷ 21 ∷ []) (first_of P 2 n p2) (p4, (p7, (p21, tt))) h

pub each_named : (P : ℕ → Type 0) → P 30 → P 40 → P 50 → P 60 → (n : ℕ) → is_named n ≡ true → P n
unfolding one_of AllHave
each_named P p30 p40 p50 p60 n h = from_one_of P n (n == 30) (40 ∷ 50 ∷ 60 ∷ []) (first_of P 30 n p30) (p40, (p50, (p60, tt))) h

pub bits-width : (c : HeaderCounts) (n : ℕ) → has_bits n ≡ true → (section c n).width ≡ 1
unfolding section sections
bits-width c = each_bits (λ n. (section c n).width ≡ 1) refl refl refl refl refl refl refl refl refl refl refl refl refl

pub tree-width : (c : HeaderCounts) (n : ℕ) → is_tree n ≡ true → (section c n).width ≡ 64
unfolding section sections
tree-width c = each_tree (λ n. (section c n).width ≡ 64) refl refl refl

pub tree-count : (c : HeaderCounts) (n : ℕ) → is_tree n ≡ true → (section c n).count ≡ tree_size (section c (n - 2)).count
unfolding section sections
tree-count c = each_tree (λ n. (section c n).count ≡ tree_size (section c (n - 2)).count) refl refl refl

pub directory-count : (c : HeaderCounts) (n : ℕ) → is_directory n ≡ true → (section c n).count ≡ blocks (section c (n - 1)).count + 1
unfolding section sections
directory-count c = each_directory (λ n. (section c n).count ≡ blocks (section c (n - 1)).count + 1) refl refl refl refl

pub fields-some : (c : HeaderCounts) (n : ℕ) → has_fields n ≡ true → 1 ≤ (section c n).width
unfolding section sections
fields-some c = each_fields (λ n. 1 ≤ (section c n).width) (lit≤ tt) (lit≤ tt) (lit≤ tt) (lit≤ tt) (lit≤ tt) (lit≤ tt) (lit≤ tt) (lit≤ tt) (lit≤ tt) (lit≤ tt) (omega arith) (omega arith) (lit≤ tt) (omega arith) (lit≤ tt) (omega arith) (omega arith) (lit≤ tt) (omega arith) (lit≤ tt) (omega arith) (omega arith) (lit≤ tt) (omega arith) (lit≤ tt) (omega arith) (omega arith) (lit≤ tt) (omega arith)

each_parens : (P : ℕ → Type 0) → P 3 → P 6 → P 20 → (n : ℕ) → is_parens n ≡ true → P n
unfolding one_of AllHave
each_parens P p3 p6 p20 n h = from_one_of P n (n == 3) (6 ∷ 20 ∷ []) (first_of P 3 n p3) (p6, (p20, tt)) h

pub parens-width : (c : HeaderCounts) (n : ℕ) → is_parens n ≡ true → (section c (n + 1)).width ≡ 32
unfolding section sections
parens-width c = each_parens (λ n. (section c (n + 1)).width ≡ 32) refl refl refl

-- the sizes of the parts of names
pub record NameSizes (c : HeaderCounts) (n : ℕ) : Type 0 where
  pub high : (section c (n + 1)).count ≡ (section c (n + 4)).count + 2 ^ digits (section c (n + 4)).count
  pub high_counts : (section c (n + 2)).count ≡ blocks (section c (n + 1)).count + 1
  pub high_width : (section c (n + 2)).width ≡ 32
  pub lows : (section c (n + 3)).count ≡ (section c (n + 4)).count
  pub low : (section c (n + 3)).width ≡ low_width c.form (section c (n + 4)).count
  pub marks : (section c (n + 5)).count ≡ (section c (n + 4)).count
  pub mark_counts : (section c (n + 6)).count ≡ blocks (section c (n + 5)).count + 1
  pub mark_width : (section c (n + 6)).width ≡ 32

pub name_sizes : (c : HeaderCounts) (n : ℕ) → is_named n ≡ true → NameSizes c n
unfolding section sections
name_sizes c = each_named (NameSizes c) (record { high = refl; high_counts = refl; high_width = refl; lows = refl; low = refl; marks = refl; mark_counts = refl; mark_width = refl }) (record { high = refl; high_counts = refl; high_width = refl; lows = refl; low = refl; marks = refl; mark_counts = refl; mark_width = refl }) (record { high = refl; high_counts = refl; high_width = refl; lows = refl; low = refl; marks = refl; mark_counts = refl; mark_width = refl }) (record { high = refl; high_counts = refl; high_width = refl; lows = refl; low = refl; marks = refl; mark_counts = refl; mark_width = refl })

pub names-few : (c : HeaderCounts) (n : ℕ) → count_fault c ≡ None → is_named n ≡ true → (section c (n + 4)).count ≤ 16777216
unfolding section sections
names-few c n h = let k = counts_fit c h in each_named (λ n. (section c (n + 4)).count ≤ 16777216) k.nodes k.edges (omega (arith, k.edges)) k.regions n

pub words-hold : (s : Section) → s.count * s.width ≤ 64 * section_words s
unfolding section_words
words-hold s = omega arith

pub words-hold-by : (s : Section) (w : ℕ) → s.width ≡ w → s.count * w ≤ 64 * section_words s
words-hold-by s w e = let f : s.count * s.width ≡ s.count * w = ap (λ x. s.count * x) e in let h = words-hold s in omega (arith, f, h)

pub tree-words : (c : HeaderCounts) (n : ℕ) → is_tree n ≡ true → section_words (section c n) ≡ tree_size (section c (n - 2)).count
unfolding section_words
tree-words c n h =
    let s = section c n in
    let f : s.count * s.width ≡ s.count * 64 = ap (λ x. s.count * x) (tree-width c n h) in
    omega (arith, f, tree-count c n h)

-- what holds of each of some sections
AllAre : (Section → Type 0) → List Section → Type 0
AllAre P [] = ⊤
AllAre P (s ∷ ss) = P s × AllAre P ss

of_found : (P : Section → Type 0) (n : ℕ) (ss : List Section) → AllAre P ss → P no_section → P (found n ss)
unfolding AllAre
of_found P n [] all none = none
of_found P n (s ∷ ss) all none =
    elim (cases_Bool (s.number == n)) [
      | inl same ↦ rw same all.0
      | inr other ↦ rw other (of_found P n ss all.1 none)
    ]

-- a section has few fields of few bits
pub record IsSmall (s : Section) : Type 0 where
  pub few : s.count ≤ 2147483647
  pub narrow : s.width ≤ 64

small_names : (form number c back : ℕ) (rest : List Section) → c ≤ 16777216 → back ≤ c → AllAre IsSmall rest → AllAre IsSmall (names form number c back ++ rest)
unfolding AllAre
small_names form number c back rest few within more =
    let d = few_digits c few in
    let b = bits_some form in
    let p = power_few c in (
      record { few = omega (arith, few, p); narrow = lit≤ tt },
      (
        record { few = omega (arith, few, p); narrow = lit≤ tt },
        (
          record { few = omega (arith, few); narrow = omega (arith, b.1) },
          (
            record { few = omega (arith, few); narrow = omega (arith, d) },
            (
              record { few = omega (arith, few); narrow = lit≤ tt },
              (
                record { few = omega (arith, few); narrow = lit≤ tt },
                (
                  record { few = omega (arith, few, within); narrow = omega (arith, d) },
                  more,
                ),
              ),
            ),
          ),
        ),
      ),
    )

-- the sections behind names
abbrev last_sections : HeaderCounts → List Section
last_sections c = fields 25 (face_count c + 1) ∷ []

abbrev middle_sections : HeaderCounts → List Section
middle_sections c =
    fields 17 c.components ∷ fields 18 c.components ∷ fields 19 c.isolated ∷ []
    ++ searched_bits 20 (2 * c.regions) ++ names c.form 60 c.regions c.region_back ++ last_sections c

abbrev face_sections : HeaderCounts → List Section
face_sections c = names c.form 50 (face_count c) c.face_back ++ middle_sections c

abbrev edge_sections : HeaderCounts → List Section
edge_sections c = names c.form 40 c.edges c.edge_back ++ face_sections c

all_small : (c : HeaderCounts) → CountsFit c → AllAre IsSmall (sections c)
unfolding AllAre sections
all_small c k =
    let e = k.edges in
    let t = k.tree in
    let r = k.regions in
    let m = k.components in
    let n = k.nodes in
    let t1 = tree-le (2 * c.tree_edges) in
    let t2 = tree-le (2 * face_count c) in
    let t3 = tree-le (2 * c.regions) in (
      record { few = omega (arith, e); narrow = lit≤ tt },
      (
        record { few = omega (arith, e); narrow = lit≤ tt },
        (
          record { few = omega (arith, e, t); narrow = lit≤ tt },
          (
            record { few = omega (arith, e, t); narrow = lit≤ tt },
            (
              record { few = omega (arith, e, t, t1); narrow = lit≤ tt },
              (
                record { few = omega (arith, e); narrow = lit≤ tt },
                (
                  record { few = omega (arith, e); narrow = lit≤ tt },
                  (
                    record { few = omega (arith, e, t2); narrow = lit≤ tt },
                    (
                      record { few = omega (arith, e, m); narrow = lit≤ tt },
                      (
                        record { few = omega (arith, e); narrow = lit≤ tt },
                        small_names c.form 30 (node_count c) c.node_back (edge_sections c) n k.node_back (small_names c.form 40 c.edges c.edge_back (face_sections c) e k.edge_back (small_names c.form 50 (face_count c) c.face_back (middle_sections c) (omega (arith, e)) k.face_back (
                          record { few = omega (arith, e, m); narrow = lit≤ tt },
                          (
                            record { few = omega (arith, e, m); narrow = lit≤ tt },
                            (
                              record { few = omega (arith, n); narrow = lit≤ tt },
                              (
                                record { few = omega (arith, r); narrow = lit≤ tt },
                                (
                                  record { few = omega (arith, r); narrow = lit≤ tt },
                                  (
                                    record { few = omega (arith, r, t3); narrow = lit≤ tt },
                                    small_names c.form 60 c.regions c.region_back (last_sections c) r k.region_back (record { few = omega (arith, e); narrow = lit≤ tt }, tt),
                                  ),
                                ),
                              ),
                            ),
                          ),
                        ))),
                      ),
                    ),
                  ),
                ),
              ),
            ),
          ),
        ),
      ),
    )

pub small : (c : HeaderCounts) (n : ℕ) → count_fault c ≡ None → IsSmall (section c n)
unfolding section
small c n h = of_found IsSmall n (sections c) (all_small c (counts_fit c h)) (record { few = lit≤ tt; narrow = lit≤ tt })

-- the words of a section, where it begins
pub part-range : (words : List ℕ) (n from many : ℕ) → from ≡ section_from (counts_in words) n → many ≡ section_words (section (counts_in words) n) → slice_range words from (from + many) ≡ part words n
unfolding part
part-range words n from many a b =
    let e : from + many - from ≡ many = omega arith in
    ap (λ k. take k (drop from words)) e ∙ ap (λ k. take k (drop from words)) b ∙ ap (λ k. take (section_words (section (counts_in words) n)) (drop k words)) a

-- how many each section has, where a check counts by it
pub record Counted (c : HeaderCounts) : Type 0 where
  pub n1 : (section c 1).count ≡ 2 * c.edges
  pub n3 : (section c 3).count ≡ 2 * c.tree_edges
  pub n6 : (section c 6).count ≡ 2 * face_count c
  pub n9 : (section c 9).count ≡ c.components + 1
  pub n20 : (section c 20).count ≡ 2 * c.regions
  pub n25 : (section c 25).count ≡ face_count c + 1
  pub n34 : (section c 34).count ≡ node_count c
  pub n44 : (section c 44).count ≡ c.edges
  pub n54 : (section c 54).count ≡ face_count c
  pub n64 : (section c 64).count ≡ c.regions

pub directory-width : (c : HeaderCounts) (n : ℕ) → is_directory n ≡ true → (section c n).width ≡ 32
unfolding section sections
directory-width c = each_directory (λ n. (section c n).width ≡ 32) refl refl refl refl

-- the sections of numbers of half a word, other than directories
pub record HalfWords (c : HeaderCounts) : Type 0 where
  pub starts : (section c 9).width ≡ 32
  pub places : (section c 17).width ≡ 32
  pub order : (section c 18).width ≡ 32
  pub isolated : (section c 19).width ≡ 32

pub half_words : (c : HeaderCounts) → HalfWords c
unfolding section sections
half_words c = record { starts = refl; places = refl; order = refl; isolated = refl }

pub counted : (c : HeaderCounts) → Counted c
unfolding section sections
counted c = record { n1 = refl; n3 = refl; n6 = refl; n9 = refl; n20 = refl; n25 = refl; n34 = refl; n44 = refl; n54 = refl; n64 = refl }
