-- The counts and the sections of contents that are written.
use Rattle.std.specs.Prelude.{map, nat_lt, nat_le}
use Rattle.std.proofs.Common.{◌≡◌, ℕ, ◌+◌, ◌-◌, ◌*◌, ◌<◌, ◌≤◌, Bool, true, List, [], ◌∷◌, ◌++◌, length, subst, refl, ap, sym, ◌∙◌, arith, IsTrue, None, ◌||◌, ◌==◌, inl, inr, ◌^◌, ◌&&◌}
use Rattle.std.proofs.lemmas.Bool.{eqb-true, leb-true, and_parts, or_left, or_right, and_from, eq-eqb, lt-ltb, le-leb, cases_lt}
use Rattle.std.proofs.lemmas.List.{length-map}
use Rattle.rank_select.specs.Counts.{counts_of, blocks}
use Rattle.rank_select.proofs.CountLaws.{length-counts_of}
use Rattle.bit_words.specs.Digits.{digits}
use Rattle.bit_words.proofs.Ranks.{rank_both}
use Rattle.min_max_tree.specs.Tree.{nodes_of, tree_size}
use Rattle.min_max_tree.proofs.Sizes.{nodes-length}
use Rattle.code_laws.specs.Code.{Code, start_of}
use Rattle.code_laws.specs.Numbers.{tree_edges}
use Rattle.code_laws.proofs.Sound.{IsLaidOut, whole}
use Rattle.code_laws.proofs.Edges.{closed}
use Rattle.id_names.specs.Making.{place_width}
use Rattle.file_laws.specs.Layout.{HeaderCounts, Section, sections, sized, bits, fields, whole_words, counted_bits, searched_bits, names, low_width, file_words, face_count, node_count}
use Rattle.file_laws.specs.Contents.{Contents, component_count}
use Rattle.file_laws.specs.Lawful.{is_whole, has_sizes, size_tests, whole_tests}
use Rattle.file_laws.specs.Faults.{count_fault, unless}
use Rattle.file_laws.specs.declared.fault.FileFault.{FileFault}
use Rattle.file_laws.specs.Image.{counts_of_contents, filled, section_of, ones, with_counts, with_tree, with_names, with_fields, with_bits, code_sections, names_for}
use Rattle.file_laws.proofs.Agreement.{test_at, whole_seen}
use Rattle.file_laws.proofs.Largest.{whole_counts_fit, whole_small}
use Rattle.pemb_file.specs.Written.{AreNamed}
use Rattle.pemb_file.proofs.CountFaults.{at-14}
use Rattle.pemb_file.proofs.NameSizes.{have_sizes}

-- how many of each there are
pub record Many (c : Contents) : Type 0 where
  pub positions : length c.code.a ≡ 2 * length c.edges
  pub tree : length c.code.tree ≡ 2 * tree_edges c.code
  pub dual : length c.code.dual ≡ 2 * (length c.edges - tree_edges c.code)
  pub starts : length c.code.starts ≡ component_count c + 1
  pub forward : length c.forward ≡ length c.edges
  pub nodes : length c.nodes ≡ component_count c + tree_edges c.code + length c.isolated
  pub faces : length c.faces ≡ length c.edges - tree_edges c.code
  pub orders : length c.place_order ≡ component_count c
  pub region_bits : length c.region_bits ≡ 2 * length c.regions
  pub members : length c.members ≡ length c.edges - tree_edges c.code + 1
  pub few_components : component_count c ≤ length c.edges
  pub some_components : 0 < length c.edges → 0 < component_count c
  pub few_tree : tree_edges c.code ≤ length c.edges
  pub few_edges : length c.edges ≤ 16777216
  pub few_nodes : length c.nodes ≤ 16777216
  pub few_regions : length c.regions ≤ 16777216

sizes_of : (c : Contents) → IsTrue (is_whole c) → has_sizes c ≡ true
unfolding is_whole
sizes_of c w = test_at (whole_tests c) 0 w

no_positions : (c : Code) → IsLaidOut c → length c.starts ≡ 1 → length c.a ≡ 0
no_positions c l e =
    let p = and_parts (start_of c 0 == 0) _ (l.starts 0 l.some) in
    let first = eqb-true (start_of c 0) 0 p.0 in
    let test : (1 == length c.starts) ≡ true = eq-eqb _ _ (sym e) in
    let last = eqb-true (start_of c 0) (length c.a) (rw test at p.1) in
    omega (arith, first, last)

pub many : (c : Contents) → IsTrue (is_whole c) → Many c
unfolding has_sizes
many c w =
    let h = sizes_of c w in
    let s = (whole_seen c w).sound in
    let positions = eqb-true _ _ (test_at (size_tests c) 0 h) in
    let starts = eqb-true _ _ (test_at (size_tests c) 1 h) in
    let faces = eqb-true _ _ (test_at (size_tests c) 4 h) in
    let members = eqb-true _ _ (test_at (size_tests c) 7 h) in
    let both = rank_both c.code.tree (length c.code.tree) (omega arith) in
    let laid = s.laid in
    let even = closed c.code.tree (whole c.code s true) in
    let sizes = s.laid.sizes in
    let tree : length c.code.tree ≡ 2 * tree_edges c.code = omega (arith, both, even) in
    record {
      positions = positions;
      tree = tree;
      dual = omega (arith, sizes, positions, tree);
      starts = starts;
      forward = eqb-true _ _ (test_at (size_tests c) 2 h);
      nodes = eqb-true _ _ (test_at (size_tests c) 3 h);
      faces = omega (arith, faces);
      orders = eqb-true _ _ (test_at (size_tests c) 5 h);
      region_bits = eqb-true _ _ (test_at (size_tests c) 6 h);
      members = omega (arith, faces, members);
      few_components = leb-true _ _ (test_at (size_tests c) 8 h);
      some_components = λ some.
          elim (cases_lt 0 (component_count c)) [
            | inl there ↦ there
            | inr none ↦ let z = no_positions c.code laid (omega (arith, starts)) in absurd (omega (arith, z, positions, some))
          ];
      few_tree = omega (arith, faces);
      few_edges = leb-true _ _ (test_at (size_tests c) 9 h);
      few_nodes = leb-true _ _ (test_at (size_tests c) 10 h);
      few_regions = leb-true _ _ (test_at (size_tests c) 11 h);
    }

-- the names of each class
pub record AllNamed (form : ℕ) (c : Contents) : Type 0 where
  pub nodes : AreNamed form c.nodes
  pub edges : AreNamed form c.edges
  pub faces : AreNamed form c.faces
  pub regions : AreNamed form c.regions

pub fine : (b : Bool) (e : FileFault) → b ≡ true → unless b e ≡ None
fine b e h = rw h refl

-- these counts have no fault
counts_pass : (c : Contents) → Many c → (nat_le (component_count c) (length c.edges) && ((length c.edges == 0) || nat_lt 0 (component_count c))) ≡ true
counts_pass c m =
    let few = m.few_components in
    let none_or_some : (length c.edges == 0) || nat_lt 0 (component_count c) ≡ true =
    elim (cases_lt 0 (length c.edges)) [
      | inl some ↦ or_right (length c.edges == 0) _ (lt-ltb _ _ (m.some_components some))
      | inr none ↦ or_left (length c.edges == 0) _ (eq-eqb _ _ (omega arith))
    ] in
    and_from _ _ (le-leb _ _ few) none_or_some

pub no_count_fault : (form : ℕ) (c : Contents) → IsTrue (is_whole c) → count_fault (counts_of_contents form c) ≡ None
no_count_fault form c w =
    let k = whole_counts_fit form c w in
    at-14 (counts_of_contents form c) None (fine _ _ (le-leb _ _ k.edges)) (fine _ _ (le-leb _ _ k.tree)) (fine _ _ (counts_pass c (many c w))) (fine _ _ (le-leb _ _ k.nodes))
    (fine _ _ (le-leb _ _ k.regions)) (fine _ _ (le-leb _ _ k.node_back)) (fine _ _ (le-leb _ _ k.edge_back)) (fine _ _ (le-leb _ _ k.face_back)) (fine _ _ (le-leb _ _ k.region_back))

length-ones : (bits : List Bool) (n : ℕ) → length bits ≡ n → n ≡ length (ones bits)
length-ones bits n e = rw length-map (sym e)

length-counts : (bits : List Bool) (n : ℕ) → length bits ≡ n → blocks n + 1 ≡ length (counts_of bits)
length-counts bits n e = ap (λ k. blocks k + 1) (sym e) ∙ sym (length-counts_of bits)

length-nodes : (bits : List Bool) (n : ℕ) → length bits ≡ n → tree_size n ≡ length (nodes_of bits)
length-nodes bits n e = ap tree_size (sym e) ∙ sym (nodes-length bits)

-- equal sections, one by one
more_sections : (s t : Section) (ss ts : List Section) → s ≡ t → ss ≡ ts → ◌≡◌ {A = List Section} (s ∷ ss) (t ∷ ts)
more_sections s t ss ts e f = cc

both_lists : (xs xs' ys ys' : List Section) → xs ≡ xs' → ys ≡ ys' → xs ++ ys ≡ xs' ++ ys'
both_lists xs xs' ys ys' e f = cc

counted_filled : (number n : ℕ) (bits : List Bool) → length bits ≡ n → counted_bits number n ≡ map section_of (with_counts number bits)
counted_filled number n bits' e = more_sections _ _ _ _ (ap (bits number) (length-ones _ _ e)) (more_sections _ _ _ _ (ap (fields (number + 1)) (length-counts _ _ e)) refl)

searched_filled : (number n : ℕ) (bits : List Bool) → length bits ≡ n → searched_bits number n ≡ map section_of (with_tree number bits)
searched_filled number n bits' e =
    more_sections _ _ _ _ (ap (bits number) (length-ones _ _ e))
    (more_sections _ _ _ _ (ap (fields (number + 1)) (length-counts _ _ e)) (more_sections _ _ _ _ (ap (whole_words (number + 2)) (length-nodes _ _ e)) refl))

abbrev back_of : ℕ → List ℕ → ℕ
back_of form ids = length (names_for form ids).back

-- the sections of names
names_filled : (form number : ℕ) (ids : List ℕ) (h : AreNamed form ids) → names form number (length ids) (back_of form ids) ≡ map section_of (with_names form number ids)
names_filled form number ids h =
    let n = length ids in
    let s = have_sizes form ids h in
    both_lists _ _ _ _ (counted_filled (number + 1) (n + 2 ^ digits n) (names_for form ids).high s.high)
    (more_sections _ _ _ _ (ap (λ k. sized (number + 3) k (low_width form n)) (sym s.lows))
    (more_sections _ _ _ _ (ap (λ k. sized (number + 4) k (place_width n)) (sym s.places))
    (both_lists _ _ _ _ (counted_filled (number + 5) n (names_for form ids).marks s.marks) refl)))

class_filled : (form number n : ℕ) (ids : List ℕ) → AreNamed form ids → length ids ≡ n → names form number n (back_of form ids) ≡ map section_of (with_names form number ids)
class_filled form number n ids h e = ap (λ k. names form number k (back_of form ids)) (sym e) ∙ names_filled form number ids h

-- the sections before names, between them and behind them
abbrev front : HeaderCounts → List Section
front c =
    counted_bits 1 (2 * c.edges) ++ searched_bits 3 (2 * c.tree_edges) ++ searched_bits 6 (2 * face_count c)
    ++ fields 9 (c.components + 1) ∷ bits 10 c.edges ∷ []

abbrev middle : HeaderCounts → List Section
middle c = fields 17 c.components ∷ fields 18 c.components ∷ fields 19 c.isolated ∷ searched_bits 20 (2 * c.regions)

abbrev node_names : HeaderCounts → List Section
node_names c = names c.form 30 (node_count c) c.node_back

abbrev edge_names : HeaderCounts → List Section
edge_names c = names c.form 40 c.edges c.edge_back

abbrev face_names : HeaderCounts → List Section
face_names c = names c.form 50 (face_count c) c.face_back

abbrev region_names : HeaderCounts → List Section
region_names c = names c.form 60 c.regions c.region_back

abbrev end : HeaderCounts → List Section
end c = fields 25 (face_count c + 1) ∷ []

by_names : (c : HeaderCounts) → sections c ≡ front c ++ (node_names c ++ (edge_names c ++ (face_names c ++ (middle c ++ (region_names c ++ end c)))))
unfolding sections
by_names c = refl

front_filled : (form : ℕ) (c : Contents) → Many c → front (counts_of_contents form c) ≡ map section_of (code_sections c.code ++ with_bits 10 c.forward ∷ [])
front_filled form c m =
    both_lists _ _ _ _ (counted_filled 1 _ c.code.a m.positions)
    (both_lists _ _ _ _ (searched_filled 3 _ c.code.tree m.tree)
    (both_lists _ _ _ _ (searched_filled 6 _ c.code.dual m.dual)
    (more_sections _ _ _ _ (ap (fields 9) (sym m.starts)) (more_sections _ _ _ _ (ap (bits 10) (length-ones _ _ m.forward)) refl))))

middle_filled : (form : ℕ) (c : Contents) → Many c → middle (counts_of_contents form c) ≡ map section_of (with_fields 17 c.places ∷ with_fields 18 c.place_order ∷ with_fields 19 c.isolated ∷ with_tree 20 c.region_bits)
middle_filled form c m =
    more_sections _ _ _ _ refl (more_sections _ _ _ _ (ap (fields 18) (sym m.orders)) (more_sections _ _ _ _ refl (searched_filled 20 _ c.region_bits m.region_bits)))

-- the sections that the counts give are those that are filled
pub sections_filled : (form : ℕ) (c : Contents) → Many c → AllNamed form c → sections (counts_of_contents form c) ≡ map section_of (filled form c)
unfolding filled
sections_filled form c m n =
    by_names (counts_of_contents form c)
    ∙ both_lists _ _ _ _ (front_filled form c m)
    (both_lists _ _ _ _ (class_filled form 30 _ c.nodes n.nodes m.nodes)
    (both_lists _ _ _ _ (class_filled form 40 _ c.edges n.edges refl)
    (both_lists _ _ _ _ (class_filled form 50 _ c.faces n.faces m.faces)
    (both_lists _ _ _ _ (middle_filled form c m)
    (both_lists _ _ _ _ (class_filled form 60 _ c.regions n.regions refl) (more_sections _ _ _ _ (ap (fields 25) (sym m.members)) refl))))))

-- the counts of parts are equal where each count is
pub same_counts : (f f' e e' t t' k k' i i' r r' x x' y y' z z' w w' : ℕ) → f ≡ f' → e ≡ e' → t ≡ t' → k ≡ k' → i ≡ i' → r ≡ r' → x ≡ x' → y ≡ y' → z ≡ z' → w ≡ w'
    → ◌≡◌ {A = HeaderCounts} (record { form = f; edges = e; tree_edges = t; components = k; isolated = i; regions = r; node_back = x; edge_back = y; face_back = z; region_back = w })
    (record { form = f'; edges = e'; tree_edges = t'; components = k'; isolated = i'; regions = r'; node_back = x'; edge_back = y'; face_back = z'; region_back = w' })
same_counts f f' e e' t t' k k' i i' r r' x x' y y' z z' w w' a0 a1 a2 a3 a4 a5 a6 a7 a8 a9 = cc

pub few_from : (form : ℕ) (c : Contents) → IsTrue (is_whole c) → (h : HeaderCounts) → h ≡ counts_of_contents form c → 8 * file_words h < 2 ^ 32
few_from form c w h e = let few = whole_small form c w in subst (λ k. 8 * file_words k < 2 ^ 32) (sym e) (omega (arith, few))

pub few_seen : {X : Type 0} (seen items : List X) (n : ℕ) → seen ≡ items → length items ≤ n → length seen ≤ n
few_seen {X = X} seen items n e h = subst (λ (xs : List X). length xs ≤ n) (sym e) h
