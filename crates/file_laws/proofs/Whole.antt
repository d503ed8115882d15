-- What whole contents have, in words of numbers.
use Rattle.std.specs.Prelude.{not, find, nat_le, slice_index, unwrap_or, option_map}
use Rattle.std.proofs.Common.{◌≡◌, ◌≢◌, ℕ, ◌+◌, ◌-◌, ◌*◌, ◌<◌, ◌≤◌, inl, inr, Bool, true, false, ◌&&◌, length, refl, sym, arith, subst, Option, Some, None}
use Rattle.std.specs.List.{range_with_len}
use Rattle.std.proofs.lemmas.Bool.{cases_lt, and_parts, eqb-true, eq-eqb, leb-true, ltb-true, ne_eqb, not-true, not-false, and_from, both_ways, false_from_ne_true}
use Rattle.std.proofs.lemmas.List.{get_or_past}
use Rattle.topo_base.specs.SignedEdge.{comes_before}
use Rattle.topo_base.specs.declared.id.TheConstants.{LARGEST_ID}
use Rattle.bit_words.proofs.Finds.{none-find, first_none}
use Rattle.parens.specs.Matching.{balance_fault}
use Rattle.parens.proofs.Balances.{IsBalanced, balanced-from}
use Rattle.code_laws.specs.Code.{start_of}
use Rattle.code_laws.specs.Numbers.{ring_of, is_outer, first_of_edge, tree_edges}
use Rattle.code_laws.specs.SeqFault.{is_sound}
use Rattle.code_laws.specs.declared.ring_number.RingNumber.TheVariants.{Outer}
use Rattle.id_names.specs.Names.{AreDistinctIds}
use Rattle.id_names.proofs.NumberLaws.{names_from_test}
use Rattle.file_laws.specs.Contents.{Contents, component_count}
use Rattle.file_laws.specs.MapOfFile.{signed_at}
use Rattle.file_laws.specs.Faults.{place_fault, order_fault, isolated_fault, places_fault, start_fault, member_fault, is_place, begins_before, is_smallest, is_ordered, is_isolated}
use Rattle.file_laws.specs.Lawful.{is_whole, has_sizes, size_tests, whole_tests}
use Rattle.file_laws.specs.declared.fault.FileFault.TheVariants as fault
use Rattle.file_laws.proofs.Lengths.{none-is_none}
use Rattle.file_laws.proofs.Lists.{list_all-at}
use Rattle.file_laws.proofs.Bridge.{IsSeen}
use Rattle.file_laws.proofs.Agreement.{test_at, whole_seen}

-- as many of each as there must be
pub record SizesFit (c : Contents) : Type 0 where
  pub positions : length c.code.a ≡ 2 * length c.edges
  pub starts : length c.code.starts ≡ component_count c + 1
  pub nodes : length c.nodes ≡ component_count c + tree_edges c.code + length c.isolated
  pub faces : length c.faces + tree_edges c.code ≡ length c.edges
  pub orders : length c.place_order ≡ component_count c
  pub few_components : component_count c ≤ length c.edges
  pub few_edges : length c.edges ≤ 16777216
  pub few_nodes : length c.nodes ≤ 16777216
  pub few_regions : length c.regions ≤ 16777216
  pub region_bits : length c.region_bits ≡ 2 * length c.regions

-- the place of component j: face 0, or the face of a number whose edge begins before the component
pub record HasPlace (c : Contents) (j : ℕ) : Type 0 where
  pub place : slice_index c.places j ≤ length c.faces
  pub earlier : slice_index c.places j ≢ 0 → unwrap_or (first_of_edge c.code (tree_edges c.code + (slice_index c.places j - 1))) 0 < start_of c.code j

pub record WholeParts (c : Contents) : Type 0 where
  pub seen : IsSeen c
  pub sizes : SizesFit c
  pub node_names : AreDistinctIds (LARGEST_ID + 1) c.nodes
  pub edge_names : AreDistinctIds (LARGEST_ID + 1) c.edges
  pub face_names : AreDistinctIds (LARGEST_ID + 1) c.faces
  pub placed : (j : ℕ) → j < component_count c → HasPlace c j
  pub order : (j : ℕ) → j < component_count c → slice_index c.place_order j < component_count c
  pub isolated : (j : ℕ) → j < length c.isolated → slice_index c.isolated j ≤ length c.faces
  -- no position of an outer ring has a smaller signed edge than the component's start
  pub smallest : (j p : ℕ) → j < component_count c → p < length c.code.a → ring_of c.code p ≡ Outer j → comes_before (signed_at c p) (signed_at c (start_of c.code j)) ≡ false
  pub region_names : AreDistinctIds (LARGEST_ID + 1) c.regions
  pub regions_nest : IsBalanced c.region_bits
  pub members : (x : ℕ) → slice_index c.members x ≤ length c.regions

pub option_none : {X Y : Type 0} (f : X → Y) (o : Option X) → option_map f o ≡ None → o ≡ None
option_none f None h = refl
option_none f (Some x) h = cc

passes : (test : ℕ → Bool) (n : ℕ) → find (λ j. not (test j)) (range_with_len 0 n) ≡ None → (j : ℕ) → j < n → test j ≡ true
passes test n h j l = not-false _ (none-find (λ j. not (test j)) 0 n h j (omega arith) (omega arith))

module _ (c : Contents) where
  sizes_fit : has_sizes c ≡ true → SizesFit c
  unfolding has_sizes
  sizes_fit h =
      let few = leb-true _ _ (test_at (size_tests c) 11 h) in
      record {
        positions = eqb-true _ _ (test_at (size_tests c) 0 h);
        starts = eqb-true _ _ (test_at (size_tests c) 1 h);
        nodes = eqb-true _ _ (test_at (size_tests c) 3 h);
        faces = eqb-true _ _ (test_at (size_tests c) 4 h);
        orders = eqb-true _ _ (test_at (size_tests c) 5 h);
        few_components = leb-true _ _ (test_at (size_tests c) 8 h);
        few_edges = leb-true _ _ (test_at (size_tests c) 9 h);
        few_nodes = leb-true _ _ (test_at (size_tests c) 10 h);
        few_regions = omega (arith, few);
        region_bits = eqb-true _ _ (test_at (size_tests c) 6 h);
      }

  before_from : (place p : ℕ) → begins_before c place p ≡ true → place ≢ 0 → unwrap_or (first_of_edge c.code (tree_edges c.code + (place - 1))) 0 < p
  before_from place p h n = ltb-true _ _ (rw (ne_eqb place 0 n) at h)

  has_place : place_fault c ≡ None → (j : ℕ) → j < component_count c → HasPlace c j
  unfolding place_fault
  has_place h j l =
      let t = passes (λ j. is_place c (slice_index c.places j) && begins_before c (slice_index c.places j) (start_of c.code j)) (component_count c) h j l in
      let p = and_parts (is_place c (slice_index c.places j)) (begins_before c (slice_index c.places j) (start_of c.code j)) t in
      record { place = leb-true _ _ p.0; earlier = before_from (slice_index c.places j) (start_of c.code j) p.1 }

  order_at : order_fault c ≡ None → (j : ℕ) → j < component_count c → slice_index c.place_order j < component_count c
  unfolding order_fault
  order_at h j l = ltb-true _ _ (and_parts _ _ (passes (is_ordered c) (component_count c) h j l)).0

  isolated_place : isolated_fault c ≡ None → (j : ℕ) → j < length c.isolated → slice_index c.isolated j ≤ length c.faces
  unfolding isolated_fault
  isolated_place h j l = leb-true _ _ (and_parts _ _ (passes (is_isolated c) (length c.isolated) h j l)).0

  smallest_at : start_fault c ≡ None → (j p : ℕ) → j < component_count c → p < length c.code.a → ring_of c.code p ≡ Outer j → comes_before (signed_at c p) (signed_at c (start_of c.code j)) ≡ false
  unfolding start_fault
  smallest_at h j p l m r =
      let t = passes (is_smallest c) (component_count c) (option_none fault.Start (find (λ j. not (is_smallest c j)) (range_with_len 0 (component_count c))) h) j l in
      let one = not-true _ (list_all-at (λ p. not (is_outer j (ring_of c.code p) && comes_before (signed_at c p) (signed_at c (start_of c.code j)))) 0 (length c.code.a) t p (omega arith) (omega (arith, m))) in
      let outer : is_outer j (ring_of c.code p) ≡ true = subst (λ x. is_outer j x ≡ true) (sym r) (self j) in
      false_from_ne_true _ (λ before. both_ways _ one (and_from _ _ outer before))
    where
      self : (j : ℕ) → is_outer j (Outer j) ≡ true
      self j = eq-eqb j j refl

  member_within : member_fault c ≡ None → (x : ℕ) → slice_index c.members x ≤ length c.regions
  unfolding member_fault
  member_within h x =
      elim (cases_lt x (length c.members)) [
        | inl l ↦ leb-true _ _ (passes (λ x. nat_le (slice_index c.members x) (length c.regions)) (length c.members) h x l)
        | inr g ↦ let e = get_or_past c.members x 0 g in omega (arith, e)
      ]

  places_parts : places_fault c ≡ None → (place_fault c ≡ None) × (order_fault c ≡ None) × (isolated_fault c ≡ None)
  unfolding places_fault
  places_parts h =
      let a = first_none (option_map (fault.Place 17) (place_fault c)) _ h in
      let b = first_none (option_map (fault.Place 18) (order_fault c)) _ a.1 in
      let d = first_none (option_map (fault.Place 19) (isolated_fault c)) _ b.1 in
      (option_none (fault.Place 17) (place_fault c) a.0, option_none (fault.Place 18) (order_fault c) b.0, option_none (fault.Place 19) (isolated_fault c) d.0)

  pub whole_sound : is_whole c ≡ true → is_sound c.code ≡ true
  unfolding is_whole
  whole_sound h = test_at (whole_tests c) 1 h

  pub whole_parts : is_whole c ≡ true → WholeParts c
  unfolding is_whole
  whole_parts h =
      let sizes = sizes_fit (test_at (whole_tests c) 0 h) in
      let places = places_parts (none-is_none (places_fault c) (test_at (whole_tests c) 6 h)) in
      record {
        seen = whole_seen c h;
        sizes = sizes;
        node_names = names_from_test (LARGEST_ID + 1) c.nodes (test_at (whole_tests c) 2 h);
        edge_names = names_from_test (LARGEST_ID + 1) c.edges (test_at (whole_tests c) 3 h);
        face_names = names_from_test (LARGEST_ID + 1) c.faces (test_at (whole_tests c) 4 h);
        placed = has_place places.0;
        order = order_at places.1;
        isolated = isolated_place places.2;
        smallest = smallest_at (none-is_none (start_fault c) (test_at (whole_tests c) 7 h));
        region_names = names_from_test (LARGEST_ID + 1) c.regions (test_at (whole_tests c) 5 h);
        regions_nest = balanced-from c.region_bits (none-is_none (balance_fault c.region_bits 0 (length c.region_bits)) (test_at (whole_tests c) 8 h));
        members = member_within (none-is_none (member_fault c) (test_at (whole_tests c) 9 h));
      }
