-- What is known of whole contents: their sizes, and which ids their map has.
use Rattle.std.specs.Prelude.{ℤ, ◌≢◌, not, map, filter, slice_index, slice_index_or, neg_ℤ, nat_le, nat_lt, is_some, option_map, find, unwrap_or, IsTrue, IsNone, MatchOption, if◌then◌else◌, ◌↔◌, ◌||◌}
use Rattle.std.proofs.Common.{◌≡◌, ℕ, suc, ◌+◌, ◌*◌, ◌-◌, ◌<◌, ◌≤◌, inl, inr, Bool, true, false, List, [], ◌∷◌, length, refl, ap, sym, ◌∙◌, arith, subst, Option, Some, None, ◌==◌, pos, negsuc}
use Rattle.std.proofs.lemmas.Bool.{cases_Bool, cases_eq, eq-eqb, ne_eqb, leb-true, le-leb, lt-ltb, and_from, false_from_ne_true}
use mathlib.Core.Bool.{beq}
use Rattle.bit_words.specs.Digits.{digits}
use Rattle.bit_words.proofs.DigitLaws.{digits-halved, digits-mono}
use Rattle.orbits.proofs.Lists.{from_filter, in_filter}
use Rattle.orbits.proofs.Numbers.{same_numbers}
use Rattle.plane_model.specs.declared.rows.NodeRow.{NodeRow}
use Rattle.plane_model.specs.declared.rows.EdgeRow.{EdgeRow}
use Rattle.plane_model.specs.declared.rows.FaceRow.{FaceRow}
use Rattle.plane_model.specs.Sets.{has, rising}
use Rattle.plane_model.specs.Rotation.{is_face}
use Rattle.plane_model.specs.Answers.{has_node, has_signed_edge}
use Rattle.plane_model.specs.Consistent.{size}
use Rattle.plane_model.proofs.Sorting.{rising-has}
use Rattle.topo_base.specs.declared.id.TheConstants.{LARGEST_ID}
use Rattle.topo_base.specs.SignedEdge as edges
use Rattle.code_laws.specs.Code.{Code, is_first, mate}
use Rattle.code_laws.specs.Numbers.{edge_of, first_of_edge, edge_count}
use Rattle.code_laws.specs.SeqFault.{is_sound}
use Rattle.code_laws.proofs.Sound.{sound_parts}
use Rattle.code_laws.proofs.Selects.{first_is}
use Rattle.id_names.specs.Names.{is_id, number_of}
use Rattle.file_laws.specs.Contents.{Contents, component_count}
use Rattle.file_laws.specs.MapOfFile.{signed_at, node_row, edge_row, face_at_place, rows_of_contents}
use Rattle.file_laws.specs.Lawful.{is_whole, has_sizes, size_tests, whole_tests}
use Rattle.file_laws.proofs.Lists.{has-index, index-has}
use Rattle.file_laws.proofs.Agreement.{test_at, agrees}
use Rattle.pemb_file.proofs.PlaceSteps.{signed-as, signed-other}
use Rattle.plane_model.proofs.RotationOrbits.{reverse-reverse}
use Rattle.file_laws.proofs.Whole.{WholeParts, whole_parts}
use Rattle.file_laws.proofs.Rotation.{face_there, face_ids}
use Rattle.file_laws.proofs.Sizes.{size_is}
use Rattle.navigate.specs.Bound.{map_with, line_digits, line_words, most_words}

-- some row has a key exactly where the key is among those that rows are made from
pub found_test : {R : Type 0} (key : R → ℕ) (row : ℕ → R) → ((x : ℕ) → key (row x) ≡ x) → (ids : List ℕ) (x : ℕ) → is_some (find (λ r. key r == x) (map row ids)) ≡ has ids x
found_test key row keeps [] x = refl
found_test key row keeps (y ∷ ys) x =
    elim (cases_eq y x) [
      | inl e ↦ rw (eq-eqb (key (row y)) x (keeps y ∙ e), eq-eqb x y (sym e)) refl
      | inr n ↦ rw (ne_eqb (key (row y)) x (λ e. n (sym (keeps y) ∙ e)), ne_eqb x y (λ e. n (sym e))) (found_test key row keeps ys x)
    ]

-- a mapped option is there where it was
pub some_map : {X Y : Type 0} (f : X → Y) (o : Option X) → is_some (option_map f o) ≡ is_some o
some_map f None = refl
some_map f (Some x) = refl

-- a number is found exactly where the id is among the names
pub named_test : (ids : List ℕ) (id : ℕ) (o : Option ℕ) → MatchOption o ((k : ℕ) → k < length ids → slice_index ids k ≢ id) (λ number. (number < length ids) × (slice_index ids number ≡ id)) → is_some o ≡ has ids id
named_test ids id None h = sym (false_from_ne_true (has ids id) (λ there. let r = index-has ids id there in absurd (h r.0 r.1 r.2)))
named_test ids id (Some k) h = sym (subst (λ x. has ids x ≡ true) h.1 (has-index ids k h.0))

pub node_test : (c : Contents) (n : ℕ) → has c.nodes n ≡ has_node (map_with c) n
node_test c n =
    sym (some_map (λ (r : NodeRow). r.face) (find (λ r. r.id == n) (rows_of_contents c).nodes) ∙ found_test (λ (r : NodeRow). r.id) (λ id. node_row c id (unwrap_or (number_of c.nodes id) 0)) (λ x. refl) (rising c.nodes) n ∙ rising-has c.nodes n)

pub edge_test : (c : Contents) (e : ℕ) → has c.edges e ≡ is_some ((map_with c).edges.at e)
edge_test c e =
    sym (some_map (λ (r : EdgeRow). r) (find (λ r. r.id == e) (rows_of_contents c).edges) ∙ found_test (λ (r : EdgeRow). r.id) (λ id. edge_row c id (unwrap_or (number_of c.edges id) 0)) (λ x. refl) (rising c.edges) e ∙ rising-has c.edges e)

-- an edge is found exactly where the map has it
pub edge_known : (c : Contents) (ids : List ℕ) (id : ℕ) (d : ℤ) (o : Option ℕ) → ids ≡ c.edges → id ≡ edges.edge_of d
    → MatchOption o ((k : ℕ) → k < length ids → slice_index ids k ≢ id) (λ number. (number < length ids) × (slice_index ids number ≡ id)) → is_some o ≡ has_signed_edge (map_with c) d
edge_known c ids id d o e f found = named_test ids id o found ∙ ap (λ xs. has xs id) e ∙ ap (has c.edges) f ∙ edge_test c (edges.edge_of d)

-- and a node
pub node_known : (c : Contents) (ids : List ℕ) (id : ℕ) (o : Option ℕ) → ids ≡ c.nodes
    → MatchOption o ((k : ℕ) → k < length ids → slice_index ids k ≢ id) (λ number. (number < length ids) × (slice_index ids number ≡ id)) → is_some o ≡ has_node (map_with c) id
node_known c ids id o e found = named_test ids id o found ∙ ap (λ xs. has xs id) e ∙ node_test c id

-- an edge's id with a direction, from its parts
pub edge_is : (c : Contents) (p e id : ℕ) (a b : Bool) (d : ℤ) → e ≡ edge_of c.code p → id ≡ slice_index c.edges e → a ≡ is_first c.code p → b ≡ slice_index_or c.forward e false
    → d ≡ (if beq a b then pos id else neg_ℤ (pos id)) → d ≡ signed_at c p
edge_is c p e id a b d is_edge is_id first forward is =
    elim (cases_Bool (beq a b)) [
      | inl t ↦ is ∙ rw t (sym (signed-as c p e id a b is_edge is_id first forward t))
      | inr f ↦ is ∙ rw f (sym (signed-other c p e id a b is_edge is_id first forward f))
    ]

no_such_edge : (k : Code) (number edges : ℕ) (o : Option ℕ) → o ≡ None → IsNone o ↔ (edge_count k ≤ number) → number < edges → length k.a ≡ 2 * edges → ⊥
no_such_edge k number edges o e none l many =
    let above = none.0 (subst (λ (x : Option ℕ). IsNone x) (sym e) refl) in
    absurd (omega (arith, above, l, many))

directed : (c : Contents) (p : ℕ) (b : Bool) (d : ℤ) → is_first c.code p ≡ true → b ≡ slice_index_or c.forward (edge_of c.code p) false → slice_index c.edges (edge_of c.code p) ≡ edges.edge_of d
    → signed_at c p ≡ (if beq b (edges.is_forward d) then d else edges.reverse d)
unfolding signed_at
directed c p b (pos n) first forward named = rw (first, sym forward) (by b named)
  where
    by : (b : Bool) → slice_index c.edges (edge_of c.code p) ≡ n → (if b then pos (slice_index c.edges (edge_of c.code p)) else neg_ℤ (pos (slice_index c.edges (edge_of c.code p)))) ≡ (if beq b true then pos n else neg_ℤ (pos n))
    by true e = ap pos e
    by false e = ap (λ x. neg_ℤ (pos x)) e
directed c p b (negsuc n) first forward named = rw (first, sym forward) (by b named)
  where
    by : (b : Bool) → slice_index c.edges (edge_of c.code p) ≡ suc n → (if b then pos (slice_index c.edges (edge_of c.code p)) else neg_ℤ (pos (slice_index c.edges (edge_of c.code p)))) ≡ (if beq b false then negsuc n else pos (suc n))
    by true e = ap pos e
    by false e = ap (λ x. neg_ℤ (pos x)) e

module _ (c : Contents) (h : is_whole c ≡ true) where
  pub w : WholeParts c
  w = whole_parts c h

  sizes : has_sizes c ≡ true
  unfolding is_whole
  sizes = test_at (whole_tests c) 0 h

  pub sound_code : is_sound c.code ≡ true
  unfolding is_whole
  sound_code = test_at (whole_tests c) 1 h

  few_components : component_count c ≤ length c.edges
  unfolding has_sizes
  few_components = leb-true _ _ (test_at (size_tests c) 8 sizes)

  -- no more than fit into the code's numbers
  pub few_nodes : length c.nodes ≤ 16777216
  few_nodes = w.sizes.few_nodes

  pub few_edges : length c.edges ≤ 16777216
  few_edges = w.sizes.few_edges

  pub few_faces : length c.faces ≤ 16777216
  few_faces = let s = w.sizes.faces in omega (arith, s, few_edges)

  pub forward_many : length c.forward ≡ length c.edges
  unfolding has_sizes
  forward_many = Rattle.std.proofs.lemmas.Bool.eqb-true _ _ (test_at (size_tests c) 2 sizes)

  pub members_many : length c.members ≡ length c.faces + 1
  unfolding has_sizes
  members_many = Rattle.std.proofs.lemmas.Bool.eqb-true _ _ (test_at (size_tests c) 7 sizes)

  pub edge_in : (k : Code) (e : ℕ) → k ≡ c.code → e < edge_count k → e < length c.edges
  edge_in k e same l =
      let s = w.sizes.positions in
      let many : length k.a ≡ length c.code.a = ap (λ (x : Code). length x.a) same in
      omega (arith, s, many, l)

  pub edge_missing : (k : Code) (number : ℕ) (o : Option ℕ) → k ≡ c.code → o ≡ None → IsNone o ↔ (edge_count k ≤ number) → number < length c.edges → ⊥
  edge_missing k number o same e none l =
      let s = w.sizes.positions in
      let many : length k.a ≡ length c.code.a = ap (λ (x : Code). length x.a) same in
      no_such_edge k number (length c.edges) o e none l (many ∙ s)

  pub id_ok : (e id : ℕ) → e < length c.edges → id ≡ slice_index c.edges e → IsTrue (is_id (LARGEST_ID + 1) id)
  id_ok e id l is = let r = w.edge_names.in_range e l in and_from (nat_le 1 id) (nat_lt id (LARGEST_ID + 1)) (le-leb 1 id (omega (arith, is, r.0))) (lt-ltb id (LARGEST_ID + 1) (omega (arith, is, r.1)))

  -- the first position of an edge, and its mate
  pub first_edge : (k : Code) (number first : ℕ) (b : Bool) (d : ℤ) → k ≡ c.code → Some first ≡ first_of_edge k number → b ≡ slice_index_or c.forward number false → slice_index c.edges number ≡ edges.edge_of d
      → signed_at c (if beq b (edges.is_forward d) then first else mate c.code first) ≡ d
  first_edge k number first b d same e forward named =
      let is = first_is c.code (sound_parts c.code sound_code) number first (ap (λ (x : Code). first_of_edge x number) (sym same) ∙ sym e) in
      let at = directed c first b d is.1 (forward ∙ ap (λ x. slice_index_or c.forward x false) (sym is.2)) (ap (slice_index c.edges) is.2 ∙ named) in
      elim (cases_Bool (beq b (edges.is_forward d))) [
        | inl t ↦ rw t (at ∙ rw t refl)
        | inr f ↦ rw f ((agrees c w.seen).reversed first is.0 ∙ ap edges.reverse (at ∙ rw f refl) ∙ reverse-reverse d)
      ]

  pub digits_code : digits (length c.code.a + 2) ≤ line_digits c
  digits_code = let s = w.sizes.positions in digits-mono _ _ (omega (arith, s))

  pub digits_nodes : digits (length c.nodes + 2) ≤ line_digits c
  digits_nodes = let s = w.sizes in let a = s.nodes in let b = s.faces in let d = few_components in digits-mono _ _ (omega (arith, a, b, d))

  pub digits_edges : digits (length c.edges + 2) ≤ line_digits c
  digits_edges = digits-mono _ _ (omega arith)

  pub digits_faces : digits (length c.faces + 2) ≤ line_digits c
  digits_faces = let b = w.sizes.faces in digits-mono _ _ (omega (arith, b))

  pub digits_components : digits (component_count c) + 1 ≤ line_digits c
  digits_components = let d = few_components in digits-halved _ _ (omega arith) (omega (arith, d))

  pub digits_isolated : digits (length c.isolated) ≤ line_digits c
  digits_isolated = digits-mono _ _ (omega arith)

  pub digits_view : (k : Code) → k ≡ c.code → digits (length k.a + 2) ≤ line_digits c
  digits_view k e = subst (λ (x : Code). digits (length x.a + 2) ≤ line_digits c) (sym e) digits_code

  -- what bounds are measured by is the map's size
  pub digits_line : digits (size (map_with c)) ≡ line_digits c
  digits_line = ap digits (size_is c w)

  pub words_line : (walked listed : ℕ) → most_words (map_with c) walked listed ≡ line_words c walked listed
  words_line walked listed = ap (λ d. 256 * d * (walked + listed + 1) + 128 * d) digits_line

  -- faces
  face_from : (f : ℕ) → has (map_with c).faces f ≡ true → has c.faces f ≡ true
  face_from f there =
      let ids = map (λ (r : FaceRow). r.id) (rows_of_contents c).faces in
      let at = from_filter same_numbers (λ f. not (f == 0)) ids f (sym (rising-has (filter (λ f. not (f == 0)) ids) f) ∙ there) in
      let risen : has (rising c.faces) f ≡ true = subst (λ xs. has xs f ≡ true) (face_ids c w) at.1 in
      sym (rising-has c.faces f) ∙ risen

  pub face_test : (f : ℕ) → has c.faces f ≡ has (map_with c).faces f
  face_test f =
      Rattle.orbits.proofs.Lists.same_tests (has c.faces f) (has (map_with c).faces f)
      (λ there. let r = index-has c.faces f there in subst (λ x. has (map_with c).faces x ≡ true) r.2 (face_there c w r.0 r.1))
      (face_from f)

  pub known_face : (ids : List ℕ) (f : ℕ) (o : Option ℕ) → ids ≡ c.faces → f ≢ 0 → MatchOption o ((k : ℕ) → k < length ids → slice_index ids k ≢ f) (λ number. (number < length ids) × (slice_index ids number ≡ f)) → is_some o ≡ is_face (map_with c) f
  known_face ids f o e n found =
      let off = ne_eqb f 0 n in
      let test : is_some o ≡ has (map_with c).faces f = named_test ids f o found ∙ ap (λ xs. has xs f) e ∙ face_test f in
      test ∙ sym (ap (λ b. b || has (map_with c).faces f) off)

pub place_next : (c : Contents) (s : ℕ) → face_at_place c (s + 1) ≡ slice_index c.faces s
place_next c s =
    let off : ((s + 1) == 0) ≡ false = ne_eqb (s + 1) 0 (λ z. absurd (omega (arith, z))) in
    let back : s + 1 - 1 ≡ s = omega arith in
    rw off (ap (slice_index c.faces) back)
