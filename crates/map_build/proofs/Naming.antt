-- The lists by number of a walk of consistent tables agree with what is made of the walk.
use Rattle.std.specs.Prelude.{ℤ, map, nat_lt, slice_index, slice_index_or, false}
use Rattle.std.proofs.Common.{◌≡◌, ℕ, ◌+◌, ◌-◌, ◌*◌, ◌%◌, ◌<◌, ◌≤◌, ◌==◌, Bool, true, List, length, refl, ap, sym, ◌∙◌, arith, subst}
use Rattle.std.proofs.lemmas.Bool.{lt-ltb}
use Rattle.std.proofs.lemmas.List.FromFn.{get_or-map-range_with_len, length-map-range_with_len}
use Rattle.topo_base.specs.SignedEdge.{edge_of as edge_id, is_forward}
use Rattle.plane_model.specs.declared.rows.EdgeRow.{EdgeRow}
use Rattle.plane_model.specs.Rows.{Rows}
use Rattle.plane_model.specs.InRange.{is_in_range}
use Rattle.plane_model.specs.Consistent.{is_consistent}
use Rattle.plane_model.specs.Faces.{outer_rings}
use Rattle.plane_model.specs.PlaneMap.{PlaneMap, map_of, origin, side}
use Rattle.rotation_check.specs.Darts.{signed_edge}
use Rattle.rotation_check.proofs.DartLists.{signed_there}
use Rattle.code_laws.specs.Code.{Code, positions, is_first}
use Rattle.code_laws.specs.Numbers.{edge_of, node_of, ring_of, edge_count, node_count, shell_count, tree_edges}
use Rattle.code_laws.specs.SeqFault.{is_sound}
use Rattle.code_laws.specs.Tour.{edge_numbers, node_numbers, ring_numbers, ring_code}
use Rattle.code_laws.specs.declared.ring_number.RingNumber.{RingNumber}
use Rattle.code_laws.specs.declared.ring_number.RingNumber.TheVariants.{Outer, Shell}
use Rattle.code_laws.proofs.Edges.{edge_within}
use Rattle.code_laws.proofs.Selects.{node_within}
use Rattle.code_laws.proofs.Sound.{SoundParts}
use Rattle.code_laws.proofs.Walked.{first_of_walk}
use Rattle.file_laws.specs.Contents.{Contents}
use Rattle.map_build.specs.ByNumber.{StandByNumber}
use Rattle.map_build.specs.DartRows.{row_at, start_of_dart, face_of_dart}
use Rattle.map_build.specs.Filled.{AreFilled}
use Rattle.map_build.specs.Made.{walked_at, made_with, faces_made}
use Rattle.map_build.specs.Tours.{IsWalkOf, code_of_tour, edges_of_tour}
use Rattle.map_build.specs.Walked.{IsMapWalk}
use Rattle.map_build.specs.declared.checked.Walked.{Walked}
use Rattle.map_build.proofs.DartRows as rows
use Rattle.map_build.proofs.Facts.{AreGood, good, id_positive}
use Rattle.map_build.proofs.Keys.{few_edges}
use Rattle.map_build.proofs.FromTour as tours
use Rattle.map_build.proofs.Complete as complete
use Rattle.map_build.proofs.MadeOrders as orders
use Rattle.map_build.proofs.Shells as shells
use Rattle.map_build.proofs.Steps as steps
use Rattle.map_build.proofs.Paired as paired

-- what holds of three values holds of three that are the same
moved : {A B C : Type 0} (P : A → B → C → Type 0) (a a2 : A) (b b2 : B) (c c2 : C) → a ≡ a2 → b ≡ b2 → c ≡ c2 → P a2 b2 c2 → P a b c
moved P a a2 b b2 c c2 e f g h = subst (λ x. P x b c) (sym e) (subst (λ y. P a2 y c) (sym f) (subst (λ z. P a2 b2 z) (sym g) h))

back : {A B C : Type 0} (P : A → B → C → Type 0) (a a2 : A) (b b2 : B) (c c2 : C) → a ≡ a2 → b ≡ b2 → c ≡ c2 → P a b c → P a2 b2 c2
back P a a2 b b2 c c2 e f g h = moved P a2 a b2 b c2 c (sym e) (sym f) (sym g) h

shell_back : (r : RingNumber) → nat_lt 0 (ring_code r) ≡ true → r ≡ Shell (ring_code r - 1)
shell_back (Outer j) h = cc
shell_back (Shell s) h = let e : s ≡ 1 + s - 1 = omega arith in ap Shell e

module _ (t : Rows) (range : is_in_range t ≡ true) (ok : is_consistent t ≡ true) (w : Walked) (walk : IsWalkOf t w) where
  g : AreGood t
  g = good t range ok

  abbrev darts : List ℕ
  darts = w.tour.darts.items

  abbrev tree : List Bool
  tree = w.tour.tree.items

  abbrev first : List Bool
  first = w.tour.first.items

  abbrev places : List ℕ
  places = w.tour.starts.items

  abbrev c : Code
  c = code_of_tour w.tour

  abbrev m : PlaneMap
  m = map_of t

  abbrev signed : List ℤ
  signed = edges_of_tour t.edges w.tour

  abbrev d : ℕ → ℤ
  d p = walked_at signed p

  abbrev row : ℕ → EdgeRow
  row p = row_at t.edges (slice_index darts p)

  pub other : ℕ → ℕ
  other = tours.other t g w.placement.starts walk.starts.are walk.starts.within darts tree first places walk.tour

  pub map_walk : IsMapWalk m (outer_rings m) signed tree first places other
  unfolding other
  map_walk = tours.map_walk t g w.placement.starts walk.starts.are walk.starts.within darts tree first places walk.tour

  abbrev made : Contents
  made = made_with m c signed (faces_made m c signed)

  filled : AreFilled m c signed made
  filled = orders.made_filled t g signed tree first places other map_walk

  sound_code : SoundParts c
  sound_code = steps.s m (outer_rings m) signed tree first places other map_walk

  pub sound : is_sound c ≡ true
  sound = paired.sound tree first places (length (outer_rings m)) other map_walk.paired

  pub within : (p : ℕ) → p < length tree → slice_index darts p < 2 * length t.edges
  within p l = let n = walk.tour.tree_len in tours.below t g w.placement.starts walk.starts.are walk.starts.within darts tree first places walk.tour p (omega (arith, l, n))

  walked : (p : ℕ) → p < length tree → d p ≡ signed_edge t.edges (slice_index darts p)
  walked p l = let n = walk.tour.tree_len in tours.signed_at t g w.placement.starts walk.starts.are walk.starts.within darts tree first places walk.tour p (omega (arith, l, n))

  positive : (p : ℕ) → p < length tree → 0 < (row p).id
  positive p l =
      let h = id_positive t g (signed_edge t.edges (slice_index darts p)) (signed_there t (slice_index darts p) (within p l)) in
      subst (λ n. 0 < n) (rows.id_of_signed t.edges (slice_index darts p)) h

  id_is : (p : ℕ) → p < length tree → (row p).id ≡ edge_id (d p)
  id_is p l = sym (ap edge_id (walked p l) ∙ rows.id_of_signed t.edges (slice_index darts p))

  forward_is : (p : ℕ) → p < length tree → (slice_index darts p % 2 == 0) ≡ is_forward (d p)
  forward_is p l = sym (ap is_forward (walked p l) ∙ rows.forward_of_dart t.edges (slice_index darts p) (positive p l))

  origin_is : (p : ℕ) → p < length tree → start_of_dart t.edges (slice_index darts p) ≡ origin m (d p)
  origin_is p l = sym (ap (origin m) (walked p l) ∙ rows.origin_of_dart t (slice_index darts p) g.labelled.edges (within p l) (positive p l))

  side_is : (p : ℕ) → p < length tree → face_of_dart t.edges (slice_index darts p) ≡ side m (d p)
  side_is p l = sym (ap (side m) (walked p l) ∙ rows.side_of_dart t (slice_index darts p) g.labelled.edges (within p l) (positive p l))

  numbered : (f : ℕ → ℕ) (p : ℕ) → p < length tree → slice_index (map f (positions c)) p ≡ f p
  numbered f p l = get_or-map-range_with_len f 0 (length tree) p p 0 l (omega arith)

  -- how many there are
  pub edges_many : length t.edges ≡ edge_count c
  edges_many = let a = walk.tour.tree_len in let b = walk.tour.darts_len in omega (arith, a, b)

  pub nodes_many : length w.placement.starts + tree_edges c ≡ node_count c
  nodes_many = let a = walk.tour.places_len in omega (arith, a)

  pub tree_edges_few : tree_edges c ≤ length t.edges
  tree_edges_few = let k = complete.kinds_many t g signed tree first places other map_walk in let e = edges_many in omega (arith, k, e)

  pub faces_many : length t.edges - tree_edges c ≡ shell_count c
  faces_many = let k = complete.kinds_many t g signed tree first places other map_walk in let e = edges_many in omega (arith, k, e)

  pub positions_many : length darts ≡ length tree
  positions_many = sym walk.tour.tree_len

  -- lists that have these values at the numbers
  edges_made : StandByNumber 0 (slice_index (edge_numbers c)) (λ p. (row p).id) (λ _. true) (length darts) made.edges
  edges_made =
      let n = positions_many in
      record {
        within = λ p l h. let i : p < length tree = omega (arith, l, n) in let a = edge_within c sound_code p i in let e = numbered (edge_of c) p i in let k = filled.edges_len in omega (arith, a, e, k);
        stands = λ p l h. let i : p < length tree = omega (arith, l, n) in ap (slice_index made.edges) (numbered (edge_of c) p i) ∙ filled.edges p i ∙ sym (id_is p i);
      }

  forward_made : StandByNumber false (slice_index (edge_numbers c)) (λ p. slice_index darts p % 2 == 0) (λ p. slice_index_or first p false) (length darts) made.forward
  forward_made =
      let n = positions_many in
      let flag = λ (p : ℕ) (i : p < length tree). first_of_walk tree first places map_walk.paired.lengths p i in
      record {
        within = λ p l h. let i : p < length tree = omega (arith, l, n) in let a = edge_within c sound_code p i in let e = numbered (edge_of c) p i in let k = filled.forward_len in omega (arith, a, e, k);
        stands = λ p l h. let i : p < length tree = omega (arith, l, n) in ap (λ e. slice_index_or made.forward e false) (numbered (edge_of c) p i) ∙ filled.forward p i (flag p i ∙ h) ∙ sym (forward_is p i);
      }

  nodes_made : StandByNumber 0 (slice_index (node_numbers c)) (λ p. start_of_dart t.edges (slice_index darts p)) (λ _. true) (length darts) filled.joined
  nodes_made =
      let n = positions_many in
      record {
        within = λ p l h. let i : p < length tree = omega (arith, l, n) in let a = node_within c sound_code p i in let e = numbered (node_of c) p i in let k = filled.joined_len in omega (arith, a, e, k);
        stands = λ p l h. let i : p < length tree = omega (arith, l, n) in ap (slice_index filled.joined) (numbered (node_of c) p i) ∙ filled.joined_at p i ∙ sym (origin_is p i);
      }

  ring_at : (p : ℕ) → p < length tree → slice_index (ring_numbers c) p ≡ ring_code (ring_of c p)
  ring_at p l = numbered (λ q. ring_code (ring_of c q)) p l

  shell_of : (p : ℕ) → p < length tree → nat_lt 0 (slice_index (ring_numbers c) p) ≡ true → ring_of c p ≡ Shell (slice_index (ring_numbers c) p - 1)
  shell_of p l h = let e = ring_at p l in shell_back (ring_of c p) (subst (λ n. nat_lt 0 n ≡ true) e h) ∙ ap (λ n. Shell (n - 1)) (sym e)

  faces_made_so : StandByNumber 0 (λ p. slice_index (ring_numbers c) p - 1) (λ p. face_of_dart t.edges (slice_index darts p)) (λ p. nat_lt 0 (slice_index (ring_numbers c) p)) (length darts) made.faces
  faces_made_so =
      let n = positions_many in
      record {
        within = λ p l h. let i : p < length tree = omega (arith, l, n) in let a = shells.shell_below t g signed tree first places other map_walk p (slice_index (ring_numbers c) p - 1) i (shell_of p i h) in let k = filled.faces_len in omega (arith, a, k);
        stands = λ p l h. let i : p < length tree = omega (arith, l, n) in filled.faces p (slice_index (ring_numbers c) p - 1) i (shell_of p i h) ∙ sym (side_is p i);
      }

  -- the same over lists that are the same
  pub all_within : (es : List EdgeRow) (ds : List ℕ) → es ≡ t.edges → ds ≡ darts → (p : ℕ) → p < length ds → slice_index ds p < 2 * length es
  all_within es ds e f =
      let P : List EdgeRow → List ℕ → ℕ → Type 0 = λ es ds z. (p : ℕ) → p < length ds → slice_index ds p < 2 * length es in
      moved P es t.edges ds darts 0 0 e f refl (λ p l. let n = positions_many in within p (omega (arith, l, n)))

  pub as_many : (f : ℕ → ℕ) (ds ns : List ℕ) → ds ≡ darts → ns ≡ map f (positions c) → length ns ≡ length ds
  as_many f ds ns e h = ap length h ∙ length-map-range_with_len f 0 (length tree) ∙ sym positions_many ∙ ap length (sym e)

  pub edges_agree : (es : List EdgeRow) (ds ns : List ℕ) → es ≡ t.edges → ds ≡ darts → ns ≡ edge_numbers c → (ids : List ℕ) × (length ids ≡ length es) × StandByNumber 0 (slice_index ns) (λ p. (row_at es (slice_index ds p)).id) (λ _. true) (length ds) ids
  edges_agree es ds ns e f h =
      let P : List EdgeRow → List ℕ → List ℕ → Type 0 = λ es ds ns. (ids : List ℕ) × (length ids ≡ length es) × StandByNumber 0 (slice_index ns) (λ p. (row_at es (slice_index ds p)).id) (λ _. true) (length ds) ids in
      moved P es t.edges ds darts ns (edge_numbers c) e f h (made.edges, filled.edges_len ∙ sym edges_many, edges_made)

  pub edges_named : (es : List EdgeRow) (ds ns ids : List ℕ) → es ≡ t.edges → ds ≡ darts → ns ≡ edge_numbers c → StandByNumber 0 (slice_index ns) (λ p. (row_at es (slice_index ds p)).id) (λ _. true) (length ds) ids
      → (p : ℕ) → p < length tree → slice_index ids (edge_of c p) ≡ edge_id (d p)
  edges_named es ds ns ids e f h stand p l =
      let P : List EdgeRow → List ℕ → List ℕ → Type 0 = λ es ds ns. StandByNumber 0 (slice_index ns) (λ p. (row_at es (slice_index ds p)).id) (λ _. true) (length ds) ids in
      let s = back P es t.edges ds darts ns (edge_numbers c) e f h stand in
      let n = positions_many in
      ap (slice_index ids) (sym (numbered (edge_of c) p l)) ∙ s.stands p (omega (arith, l, n)) refl ∙ id_is p l

  pub flags_agree : (ds ns : List ℕ) (fs : List Bool) (count : ℕ) → ds ≡ darts → ns ≡ edge_numbers c → fs ≡ first → count ≡ length t.edges
      → (bits : List Bool) × (length bits ≡ count) × StandByNumber false (slice_index ns) (λ p. slice_index ds p % 2 == 0) (λ p. slice_index_or fs p false) (length ds) bits
  flags_agree ds ns fs count f h k many =
      let P : List ℕ → List ℕ → List Bool → Type 0 = λ ds ns fs. (bits : List Bool) × (length bits ≡ count) × StandByNumber false (slice_index ns) (λ p. slice_index ds p % 2 == 0) (λ p. slice_index_or fs p false) (length ds) bits in
      moved P ds darts ns (edge_numbers c) fs first f h k (made.forward, filled.forward_len ∙ sym edges_many ∙ sym many, forward_made)

  pub flags_named : (ds ns : List ℕ) (fs bits : List Bool) → ds ≡ darts → ns ≡ edge_numbers c → fs ≡ first → StandByNumber false (slice_index ns) (λ p. slice_index ds p % 2 == 0) (λ p. slice_index_or fs p false) (length ds) bits
      → (p : ℕ) → p < length tree → is_first c p ≡ true → slice_index_or bits (edge_of c p) false ≡ is_forward (d p)
  flags_named ds ns fs bits f h k stand p l opens =
      let P : List ℕ → List ℕ → List Bool → Type 0 = λ ds ns fs. StandByNumber false (slice_index ns) (λ p. slice_index ds p % 2 == 0) (λ p. slice_index_or fs p false) (length ds) bits in
      let s = back P ds darts ns (edge_numbers c) fs first f h k stand in
      let n = positions_many in
      ap (λ e. slice_index_or bits e false) (sym (numbered (edge_of c) p l)) ∙ s.stands p (omega (arith, l, n)) (sym (first_of_walk tree first places map_walk.paired.lengths p l) ∙ opens) ∙ forward_is p l

  pub nodes_agree : (es : List EdgeRow) (ds ns : List ℕ) (count : ℕ) → es ≡ t.edges → ds ≡ darts → ns ≡ node_numbers c → count ≡ node_count c
      → (ids : List ℕ) × (length ids ≡ count) × StandByNumber 0 (slice_index ns) (λ p. start_of_dart es (slice_index ds p)) (λ _. true) (length ds) ids
  nodes_agree es ds ns count e f h many =
      let P : List EdgeRow → List ℕ → List ℕ → Type 0 = λ es ds ns. (ids : List ℕ) × (length ids ≡ count) × StandByNumber 0 (slice_index ns) (λ p. start_of_dart es (slice_index ds p)) (λ _. true) (length ds) ids in
      moved P es t.edges ds darts ns (node_numbers c) e f h (filled.joined, filled.joined_len ∙ sym many, nodes_made)

  pub nodes_named : (es : List EdgeRow) (ds ns ids : List ℕ) → es ≡ t.edges → ds ≡ darts → ns ≡ node_numbers c → StandByNumber 0 (slice_index ns) (λ p. start_of_dart es (slice_index ds p)) (λ _. true) (length ds) ids
      → (p : ℕ) → p < length tree → slice_index ids (node_of c p) ≡ origin m (d p)
  nodes_named es ds ns ids e f h stand p l =
      let P : List EdgeRow → List ℕ → List ℕ → Type 0 = λ es ds ns. StandByNumber 0 (slice_index ns) (λ p. start_of_dart es (slice_index ds p)) (λ _. true) (length ds) ids in
      let s = back P es t.edges ds darts ns (node_numbers c) e f h stand in
      let n = positions_many in
      ap (slice_index ids) (sym (numbered (node_of c) p l)) ∙ s.stands p (omega (arith, l, n)) refl ∙ origin_is p l

  pub faces_agree : (es : List EdgeRow) (ds ns : List ℕ) (count : ℕ) → es ≡ t.edges → ds ≡ darts → ns ≡ ring_numbers c → count ≡ shell_count c
      → (ids : List ℕ) × (length ids ≡ count) × StandByNumber 0 (λ p. slice_index ns p - 1) (λ p. face_of_dart es (slice_index ds p)) (λ p. nat_lt 0 (slice_index ns p)) (length ds) ids
  faces_agree es ds ns count e f h many =
      let P : List EdgeRow → List ℕ → List ℕ → Type 0 = λ es ds ns. (ids : List ℕ) × (length ids ≡ count) × StandByNumber 0 (λ p. slice_index ns p - 1) (λ p. face_of_dart es (slice_index ds p)) (λ p. nat_lt 0 (slice_index ns p)) (length ds) ids in
      moved P es t.edges ds darts ns (ring_numbers c) e f h (made.faces, filled.faces_len ∙ sym many, faces_made_so)

  pub faces_named : (es : List EdgeRow) (ds ns ids : List ℕ) → es ≡ t.edges → ds ≡ darts → ns ≡ ring_numbers c → StandByNumber 0 (λ p. slice_index ns p - 1) (λ p. face_of_dart es (slice_index ds p)) (λ p. nat_lt 0 (slice_index ns p)) (length ds) ids
      → (p s : ℕ) → p < length tree → ring_of c p ≡ Shell s → slice_index ids s ≡ side m (d p)
  faces_named es ds ns ids e f h stand p s l shell =
      let P : List EdgeRow → List ℕ → List ℕ → Type 0 = λ es ds ns. StandByNumber 0 (λ p. slice_index ns p - 1) (λ p. face_of_dart es (slice_index ds p)) (λ p. nat_lt 0 (slice_index ns p)) (length ds) ids in
      let k = back P es t.edges ds darts ns (ring_numbers c) e f h stand in
      let n = positions_many in
      let at : slice_index (ring_numbers c) p ≡ 1 + s = ring_at p l ∙ ap ring_code shell in
      let counts : nat_lt 0 (slice_index (ring_numbers c) p) ≡ true = lt-ltb 0 (slice_index (ring_numbers c) p) (omega (arith, at)) in
      let number : slice_index (ring_numbers c) p - 1 ≡ s = omega (arith, at) in
      ap (slice_index ids) (sym number) ∙ k.stands p (omega (arith, l, n)) counts ∙ side_is p l

  pub few_starts : length w.placement.starts + tree_edges c ≤ 33554432
  few_starts =
      let a = complete.few_components t g signed tree first places other map_walk in
      let b = edges_many in
      let e = few_edges t g in
      let f = tree_edges_few in
      let n = tours.count t g w.placement.starts walk.starts.are walk.starts.within in
      omega (arith, a, b, e, f, n)
