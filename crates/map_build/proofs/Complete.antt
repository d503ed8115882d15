-- What is made of a walk of consistent tables is whole.
use Rattle.std.specs.Prelude.{ℤ, pos, negsuc, map, not, nat_le, slice_index, slice_get, unwrap_or, is_none}
use Rattle.std.proofs.Common.{◌≡◌, ◌≢◌, ℕ, zero, suc, ◌+◌, ◌-◌, ◌*◌, ◌<◌, ◌≤◌, ◌⊎◌, inl, inr, Bool, true, false, ◌&&◌, List, [], ◌∷◌, length, refl, ap, sym, ◌∙◌, arith, subst, Option, Some, None, ◌==◌}
use Rattle.std.specs.List.{range_with_len, list_all}
use Rattle.std.proofs.lemmas.Bool.{cases_lt, cases_eq, and_parts, and_from, lt-ltb, le-leb, eqb-true, eq-eqb, ne_eqb, or_cases, both_ways, false_from_ne_true, or_right}
use Rattle.orbits.proofs.Numbers.{same_numbers, in_range}
use Rattle.orbits.proofs.Lists.{from_filter, pigeon}
use Rattle.bit_words.specs.Lists.{first_some}
use Rattle.bit_words.proofs.Finds.{find-none, least-find}
use Rattle.bit_words.proofs.Ranks.{rank_both}
use Rattle.parens.specs.Matching.{balance_fault}
use Rattle.topo_base.specs.declared.id.TheConstants.{LARGEST_ID}
use Rattle.topo_base.specs.SignedEdge.{edge_of as edge_id, is_forward, reverse, same_edge, comes_before}
use Rattle.plane_model.specs.Rows.{Rows}
use Rattle.plane_model.specs.Sets.{has, has_edge}
use Rattle.plane_model.specs.PlaneMap.{PlaneMap, map_of, signed_edges, side, ring, rings, smallest}
use Rattle.plane_model.specs.Component.{component}
use Rattle.plane_model.specs.Faces.{outer_rings}
use Rattle.plane_model.proofs.SetLaws.{same_is, same_edges}
use Rattle.plane_model.proofs.SortedEdges.{smallest_least}
use Rattle.plane_model.proofs.Sorting.{rising-has}
use Rattle.placement_laws.specs.Placing.{IsShellOfEarlier}
use Rattle.placement_laws.proofs.Parts.{rings-signed, rings-one}
use Rattle.placement_laws.proofs.Found.{start_one}
use Rattle.code_laws.specs.Code.{Code, start_of, component_of, component_count}
use Rattle.code_laws.specs.Numbers.{edge_of, ring_of, is_outer, is_shell, first_of_edge, first_of_shell, edge_count, shell_count, tree_edges, opening_position, one_on}
use Rattle.code_laws.specs.declared.ring_number.RingNumber.{RingNumber}
use Rattle.code_laws.specs.declared.ring_number.RingNumber.TheVariants.{Outer, Shell}
use Rattle.code_laws.specs.SeqFault.{is_sound}
use Rattle.code_laws.specs.Tour.{code_of}
use Rattle.code_laws.proofs.Sound.{SoundParts, whole, rises_to}
use Rattle.code_laws.proofs.Edges.{laws, one_edge, edge_there, edge_within, closed}
use Rattle.code_laws.proofs.Selects.{other_edge, shell_by_select}
use Rattle.id_names.specs.Names.{number_of, AreDistinctIds, is_names}
use Rattle.id_names.proofs.NumberLaws.{names_pass}
use Rattle.file_laws.specs.Contents.{Contents}
use Rattle.file_laws.specs.MapOfFile.{signed_at}
use Rattle.file_laws.specs.Faults.{is_place, begins_before, place_fault, places_fault, is_smallest, start_fault, member_fault, most}
use Rattle.file_laws.specs.Lawful.{all_of, has_sizes, is_whole}
use Rattle.file_laws.proofs.Lists.{index-has}
use Rattle.std.proofs.lemmas.List.FromFn.{length-range_with_len}
use Rattle.map_build.specs.Made.{walked_at, made_with, faces_made, place_of, member_number}
use Rattle.map_build.specs.Walked.{IsMapWalk}
use Rattle.map_build.proofs.Paired as paired
use Rattle.map_build.proofs.Steps as steps
use Rattle.map_build.proofs.Facts.{AreGood, made_at, length-made}
use Rattle.map_build.proofs.Keys.{few_nodes, few_edges, edge_in_range, face_in_range, edges_many}
use Rattle.map_build.proofs.Positions as at_positions
use Rattle.map_build.proofs.Shells.{list_has, number_there}
use Rattle.map_build.proofs.Shells as shells
use Rattle.map_build.proofs.Flats.{length-map, apart_at, map_at}
use Rattle.map_build.proofs.PlaceOrder.{edges_one}
use Rattle.map_build.proofs.PlaceOrder as order
use Rattle.map_build.proofs.Isolated as isolated
use Rattle.map_build.proofs.MadeRegions as regions

-- tests that all hold
ten : {a b c d e f g h i j : Bool} → a ≡ true → b ≡ true → c ≡ true → d ≡ true → e ≡ true → f ≡ true → g ≡ true → h ≡ true → i ≡ true → j ≡ true → all_of (a ∷ b ∷ c ∷ d ∷ e ∷ f ∷ g ∷ h ∷ i ∷ j ∷ []) ≡ true
ten p q r s t u v w x y = rw (p, q, r, s, t, u, v, w, x, y) refl

twelve : {a b c d e f g h i j k l : Bool} → a ≡ true → b ≡ true → c ≡ true → d ≡ true → e ≡ true → f ≡ true → g ≡ true → h ≡ true → i ≡ true → j ≡ true → k ≡ true → l ≡ true
    → all_of (a ∷ b ∷ c ∷ d ∷ e ∷ f ∷ g ∷ h ∷ i ∷ j ∷ k ∷ l ∷ []) ≡ true
twelve p q r s t u v w x y z o = rw (p, q, r, s, t, u, v, w, x, y, z, o) refl

-- signed edges with one id
pub same_id : (x y : ℤ) → edge_id x ≡ edge_id y → (x ≡ y) ⊎ (y ≡ reverse x)
same_id (pos i) (pos j) e = inl (ap pos e)
same_id (pos zero) (negsuc j) e = absurd (omega (arith, e))
same_id (pos (suc i)) (negsuc j) e = let s : j ≡ i = omega (arith, e) in inr (ap negsuc s)
same_id (negsuc i) (pos j) e = inr (ap pos (sym e))
same_id (negsuc i) (negsuc j) e = let s : i ≡ j = omega (arith, e) in inl (ap negsuc s)

all_range : (test : ℕ → Bool) (low n : ℕ) → ((x : ℕ) → low ≤ x → x < low + n → test x ≡ true) → list_all test (range_with_len low n) ≡ true
all_range test low zero h = refl
all_range test low (suc n) h = and_from (test low) (list_all test (range_with_len (low + 1) n)) (h low (omega arith) (omega arith)) (all_range test (low + 1) n (λ x a b. h x (omega (arith, a)) (omega (arith, b))))

one_on-some : (o : Option ℕ) (q : ℕ) → one_on o ≡ Some q → (x : ℕ) × (o ≡ Some x) × (x + 1 ≡ q)
one_on-some None q e = cc
one_on-some (Some x) q e = (x, refl, cc)

get_there : (ds : List ℤ) (j : ℕ) → j < length ds → slice_get ds j ≡ Some (walked_at ds j)
get_there [] j l = absurd (omega (arith, l))
get_there (x ∷ ds) zero l = refl
get_there (x ∷ ds) (suc j) l = get_there ds j (omega (arith, l))

get_some : (ds : List ℤ) (j : ℕ) (d : ℤ) → slice_get ds j ≡ Some d → (j < length ds) × (walked_at ds j ≡ d)
get_some [] j d e = cc
get_some (x ∷ ds) zero d e = (omega arith, cc)
get_some (x ∷ ds) (suc j) d e = let r = get_some ds j d e in (omega (arith, r.0), r.1)

is_outer-same : (j : ℕ) (r : RingNumber) → is_outer j r ≡ true → r ≡ Outer j
is_outer-same j (Outer i) h = ap Outer (eqb-true i j h)
is_outer-same j (Shell s) h = cc

place_of-some : (faces : List ℕ) (f k : ℕ) → f ≢ 0 → number_of faces f ≡ Some k → place_of faces f ≡ k + 1
place_of-some faces f k n e = rw (ne_eqb f 0 n) (rw e refl)

is_shell-self : (s : ℕ) → is_shell s (Shell s) ≡ true
is_shell-self s = eq-eqb s s refl

-- no position of a shell is before its first
first_shell_least : (c : Code) (r q p : ℕ) → first_of_shell c r ≡ Some q → ring_of c p ≡ Shell r → q ≤ p
unfolding first_of_shell
first_shell_least c r q p e h =
    let k = least-find (λ p. is_shell r (ring_of c p)) 0 (length c.a) q e in
    elim (cases_lt p q) [
      | inl l ↦ absurd (both_ways _ (k.before p (omega arith) l) (subst (λ x. is_shell r x ≡ true) (sym h) (is_shell-self r)))
      | inr g ↦ g
    ]

module _ (t : Rows) (g : AreGood t) (darts : List ℤ) (tree first : List Bool) (places : List ℕ) (other : ℕ → ℕ)
    (w : IsMapWalk (map_of t) (outer_rings (map_of t)) darts tree first places other) where
  abbrev m : PlaneMap
  m = map_of t

  abbrev outer : List ℤ
  outer = outer_rings m

  abbrev c : Code
  c = code_of tree first places

  abbrev d : ℕ → ℤ
  d p = walked_at darts p

  abbrev faces : List ℕ
  faces = faces_made m c darts

  abbrev made : Contents
  made = made_with m c darts faces

  s : SoundParts c
  s = steps.s m outer darts tree first places other w

  pub face_names : AreDistinctIds (LARGEST_ID + 1) faces
  face_names =
      record {
        in_range = λ k l. face_in_range t g (slice_index faces k) (shells.face_from t g darts tree first places other w k l);
        distinct = λ j k l r e. shells.faces_apart t g darts tree first places other w j k l r e;
      }

  pub edges_len : length made.edges ≡ edge_count c
  edges_len = length-made edge_id (λ e. d (unwrap_or (first_of_edge c e) 0)) 0 (edge_count c)

  -- as many positions as signed edges
  pub positions_many : length tree ≡ 2 * length t.edges
  positions_many = sym w.all ∙ edges_many t g

  pub edge_at : (e : ℕ) → e < edge_count c → (p : ℕ) × (p < length tree) × (edge_of c p ≡ e) × (slice_index made.edges e ≡ edge_id (d p))
  edge_at e l =
      let p = edge_there c s e (omega (arith, l)) in
      let first_is = at_positions.first_of t g outer darts tree first places other w faces p.0 p.1 p.2 in
      let at = at_positions.id_at t g outer darts tree first places other w faces p.0 p.0 p.1 first_is in
      (p.0, p.1, p.3, subst (λ x. slice_index made.edges x ≡ edge_id (d p.0)) p.3 at)

  same_number : (p q : ℕ) → p < length tree → q < length tree → (d p ≡ d q) ⊎ (d q ≡ reverse (d p)) → edge_of c p ≡ edge_of c q
  same_number p q l r (inl e) = ap (edge_of c) (w.once p q l r e)
  same_number p q l r (inr e) =
      let is = w.once q (other p) r (w.paired.within p l) (e ∙ sym (w.reversed p l)) in
      let mate_is = steps.mate_is m outer darts tree first places other w p l in
      sym (laws c s p l).edge ∙ ap (edge_of c) (mate_is ∙ sym is)

  pub edge_names : AreDistinctIds (LARGEST_ID + 1) made.edges
  edge_names =
      let n = edges_len in
      record {
        in_range = λ k l. let p = edge_at k (omega (arith, l, n)) in subst (λ x. (1 ≤ x) × (x < LARGEST_ID + 1)) (sym p.3) (edge_in_range t g (d p.0) (w.there p.0 p.1));
        distinct = λ j k l r e.
            let p = edge_at j (omega (arith, l, n)) in
            let q = edge_at k (omega (arith, r, n)) in
            sym p.2 ∙ same_number p.0 q.0 p.1 q.1 (same_id (d p.0) (d q.0) (sym p.3 ∙ e ∙ q.3)) ∙ q.2;
      }

  -- a ring that is no outer ring is a shell of the code
  shell_position : (q : ℤ) → has_edge (rings m) q ≡ true → has_edge outer q ≡ false → (p : ℕ) × (p < length tree) × (d p ≡ q) × ((x : ℕ) × (ring_of c p ≡ Shell x))
  shell_position q is_ring inner =
      let p = w.each q (rings-signed m q is_ring) in
      elim (shells.either_ring (ring_of c p.0)) [
        | inl o ↦
            let k = shells.outer_below t g darts tree first places other w p.0 o.0 p.1 o.1 in
            let on = subst (λ x. has_edge (ring m (walked_at outer o.0)) x ≡ true) p.2 (shells.outer_on t g darts tree first places other w p.0 o.0 p.1 o.1) in
            let is = rings-one m g.parts (walked_at outer o.0) q (g.placing.among (walked_at outer o.0) (list_has outer o.0 k)) is_ring on in
            absurd (both_ways _ inner (subst (λ x. has_edge outer x ≡ true) is (list_has outer o.0 k)))
        | inr r ↦ (p.0, p.1, p.2, r)
      ]

  count_is : component_count c ≡ length outer
  count_is = shells.count_is t g darts tree first places other w

  -- the shell of a component's place begins before the component
  shell_before : (j k : ℕ) → j < length outer → k < length faces → slice_index faces k ≡ side m (walked_at outer j) → IsShellOfEarlier m outer j (side m (walked_at outer j)) → unwrap_or (first_of_edge c (tree_edges c + k)) 0 < start_of c j
  shell_before j k l r is o =
      let p = shell_position o.shell o.is_ring o.no_start in
      let x = p.3 in
      let x_in = shells.shell_below t g darts tree first places other w p.0 x.0 p.1 x.1 in
      let n = shells.faces_len t g darts tree first places other w in
      let face_x = shells.face_of_shell t g darts tree first places other w p.0 x.0 p.1 x.1 in
      let x_is : x.0 ≡ k = shells.faces_apart t g darts tree first places other w x.0 k (omega (arith, x_in, n)) r (face_x ∙ ap (side m) p.2 ∙ o.its_face ∙ sym is) in
      let ring_is : ring_of c p.0 ≡ Shell k = x.1 ∙ ap Shell x_is in
      let i = steps.in_part m outer darts tree first places other w p.0 p.1 in
      let start_is = get_some outer o.earlier o.start o.its_start in
      let own = w.component i.0 p.0 i.1 i.2.from i.2.to in
      let there : has_edge outer o.start ≡ true = subst (λ y. has_edge outer y ≡ true) start_is.1 (list_has outer o.earlier start_is.0) in
      let one = start_one m g.parts outer g.placing (d p.0) (walked_at outer i.0) o.start (list_has outer i.0 i.1) own there (subst (λ y. has_edge (component m o.start) y ≡ true) (sym p.2) o.within) in
      let same : o.earlier ≡ i.0 = edges_one outer g.placing.apart o.earlier i.0 start_is.0 i.1 (start_is.1 ∙ one) in
      let e = o.is_earlier in
      let cnt = count_is in
      let up = rises_to c s.laid (i.0 + 1) j (omega (arith, same, e)) (omega (arith, l, cnt)) in
      let to = i.2.to in
      let q = shells.shell_at t g darts tree first places other w k (omega (arith, r, n)) in
      let least = first_shell_least c k q.0 p.0 q.1 ring_is in
      let opening = one_on-some (opening_position c false k) q.0 (sym (shell_by_select c s k) ∙ q.1) in
      let edge_first : first_of_edge c (tree_edges c + k) ≡ Some opening.0 = other_edge c s k ∙ opening.1 in
      rw edge_first (omega (arith, up, to, least, opening.2))

  place_before : (j place : ℕ) → j < length outer → place ≡ place_of faces (side m (walked_at outer j)) → begins_before made place (start_of c j) ≡ true
  place_before j place l e =
      let f = side m (walked_at outer j) in
      elim (cases_eq f 0) [
        | inl z ↦ let p : place ≡ 0 = e ∙ ap (place_of faces) z in rw p refl
        | inr n ↦
            let there : has m.faces f ≡ true = elim (or_cases (f == 0) (has m.faces f) (shells.side_face t g darts tree first places other w (walked_at outer j) (shells.outer_signed t g darts tree first places other w j l))) [ inl z ↦ absurd (n (eqb-true f 0 z)) | inr k ↦ k ] in
            let k = number_there faces f (shells.face_there t g darts tree first places other w f there) in
            let p : place ≡ k.0 + 1 = e ∙ place_of-some faces f k.0 n k.1 in
            let earlier : IsShellOfEarlier m outer j f = elim (g.placing.order j (walked_at outer j) (get_there outer j l)) [ inl z ↦ absurd (n z) | inr o ↦ o ] in
            let before = shell_before j k.0 l k.2 k.3 earlier in
            let back : k.0 + 1 - 1 ≡ k.0 = omega arith in
            rw p (rw (ne_eqb (k.0 + 1) 0 (λ z. omega (arith, z))) (rw back (lt-ltb _ _ before)))
      ]

  places_len : length made.places ≡ length outer
  places_len = length-map (λ r. place_of faces (side m r)) outer

  no_place_fault : place_fault made ≡ None
  unfolding place_fault
  no_place_fault =
      let n = places_len in
      find-none (λ j. not (is_place made (slice_index made.places j) && begins_before made (slice_index made.places j) (start_of c j))) 0 (length made.places) (λ j a b.
      let l : j < length outer = omega (arith, b, n) in
      let at = shells.place_at t g darts tree first places other w j l in
      let below = shells.place_below t g darts tree first places other w (side m (walked_at outer j)) (shells.side_face t g darts tree first places other w (walked_at outer j) (shells.outer_signed t g darts tree first places other w j l)) in
      let both = and_from (is_place made (slice_index made.places j)) (begins_before made (slice_index made.places j) (start_of c j)) (le-leb _ _ (omega (arith, at, below))) (place_before j (slice_index made.places j) l at) in
      rw both refl)

  no_places_fault : places_fault made ≡ None
  unfolding places_fault first_some
  no_places_fault =
      rw no_place_fault (rw (order.no_order_fault t g darts tree first places other w face_names) (rw (isolated.no_isolated_fault t g darts tree first places other w face_names) refl))

  -- the start of a component is the smallest of its outer ring
  smallest_at : (j : ℕ) → j < length outer → is_smallest made j ≡ true
  smallest_at j l =
      let r = walked_at outer j in
      let start_in = shells.start_in t g darts tree first places other w j l in
      let start_is : signed_at made (start_of c j) ≡ r = at_positions.signed_walked t g outer darts tree first places other w faces (start_of c j) start_in ∙ w.starts j l in
      let named = from_filter same_edges (λ d. same_edge d (smallest d (ring m d))) (signed_edges m) r (g.placing.among r (list_has outer j l)) in
      let least = smallest_least r (ring m r) in
      all_range (λ p. not (is_outer j (ring_of c p) && comes_before (signed_at made p) (signed_at made (start_of c j)))) 0 (length tree) (λ p a b.
      let p_in : p < length tree = omega (arith, b) in
      let no : (is_outer j (ring_of c p) && comes_before (signed_at made p) (signed_at made (start_of c j))) ≡ false =
      false_from_ne_true _ (λ both.
      let k = and_parts (is_outer j (ring_of c p)) (comes_before (signed_at made p) (signed_at made (start_of c j))) both in
      let on = shells.outer_on t g darts tree first places other w p j p_in (is_outer-same j (ring_of c p) k.0) in
      let here = at_positions.signed_walked t g outer darts tree first places other w faces p p_in in
      let less : comes_before (d p) r ≡ true = subst (λ x. comes_before x r ≡ true) here (subst (λ x. comes_before (signed_at made p) x ≡ true) start_is k.1) in
      let never : comes_before (d p) (smallest r (ring m r)) ≡ false = least.least (d p) (or_right (same_edge (d p) r) (has_edge (ring m r) (d p)) on) refl in
      both_ways _ (subst (λ x. comes_before (d p) x ≡ false) (sym (same_is r (smallest r (ring m r)) named.0)) never) less) in
      rw no refl)

  no_start_fault : start_fault made ≡ None
  unfolding start_fault
  no_start_fault =
      let n = places_len in
      let none = find-none (λ j. not (is_smallest made j)) 0 (length made.places) (λ j a b. rw (smallest_at j (omega (arith, b, n))) refl) in
      rw none refl

  no_member_fault : member_fault made ≡ None
  unfolding member_fault
  no_member_fault =
      find-none (λ x. not (nat_le (slice_index made.members x) (length made.regions))) 0 (length made.members) (λ x a b.
      let n = length-map (member_number m) (0 ∷ faces) in
      let at = map_at (member_number m) (0 ∷ faces) x (omega (arith, b, n)) in
      let below = regions.number_below t g (slice_index (0 ∷ faces) x) in
      rw (le-leb (slice_index made.members x) (length made.regions) (omega (arith, at, below))) refl)

  -- sizes
  pub kinds_many : tree_edges c + shell_count c ≡ edge_count c
  kinds_many =
      let ht = rank_both c.tree (length c.tree) (omega arith) in
      let hd = rank_both c.dual (length c.dual) (omega arith) in
      let ct = closed c.tree (whole c s true) in
      let cd = closed c.dual (whole c s false) in
      omega (arith, s.laid.sizes, ht, hd, ct, cd)

  pub few_components : length outer ≤ edge_count c
  few_components =
      let n = length outer in
      let ns = map (edge_of c) (map (λ j. start_of c j) (range_with_len 0 n)) in
      let size : length ns ≡ n = length-made (edge_of c) (λ j. start_of c j) 0 n in
      let at = λ (j : ℕ) (l : j < n). made_at (edge_of c) (λ j. start_of c j) 0 n j l in
      let apart = apart_at ns (λ j k l r e.
      let j_in : j < n = omega (arith, l, size) in
      let k_in : k < n = omega (arith, r, size) in
      let pj = shells.start_in t g darts tree first places other w j j_in in
      let pk = shells.start_in t g darts tree first places other w k k_in in
      let cj = shells.start_component t g darts tree first places other w j j_in in
      let ck = shells.start_component t g darts tree first places other w k k_in in
      let same = sym (at j j_in) ∙ e ∙ at k k_in in
      elim (one_edge c s (start_of c j) (start_of c k) pj pk same) [
        | inl x ↦ sym cj ∙ ap (component_of c) x ∙ ck
        | inr x ↦ sym cj ∙ ap (component_of c) x ∙ (laws c s (start_of c k) pk).component ∙ ck
      ]) in
      let most = pigeon same_numbers ns (range_with_len 0 (edge_count c)) apart (λ x h.
      let i = index-has ns x h in
      let i_in : i.0 < n = omega (arith, i.1, size) in
      let p = shells.start_in t g darts tree first places other w i.0 i_in in
      let b = edge_within c s (start_of c i.0) p in
      let is : edge_of c (start_of c i.0) ≡ x = sym (at i.0 i_in) ∙ i.2 in
      in_range 0 (edge_count c) x (omega arith) (omega (arith, b, is))) in
      let len = length-range_with_len 0 (edge_count c) in
      omega (arith, most, size, len)

  nodes_few : length made.nodes ≤ length t.nodes
  nodes_few =
      let names = isolated.node_names t g darts tree first places other w face_names in
      let keys = map (λ r. r.id) t.nodes in
      let most = pigeon same_numbers made.nodes keys (apart_at made.nodes names.distinct) (λ x h.
      let i = index-has made.nodes x h in
      sym (rising-has keys x) ∙ subst (λ y. has m.nodes.keys y ≡ true) i.2 (isolated.node_key t g darts tree first places other w face_names i.0 i.1)) in
      let n = length-map (λ r. r.id) t.nodes in
      omega (arith, most, n)

  sizes_right : has_sizes made ≡ true
  unfolding has_sizes
  sizes_right =
      let pm = positions_many in
      let el = edges_len in
      let pl = places_len in
      let sl = w.paired.starts_len in
      let fl = length-made is_forward (λ e. d (unwrap_or (first_of_edge c e) 0)) 0 (edge_count c) in
      let nl = isolated.nodes_len t g darts tree first places other w face_names in
      let cl = count_is in
      let kl = kinds_many in
      let sh = shells.faces_len t g darts tree first places other w in
      let ol = order.order_len t g darts tree first places other w face_names in
      let ml = length-map (member_number m) (0 ∷ faces) in
      let rl = (regions.numbered t g).places in
      let fr = regions.few_regions t g in
      let fc = few_components in
      let fe = few_edges t g in
      let fn = few_nodes t g in
      let nf = nodes_few in
      let t0 : (length tree == 2 * length made.edges) ≡ true = eq-eqb _ _ (omega (arith, pm, el)) in
      let t1 : (length places == length made.places + 1) ≡ true = eq-eqb _ _ (omega (arith, pl, sl)) in
      let t2 : (length made.forward == length made.edges) ≡ true = eq-eqb _ _ (omega (arith, fl, el)) in
      let t3 : (length made.nodes == length made.places + tree_edges c + length made.isolated) ≡ true = eq-eqb _ _ (omega (arith, nl, cl, pl)) in
      let t4 : (length faces + tree_edges c == length made.edges) ≡ true = eq-eqb _ _ (omega (arith, kl, sh, el)) in
      let t5 : (length made.place_order == length made.places) ≡ true = eq-eqb _ _ (omega (arith, ol, pl)) in
      let t6 : (length made.region_bits == 2 * length made.regions) ≡ true = eq-eqb _ _ rl in
      let t7 : (length made.members == length faces + 1) ≡ true = eq-eqb _ _ (omega (arith, ml)) in
      let t8 : nat_le (length made.places) (length made.edges) ≡ true = le-leb _ _ (omega (arith, fc, pl, el)) in
      let t9 : nat_le (length made.edges) most ≡ true = le-leb _ _ (omega (arith, el, fe, pm)) in
      let t10 : nat_le (length made.nodes) most ≡ true = le-leb _ _ (omega (arith, nf, fn)) in
      let t11 : nat_le (length made.regions) most ≡ true = le-leb _ _ fr in
      twelve t0 t1 t2 t3 t4 t5 t6 t7 t8 t9 t10 t11

  -- what is made is whole
  pub whole_made : is_whole made ≡ true
  unfolding is_whole
  whole_made =
      let t1 : is_sound made.code ≡ true = paired.sound tree first places (length outer) other w.paired in
      let t2 : is_names (LARGEST_ID + 1) made.nodes ≡ true = names_pass (LARGEST_ID + 1) made.nodes (isolated.node_names t g darts tree first places other w face_names) in
      let t3 : is_names (LARGEST_ID + 1) made.edges ≡ true = names_pass (LARGEST_ID + 1) made.edges edge_names in
      let t4 : is_names (LARGEST_ID + 1) made.faces ≡ true = names_pass (LARGEST_ID + 1) faces face_names in
      let t5 : is_names (LARGEST_ID + 1) made.regions ≡ true = names_pass (LARGEST_ID + 1) made.regions (regions.numbered t g).names in
      let t6 : is_none (places_fault made) ≡ true = rw no_places_fault refl in
      let t7 : is_none (start_fault made) ≡ true = rw no_start_fault refl in
      let t8 : is_none (balance_fault made.region_bits 0 (length made.region_bits)) ≡ true = (regions.numbered t g).balanced in
      let t9 : is_none (member_fault made) ≡ true = rw no_member_fault refl in
      ten sizes_right t1 t2 t3 t4 t5 t6 t7 t8 t9
