-- The map is placed: each component's start is its outer ring, on a face whose shell is in an earlier component.
use Rattle.std.specs.Prelude.{ℤ, not, map, filter, slice_index, slice_get, unwrap_or, IsNone}
use Rattle.std.proofs.Common.{◌≡◌, ℕ, zero, suc, ◌+◌, ◌-◌, ◌<◌, ◌⊎◌, inl, inr, true, false, List, length, refl, ap, sym, ◌∙◌, arith, subst, Option, Some, None, ◌==◌}
use Rattle.std.specs.List.{range_with_len}
use Rattle.std.proofs.lemmas.Bool.{cases_lt, cases_eq, eqb-true, eq-eqb, ne_eqb, both_ways, or_left, false_from_ne_true}
use Rattle.topo_base.specs.SignedEdge.{comes_before, same_edge}
use Rattle.orbits.proofs.Lists.{in_filter, from_filter}
use Rattle.orbits.proofs.Numbers.{same_numbers}
use Rattle.plane_model.specs.declared.rows.FaceRow.{FaceRow}
use Rattle.plane_model.specs.Sets.{has, has_edge, is_distinct_edges, rising}
use Rattle.plane_model.specs.PlaneMap.{PlaneMap, map_of, signed_edges, side, ring, rings, smallest}
use Rattle.plane_model.specs.Component.{component}
use Rattle.plane_model.specs.Faces.{is_placed, is_outer}
use Rattle.plane_model.proofs.Sorting.{rising-has}
use Rattle.plane_model.proofs.SetLaws.{same_self, same_edges}
use Rattle.plane_model.proofs.SortedEdges.{not_before, same_rank, smallest_least}
use Rattle.placement_laws.specs.Placing.{IsPlacing, IsShellOfEarlier}
use Rattle.placement_laws.proofs.Parts.{HasParts, parts_of, ring_name-there, ring_name-on, rings-one, rings-signed}
use Rattle.placement_laws.proofs.Accepted.{placed_of, outer_of}
use Rattle.bit_words.proofs.Finds.{least-find}
use Rattle.code_laws.specs.Code.{place, is_first, component_of, component_count as code_components, start_of}
use Rattle.code_laws.specs.Numbers.{edge_of, ring_of, is_shell, tree_edges, first_of_edge, first_of_shell, shell_or_outer, enclosing_pair}
use Rattle.code_laws.specs.declared.ring_number.RingNumber.{RingNumber}
use Rattle.code_laws.specs.declared.ring_number.RingNumber.TheVariants.{Outer, Shell}
use Rattle.code_laws.proofs.Steps.{none_at}
use Rattle.code_laws.proofs.Sound.{in_one, is_component, is_well, rises, rises_to, start_within, flat}
use Rattle.code_laws.proofs.Edges.{edge_of_kind, first_edge}
use Rattle.code_laws.proofs.Mates.{first_at}
use Rattle.code_laws.proofs.Numbered.{round_at}
use Rattle.code_laws.proofs.Selects.{shell_none, pairs}
use Rattle.file_laws.specs.Contents.{Contents, component_count}
use Rattle.file_laws.specs.MapOfFile.{signed_at, face_at, face_at_place, place_of_ring, rows_of_contents}
use Rattle.file_laws.specs.Agreement.{Agrees, starts_of}
use Rattle.file_laws.proofs.Lists.{index-has, has-positions, position_in, positions_apart}
use Rattle.file_laws.proofs.Agreement.{agrees}
use Rattle.file_laws.proofs.Consistency.{position_of}
use Rattle.file_laws.proofs.Whole.{WholeParts}
use Rattle.file_laws.proofs.Fits.{components_same}
use Rattle.file_laws.proofs.Orbits.{ring_from, ring_to}
use Rattle.file_laws.proofs.Rotation.{RingAt, IsOuter, IsShell, ring_at, shells_many, face_there, face_ids}
use Rattle.file_laws.proofs.Components.{labelled_rotation, component_to, component_from}

-- an item of a list that is made from a range
get_range : (f : ℕ → ℤ) (low n j : ℕ) (r : ℤ) → slice_get (map f (range_with_len low n)) j ≡ Some r → (j < n) × (f (low + j) ≡ r)
get_range f low zero j r h = cc
get_range f low (suc n) zero r h = let e : low + 0 ≡ low = omega arith in (omega arith, ap f e ∙ cc)
get_range f low (suc n) (suc j) r h =
    let more = get_range f (low + 1) n j r h in
    let e : low + suc j ≡ low + 1 + j = omega arith in
    (omega (arith, more.0), ap f e ∙ more.1)

range_get : (f : ℕ → ℤ) (low n j : ℕ) → j < n → slice_get (map f (range_with_len low n)) j ≡ Some (f (low + j))
range_get f low zero j l = absurd (omega arith)
range_get f low (suc n) zero l = let e : low ≡ low + 0 = omega arith in ap (λ x. Some (f x)) e
range_get f low (suc n) (suc j) l =
    let e : low + 1 + j ≡ low + suc j = omega arith in
    range_get f (low + 1) n j (omega arith) ∙ ap (λ x. Some (f x)) e

shell-is : (s : ℕ) (r : RingNumber) → is_shell s r ≡ true → r ≡ Shell s
shell-is s (Outer j) h = cc
shell-is s (Shell j) h = ap Shell (eqb-true j s h)

outer-shell : (j s : ℕ) → Outer j ≡ Shell s → ⊥
outer-shell j s e = cc

outer-same : (i j : ℕ) → Outer i ≡ Outer j → i ≡ j
outer-same i j e = cc

-- the shell of face s, by its smallest signed edge
pub record IsShellOf (m : PlaneMap) (starts : List ℤ) (c : Contents) (s : ℕ) : Type 0 where
  pub name : ℤ
  pub position : ℕ
  pub within : position < length c.code.a
  pub at : signed_at c position ≡ name
  pub number : ring_of c.code position ≡ Shell s
  pub is_ring : has_edge (rings m) name ≡ true
  pub no_start : has_edge starts name ≡ false
  pub its_face : side m name ≡ slice_index c.faces s

module _ (c : Contents) (w : WholeParts c) where
  abbrev m : PlaneMap
  m = map_of (rows_of_contents c)

  abbrev a : Agrees c m
  a = agrees c w.seen

  abbrev start : ℕ → ℤ
  start j = signed_at c (start_of c.code j)

  parts : HasParts m
  parts = parts_of (rows_of_contents c) (labelled_rotation c w)

  below : (j : ℕ) → j < component_count c → j < code_components c.code
  below j l = let k = components_same c w in omega (arith, k, l)

  pub start_in : (j : ℕ) → j < component_count c → start_of c.code j < length c.code.a
  start_in j l =
      let up = rises c.code w.seen.sound.laid j (below j l) in
      let b = below j l in
      let to = start_within c.code w.seen.sound.laid (j + 1) (omega (arith, b)) in
      omega (arith, up, to)

  pub start_component : (j : ℕ) → j < component_count c → component_of c.code (start_of c.code j) ≡ j
  start_component j l = is_component c.code w.seen.sound (start_of c.code j) j (below j l) (omega arith) (rises c.code w.seen.sound.laid j (below j l))

  start_ring : (j : ℕ) → j < component_count c → ring_of c.code (start_of c.code j) ≡ Outer j
  unfolding ring_of
  start_ring j l =
      let i = start_in j l in
      let b = below j l in
      let none = none_at c.code (is_well c.code w.seen.sound) false (start_of c.code j) (omega (arith, i)) (flat c.code w.seen.sound false j (omega (arith, b))) in
      ap (shell_or_outer c.code (start_of c.code j)) none ∙ ap Outer (start_component j l)

  -- a start is the smallest of its ring
  start_named : (j : ℕ) → j < component_count c → has_edge (rings m) (start j) ≡ true
  start_named j l =
      let i = start_in j l in
      let d_in = a.there (start_of c.code j) i in
      let name = smallest (start j) (ring m (start j)) in
      let on = ring_name-on m parts (start j) d_in in
      let q = position_of c w.seen name (rings-signed m name (ring_name-there m parts (start j) d_in)) in
      let q_on : has_edge (ring m (start j)) (signed_at c q.0) ≡ true = subst (λ x. has_edge (ring m (start j)) x ≡ true) (sym q.2) on in
      let number = sym (ring_to c w (start_of c.code j) q.0 i q.1 q_on) ∙ start_ring j l in
      let not_smaller : comes_before name (start j) ≡ false = subst (λ x. comes_before x (start j) ≡ false) q.2 (w.smallest j q.0 l q.1 number) in
      let s = smallest_least (start j) (ring m (start j)) in
      let not_greater : comes_before (start j) name ≡ false = s.least (start j) (or_left _ _ (same_self (start j))) refl in
      let r1 = not_before name (start j) not_smaller in
      let r2 = not_before (start j) name not_greater in
      let same : start j ≡ name = same_rank (start j) name (omega (arith, r1, r2)) in
      in_filter same_edges (λ d. same_edge d (smallest d (ring m d))) (signed_edges m) (start j) (subst (λ x. same_edge (start j) x ≡ true) same (same_self (start j))) d_in

  pub start_has : (j : ℕ) → j < component_count c → has_edge (starts_of c) (start j) ≡ true
  start_has j l = has-positions start 0 (component_count c) j (omega arith) (omega (arith, l))

  pub start_from : (r : ℤ) → has_edge (starts_of c) r ≡ true → (j : ℕ) × (j < component_count c) × (start j ≡ r)
  start_from r h = let p = position_in start 0 (component_count c) r h in (p.0, omega (arith, p.2), p.3)

  among : (r : ℤ) → has_edge (starts_of c) r ≡ true → has_edge (rings m) r ≡ true
  among r h = let j = start_from r h in subst (λ x. has_edge (rings m) x ≡ true) j.2 (start_named j.0 j.1)

  start_one : (i j : ℕ) → i < component_count c → j < component_count c → start i ≡ start j → i ≡ j
  start_one i j l k e = sym (start_component i l) ∙ ap (component_of c.code) (a.one (start_of c.code i) (start_of c.code j) (start_in i l) (start_in j k) e) ∙ start_component j k

  apart : is_distinct_edges (starts_of c) ≡ true
  apart = positions_apart start 0 (component_count c) (λ i j x l y k e. start_one i j (omega (arith, l)) (omega (arith, k)) e)

  each : (d : ℤ) → has_edge (signed_edges m) d ≡ true → (r : ℤ) × (has_edge (starts_of c) r ≡ true) × (has_edge (component m r) d ≡ true)
  each d h =
      let p = position_of c w.seen d h in
      let i = in_one c.code w.seen.sound p.0 p.1 in
      let k = components_same c w in
      let l : i.0 < component_count c = omega (arith, i.1.count, k) in
      let on = component_from c w (start_of c.code i.0) (start_in i.0 l) p.0 p.1 (i.1.is ∙ sym (start_component i.0 l)) in
      (start i.0, start_has i.0 l, subst (λ x. has_edge (component m (start i.0)) x ≡ true) p.2 on)

  one : (r q : ℤ) → has_edge (starts_of c) r ≡ true → has_edge (starts_of c) q ≡ true → has_edge (component m r) q ≡ true → r ≡ q
  one r q h k on =
      let i = start_from r h in
      let j = start_from q k in
      let on' : has_edge (component m (start i.0)) (start j.0) ≡ true = subst (λ x. has_edge (component m x) (start j.0) ≡ true) (sym i.2) (subst (λ x. has_edge (component m r) x ≡ true) (sym j.2) on) in
      let same = component_to c w (start_of c.code i.0) (start_of c.code j.0) (start_in i.0 i.1) (start_in j.0 j.1) on' in
      let number : i.0 ≡ j.0 = sym (start_component i.0 i.1) ∙ sym same ∙ start_component j.0 j.1 in
      sym i.2 ∙ ap start number ∙ j.2

  -- the face of a position on a shell
  shell_face : (p s : ℕ) → p < length c.code.a → ring_of c.code p ≡ Shell s → side m (signed_at c p) ≡ slice_index c.faces s
  unfolding face_at
  shell_face p s l e =
      let off : ((s + 1) == 0) ≡ false = ne_eqb (s + 1) 0 (λ z. absurd (omega (arith, z))) in
      let back : s + 1 - 1 ≡ s = omega arith in
      a.sides p l ∙ ap (λ r. face_at_place c (place_of_ring c r)) e ∙ rw off (ap (slice_index c.faces) back)

  -- a ring that is no start is a shell
  other_ring : (q : ℤ) → has_edge (rings m) q ≡ true → has_edge (starts_of c) q ≡ false → (p : ℕ) × (p < length c.code.a) × (signed_at c p ≡ q) × ((s : ℕ) × (s < length c.faces) × (ring_of c.code p ≡ Shell s))
  other_ring q h out =
      let p = position_of c w.seen q (rings-signed m q h) in
      (p.0, p.1, p.2, at p.0 p.1 p.2 (ring_at c w p.0 p.1))
    where
      at : (p : ℕ) → p < length c.code.a → signed_at c p ≡ q → RingAt c p → (s : ℕ) × (s < length c.faces) × (ring_of c.code p ≡ Shell s)
      at p l e (IsShell s k r o) = (s, k, r)
      at p l e (IsOuter j k r o) =
          let on = ring_from c w (start_of c.code j) p (start_in j k) l (start_ring j k ∙ sym r) in
          let on' : has_edge (ring m (start j)) q ≡ true = subst (λ x. has_edge (ring m (start j)) x ≡ true) e on in
          let same = rings-one m parts (start j) q (start_named j k) h on' in
          absurd (both_ways _ out (subst (λ x. has_edge (starts_of c) x ≡ true) same (start_has j k)))

  faced : (q : ℤ) → has_edge (rings m) q ≡ true → has_edge (starts_of c) q ≡ false → has m.faces (side m q) ≡ true
  faced q h out =
      let p = other_ring q h out in
      let e : side m q ≡ slice_index c.faces p.3.0 = ap (side m) (sym p.2) ∙ shell_face p.0 p.3.0 p.1 p.3.2 in
      subst (λ f. has m.faces f ≡ true) (sym e) (face_there c w p.3.0 p.3.1)

  shell_there : (s : ℕ) → s < length c.faces → (o : Option ℕ) → first_of_shell c.code s ≡ o → (p : ℕ) × (p < length c.code.a) × (ring_of c.code p ≡ Shell s)
  unfolding first_of_shell
  shell_there s l None e =
      let none = (shell_none c.code w.seen.sound s).0 (subst (λ (o : Option ℕ). IsNone o) (sym e) refl) in
      let many = shells_many c w in
      let half = pairs c.code w.seen.sound false in
      absurd (omega (arith, none, l, many, half))
  shell_there s l (Some p) e =
      let least = least-find (λ p. is_shell s (ring_of c.code p)) 0 (length c.code.a) p e in
      (p, omega (arith, least.within), shell-is s (ring_of c.code p) least.passes)

  shell_of : (s : ℕ) → s < length c.faces → IsShellOf m (starts_of c) c s
  shell_of s l =
      let p = shell_there s l (first_of_shell c.code s) refl in
      let d_in = a.there p.0 p.1 in
      let name = smallest (signed_at c p.0) (ring m (signed_at c p.0)) in
      let is_ring = ring_name-there m parts (signed_at c p.0) d_in in
      let on = ring_name-on m parts (signed_at c p.0) d_in in
      let q = position_of c w.seen name (rings-signed m name is_ring) in
      let q_on : has_edge (ring m (signed_at c p.0)) (signed_at c q.0) ≡ true = subst (λ x. has_edge (ring m (signed_at c p.0)) x ≡ true) (sym q.2) on in
      let number = sym (ring_to c w p.0 q.0 p.1 q.1 q_on) ∙ p.2 in
      record {
        name = name;
        position = q.0;
        within = q.1;
        at = q.2;
        number = number;
        is_ring = is_ring;
        no_start = false_from_ne_true _ (λ h.
            let j = start_from name h in
            let same : start_of c.code j.0 ≡ q.0 = a.one (start_of c.code j.0) q.0 (start_in j.0 j.1) q.1 (j.2 ∙ sym q.2) in
            outer-shell j.0 s (sym (start_ring j.0 j.1) ∙ ap (ring_of c.code) same ∙ number));
        its_face = ap (side m) (sym q.2) ∙ shell_face q.0 s q.1 number;
      }

  face_number : (f : ℕ) → has m.faces f ≡ true → (s : ℕ) × (s < length c.faces) × (slice_index c.faces s ≡ f)
  face_number f h =
      let ids = map (λ (r : FaceRow). r.id) (rows_of_contents c).faces in
      let there = from_filter same_numbers (λ f. not (f == 0)) ids f (sym (rising-has (filter (λ f. not (f == 0)) ids) f) ∙ h) in
      let there' : has (rising c.faces) f ≡ true = subst (λ xs. has xs f ≡ true) (face_ids c w) there.1 in
      index-has c.faces f (sym (rising-has c.faces f) ∙ there')

  shells : (f : ℕ) → has m.faces f ≡ true → (q : ℤ) × (has_edge (rings m) q ≡ true) × (has_edge (starts_of c) q ≡ false) × (side m q ≡ f)
  shells f h =
      let s = face_number f h in
      let q = shell_of s.0 s.1 in
      (q.name, q.is_ring, q.no_start, q.its_face ∙ s.2)

  one_shell : (q r : ℤ) → has_edge (rings m) q ≡ true → has_edge (starts_of c) q ≡ false → has_edge (rings m) r ≡ true → has_edge (starts_of c) r ≡ false → side m q ≡ side m r → q ≡ r
  one_shell q r h out k none same =
      let x = other_ring q h out in
      let y = other_ring r k none in
      let ex : side m q ≡ slice_index c.faces x.3.0 = ap (side m) (sym x.2) ∙ shell_face x.0 x.3.0 x.1 x.3.2 in
      let ey : side m r ≡ slice_index c.faces y.3.0 = ap (side m) (sym y.2) ∙ shell_face y.0 y.3.0 y.1 y.3.2 in
      let number : x.3.0 ≡ y.3.0 = w.face_names.distinct x.3.0 y.3.0 x.3.1 y.3.1 (sym ex ∙ same ∙ ey) in
      let on = ring_from c w x.0 y.0 x.1 y.1 (x.3.2 ∙ ap Shell number ∙ sym y.3.2) in
      let on' : has_edge (ring m q) r ≡ true = subst (λ z. has_edge (ring m z) r ≡ true) x.2 (subst (λ z. has_edge (ring m (signed_at c x.0)) z ≡ true) y.2 on) in
      rings-one m parts q r h k on'

  -- the pair of a shell opens in the component of the shell
  opens_at : (p s : ℕ) → p < length c.code.a → enclosing_pair c.code false p ≡ Some s → (o : ℕ) × (first_of_edge c.code (tree_edges c.code + s) ≡ Some o) × (o < length c.code.a) × (component_of c.code o ≡ component_of c.code p)
  opens_at p s l e =
      let o = round_at c.code w.seen.sound false p s l e in
      let r = o.1 in
      let edge : edge_of c.code o.0 ≡ tree_edges c.code + s = edge_of_kind c.code false o.0 r.kind_of r.opens ∙ ap (λ x. tree_edges c.code + x) r.number in
      let first : is_first c.code o.0 ≡ true = first_at c.code false o.0 (place c.code false o.0) r.kind_of refl ∙ r.opens in
      (o.0, subst (λ x. first_of_edge c.code x ≡ Some o.0) edge (first_edge c.code w.seen.sound o.0 r.within first), r.within, r.component)

  shell_number : (p s : ℕ) → ring_of c.code p ≡ Shell s → enclosing_pair c.code false p ≡ Some s
  unfolding ring_of
  shell_number p s e = of (enclosing_pair c.code false p) refl e
    where
      of : (o : Option ℕ) → enclosing_pair c.code false p ≡ o → shell_or_outer c.code p o ≡ Shell s → enclosing_pair c.code false p ≡ Some s
      of None h e = cc
      of (Some x) h e = let same : x ≡ s = cc in h ∙ ap Some same

  order : (j : ℕ) (r : ℤ) → slice_get (starts_of c) j ≡ Some r → (side m r ≡ 0) ⊎ IsShellOfEarlier m (starts_of c) j (side m r)
  unfolding face_at
  order j r h =
      let g = get_range start 0 (component_count c) j r h in
      let zero_on : 0 + j ≡ j = omega arith in
      let r_is : start j ≡ r = ap start (sym zero_on) ∙ g.1 in
      let face : side m r ≡ face_at_place c (slice_index c.places j) = ap (side m) (sym r_is) ∙ a.sides (start_of c.code j) (start_in j g.0) ∙ ap (λ x. face_at_place c (place_of_ring c x)) (start_ring j g.0) in
      let its = w.placed j g.0 in
      elim (cases_eq (slice_index c.places j) 0) [
        | inl e ↦ inl (face ∙ rw (eq-eqb _ 0 e) refl)
        | inr n ↦
            let s = slice_index c.places j - 1 in
            let s_in : s < length c.faces = omega (arith, n, its.place) in
            let q = shell_of s s_in in
            let o = opens_at q.position s q.within (shell_number q.position s q.number) in
            let before : o.0 < start_of c.code j = subst (λ (x : Option ℕ). unwrap_or x 0 < start_of c.code j) o.1 (its.earlier n) in
            let i = in_one c.code w.seen.sound o.0 o.2 in
            let k = components_same c w in
            let i_in : i.0 < component_count c = omega (arith, i.1.count, k) in
            let b = below j g.0 in
            let is_earlier : i.0 < j = elim (cases_lt i.0 j) [
              | inl l ↦ l
              | inr l ↦ let up = rises_to c.code w.seen.sound.laid j i.0 l (omega (arith, i.1.count)) in absurd (omega (arith, up, i.1.from, before))
            ] in
            let on = component_from c w (start_of c.code i.0) (start_in i.0 i_in) q.position q.within (sym o.3 ∙ i.1.is ∙ sym (start_component i.0 i_in)) in
            inr (record {
              shell = q.name;
              is_ring = q.is_ring;
              no_start = q.no_start;
              its_face = q.its_face ∙ sym (face ∙ rw (ne_eqb _ 0 n) refl);
              earlier = i.0;
              is_earlier = is_earlier;
              start = start i.0;
              its_start = (let e : 0 + i.0 ≡ i.0 = omega arith in range_get start 0 (component_count c) i.0 i_in ∙ ap (λ x. Some (start x)) e);
              within = subst (λ x. has_edge (component m (start i.0)) x ≡ true) q.at on;
            })
      ]

  pub placing : IsPlacing m (starts_of c)
  placing =
      record {
        among = among;
        apart = apart;
        each = each;
        one = one;
        faced = faced;
        shells = shells;
        one_shell = one_shell;
        order = order;
      }

  pub placed : is_placed m ≡ true
  placed = placed_of (rows_of_contents c) (starts_of c) (labelled_rotation c w) placing

  -- the starts are the outer rings
  pub outer_starts : (r : ℤ) → is_outer m r ≡ has_edge (starts_of c) r
  outer_starts = outer_of (rows_of_contents c) (starts_of c) (labelled_rotation c w) placing
