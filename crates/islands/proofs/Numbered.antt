-- Rounds over numbered rings are the rounds of each map that is numbered so.
use Rattle.std.proofs.Common.{◌≡◌, ℕ, zero, suc, ◌<◌, inl, inr, ℤ, Bool, true, false, not, ◌&&◌, ◌==◌, List, [], ◌∷◌, ◌++◌, map, filter, length, refl, sym, ap, ◌∙◌, subst, arith, eq-eqb}
use Rattle.std.specs.Prelude.{slice_index, slice_index_or}
use Rattle.std.proofs.lemmas.Bool.{eqb-true, and_parts, and_from, or_cases, cases_Bool, or_left, or_right, both_ways, not-true, false_from_ne_true}
use Rattle.topo_base.specs.SignedEdge.{comes_before}
use Rattle.std.specs.List.{list_all}
use Rattle.orbits.proofs.Lists.{among, in_filter, from_filter, same_tests, all_from}
use Rattle.plane_model.proofs.SetLaws.{same_edges}
use Rattle.plane_model.specs.Rows.{Rows}
use Rattle.plane_model.specs.Sets.{has, has_edge}
use Rattle.plane_model.specs.PlaneMap.{PlaneMap, map_of, signed_edges, smallest, side, ring, rings}
use Rattle.plane_model.specs.Component.{component, components}
use Rattle.plane_model.specs.Faces.{of_components}
use Rattle.plane_model.specs.Orders.{is_rising_edges}
use Rattle.plane_model.proofs.Rounds.{in_component, from_component, from_sides}
use Rattle.plane_model.proofs.OuterRings.{has_side}
use Rattle.plane_model.proofs.SortedEdges.{rising_filter, same_rising_edges}
use Rattle.placement_laws.specs.Placing.{IsLabelledRotation}
use Rattle.placement_laws.specs.PlacedSoFar.{IsPlacedSoFar, IsNextFront, round_starts}
use Rattle.placement_laws.proofs.Parts.{HasParts, parts_of, component_within, component_sub, ring_name-on, ring_name-there, ring_component, ring_side, rings-signed}
use Rattle.placement_laws.proofs.Tables.{rise_of}
use Rattle.placement_laws.proofs.EachRound.{place_begin, place_round, place_end}
use Rattle.islands.proofs.Members.{has_front, has_back, has_either, named, to_name, numbered, to_number, at, at_in, in_at, ring_in}
use Rattle.islands.specs.Numbered.{ring_at, AreRingNumbers, AreBelow}
use Rattle.islands.specs.Rounds.{AreIncreasing, AreRoundRings, AreNextFaces, KeysAreMarked}
use Rattle.islands.specs.Starts.{AreOuterRings}

pub at_order : (xs : List ℤ) → is_rising_edges xs ≡ true → (i j : ℕ) → i < j → j < length xs → comes_before (at xs i) (at xs j) ≡ true
at_order [] up i j lt below = absurd (omega arith)
at_order (x ∷ xs) up i zero lt below = absurd (omega arith)
at_order (x ∷ xs) up zero (suc j) lt below = among same_edges (comes_before x) xs (at xs j) (and_parts (list_all (comes_before x) xs) (is_rising_edges xs) up).0 (at_in xs j (omega arith))
at_order (x ∷ xs) up (suc i) (suc j) lt below = at_order xs (and_parts (list_all (comes_before x) xs) (is_rising_edges xs) up).1 i j (omega arith) (omega arith)

ring_no : (m : PlaneMap) (r : ℤ) → has_edge (rings m) r ≡ true → (i : ℕ) × (i < length (rings m)) × (ring_at m i ≡ r)
ring_no m r h = in_at (rings m) r h

ring_order : (m : PlaneMap) → is_rising_edges (rings m) ≡ true → (i j : ℕ) → i < j → j < length (rings m) → comes_before (ring_at m i) (ring_at m j) ≡ true
ring_order m up i j lt below = at_order (rings m) up i j lt below

map_rises : (m : PlaneMap) → is_rising_edges (rings m) ≡ true → (now : List ℕ) → ((i : ℕ) → has now i ≡ true → i < length (rings m)) → AreIncreasing now → is_rising_edges (map (ring_at m) now) ≡ true
map_rises m up [] below h = refl
map_rises m up (x ∷ now) below h =
    and_from (list_all (comes_before (ring_at m x)) (map (ring_at m) now)) (is_rising_edges (map (ring_at m) now))
    (all_from same_edges (comes_before (ring_at m x)) (map (ring_at m) now) (λ e on. let i = named (ring_at m) now e on in subst (λ z. comes_before (ring_at m x) z ≡ true) i.2 (ring_order m up x i.0 (h.0 i.0 i.1) (below i.0 (or_right (i.0 == x) _ i.1)))))
    (map_rises m up now (λ i on. below i (or_right (i == x) _ on)) h.1)

-- the components of the starts are marked
pub record AreReached (components starts : List ℕ) (reached : List Bool) : Type 0 where
  pub from : (c : ℕ) → slice_index_or reached c false ≡ true → (s : ℕ) × (has starts s ≡ true) × (slice_index components s ≡ c)
  pub to : (s : ℕ) → has starts s ≡ true → slice_index_or reached (slice_index components s) false ≡ true

round_is : (m : PlaneMap) → is_rising_edges (rings m) ≡ true → (id : ℕ → ℕ) (faces components : List ℕ) (count : ℕ) → AreRingNumbers m id faces components count → ((i : ℕ) → i < length faces → slice_index faces i < count)
    → (front starts : List ℕ) (reached : List Bool) (now : List ℕ) → ((f : ℕ) → has front f ≡ true → f < count) → ((s : ℕ) → has starts s ≡ true → s < length faces) → AreReached components starts reached → AreRoundRings faces components front reached now
    → round_starts m (map id front) (map (ring_at m) starts) ≡ map (ring_at m) now
round_is m up id faces components count n face_below front starts reached now front_below starts_below ties these =
    let many = n.faces_many in
    let test : ℤ → Bool = λ r. has (map id front) (side m r) && not (has_edge (of_components m (map (ring_at m) starts)) r) in
    same_rising_edges (filter test (rings m)) (map (ring_at m) now) (rising_filter test (rings m) up)
    (map_rises m up now (λ i on. let it = these.sound i on in let lt : i < length faces = it.0 in omega arith) these.increases)
    (λ d. same_tests (has_edge (filter test (rings m)) d) (has_edge (map (ring_at m) now) d)
    (λ on.
    let it = from_filter same_edges test (rings m) d on in
    let parts = and_parts (has (map id front) (side m d)) (not (has_edge (of_components m (map (ring_at m) starts)) d)) it.0 in
    let i = ring_no m d it.1 in
    let below' : i.0 < length (rings m) = i.1 in
    let below : i.0 < length faces = omega arith in
    let f = numbered id front (side m d) parts.0 in
    let same_id : id f.0 ≡ id (slice_index faces i.0) = f.2 ∙ sym (ap (side m) i.2) ∙ n.sides i.0 below in
    let is : f.0 ≡ slice_index faces i.0 = n.apart f.0 (slice_index faces i.0) (front_below f.0 f.1) (face_below i.0 below) same_id in
    subst (λ z. has_edge (map (ring_at m) now) z ≡ true) i.2 (to_name (ring_at m) now i.0 (these.complete i.0 below (subst (λ z. has front z ≡ true) is f.1)
    (false_from_ne_true (slice_index_or reached (slice_index components i.0) false) (λ was.
    let s = ties.from (slice_index components i.0) was in
    let one : has_edge (component m (ring_at m s.0)) (ring_at m i.0) ≡ true = n.together s.0 i.0 (starts_below s.0 s.1) below ∙ eq-eqb (slice_index components s.0) (slice_index components i.0) s.2 in
    both_ways _ (not-true _ parts.1) (in_component m (map (ring_at m) starts) (ring_at m s.0) d (to_name (ring_at m) starts s.0 s.1) (subst (λ z. has_edge (component m (ring_at m s.0)) z ≡ true) i.2 one)))))))
    (λ on.
    let i = named (ring_at m) now d on in
    let it = these.sound i.0 i.1 in
    let below : i.0 < length faces = it.0 in
    subst (λ z. has_edge (filter test (rings m)) z ≡ true) i.2 (in_filter same_edges test (rings m) (ring_at m i.0) (and_from (has (map id front) (side m (ring_at m i.0))) (not (has_edge (of_components m (map (ring_at m) starts)) (ring_at m i.0)))
    (subst (λ z. has (map id front) z ≡ true) (sym (n.sides i.0 below)) (to_number id front (slice_index faces i.0) it.1))
    (rw (false_from_ne_true (has_edge (of_components m (map (ring_at m) starts)) (ring_at m i.0)) (λ was.
    let t = from_component m (map (ring_at m) starts) (ring_at m i.0) was in
    let s = named (ring_at m) starts t.0 t.1 in
    let one : has_edge (component m (ring_at m s.0)) (ring_at m i.0) ≡ true = subst (λ z. has_edge (component m z) (ring_at m i.0) ≡ true) (sym s.2) t.2 in
    let comp = eqb-true (slice_index components s.0) (slice_index components i.0) (sym (n.together s.0 i.0 (starts_below s.0 s.1) below) ∙ one) in
    both_ways (slice_index_or reached (slice_index components i.0) false) it.2 (subst (λ c. slice_index_or reached c false ≡ true) comp (ties.to s.0 s.1)))) refl))
    (ring_in m i.0 (omega arith)))))

-- the smallest of a ring
abbrev name_of : PlaneMap → ℤ → ℤ
name_of m d = smallest d (ring m d)

next_is : (m : PlaneMap) → HasParts m → (id : ℕ → ℕ) (faces components : List ℕ) (count : ℕ) → AreRingNumbers m id faces components count → ((i : ℕ) → i < length faces → slice_index faces i < count)
    → (old now : List ℕ) (entered : List Bool) (next : List ℕ) → ((f : ℕ) → has old f ≡ true → f < count) → ((i : ℕ) → has now i ≡ true → i < length faces)
    → ((f : ℕ) → slice_index_or entered f false ≡ true → has old f ≡ true) → ((f : ℕ) → has old f ≡ true → slice_index_or entered f false ≡ true) → AreNextFaces faces components now entered next
    → IsNextFront m (map id old) (map (ring_at m) now) (map id next)
next_is m g id faces components count n face_below old now entered next old_below now_below from to these x =
    let many = n.faces_many in
    same_tests (has (map id next) x) (has (map (side m) (of_components m (map (ring_at m) now))) x && not (has (map id old) x))
    (λ on.
    let f = numbered id next x on in
    let it = these.sound f.0 f.1 in
    let w = it.1 in
    let i = w.0 in
    let j = w.1 in
    let below : j < length faces = w.3 in
    let face : slice_index faces j ≡ f.0 = w.5 in
    let one : has_edge (component m (ring_at m i)) (ring_at m j) ≡ true = n.together i j (now_below i w.2) below ∙ eq-eqb (slice_index components i) (slice_index components j) (sym w.4) in
    let its : side m (ring_at m j) ≡ x = n.sides j below ∙ ap id face ∙ f.2 in
    and_from (has (map (side m) (of_components m (map (ring_at m) now))) x) (not (has (map id old) x))
    (subst (λ z. has (map (side m) (of_components m (map (ring_at m) now))) z ≡ true) its (has_side m (of_components m (map (ring_at m) now)) (ring_at m j)
    (in_component m (map (ring_at m) now) (ring_at m i) (ring_at m j) (to_name (ring_at m) now i w.2) one)))
    (rw (false_from_ne_true (has (map id old) x) (λ was.
    let h = numbered id old x was in
    let is : h.0 ≡ f.0 = n.apart h.0 f.0 (old_below h.0 h.1) (subst (λ z. z < count) face (face_below j below)) (h.2 ∙ sym f.2) in
    both_ways (slice_index_or entered f.0 false) it.0 (subst (λ z. slice_index_or entered z false ≡ true) is (to h.0 h.1)))) refl))
    (λ on.
    let parts = and_parts (has (map (side m) (of_components m (map (ring_at m) now))) x) (not (has (map id old) x)) on in
    let d = from_sides m (of_components m (map (ring_at m) now)) x parts.0 in
    let t = from_component m (map (ring_at m) now) d.0 d.1 in
    let i = named (ring_at m) now t.0 t.1 in
    let i_below : i.0 < length faces = now_below i.0 i.1 in
    let ht = rings-signed m t.0 (subst (λ z. has_edge (rings m) z ≡ true) i.2 (ring_in m i.0 (omega arith))) in
    let hd = component_within m g t.0 d.0 ht t.2 in
    let around = ring_name-on m g d.0 hd in
    let j = ring_no m (name_of m d.0) (ring_name-there m g d.0 hd) in
    let j_below' : j.0 < length (rings m) = j.1 in
    let j_below : j.0 < length faces = omega arith in
    let in_t : has_edge (component m t.0) (name_of m d.0) ≡ true = component_sub m g t.0 d.0 (name_of m d.0) ht t.2 (ring_component m g d.0 (name_of m d.0) hd around) in
    let one : has_edge (component m (ring_at m i.0)) (ring_at m j.0) ≡ true = subst (λ z. has_edge (component m (ring_at m i.0)) z ≡ true) (sym j.2) (subst (λ z. has_edge (component m z) (name_of m d.0) ≡ true) (sym i.2) in_t) in
    let comp = eqb-true (slice_index components i.0) (slice_index components j.0) (sym (n.together i.0 j.0 i_below j_below) ∙ one) in
    let its : id (slice_index faces j.0) ≡ x = sym (n.sides j.0 j_below) ∙ ap (side m) j.2 ∙ ring_side m g d.0 (name_of m d.0) hd around ∙ d.2 in
    subst (λ z. has (map id next) z ≡ true) its (to_number id next (slice_index faces j.0) (these.complete i.0 j.0 i.1 j_below (sym comp)
    (false_from_ne_true (slice_index_or entered (slice_index faces j.0) false) (λ was.
    both_ways (has (map id old) x) (not-true _ parts.1) (subst (λ z. has (map id old) z ≡ true) its (to_number id old (slice_index faces j.0) (from (slice_index faces j.0) was))))))))

map-append : {A B : Type 0} (f : A → B) (xs ys : List A) → map f (xs ++ ys) ≡ map f xs ++ map f ys
map-append f [] ys = refl
map-append f (x ∷ xs) ys = ap (λ zs. f x ∷ zs) (map-append f xs ys)

-- what the loop keeps
pub record AreSoFar (faces components : List ℕ) (count : ℕ) (front starts : List ℕ) (reached entered : List Bool) : Type 0 where
  pub before : List ℕ
  pub front_below : (f : ℕ) → has front f ≡ true → f < count
  pub before_below : (f : ℕ) → has before f ≡ true → f < count
  pub starts_below : (s : ℕ) → has starts s ≡ true → s < length faces
  pub ties : AreReached components starts reached
  pub from : (f : ℕ) → slice_index_or entered f false ≡ true → has (front ++ before) f ≡ true
  pub to : (f : ℕ) → has (front ++ before) f ≡ true → slice_index_or entered f false ≡ true
  pub placed : (t : Rows) (id : ℕ → ℕ) → IsLabelledRotation t → AreRingNumbers (map_of t) id faces components count → (left : ℕ) × IsPlacedSoFar (map_of t) left (map id front) (map id before) (map (ring_at (map_of t)) starts)

pub step : (faces components : List ℕ) (count component_count : ℕ) → AreBelow faces components count component_count → (front starts : List ℕ) (reached entered : List Bool) → AreSoFar faces components count front starts reached entered
    → (now next : List ℕ) (reached' entered' : List Bool) → AreRoundRings faces components front reached now → AreNextFaces faces components now entered next → KeysAreMarked (slice_index components) now reached reached' → KeysAreMarked (λ f. f) next entered entered'
    → AreSoFar faces components count next (starts ++ now) reached' entered'
step faces components count component_count below front starts reached entered so_far now next reached' entered' these nexts marked opened =
    let now_below : (i : ℕ) → has now i ≡ true → i < length faces = λ i on. (these.sound i on).0 in
    let old_below : (f : ℕ) → has (front ++ so_far.before) f ≡ true → f < count = λ f on. elim (has_either front so_far.before f on) [ inl a ↦ so_far.front_below f a | inr b ↦ so_far.before_below f b ] in
    record {
      before = front ++ so_far.before;
      front_below = λ f on. let w = (nexts.sound f on).1 in subst (λ z. z < count) w.5 (below.face w.1 w.3);
      before_below = old_below;
      starts_below = λ s on. elim (has_either starts now s on) [ inl a ↦ so_far.starts_below s a | inr b ↦ now_below s b ];
      ties = record {
        from = λ c on. elim (cases_Bool (slice_index_or reached c false)) [
          | inl was ↦ let s = so_far.ties.from c was in (s.0, has_front starts now s.0 s.1, s.2)
          | inr fresh ↦ let i = marked.only c on fresh in (i.0, has_back starts now i.0 i.1, i.2)
        ];
        to = λ s on. elim (has_either starts now s on) [ inl a ↦ marked.stays (slice_index components s) (so_far.ties.to s a) | inr b ↦ marked.marks s b ];
      };
      from = λ f on. elim (cases_Bool (slice_index_or entered f false)) [
        | inl was ↦ has_back next (front ++ so_far.before) f (so_far.from f was)
        | inr fresh ↦ let i = opened.only f on fresh in has_front next (front ++ so_far.before) f (subst (λ z. has next z ≡ true) i.2 i.1)
      ];
      to = λ f on. elim (has_either next (front ++ so_far.before) f on) [ inl a ↦ opened.marks f a | inr b ↦ opened.stays f (so_far.to f b) ];
      placed = λ t id h n.
          let m = map_of t in
          let g = parts_of t h in
          let now_at = so_far.placed t id h n in
          let same = round_is m (rising_filter _ (signed_edges m) (rise_of t h)) id faces components count n below.face front starts reached now so_far.front_below so_far.starts_below so_far.ties these in
          let is_next : IsNextFront m (map id (front ++ so_far.before)) (map (ring_at m) now) (map id next) =
          next_is m g id faces components count n below.face (front ++ so_far.before) now entered next old_below now_below so_far.from so_far.to nexts in
          let after = place_round m g now_at.0 (map id front) (map id so_far.before) (map (ring_at m) starts) now_at.1 (map id next)
          (subst (λ new. IsNextFront m (map id front ++ map id so_far.before) new (map id next)) (sym same) (subst (λ old. IsNextFront m old (map (ring_at m) now) (map id next)) (map-append id front so_far.before) is_next)) in (
            after.0,
            subst (λ xs. IsPlacedSoFar m after.0 (map id next) (map id (front ++ so_far.before)) xs) (ap (λ new. map (ring_at m) starts ++ new) same ∙ sym (map-append (ring_at m) starts now))
                (subst (λ old. IsPlacedSoFar m after.0 (map id next) old (map (ring_at m) starts ++ round_starts m (map id front) (map (ring_at m) starts))) (sym (map-append id front so_far.before)) after.1),
          );
    }

pub at_end : (faces components : List ℕ) (count : ℕ) (starts : List ℕ) (reached entered : List Bool) → AreSoFar faces components count [] starts reached entered → AreOuterRings faces components count starts
at_end faces components count starts reached entered so_far t id h n = let p = so_far.placed t id h n in place_end (map_of t) p.0 (map id so_far.before) (map (ring_at (map_of t)) starts) p.1

begin_at : (t : Rows) (id : ℕ → ℕ) → id 0 ≡ 0 → (left : ℕ) × IsPlacedSoFar (map_of t) left (id 0 ∷ []) [] []
begin_at t id e = (length (components (map_of t)), subst (λ z. IsPlacedSoFar (map_of t) (length (components (map_of t))) (z ∷ []) [] []) (sym e) (place_begin (map_of t)))

pub at_begin : (faces components : List ℕ) (count : ℕ) (reached entered : List Bool) → 0 < count → ((c : ℕ) → slice_index_or reached c false ≡ false) → (slice_index_or entered 0 false ≡ true) → ((f : ℕ) → slice_index_or entered f false ≡ true → f ≡ 0) → AreSoFar faces components count (0 ∷ []) [] reached entered
at_begin faces components count reached entered some none first only =
    record {
      before = [];
      front_below = λ f on. elim (or_cases (f == 0) false on) [ inl is ↦ let e = eqb-true f 0 is in omega arith | inr no_way ↦ absurd (both_ways false refl no_way) ];
      before_below = λ f on. absurd (both_ways false refl on);
      starts_below = λ s on. absurd (both_ways false refl on);
      ties = record { from = λ c on. absurd (both_ways _ (none c) on); to = λ s on. absurd (both_ways false refl on) };
      from = λ f on. or_left (f == 0) false (eq-eqb f 0 (only f on));
      to = λ f on. elim (or_cases (f == 0) false on) [ inl is ↦ subst (λ z. slice_index_or entered z false ≡ true) (sym (eqb-true f 0 is)) first | inr no_way ↦ absurd (both_ways false refl no_way) ];
      placed = λ t id h n. begin_at t id n.first;
    }
