-- Each face is entered once: what a round does to the starts so far.
use Rattle.std.proofs.Common.{◌≡◌, ℕ, zero, suc, ◌<◌, ◌≤◌, ◌⊎◌, inl, inr, ℤ, Bool, true, false, not, ◌&&◌, ◌==◌, List, [], ◌∷◌, ◌++◌, map, filter, length, refl, sym, ap, ◌∙◌, subst, arith, append_assoc, append-nil}
use Rattle.std.proofs.lemmas.Bool.{and_parts, and_from, or_cases, cases_Bool, or_left, or_right, both_ways, not-true, false_from_ne_true, and_right}
use Rattle.std.proofs.lemmas.List.Sums.{count_by-le-length, length-filter}
use Rattle.topo_base.specs.SignedEdge.{same_edge}
use Rattle.orbits.proofs.Lists.{in_filter, from_filter, pigeon, in_either, in_front, in_back, apart_kept}
use Rattle.plane_model.specs.Sets.{has, has_edge}
use Rattle.plane_model.specs.PlaneMap.{PlaneMap, side, rings}
use Rattle.plane_model.specs.Component.{component, components}
use Rattle.plane_model.specs.Faces.{of_components, reached_through, outer_rings}
use Rattle.placement_laws.specs.PlacedSoFar.{unreached, round_starts, IsPlacedSoFar, IsNextFront}
use Rattle.plane_model.proofs.SetLaws.{same_is, same_self, same_edges}
use Rattle.plane_model.proofs.Rounds.{in_component, from_component}
use Rattle.placement_laws.proofs.Parts.{HasParts, component_self, component_sub, component_sym, component_name, component_name-in, component_name-there, components-apart, rings-signed}

pub of_components-append : (m : PlaneMap) (xs ys : List ℤ) → of_components m (xs ++ ys) ≡ of_components m xs ++ of_components m ys
of_components-append m [] ys = refl
of_components-append m (x ∷ xs) ys = ap (λ ds. component m x ++ ds) (of_components-append m xs ys) ∙ sym (append_assoc (component m x) (of_components m xs) (of_components m ys))

filter_none : (p : ℤ → Bool) (xs : List ℤ) → ((x : ℤ) → has_edge xs x ≡ true → p x ≡ false) → filter p xs ≡ []
filter_none p [] none = refl
filter_none p (x ∷ xs) none = rw (none x (or_left _ _ (same_self x))) (filter_none p xs (λ y h. none y (or_right (same_edge y x) _ h)))

filter_by : (p q : ℤ → Bool) (xs : List ℤ) → ((x : ℤ) → has_edge xs x ≡ true → p x ≡ q x) → filter p xs ≡ filter q xs
filter_by p q [] same = refl
filter_by p q (x ∷ xs) same =
    let here = same x (or_left _ _ (same_self x)) in
    let more = filter_by p q xs (λ y h. same y (or_right (same_edge y x) _ h)) in
    elim (cases_Bool (q x)) [
      | inl e ↦ rw (here, e, more) refl
      | inr e ↦ rw (here, e, more) refl
    ]

-- a round that reaches nothing is the last
pub nothing_more : (m : PlaneMap) (n : ℕ) (front : List ℕ) (reached : List ℤ) → ((r : ℤ) → has_edge (rings m) r ≡ true → (has front (side m r) && not (has_edge reached r)) ≡ false) → reached_through n m front reached ≡ []
unfolding reached_through
nothing_more m zero front reached none = refl
nothing_more m (suc n) front reached none =
    subst (λ new. new ++ reached_through n m (map (side m) (of_components m new)) (reached ++ of_components m new) ≡ []) (sym (filter_none (λ r. has front (side m r) && not (has_edge reached r)) (rings m) none))
    (nothing_more m n [] (reached ++ []) (λ r h. refl))

-- fronts that agree on the rings that were not reached give the same rounds
pub same_front : (m : PlaneMap) (n : ℕ) (front other : List ℕ) (reached : List ℤ) → ((r : ℤ) → has_edge (rings m) r ≡ true → has_edge reached r ≡ false → has front (side m r) ≡ has other (side m r))
    → reached_through n m front reached ≡ reached_through n m other reached
unfolding reached_through
same_front m zero front other reached same = refl
same_front m (suc n) front other reached same =
    ap (λ new. new ++ reached_through n m (map (side m) (of_components m new)) (reached ++ of_components m new))
    (filter_by (λ r. has front (side m r) && not (has_edge reached r)) (λ r. has other (side m r) && not (has_edge reached r)) (rings m) (λ r h. elim (cases_Bool (has_edge reached r)) [
      | inl old ↦ rw old (and_right (has front (side m r)) false refl ∙ sym (and_right (has other (side m r)) false refl))
      | inr fresh ↦ rw (fresh, same r h fresh) refl
    ]))

-- a round that reaches something leaves fewer components
pub fewer_left : (m : PlaneMap) → HasParts m → (starts new : List ℤ) → ((r : ℤ) → has_edge starts r ≡ true → has_edge (rings m) r ≡ true) → (r : ℤ) → has_edge (rings m) r ≡ true → has_edge new r ≡ true → has_edge (of_components m starts) r ≡ false
    → unreached m (starts ++ new) < unreached m starts
fewer_left m g starts new among r h on fresh =
    let p : ℤ → Bool = λ c. not (has_edge (of_components m (starts ++ new)) c) in
    let q : ℤ → Bool = λ c. not (has_edge (of_components m starts) c) in
    let hr = rings-signed m r h in
    let c = component_name m r in
    let on_c = component_name-in m r hr in
    let later : (x : ℤ) → has_edge (of_components m starts) x ≡ true → has_edge (of_components m (starts ++ new)) x ≡ true = λ x k.
    let s = from_component m starts x k in in_component m (starts ++ new) s.0 x (in_front same_edges starts new s.0 s.1) s.2 in
    let weaker : (x : ℤ) → p x ≡ true → q x ≡ true = λ x k.
    elim (cases_Bool (has_edge (of_components m starts) x)) [ inl was ↦ absurd (both_ways _ (not-true _ k) (later x was)) | inr none ↦ rw none refl ] in
    let q_c : q c ≡ true = elim (cases_Bool (has_edge (of_components m starts) c)) [
      | inl was ↦
          let s = from_component m starts c was in
          absurd (both_ways _ fresh (in_component m starts s.0 r s.1 (component_sub m g s.0 c r (rings-signed m s.0 (among s.0 s.1)) s.2 (component_sym m g r c hr on_c))))
      | inr none ↦ rw none refl
    ] in
    let off_c : has_edge (filter p (components m)) c ≡ false = false_from_ne_true (has_edge (filter p (components m)) c) (λ k.
    both_ways (has_edge (of_components m (starts ++ new)) c) (not-true _ (from_filter same_edges p (components m) c k).0) (in_component m (starts ++ new) r c (in_back same_edges starts new r on) on_c)) in
    let most = pigeon same_edges (c ∷ filter p (components m)) (filter q (components m)) (rw off_c (apart_kept same_edges p (components m) (components-apart m g)))
    (λ x k. elim (or_cases (same_edge x c) (has_edge (filter p (components m)) x) k) [
      | inl is ↦ subst (λ z. has_edge (filter q (components m)) z ≡ true) (sym (same_is x c is)) (in_filter same_edges q (components m) c q_c (component_name-there m g r hr))
      | inr there ↦ let it = from_filter same_edges p (components m) x there in in_filter same_edges q (components m) x (weaker x it.0) it.1
    ]) in
    omega arith

pub some_or_none : (xs : List ℤ) → (xs ≡ []) ⊎ ((x : ℤ) × (has_edge xs x ≡ true))
some_or_none [] = inl refl
some_or_none (x ∷ xs) = inr (x, or_left _ _ (same_self x))

none_among : (xs : List ℤ) → xs ≡ [] → (x : ℤ) → has_edge xs x ≡ false
none_among xs e x = subst (λ ys. has_edge ys x ≡ false) (sym e) refl

-- the rounds that are left: this one, and the others from the next front on
one_less : (m : PlaneMap) → HasParts m → (left : ℕ) (front : List ℕ) (starts : List ℤ) → ((r : ℤ) → has_edge starts r ≡ true → has_edge (rings m) r ≡ true) → unreached m starts ≤ left
    → (left' : ℕ) × (reached_through left m front (of_components m starts) ≡ round_starts m front starts ++ reached_through left' m (map (side m) (of_components m (round_starts m front starts))) (of_components m starts ++ of_components m (round_starts m front starts)))
    × (unreached m (starts ++ round_starts m front starts) ≤ left')
unfolding reached_through
one_less m g zero front starts among enough = elim (some_or_none (round_starts m front starts)) [
  | inl none ↦ (
    zero,
    sym none ∙ sym (append-nil (round_starts m front starts)),
    subst (λ new. unreached m (starts ++ new) ≤ 0) (sym none) (subst (λ xs. unreached m xs ≤ 0) (sym (append-nil starts)) enough),
  )
  | inr r ↦
      let it = from_filter same_edges (λ r. has front (side m r) && not (has_edge (of_components m starts) r)) (rings m) r.0 r.1 in
      let less : unreached m (starts ++ round_starts m front starts) < unreached m starts = fewer_left m g starts (round_starts m front starts) among r.0 it.1 r.1 (not-true (has_edge (of_components m starts) r.0) (and_parts (has front (side m r.0)) (not (has_edge (of_components m starts) r.0)) it.0).1) in
      absurd (omega arith)
]
one_less m g (suc left) front starts among enough = elim (some_or_none (round_starts m front starts)) [
  | inl none ↦ (
    suc left,
    nothing_more m (suc left) front (of_components m starts) (λ r h. false_from_ne_true _ (λ on. both_ways _ (none_among (round_starts m front starts) none r) (in_filter same_edges (λ r. has front (side m r) && not (has_edge (of_components m starts) r)) (rings m) r on h)))
        ∙ sym (subst (λ new. new ++ reached_through (suc left) m (map (side m) (of_components m new)) (of_components m starts ++ of_components m new) ≡ []) (sym none)
        (nothing_more m (suc left) [] (of_components m starts ++ []) (λ r h. refl))),
    subst (λ new. unreached m (starts ++ new) ≤ suc left) (sym none) (subst (λ xs. unreached m xs ≤ suc left) (sym (append-nil starts)) enough),
  )
  | inr r ↦
      let it = from_filter same_edges (λ r. has front (side m r) && not (has_edge (of_components m starts) r)) (rings m) r.0 r.1 in
      let less : unreached m (starts ++ round_starts m front starts) < unreached m starts = fewer_left m g starts (round_starts m front starts) among r.0 it.1 r.1 (not-true (has_edge (of_components m starts) r.0) (and_parts (has front (side m r.0)) (not (has_edge (of_components m starts) r.0)) it.0).1) in
      (left, refl, omega arith)
]

-- the rings of the front are reached by the round
pub round_reaches : (m : PlaneMap) (front : List ℕ) (starts : List ℤ) (r : ℤ) → has_edge (rings m) r ≡ true → has front (side m r) ≡ true → has_edge (of_components m (starts ++ round_starts m front starts)) r ≡ true
round_reaches m front starts r h on =
    let new = round_starts m front starts in
    elim (cases_Bool (has_edge (of_components m starts) r)) [
      | inl old ↦ let s = from_component m starts r old in in_component m (starts ++ new) s.0 r (in_front same_edges starts new s.0 s.1) s.2
      | inr fresh ↦ in_component m (starts ++ new) r r
          (in_back same_edges starts new r (in_filter same_edges (λ r. has front (side m r) && not (has_edge (of_components m starts) r)) (rings m) r (and_from (has front (side m r)) (not (has_edge (of_components m starts) r)) on (rw fresh refl)) h))
          (component_self m r (rings-signed m r h))
    ]

has_either : (xs ys : List ℕ) (f : ℕ) → has (xs ++ ys) f ≡ true → (has xs f ≡ true) ⊎ (has ys f ≡ true)
has_either [] ys f h = inr h
has_either (x ∷ xs) ys f h = elim (or_cases (f == x) (has (xs ++ ys) f) h) [
  | inl is ↦ inl (or_left _ _ is)
  | inr more ↦ elim (has_either xs ys f more) [ inl a ↦ inl (or_right (f == x) _ a) | inr b ↦ inr b ]
]

-- a round
pub place_round : (m : PlaneMap) → HasParts m → (left : ℕ) (front entered : List ℕ) (starts : List ℤ) → IsPlacedSoFar m left front entered starts → (front' : List ℕ) → IsNextFront m (front ++ entered) (round_starts m front starts) front'
    → (left' : ℕ) × IsPlacedSoFar m left' front' (front ++ entered) (starts ++ round_starts m front starts)
place_round m g left front entered starts now front' next =
    let new = round_starts m front starts in
    let less = one_less m g left front starts now.among now.enough in
    let left' = less.0 in
    let together = of_components-append m starts new in
    let reached : (r : ℤ) → has_edge (rings m) r ≡ true → has (front ++ entered) (side m r) ≡ true → has_edge (of_components m (starts ++ new)) r ≡ true = λ r h on.
    elim (has_either front entered (side m r) on) [
      | inl a ↦ round_reaches m front starts r h a
      | inr b ↦ let s = from_component m starts r (now.reached r h b) in in_component m (starts ++ new) s.0 r (in_front same_edges starts new s.0 s.1) s.2
    ] in
    let sides = map (side m) (of_components m new) in
    let agree : (r : ℤ) → has_edge (rings m) r ≡ true → has_edge (of_components m (starts ++ new)) r ≡ false → has sides (side m r) ≡ has front' (side m r) = λ r h fresh.
    let off : has (front ++ entered) (side m r) ≡ false = false_from_ne_true (has (front ++ entered) (side m r)) (λ on. both_ways _ fresh (reached r h on)) in
    sym (next (side m r) ∙ drop_true (has sides (side m r)) (has (front ++ entered) (side m r)) off) in (
      left',
      record {
        rest = append_assoc starts new (reached_through left' m front' (of_components m (starts ++ new)))
            ∙ ap (λ xs. starts ++ (new ++ xs)) (sym (same_front m left' sides front' (of_components m (starts ++ new)) agree) ∙ ap (λ ds. reached_through left' m sides ds) together)
            ∙ ap (λ xs. starts ++ xs) (sym less.1) ∙ now.rest;
        enough = less.2;
        among = λ r h. elim (in_either same_edges starts new r h) [ inl a ↦ now.among r a | inr b ↦ (from_filter same_edges _ (rings m) r b).1 ];
        reached = reached;
      },
    )
  where
    drop_true : (x y : Bool) → y ≡ false → (x && not y) ≡ x
    drop_true true y e = rw e refl
    drop_true false y e = refl

pub place_begin : (m : PlaneMap) → IsPlacedSoFar m (length (components m)) (0 ∷ []) [] []
place_begin m =
    record {
      rest = refl;
      enough = rw (length-filter (λ c. not (has_edge [] c)) (components m)) (count_by-le-length (λ c. not (has_edge [] c)) (components m));
      among = λ r h. absurd (both_ways false refl h);
      reached = λ r h k. absurd (both_ways false refl k);
    }

pub place_end : (m : PlaneMap) (left : ℕ) (entered : List ℕ) (starts : List ℤ) → IsPlacedSoFar m left [] entered starts → starts ≡ outer_rings m
place_end m left entered starts now = sym (append-nil starts) ∙ ap (λ xs. starts ++ xs) (sym (nothing_more m left [] (of_components m starts) (λ r h. refl))) ∙ now.rest
