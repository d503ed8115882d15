-- The edges that are open at a place, on a stack of the places where they began.
use Rattle.std.proofs.Common.{◌≡◌, ◌≢◌, ℕ, zero, suc, ◌+◌, ◌*◌, ◌<◌, ◌≤◌, ◌⊎◌, List, [], ◌∷◌, ◌++◌, length, get_or, Bool, true, false, refl, sym, ◌∙◌, ap, subst, inl, inr, arith, length-append, add-one}
use Rattle.std.proofs.lemmas.List.{get_or_append_left, get_or_push}
use Rattle.std.proofs.lemmas.Bool.{cases_eq, cases_lt, cases_order, false≢true}
use Rattle.spanning_pair.specs.Darts.{reverse_dart, IsDartSystem}
use Rattle.orbits.specs.Components.InComponent.{reversed}
use Rattle.spanning_pair.specs.Tours.{number_at, flag_at, AreStarts, IsTour}
use Rattle.spanning_pair.specs.Crossings.{ClosesOver, IsFirstCrossing, OthersNest, ArePairs}
use Rattle.spanning_pair.proofs.Components.{component_below}
use Rattle.spanning_pair.proofs.OtherDart.{reverse_reverse, reverse_other}

-- the edge that began at q is open before the place n, and is no tree edge
pub record OpenAt (dart : ℕ → ℕ) (tree : ℕ → Bool) (n q : ℕ) : Type 0 where
  pub begun : q < n
  pub other : tree q ≡ false
  pub not_ended : (s : ℕ) → s < n → dart s ≢ reverse_dart (dart q)

pub record AreOpen (dart : ℕ → ℕ) (tree : ℕ → Bool) (n : ℕ) (open_places : List ℕ) : Type 0 where
  pub is_open : (i : ℕ) → i < length open_places → OpenAt dart tree n (get_or open_places i 0)
  pub each_open : (q : ℕ) → OpenAt dart tree n q → (i : ℕ) × (i < length open_places) × (get_or open_places i 0 ≡ q)
  pub order : (i j : ℕ) → i < j → j < length open_places → get_or open_places i 0 < get_or open_places j 0
  pub none : (p q r : ℕ) → r < n → ClosesOver dart tree p q r → ⊥

back : (dart : ℕ → ℕ) (p q : ℕ) → dart p ≡ reverse_dart (dart q) → dart q ≡ reverse_dart (dart p)
back dart p q e = sym (ap reverse_dart e ∙ reverse_reverse (dart q))

pub open_none : (dart : ℕ → ℕ) (tree : ℕ → Bool) (st : List ℕ) → st ≡ [] → AreOpen dart tree 0 st
open_none dart tree st e = rw e (record {
  is_open = λ i l. absurd (omega arith);
  each_open = λ q o. absurd (omega (arith, o.begun));
  order = λ i j l l2. absurd (omega arith);
  none = λ p q r l c. absurd (omega arith);
})

module _ (dart : ℕ → ℕ) (tree first : ℕ → Bool) (len : ℕ) (w : ArePairs dart tree first len) (n : ℕ) (h : n < len) where
  opened_before : (q : ℕ) → OpenAt dart tree (n + 1) q → q ≢ n → OpenAt dart tree n q
  opened_before q o k = record { begun = omega (arith, o.begun); other = o.other; not_ended = λ s l. o.not_ended s (omega arith) }

  still : (q : ℕ) → OpenAt dart tree n q → dart n ≢ reverse_dart (dart q) → OpenAt dart tree (n + 1) q
  still q o k = record {
    begun = omega (arith, o.begun);
    other = o.other;
    not_ended = λ s l e. elim (cases_eq s n) [
      | inl i ↦ k (sym (ap dart i) ∙ e)
      | inr i ↦ o.not_ended s (omega arith) e
    ];
  }

  none_more : (st : List ℕ) → AreOpen dart tree n st → ((p q : ℕ) → ClosesOver dart tree p q n → ⊥) → (p q r : ℕ) → r < n + 1 → ClosesOver dart tree p q r → ⊥
  none_more st a k p q r l c = elim (cases_eq r n) [
    | inl i ↦ k p q (subst (ClosesOver dart tree p q) i c)
    | inr i ↦ a.none p q r (omega arith) c
  ]

  pub open_tree : (st : List ℕ) → AreOpen dart tree n st → tree n ≡ true → AreOpen dart tree (n + 1) st
  open_tree st a t =
      let k : (q : ℕ) → q < n → tree q ≡ false → dart n ≢ reverse_dart (dart q) =
      λ q l f e. false≢true (sym f ∙ w.both_tree q n (omega arith) h e ∙ t) in
      record {
        is_open = λ i l. let o = a.is_open i l in still (get_or st i 0) o (k (get_or st i 0) o.begun o.other);
        each_open = λ q o. elim (cases_eq q n) [
          | inl i ↦ absurd (false≢true (sym o.other ∙ ap tree i ∙ t))
          | inr i ↦ a.each_open q (opened_before q o i)
        ];
        order = a.order;
        none = none_more st a (λ p q c. k p (omega (arith, c.later, c.before)) c.other c.closes);
      }

  pub open_first : (st : List ℕ) → AreOpen dart tree n st → tree n ≡ false → first n ≡ true → AreOpen dart tree (n + 1) (st ++ n ∷ [])
  open_first st a t f =
      let k : (q : ℕ) → q < n → dart n ≢ reverse_dart (dart q) = λ q l e. w.first_new n q h f l (back dart n q e) in
      let len_more : length (st ++ n ∷ []) ≡ length st + 1 = length-append st (n ∷ []) ∙ omega arith in
      let old : (i : ℕ) → i < length st → get_or (st ++ n ∷ []) i 0 ≡ get_or st i 0 = λ i l. get_or_append_left st (n ∷ []) 0 i l in
      let new : (i : ℕ) → i ≡ length st → get_or (st ++ n ∷ []) i 0 ≡ n = λ i e. get_or_push st n 0 i (sym e) in
      let now : OpenAt dart tree (n + 1) n = record {
        begun = omega arith;
        other = t;
        not_ended = λ s l e. elim (cases_eq s n) [
          | inl i ↦ reverse_other (dart n) (sym e ∙ ap dart i)
          | inr i ↦ w.first_new n s h f (omega arith) e
        ];
      } in
      record {
        is_open = λ i l. elim (cases_lt i (length st)) [
          | inl k2 ↦ let o = a.is_open i k2 in let e = old i k2 in rw e (still (get_or st i 0) o (k (get_or st i 0) o.begun))
          | inr k2 ↦ let e = new i (omega (arith, len_more)) in rw e now
        ];
        each_open = λ q o. elim (cases_eq q n) [
          | inl i ↦ (length st, omega (arith, len_more), new (length st) refl ∙ sym i)
          | inr i ↦ let s = a.each_open q (opened_before q o i) in (s.0, omega (arith, len_more), old s.0 s.1 ∙ s.2)
        ];
        order = λ i j l l2.
            let li : i < length st = omega (arith, len_more) in
            let ei = old i li in
            elim (cases_lt j (length st)) [
              | inl k2 ↦ let ej = old j k2 in let z = a.order i j l k2 in rw (ei, ej) z
              | inr k2 ↦ let ej = new j (omega (arith, len_more)) in let o = a.is_open i li in rw (ei, ej) o.begun
            ];
        none = none_more st a (λ p q c. k p (omega (arith, c.later, c.before)) c.closes);
      }

  module _ (t : tree n ≡ false) (f : first n ≡ false) where
    begin : (p : ℕ) × (p < n) × (dart p ≡ reverse_dart (dart n))
    begin = w.first_old n h f

    ends_it : dart n ≡ reverse_dart (dart begin.0)
    ends_it = back dart begin.0 n begin.2

    begin_open : OpenAt dart tree n begin.0
    begin_open = record {
      begun = begin.1;
      other = w.both_tree begin.0 n (omega (arith, begin.1)) h ends_it ∙ t;
      not_ended = λ s l e. let i : s ≡ n = w.once s n (omega arith) h (e ∙ sym ends_it) in omega arith;
    }

    pub some_open : (st : List ℕ) → AreOpen dart tree n st → 0 < length st
    some_open st a = let s = a.each_open begin.0 begin_open in omega arith

    module _ (st : List ℕ) (top : ℕ) (a : AreOpen dart tree n (st ++ top ∷ [])) where
      len_more : length (st ++ top ∷ []) ≡ length st + 1
      len_more = length-append st (top ∷ []) ∙ omega arith

      top_is : get_or (st ++ top ∷ []) (length st) 0 ≡ top
      top_is = get_or_push st top 0 (length st) refl

      top_open : OpenAt dart tree n top
      top_open = subst (OpenAt dart tree n) top_is (a.is_open (length st) (omega (arith, len_more)))

      below_top : (q : ℕ) → OpenAt dart tree n q → (q ≡ top) ⊎ ((i : ℕ) × (i < length st) × (get_or st i 0 ≡ q) × (q < top))
      below_top q o =
          let s = a.each_open q o in
          elim (cases_lt s.0 (length st)) [
            | inl k ↦
                let z = a.order s.0 (length st) k (omega (arith, len_more)) in
                let y : q < top = subst (λ v. v < top) s.2 (subst (λ v. get_or (st ++ top ∷ []) s.0 0 < v) top_is z) in
                inr (s.0, k, sym (get_or_append_left st (top ∷ []) 0 s.0 k) ∙ s.2, y)
            | inr k ↦
                let i : s.0 ≡ length st = omega (arith, len_more) in
                inl (sym s.2 ∙ ap (λ v. get_or (st ++ top ∷ []) v 0) i ∙ top_is)
          ]

      pub open_second : dart top ≡ reverse_dart (dart n) → AreOpen dart tree (n + 1) st
      open_second e =
          let same : top ≡ begin.0 = w.once top begin.0 (omega (arith, top_open.begun)) (omega (arith, begin.1)) (e ∙ sym begin.2) in
          let ends_top : dart n ≡ reverse_dart (dart top) = back dart top n e in
          record {
            is_open = λ i l.
                let x = get_or_append_left st (top ∷ []) 0 i l in
                let o = subst (OpenAt dart tree n) x (a.is_open i (omega (arith, len_more))) in
                let z0 = a.order i (length st) l (omega (arith, len_more)) in
                let z : get_or st i 0 < top = subst (λ v. v < top) x (subst (λ v. get_or (st ++ top ∷ []) i 0 < v) top_is z0) in
                still (get_or st i 0) o (λ k.
                let j : get_or st i 0 ≡ top = w.once (get_or st i 0) top (omega (arith, o.begun)) (omega (arith, top_open.begun))
                (back dart n (get_or st i 0) k ∙ sym e) in
                omega arith);
            each_open = λ q o.
                let ne : q ≢ n = λ i.
                o.not_ended begin.0 (omega (arith, begin.1)) (begin.2 ∙ ap (λ v. reverse_dart (dart v)) (sym i)) in
                elim (below_top q (opened_before q o ne)) [
                  | inl i ↦ absurd (o.not_ended n (omega arith) (ends_top ∙ ap (λ v. reverse_dart (dart v)) (sym i)))
                  | inr s ↦ (s.0, s.1, s.2)
                ];
            order = λ i j l l2.
                let x = get_or_append_left st (top ∷ []) 0 i (omega arith) in
                let y = get_or_append_left st (top ∷ []) 0 j l2 in
                let z = a.order i j l (omega (arith, len_more)) in
                subst (λ v. get_or st i 0 < v) y (subst (λ v. v < get_or (st ++ top ∷ []) j 0) x z);
            none = none_more (st ++ top ∷ []) a (λ p q c.
                let lp : p < len = omega (arith, c.later, c.before) in
                let i : p ≡ top = w.once p top lp (omega (arith, top_open.begun)) (back dart n p c.closes ∙ sym e) in
                let o : OpenAt dart tree n q = record { begun = c.before; other = c.other_later; not_ended = c.still_open } in
                elim (below_top q o) [
                  | inl j ↦ absurd (omega (arith, c.later))
                  | inr s ↦ absurd (omega (arith, c.later, s.3))
                ]);
          }

      pub open_crossed : dart top ≢ reverse_dart (dart n) → (closing : ℕ) → closing ≡ dart n → IsFirstCrossing dart tree len closing
      open_crossed ne edge en =
          elim (below_top begin.0 begin_open) [
            | inl i ↦ absurd (ne (ap dart (sym i) ∙ begin.2))
            | inr s ↦
                let m = w.mate top (omega (arith, top_open.begun)) in
                record {
                  begin = begin.0;
                  later_begin = top;
                  end = n;
                  later_end = m.0;
                  crossing = record { later = s.3; before = top_open.begun; other = begin_open.other; other_later = top_open.other; closes = ends_it; still_open = top_open.not_ended };
                  ends_later = elim (cases_order n m.0) [
                    | inl i ↦ absurd (ne (back dart n top (ap dart i ∙ m.2)))
                    | inr z ↦ elim z [ inl l ↦ l | inr l ↦ absurd (top_open.not_ended m.0 l m.2) ]
                  ];
                  within = m.1;
                  closes_later = m.2;
                  closed = en;
                  first = a.none;
                }
          ]

pub open_done : (dart : ℕ → ℕ) (tree first : ℕ → Bool) (len : ℕ) → ArePairs dart tree first len → (st : List ℕ) → AreOpen dart tree len st → OthersNest dart tree len
open_done dart tree first len w st a = record {
  nest = λ p q r s l1 l2 l3 l4 tp tq e f. a.none p q r (omega arith) (record {
    later = l1;
    before = l2;
    other = tp;
    other_later = tq;
    closes = e;
    still_open = λ u l g. let i : u ≡ s = w.once u s (omega arith) l4 (g ∙ sym f) in omega arith;
  });
}

-- the walk in which a place stands
pub place_in : (ps : ℕ → ℕ) (k p : ℕ) → ps 0 ≡ 0 → p < ps k → (i : ℕ) × (i < k) × (ps i ≤ p) × (p < ps (i + 1))
place_in ps zero p b h = absurd (omega arith)
place_in ps (suc k) p b h = elim (cases_lt p (ps k)) [
  | inl l ↦ let s = place_in ps k p b l in (s.0, omega arith, s.2, s.3)
  | inr l ↦ (k, omega arith, l, rw add-one h)
]

pub places_up : (ps : ℕ → ℕ) (k : ℕ) → ((i : ℕ) → i < k → ps i < ps (i + 1)) → (i : ℕ) → i ≤ k → ps i ≤ ps k
places_up ps zero up i h = let e : i ≡ 0 = omega arith in rw e (omega arith)
places_up ps (suc k) up i h = elim (cases_eq i (suc k)) [
  | inl e ↦ rw e (omega arith)
  | inr n ↦
      let z = places_up ps k (λ j l. up j (omega arith)) i (omega arith) in
      let y : ps k < ps (suc k) = rw add-one at (up k (omega arith)) in
      omega arith
]

module _ (edges : ℕ) (next node : ℕ → ℕ) (starts darts : List ℕ) (tree first : List Bool) (places : List ℕ)
    (t : IsTour edges next node starts darts tree first places) where
  -- the walk in which the place p stands, with the other place of its edge
  mate_in : (p : ℕ) → p < length darts → (i : ℕ) × (i < length starts) × (number_at places i ≤ p) × (p < number_at places (i + 1))
      × (number_at places (i + 1) ≤ length darts)
      × ((q : ℕ) × (number_at places i ≤ q) × (q < number_at places (i + 1)) × (number_at darts q ≡ reverse_dart (number_at darts p)))
  mate_in p h =
      let e = t.ends in
      let h2 : p < number_at places (length starts) = rw e h in
      let s = place_in (number_at places) (length starts) p t.begins h2 in
      let w = t.walks s.0 s.1 in
      let u = places_up (number_at places) (length starts) (λ i l. (t.walks i l).some) (s.0 + 1) (omega (arith, s.1)) in
      let c = (w.members (number_at darts p)).1 (p, s.2, s.3, refl) in
      (s.0, s.1, s.2, s.3, omega (arith, u, e), (w.members (reverse_dart (number_at darts p))).0 (reversed (number_at darts p) c))

  -- the places of a tour are pairs
  pub pairs_of_tour : ArePairs (number_at darts) (flag_at tree) (flag_at first) (length darts)
  pairs_of_tour = record {
    once = t.once;
    both_tree = λ p q h h2 e.
        let s = mate_in p h in
        let m = s.5 in
        let i : m.0 ≡ q = t.once m.0 q (omega (arith, m.2, s.4)) h2 (m.3 ∙ sym e) in
        (t.walks s.0 s.1).both_tree p m.0 s.2 s.3 m.1 m.2 m.3 ∙ ap (flag_at tree) i;
    first_new = λ p q h f l e.
        let s = mate_in p h in
        let m = s.5 in
        let i : m.0 ≡ q = t.once m.0 q (omega (arith, m.2, s.4)) (omega arith) (m.3 ∙ sym e) in
        (t.walks s.0 s.1).first_new p m.0 s.3 f m.1 (omega arith) m.3;
    first_old = λ p h f.
        let s = mate_in p h in
        let o = (t.walks s.0 s.1).first_old p s.2 s.3 f in
        (o.0, o.2, o.3);
    mate = λ p h.
        let s = mate_in p h in
        let m = s.5 in
        (m.0, omega (arith, m.2, s.4), m.3);
  }

  -- each of them is a dart
  pub tour_below : IsDartSystem edges next node → AreStarts edges next starts → (p : ℕ) → p < length darts → number_at darts p < 2 * edges
  tour_below rot are p h =
      let s = mate_in p h in
      component_below edges next node rot (number_at starts s.0) (number_at darts p) (are.below s.0 s.1) (((t.walks s.0 s.1).members (number_at darts p)).1 (p, s.2, s.3, refl))
