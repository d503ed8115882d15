-- What a walk by the rule is: each tree edge that it enters by it leaves by, in nested order, and it comes to each
-- dart.
use Rattle.std.proofs.Common.{◌≡◌, ◌≢◌, ℕ, zero, suc, ◌+◌, ◌-◌, ◌*◌, ◌<◌, ◌≤◌, ◌⊎◌, Bool, true, false, refl, sym, ◌∙◌, ap, subst, inl, inr, arith}
use Rattle.std.proofs.lemmas.Bool.{cases_eq, cases_Bool, cases_lt, cases_order, false≢true}
use Rattle.spanning_pair.specs.Darts.{reverse_dart, turn, turned, IsDartSystem, InComponent}
use Rattle.orbits.specs.Components.InComponent.{itself, reversed, turned_on}
use Rattle.spanning_pair.specs.Walks.{after, IsTreeWalk}
use Rattle.spanning_pair.proofs.OtherDart.{reverse_reverse, reverse_below}

-- the rule of the walk alone
pub record Follows (m : ℕ) (next node : ℕ → ℕ) (start : ℕ) (dart : ℕ → ℕ) (tree first : ℕ → Bool) (from to : ℕ) : Type 0 where
  pub some : from < to
  pub begins : dart from ≡ start
  pub goes_on : (p : ℕ) → from ≤ p → p + 1 < to → dart (p + 1) ≡ after next (tree p) (dart p)
  pub comes_back : (p : ℕ) → from ≤ p → p + 1 ≡ to → start ≡ after next (tree p) (dart p)
  pub below : (p : ℕ) → from ≤ p → p < to → dart p < 2 * m
  pub inside : (p : ℕ) → from ≤ p → p < to → InComponent next start (dart p)
  pub once : (p q : ℕ) → from ≤ p → p < to → from ≤ q → q < to → dart p ≡ dart q → p ≡ q
  pub both_tree : (p q : ℕ) → from ≤ p → p < to → from ≤ q → q < to → dart q ≡ reverse_dart (dart p) → tree p ≡ tree q
  pub first_new : (p q : ℕ) → p < to → first p ≡ true → from ≤ q → q < p → dart q ≢ reverse_dart (dart p)
  pub first_old : (p : ℕ) → from ≤ p → p < to → first p ≡ false → (q : ℕ) × (from ≤ q) × (q < p) × (dart q ≡ reverse_dart (dart p))
  pub tree_new : (p q : ℕ) → p < to → first p ≡ true → tree p ≡ true → from ≤ q → q ≤ p → node (dart q) ≢ node (reverse_dart (dart p))
  pub tree_old : (p : ℕ) → from ≤ p → p < to → first p ≡ true → tree p ≡ false → (q : ℕ) × (from ≤ q) × (q ≤ p) × (node (dart q) ≡ node (reverse_dart (dart p)))

pub node_of_turn : (m : ℕ) (next node : ℕ → ℕ) → IsDartSystem m next node → (d : ℕ) → d < 2 * m → node (turn next d) ≡ node d
node_of_turn m next node rot d h = rot.follows (reverse_dart d) (reverse_below d m h) ∙ ap node (reverse_reverse d)

module _ (m : ℕ) (next node : ℕ → ℕ) (rot : IsDartSystem m next node) (start : ℕ)
    (dart : ℕ → ℕ) (tree first : ℕ → Bool) (a b : ℕ) (w : Follows m next node start dart tree first a b) where
  -- the place after a place of a dart whose edge is not a tree edge
  node_after_other : (p d : ℕ) → a ≤ p → p < b → tree p ≡ false → d ≡ after next (tree p) (dart p) → node d ≡ node (dart p)
  node_after_other p d l h t e =
      let f : d ≡ turn next (dart p) = e ∙ ap (λ v. after next v (dart p)) t in
      ap node f ∙ node_of_turn m next node rot (dart p) (w.below p l h)

  node_after_tree : (p d : ℕ) → a ≤ p → p < b → tree p ≡ true → d ≡ after next (tree p) (dart p) → node d ≡ node (reverse_dart (dart p))
  node_after_tree p d l h t e =
      let f : d ≡ next (dart p) = e ∙ ap (λ v. after next v (dart p)) t in
      ap node f ∙ rot.follows (dart p) (w.below p l h)

  -- the first place of the edge of a second place
  back_to_first : (t : ℕ) → a ≤ t → t < b → first t ≡ false
      → (q : ℕ) × (a ≤ q) × (q < t) × (dart q ≡ reverse_dart (dart t)) × (dart t ≡ reverse_dart (dart q)) × (tree q ≡ tree t) × (first q ≡ true)
  back_to_first t l h f =
      let s = w.first_old t l h f in
      let e : dart t ≡ reverse_dart (dart s.0) = sym (ap reverse_dart s.3 ∙ reverse_reverse (dart t)) in
      let k : s.0 < b = omega arith in
      let u : (first s.0 ≡ true) ⊎ (first s.0 ≡ false) = cases_Bool (first s.0) in (
        s.0,
        s.1,
        s.2,
        s.3,
        e,
        w.both_tree s.0 t s.1 k l h e,
        elim u [
          | inl y ↦ y
          | inr n ↦ let r = w.first_old s.0 s.1 k n in
              let g : dart r.0 ≡ dart t = r.3 ∙ sym e in
              let k2 : r.0 < b = omega arith in
              let z : r.0 ≡ t = w.once r.0 t r.1 k2 l h g in absurd (omega arith)
        ],
      )

  -- the first darts of two tree edges have different heads
  heads_apart : (p q : ℕ) → a ≤ p → p < q → q < b → tree p ≡ true → first p ≡ true → tree q ≡ true → first q ≡ true
      → node (reverse_dart (dart p)) ≢ node (reverse_dart (dart q))
  heads_apart p q l lt h tp fp tq fq e =
      let k : p + 1 < b = omega arith in
      let k2 : p < b = omega arith in
      let g = node_after_tree p (dart (p + 1)) l k2 tp (w.goes_on p l k) in
      w.tree_new q (p + 1) h fq tq (omega arith) (omega arith) (g ∙ e)

  heads_once : (p q : ℕ) → a ≤ p → p < b → a ≤ q → q < b → tree p ≡ true → first p ≡ true → tree q ≡ true → first q ≡ true
      → node (reverse_dart (dart p)) ≡ node (reverse_dart (dart q)) → p ≡ q
  heads_once p q l h l2 h2 tp fp tq fq e =
      elim (cases_order p q) [
        | inl y ↦ y
        | inr z ↦ elim z [
          | inl y ↦ absurd (heads_apart p q l y h2 tp fp tq fq e)
          | inr y ↦ absurd (heads_apart q p l2 y h tq fq tp fp (sym e))
        ]
      ]

  head_not_root : (p : ℕ) → a ≤ p → p < b → tree p ≡ true → first p ≡ true → node start ≢ node (reverse_dart (dart p))
  head_not_root p l h t f e =
      w.tree_new p a h f t (omega arith) l (ap node w.begins ∙ e)

  -- each tree edge that is entered after the place p and before t has been left before t
  Nested : ℕ → ℕ → Type 0
  Nested p t = (q : ℕ) → p < q → q < t → tree q ≡ true → first q ≡ true → (s : ℕ) × (q < s) × (s < t) × (dart s ≡ reverse_dart (dart q))

  -- the tree edge that is entered at p is left later
  Closes : ℕ → Type 0
  Closes p = (r : ℕ) × (p < r) × (r < b) × (dart r ≡ reverse_dart (dart p)) × Nested p r

  CloseAbove : ℕ → Type 0
  CloseAbove p = (q : ℕ) → p < q → q < b → tree q ≡ true → first q ≡ true → Closes q

  nested_other : (p t : ℕ) → Nested p t → tree t ≡ false → Nested p (t + 1)
  unfolding Nested
  nested_other p t h f q l1 l2 tq fq =
      elim (cases_eq q t) [
        | inl e ↦ absurd (false≢true (sym f ∙ sym (ap tree e) ∙ tq))
        | inr n ↦ let k : q < t = omega arith in let s = h q l1 k tq fq in (s.0, s.1, omega arith, s.3)
      ]

  nested_child : (p t r : ℕ) → a ≤ t → r < b → t < r → first t ≡ true → dart r ≡ reverse_dart (dart t) → Nested p t → Nested t r → Nested p (r + 1)
  unfolding Nested
  nested_child p t r la hb lt ft e h g q l1 l2 tq fq =
      elim (cases_order q t) [
        | inl i ↦ (r, omega arith, omega arith, e ∙ ap (λ x. reverse_dart (dart x)) (sym i))
        | inr z ↦ elim z [
          | inl i ↦ let s = h q l1 i tq fq in (s.0, s.1, omega arith, s.3)
          | inr i ↦ elim (cases_eq q r) [
            | inl j ↦
                let back : dart t ≡ reverse_dart (dart q) = sym (ap (λ x. reverse_dart (dart x)) j ∙ ap reverse_dart e ∙ reverse_reverse (dart t)) in
                absurd (w.first_new q t (omega arith) fq la i back)
            | inr n ↦ let k : q < r = omega arith in let s = g q i k tq fq in (s.0, s.1, omega arith, s.3)
          ]
        ]
      ]

  -- The walk goes on at the head of the dart at p. Each child there is left before the walk is back there, so
  -- only the reverse of that dart can end the round.
  round_on : (fuel p t : ℕ) → b ≤ t + fuel → a ≤ p → p < t → t < b → tree p ≡ true → first p ≡ true
      → node (dart t) ≡ node (reverse_dart (dart p)) → Nested p t → CloseAbove p → Closes p
  unfolding Closes CloseAbove
  round_on zero p t hf la lt h tp fp v g ab = absurd (omega arith)
  round_on (suc fuel) p t hf la lt h tp fp v g ab =
      let lt2 : a ≤ t = omega arith in
      let lp : p < b = omega arith in
      elim (cases_Bool (tree t)) [
        | inr f ↦ elim (cases_lt (t + 1) b) [
          | inl k ↦ round_on fuel p (t + 1) (omega arith) la (omega arith) k tp fp
              (node_after_other t (dart (t + 1)) lt2 h f (w.goes_on t lt2 k) ∙ v) (nested_other p t g f) ab
          | inr k ↦ let e : t + 1 ≡ b = omega arith in
              absurd (head_not_root p la lp tp fp (node_after_other t start lt2 h f (w.comes_back t lt2 e) ∙ v))
        ]
        | inl y ↦ elim (cases_Bool (first t)) [
          | inr f ↦ let s = back_to_first t lt2 h f in
              let hd : node (reverse_dart (dart s.0)) ≡ node (reverse_dart (dart p)) = ap node (sym s.4) ∙ v in
              let i : s.0 ≡ p = heads_once s.0 p s.1 (omega arith) la lp (s.5 ∙ y) s.6 tp fp hd in
              (t, lt, h, s.4 ∙ ap (λ x. reverse_dart (dart x)) i, g)
          | inl f ↦ let c = ab t lt h y f in
              let l3 : a ≤ c.0 = omega arith in
              let tr : tree c.0 ≡ true = sym (w.both_tree t c.0 lt2 h l3 c.2 c.3) ∙ y in
              let nb : node (reverse_dart (dart c.0)) ≡ node (reverse_dart (dart p)) =
              ap (λ x. node (reverse_dart x)) c.3 ∙ ap node (reverse_reverse (dart t)) ∙ v in
              elim (cases_lt (c.0 + 1) b) [
                | inl k ↦ round_on fuel p (c.0 + 1) (omega arith) la (omega arith) k tp fp
                    (node_after_tree c.0 (dart (c.0 + 1)) l3 c.2 tr (w.goes_on c.0 l3 k) ∙ nb)
                    (nested_child p t c.0 lt2 c.2 c.1 f c.3 g c.4) ab
                | inr k ↦ let e : c.0 + 1 ≡ b = omega arith in
                    absurd (head_not_root p la lp tp fp (node_after_tree c.0 start l3 c.2 tr (w.comes_back c.0 l3 e) ∙ nb))
              ]
        ]
      ]

  nested_none : (p : ℕ) → Nested p (p + 1)
  unfolding Nested
  nested_none p q l1 l2 = absurd (omega arith)

  closes : (fuel p : ℕ) → b ≤ p + fuel → a ≤ p → p < b → tree p ≡ true → first p ≡ true → Closes p
  unfolding CloseAbove
  closes zero p hf la h tp fp = absurd (omega arith)
  closes (suc fuel) p hf la h tp fp =
      elim (cases_lt (p + 1) b) [
        | inl k ↦ round_on b p (p + 1) (omega arith) la (omega arith) k tp fp
            (node_after_tree p (dart (p + 1)) la h tp (w.goes_on p la k)) (nested_none p)
            (λ q l1 l2 tq fq. closes fuel q (omega arith) (omega arith) l2 tq fq)
        | inr k ↦ let e : p + 1 ≡ b = omega arith in
            absurd (head_not_root p la h tp fp (node_after_tree p start la h tp (w.comes_back p la e)))
      ]

  -- tree edges nest
  nest_first : (p r : ℕ) → a ≤ p → p < r → r < b → dart r ≡ reverse_dart (dart p) → first p ≡ true
  nest_first p r la lt h e =
      elim (cases_Bool (first p)) [
        | inl y ↦ y
        | inr n ↦ let s = w.first_old p la (omega arith) n in
            let i : s.0 ≡ r = w.once s.0 r s.1 (omega arith) (omega arith) h (s.3 ∙ sym e) in absurd (omega arith)
      ]

  nest_places : (p q r s : ℕ) → a ≤ p → p < q → q < r → r < s → s < b → tree p ≡ true → tree q ≡ true
      → dart r ≡ reverse_dart (dart p) → dart s ≢ reverse_dart (dart q)
  unfolding Closes Nested
  nest_places p q r s la l1 l2 l3 h tp tq e f =
      let fp : first p ≡ true = nest_first p r la (omega arith) (omega arith) e in
      let fq : first q ≡ true = nest_first q s (omega arith) (omega arith) h f in
      let c = closes b p (omega arith) la (omega arith) tp fp in
      let i : c.0 ≡ r = w.once c.0 r (omega arith) c.2 (omega arith) (omega arith) (c.3 ∙ sym e) in
      let d = c.4 q l1 (omega arith) tq fq in
      let j : d.0 ≡ s = w.once d.0 s (omega arith) (omega arith) (omega arith) h (d.3 ∙ sym f) in
      absurd (omega arith)

  -- a dart stands in the walk
  Stands : ℕ → Type 0
  Stands d = (p : ℕ) × (a ≤ p) × (p < b) × (dart p ≡ d)

  stands_after : (p : ℕ) → a ≤ p → p < b → Stands (after next (tree p) (dart p))
  unfolding Stands
  stands_after p la h =
      elim (cases_lt (p + 1) b) [
        | inl k ↦ (p + 1, omega arith, k, w.goes_on p la k)
        | inr k ↦ let e : p + 1 ≡ b = omega arith in (a, omega arith, w.some, w.begins ∙ w.comes_back p la e)
      ]

  stands_reverse_tree : (p : ℕ) → a ≤ p → p < b → tree p ≡ true → Stands (reverse_dart (dart p))
  unfolding Stands Closes
  stands_reverse_tree p la h tp =
      elim (cases_Bool (first p)) [
        | inl f ↦ let c = closes b p (omega arith) la h tp f in (c.0, omega arith, c.2, c.3)
        | inr f ↦ let s = w.first_old p la h f in (s.0, s.1, omega arith, s.3)
      ]

  stands_turn : (d : ℕ) → Stands d → Stands (turn next d)
  unfolding Stands
  stands_turn d s =
      let t : Stands (turn next (dart s.0)) = elim (cases_Bool (tree s.0)) [
        | inr f ↦ let g : after next (tree s.0) (dart s.0) ≡ turn next (dart s.0) = ap (λ v. after next v (dart s.0)) f in
            subst Stands g (stands_after s.0 s.1 s.2)
        | inl y ↦ let r = stands_reverse_tree s.0 s.1 s.2 y in
            let tr : tree r.0 ≡ true = sym (w.both_tree s.0 r.0 s.1 s.2 r.1 r.2 r.3) ∙ y in
            let g : after next (tree r.0) (dart r.0) ≡ turn next (dart s.0) = ap (λ v. after next v (dart r.0)) tr ∙ ap next r.3 in
            subst Stands g (stands_after r.0 r.1 r.2)
      ] in
      subst (λ x. Stands (turn next x)) s.3 t

  stands_turned : (k d : ℕ) → Stands d → Stands (turned next k d)
  stands_turned zero d s = s
  stands_turned (suc k) d s = stands_turn (turned next k d) (stands_turned k d s)

  stands_reverse : (d : ℕ) → Stands d → Stands (reverse_dart d)
  unfolding Stands
  stands_reverse d s =
      let t : Stands (reverse_dart (dart s.0)) = elim (cases_Bool (tree s.0)) [
        | inl y ↦ stands_reverse_tree s.0 s.1 s.2 y
        | inr n ↦ elim (cases_Bool (first s.0)) [
          | inr f ↦ let r = w.first_old s.0 s.1 s.2 f in (r.0, r.1, omega arith, r.3)
          | inl f ↦ let r = w.tree_old s.0 s.1 s.2 f n in
              let h : r.0 < b = omega arith in
              let o = rot.round (dart r.0) (reverse_dart (dart s.0)) (w.below r.0 r.1 h) (reverse_below (dart s.0) m (w.below s.0 s.1 s.2)) r.3 in
              subst Stands o.1 (stands_turned o.0 (dart r.0) (r.0, r.1, h, refl))
        ]
      ] in
      subst (λ x. Stands (reverse_dart x)) s.3 t

  stands_each : (d : ℕ) → InComponent next start d → Stands d
  unfolding Stands
  stands_each d itself = (a, omega arith, w.some, w.begins)
  stands_each d (reversed e c) = stands_reverse e (stands_each e c)
  stands_each d (turned_on e c) = stands_turn e (stands_each e c)

  stands_within : (d : ℕ) → Stands d → InComponent next start d
  unfolding Stands
  stands_within d s = subst (InComponent next start) s.3 (w.inside s.0 s.1 s.2)

  -- each node on the walk is the root or was reached
  Reached : ℕ → Type 0
  Reached v = (p : ℕ) × (a ≤ p) × (p < b) × (tree p ≡ true) × (first p ≡ true) × (node (reverse_dart (dart p)) ≡ v)

  reached_at : (fuel p : ℕ) → p < fuel → a ≤ p → p < b → (node (dart p) ≡ node start) ⊎ Reached (node (dart p))
  unfolding Reached
  reached_at zero p hf la h = absurd (omega arith)
  reached_at (suc fuel) p hf la h =
      elim (cases_eq p a) [
        | inl e ↦ inl (ap (λ x. node (dart x)) e ∙ ap node w.begins)
        | inr n ↦
            let q = p - 1 in
            let pq : p ≡ q + 1 = omega arith in
            let lq : a ≤ q = omega arith in
            let hq : q < b = omega arith in
            let step : dart p ≡ after next (tree q) (dart q) = ap dart pq ∙ w.goes_on q lq (omega arith) in
            elim (cases_Bool (tree q)) [
              | inr f ↦ let e : node (dart p) ≡ node (dart q) = node_after_other q (dart p) lq hq f step in
                  subst (λ v. (v ≡ node start) ⊎ Reached v) (sym e) (reached_at fuel q (omega arith) lq hq)
              | inl y ↦ let e : node (dart p) ≡ node (reverse_dart (dart q)) = node_after_tree q (dart p) lq hq y step in
                  elim (cases_Bool (first q)) [
                    | inl f ↦ inr (q, lq, hq, y, f, sym e)
                    | inr f ↦ let s = w.first_old q lq hq f in
                        let hs : s.0 < b = omega arith in
                        let g : node (dart p) ≡ node (dart s.0) = e ∙ ap node (sym s.3) in
                        subst (λ v. (v ≡ node start) ⊎ Reached v) (sym g) (reached_at fuel s.0 (omega arith) s.1 hs)
                  ]
            ]
      ]

  reaches_each : (d : ℕ) → InComponent next start d → node d ≢ node start → Reached (node d)
  unfolding Stands Reached
  reaches_each d c n =
      let s = stands_each d c in
      let e : node (dart s.0) ≡ node d = ap node s.3 in
      elim (reached_at (suc s.0) s.0 (omega arith) s.1 s.2) [
        | inl y ↦ absurd (n (sym e ∙ y))
        | inr r ↦ (r.0, r.1, r.2, r.3, r.4, r.5 ∙ e)
      ]

  pub is_tree_walk : IsTreeWalk next node start dart tree first a b
  unfolding Stands Reached
  is_tree_walk = record {
    some = w.some;
    begins = w.begins;
    goes_on = w.goes_on;
    comes_back = w.comes_back;
    members = λ d. (stands_each d, stands_within d);
    once = w.once;
    both_tree = w.both_tree;
    first_new = w.first_new;
    first_old = w.first_old;
    tree_new = w.tree_new;
    tree_old = w.tree_old;
    reaches = reaches_each;
    reaches_once = λ p q l h l2 h2 tp fp tq fq e. heads_once p q l h l2 h2 tp fp tq fq e;
    never_root = λ p l h t f e. head_not_root p l h t f (sym e);
    nest = nest_places;
  }
