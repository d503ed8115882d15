-- The walk so far, and one step of it.
use Rattle.std.proofs.Common.{◌≡◌, ◌≢◌, ℕ, ◌+◌, ◌-◌, ◌*◌, ◌/◌, ◌<◌, ◌≤◌, ◌⊎◌, Bool, true, false, cond, refl, sym, ◌∙◌, ap, subst, inl, inr, arith}
use Rattle.std.proofs.lemmas.Bool.{cases_eq, cases_Bool, false≢true}
use Rattle.std.specs.Prelude.{not}
use Rattle.spanning_pair.specs.Darts.{reverse_dart, turn, IsDartSystem, InComponent}
use Rattle.orbits.specs.Components.InComponent.{reversed, turned_on}
use Rattle.spanning_pair.specs.Walks.{after}
use Rattle.spanning_pair.proofs.OtherDart.{reverse_reverse, reverse_below, reverse_other, reverse_half, half_cases}
use Rattle.spanning_pair.proofs.ByRule.{Follows, node_of_turn}

-- what is listed at the places from `from` to before `n`
pub record Listed (m : ℕ) (next node : ℕ → ℕ) (start : ℕ) (dart : ℕ → ℕ) (tree first : ℕ → Bool) (from n : ℕ) : Type 0 where
  pub begins : from < n → dart from ≡ start
  pub goes_on : (p : ℕ) → from ≤ p → p + 1 < n → dart (p + 1) ≡ after next (tree p) (dart p)
  pub below : (p : ℕ) → from ≤ p → p < n → dart p < 2 * m
  pub inside : (p : ℕ) → from ≤ p → p < n → InComponent next start (dart p)
  pub once : (p q : ℕ) → from ≤ p → p < n → from ≤ q → q < n → dart p ≡ dart q → p ≡ q
  pub both_tree : (p q : ℕ) → from ≤ p → p < n → from ≤ q → q < n → dart q ≡ reverse_dart (dart p) → tree p ≡ tree q
  pub first_new : (p q : ℕ) → p < n → first p ≡ true → from ≤ q → q < p → dart q ≢ reverse_dart (dart p)
  pub first_old : (p : ℕ) → from ≤ p → p < n → first p ≡ false → (q : ℕ) × (from ≤ q) × (q < p) × (dart q ≡ reverse_dart (dart p))
  pub tree_new : (p q : ℕ) → p < n → first p ≡ true → tree p ≡ true → from ≤ q → q ≤ p → node (dart q) ≢ node (reverse_dart (dart p))
  pub tree_old : (p : ℕ) → from ≤ p → p < n → first p ≡ true → tree p ≡ false → (q : ℕ) × (from ≤ q) × (q ≤ p) × (node (dart q) ≡ node (reverse_dart (dart p)))

-- what the flags say of it: which edges were seen, which of them are tree edges, and which nodes were visited
pub record Flagged (node : ℕ → ℕ) (dart : ℕ → ℕ) (tree : ℕ → Bool) (from n d : ℕ) (seen0 visited0 seen known visited : ℕ → Bool) : Type 0 where
  pub seen_old : (e : ℕ) → seen e ≡ true → (seen0 e ≡ true) ⊎ ((q : ℕ) × (from ≤ q) × (q < n) × (dart q / 2 ≡ e))
  pub seen_new : (q : ℕ) → from ≤ q → q < n → seen (dart q / 2) ≡ true
  pub knows : (q : ℕ) → from ≤ q → q < n → known (dart q / 2) ≡ tree q
  pub visited_old : (v : ℕ) → visited v ≡ true → (visited0 v ≡ true) ⊎ ((node d ≡ v) ⊎ ((q : ℕ) × (from ≤ q) × (q < n) × (node (dart q) ≡ v)))
  pub visited_new : (q : ℕ) → from ≤ q → q < n → visited (node (dart q)) ≡ true
  pub visited_here : visited (node d) ≡ true

-- the dart d comes next
pub record Going (m : ℕ) (next node : ℕ → ℕ) (start : ℕ) (dart : ℕ → ℕ) (tree first : ℕ → Bool) (from n d : ℕ)
    (seen0 visited0 seen known visited : ℕ → Bool) : Type 0 where
  pub from_here : from ≤ n
  pub listed : Listed m next node start dart tree first from n
  pub flagged : Flagged node dart tree from n d seen0 visited0 seen known visited
  pub current : InComponent next start d
  pub current_below : d < 2 * m
  pub fresh : (p : ℕ) → from ≤ p → p < n → dart p ≢ d
  pub at_start : n ≡ from → d ≡ start
  pub comes : (p : ℕ) → from ≤ p → p + 1 ≡ n → d ≡ after next (tree p) (dart p)

-- lists that agree so far
module _ (dart dart2 : ℕ → ℕ) (tree tree2 first first2 : ℕ → Bool) (n : ℕ)
    (sd : (p : ℕ) → p < n → dart2 p ≡ dart p) (st : (p : ℕ) → p < n → tree2 p ≡ tree p) (sf : (p : ℕ) → p < n → first2 p ≡ first p) where
  pub listed_same : (m : ℕ) (next node : ℕ → ℕ) (start from : ℕ) → Listed m next node start dart tree first from n → Listed m next node start dart2 tree2 first2 from n
  listed_same m next node start from w =
      let rv = λ (p : ℕ) (h : p < n). ap reverse_dart (sd p h) in
      let nv = λ (p : ℕ) (h : p < n). ap node (ap reverse_dart (sd p h)) in
      record {
        begins = λ h. sd from h ∙ w.begins h;
        goes_on = λ p l h. let k : p < n = omega arith in
            sd (p + 1) h ∙ w.goes_on p l h ∙ ap (λ v. after next v (dart p)) (sym (st p k)) ∙ ap (λ v. after next (tree2 p) v) (sym (sd p k));
        below = λ p l h. rw (sd p h) (w.below p l h);
        inside = λ p l h. rw (sd p h) (w.inside p l h);
        once = λ p q l h l2 h2 e. w.once p q l h l2 h2 (sym (sd p h) ∙ e ∙ sd q h2);
        both_tree = λ p q l h l2 h2 e. st p h ∙ w.both_tree p q l h l2 h2 (sym (sd q h2) ∙ e ∙ rv p h) ∙ sym (st q h2);
        first_new = λ p q h f l k e. let h2 : q < n = omega arith in w.first_new p q h (sym (sf p h) ∙ f) l k (sym (sd q h2) ∙ e ∙ rv p h);
        first_old = λ p l h f. let s = w.first_old p l h (sym (sf p h) ∙ f) in
            let h2 : s.0 < n = omega arith in (s.0, s.1, s.2, sd s.0 h2 ∙ s.3 ∙ sym (rv p h));
        tree_new = λ p q h f t l k e. let h2 : q < n = omega arith in
            w.tree_new p q h (sym (sf p h) ∙ f) (sym (st p h) ∙ t) l k (sym (ap node (sd q h2)) ∙ e ∙ nv p h);
        tree_old = λ p l h f t. let s = w.tree_old p l h (sym (sf p h) ∙ f) (sym (st p h) ∙ t) in
            let h2 : s.0 < n = omega arith in (s.0, s.1, s.2, ap node (sd s.0 h2) ∙ s.3 ∙ sym (nv p h));
      }

  pub going_same : (m : ℕ) (next node : ℕ → ℕ) (start from d : ℕ) (seen0 visited0 seen known visited : ℕ → Bool)
      → Going m next node start dart tree first from n d seen0 visited0 seen known visited
      → Going m next node start dart2 tree2 first2 from n d seen0 visited0 seen known visited
  going_same m next node start from d seen0 visited0 seen known visited g =
      let f = g.flagged in
      record {
        from_here = g.from_here;
        listed = listed_same m next node start from g.listed;
        flagged = record {
          seen_old = λ e y. elim (f.seen_old e y) [ inl z ↦ inl z | inr z ↦ inr (z.0, z.1, z.2, ap (λ v. v / 2) (sd z.0 z.2) ∙ z.3) ];
          seen_new = λ q l h. rw (sd q h) (f.seen_new q l h);
          knows = λ q l h. ap (λ v. known (v / 2)) (sd q h) ∙ f.knows q l h ∙ sym (st q h);
          visited_old = λ v y. elim (f.visited_old v y) [ inl z ↦ inl z | inr z ↦ inr (elim z [ inl u ↦ inl u | inr u ↦ inr (u.0, u.1, u.2, ap node (sd u.0 u.2) ∙ u.3) ]) ];
          visited_new = λ q l h. rw (sd q h) (f.visited_new q l h);
          visited_here = f.visited_here;
        };
        current = g.current;
        current_below = g.current_below;
        fresh = λ p l h e. g.fresh p l h (sym (sd p h) ∙ e);
        at_start = g.at_start;
        comes = λ p l h. let k : p < n = omega arith in
            g.comes p l h ∙ ap (λ v. after next v (dart p)) (sym (st p k)) ∙ ap (λ v. after next (tree2 p) v) (sym (sd p k));
      }

component_after : (next : ℕ → ℕ) (start d : ℕ) (t : Bool) → InComponent next start d → InComponent next start (after next t d)
component_after next start d true c = subst (λ x. InComponent next start (next x)) (reverse_reverse d) (turned_on (reverse_dart d) (reversed d c))
component_after next start d false c = turned_on d c

after_below : (m : ℕ) (next node : ℕ → ℕ) → IsDartSystem m next node → (d : ℕ) (t : Bool) → d < 2 * m → after next t d < 2 * m
after_below m next node rot d true h = rot.next_below d h
after_below m next node rot d false h = rot.next_below (reverse_dart d) (reverse_below d m h)

reverse_once : (d e : ℕ) → reverse_dart d ≡ reverse_dart e → d ≡ e
reverse_once d e h = sym (reverse_reverse d) ∙ ap reverse_dart h ∙ reverse_reverse e

reverse_flip : (d e : ℕ) → d ≡ reverse_dart e → e ≡ reverse_dart d
reverse_flip d e h = sym (ap reverse_dart h ∙ reverse_reverse e)

not_true : (b : Bool) → not b ≡ true → b ≡ false
not_true true h = absurd (false≢true h)
not_true false h = refl

pub not_false : (b : Bool) → not b ≡ false → b ≡ true
not_false true h = refl
not_false false h = absurd (false≢true (sym h))

cond_true : {X : Type 0} (b : Bool) (x y : X) → b ≡ true → cond b x y ≡ x
cond_true b x y e = ap (λ v. cond v x y) e

cond_false : {X : Type 0} (b : Bool) (x y : X) → b ≡ false → cond b x y ≡ y
cond_false b x y e = ap (λ v. cond v x y) e

-- no two listed darts lead on to one dart
after_once : (m : ℕ) (next node : ℕ → ℕ) → IsDartSystem m next node → (start : ℕ) (dart : ℕ → ℕ) (tree first : ℕ → Bool) (from n : ℕ)
    → Listed m next node start dart tree first from n
    → (p q : ℕ) → from ≤ p → p < n → from ≤ q → q < n → after next (tree p) (dart p) ≡ after next (tree q) (dart q) → p ≡ q
after_once m next node rot start dart tree first from n w p q l h l2 h2 e =
    let bp = w.below p l h in
    let bq = w.below q l2 h2 in
    let rp = reverse_below (dart p) m bp in
    let rq = reverse_below (dart q) m bq in
    elim (cases_Bool (tree p)) [
      | inl tp ↦ elim (cases_Bool (tree q)) [
        | inl tq ↦ w.once p q l h l2 h2 (rot.next_once (dart p) (dart q) bp bq
            (sym (cond_true (tree p) (next (dart p)) (turn next (dart p)) tp) ∙ e ∙ cond_true (tree q) (next (dart q)) (turn next (dart q)) tq))
        | inr tq ↦
            let x : dart p ≡ reverse_dart (dart q) = rot.next_once (dart p) (reverse_dart (dart q)) bp rq
            (sym (cond_true (tree p) (next (dart p)) (turn next (dart p)) tp) ∙ e ∙ cond_false (tree q) (next (dart q)) (turn next (dart q)) tq) in
            absurd (false≢true (sym tq ∙ w.both_tree q p l2 h2 l h x ∙ tp))
      ]
      | inr tp ↦ elim (cases_Bool (tree q)) [
        | inl tq ↦
            let x : reverse_dart (dart p) ≡ dart q = rot.next_once (reverse_dart (dart p)) (dart q) rp bq
            (sym (cond_false (tree p) (next (dart p)) (turn next (dart p)) tp) ∙ e ∙ cond_true (tree q) (next (dart q)) (turn next (dart q)) tq) in
            absurd (false≢true (sym tp ∙ w.both_tree p q l h l2 h2 (sym x) ∙ tq))
        | inr tq ↦
            let x : reverse_dart (dart p) ≡ reverse_dart (dart q) = rot.next_once (reverse_dart (dart p)) (reverse_dart (dart q)) rp rq
            (sym (cond_false (tree p) (next (dart p)) (turn next (dart p)) tp) ∙ e ∙ cond_false (tree q) (next (dart q)) (turn next (dart q)) tq) in
            w.once p q l h l2 h2 (reverse_once (dart p) (dart q) x)
      ]
    ]

module _ (m : ℕ) (next node : ℕ → ℕ) (rot : IsDartSystem m next node) (start : ℕ) (dart : ℕ → ℕ) (tree first : ℕ → Bool) (from n d : ℕ)
    (seen0 visited0 seen known visited : ℕ → Bool)
    (g : Going m next node start dart tree first from n d seen0 visited0 seen known visited)
    (clean_seen : (e : ℕ) → InComponent next start e → seen0 (e / 2) ≡ false)
    (clean_visited : (e : ℕ) → InComponent next start e → visited0 (node e) ≡ false)
    (here : dart n ≡ d)
    (new_here : first n ≡ not (seen (d / 2)))
    (tree_here : tree n ≡ cond (first n) (not (visited (node (reverse_dart d)))) (known (d / 2))) where
  seen_listed : seen (d / 2) ≡ true → (q : ℕ) × (from ≤ q) × (q < n) × (dart q ≡ reverse_dart d)
  seen_listed y = elim (g.flagged.seen_old (d / 2) y) [
    | inl z ↦ absurd (false≢true (sym (clean_seen d g.current) ∙ z))
    | inr z ↦ elim (half_cases d (dart z.0) (sym z.3)) [
      | inl e ↦ absurd (g.fresh z.0 z.1 z.2 e)
      | inr e ↦ (z.0, z.1, z.2, e)
    ]
  ]

  -- an edge that was seen was walked the other way, so the node at its other end was visited
  pub head_visited : seen (d / 2) ≡ true → visited (node (reverse_dart d)) ≡ true
  head_visited y = let s = seen_listed y in ap (λ e. visited (node e)) (sym s.3) ∙ g.flagged.visited_new s.0 s.1 s.2

  reverse_seen : (q : ℕ) → from ≤ q → q < n → dart q ≡ reverse_dart d → seen (d / 2) ≡ true
  reverse_seen q l h e = let k : dart q / 2 ≡ d / 2 = ap (λ v. v / 2) e ∙ reverse_half d in
      ap seen (sym k) ∙ g.flagged.seen_new q l h

  -- at the second place of an edge it is what it was
  tree_kept : (q : ℕ) → from ≤ q → q < n → dart q ≡ reverse_dart d → tree q ≡ tree n
  tree_kept q l h e =
      let f : first n ≡ false = new_here ∙ ap not (reverse_seen q l h e) in
      let k : dart q / 2 ≡ d / 2 = ap (λ v. v / 2) e ∙ reverse_half d in
      sym (tree_here ∙ cond_false (first n) (not (visited (node (reverse_dart d)))) (known (d / 2)) f ∙ ap known (sym k) ∙ g.flagged.knows q l h)

  head_seen : first n ≡ true → tree n ≡ false → visited (node (reverse_dart d)) ≡ true
  head_seen f t = not_false (visited (node (reverse_dart d)))
      (sym (cond_true (first n) (not (visited (node (reverse_dart d)))) (known (d / 2)) f) ∙ sym tree_here ∙ t)

  head_not_seen : first n ≡ true → tree n ≡ true → visited (node (reverse_dart d)) ≡ false
  head_not_seen f t = not_true (visited (node (reverse_dart d)))
      (sym (cond_true (first n) (not (visited (node (reverse_dart d)))) (known (d / 2)) f) ∙ sym tree_here ∙ t)

  no_head : first n ≡ true → tree n ≡ true → (q : ℕ) → from ≤ q → q < n + 1 → node (dart q) ≢ node (reverse_dart d)
  no_head f t q l h e = elim (cases_eq q n) [
    | inl i ↦ let x : node (dart q) ≡ node d = ap (λ v. node (dart v)) i ∙ ap node here in
        absurd (false≢true (sym (head_not_seen f t) ∙ ap visited (sym e ∙ x) ∙ g.flagged.visited_here))
    | inr i ↦ let k : q < n = omega arith in
        absurd (false≢true (sym (head_not_seen f t) ∙ ap visited (sym e) ∙ g.flagged.visited_new q l k))
  ]

  a_head : first n ≡ true → tree n ≡ false → (q : ℕ) × (from ≤ q) × (q < n + 1) × (node (dart q) ≡ node (reverse_dart d))
  a_head f t = elim (g.flagged.visited_old (node (reverse_dart d)) (head_seen f t)) [
    | inl z ↦ absurd (false≢true (sym (clean_visited (reverse_dart d) (reversed d g.current)) ∙ z))
    | inr z ↦ elim z [
      | inl e ↦ (n, g.from_here, omega arith, ap node here ∙ e)
      | inr s ↦ (s.0, s.1, omega arith, s.3)
    ]
  ]

  first_here : first n ≡ false → (q : ℕ) × (from ≤ q) × (q < n) × (dart q ≡ reverse_dart d)
  first_here f = seen_listed (not_false (seen (d / 2)) (sym new_here ∙ f))

  pub listed_more : Listed m next node start dart tree first from (n + 1)
  listed_more =
      let w = g.listed in
      let rn : (p : ℕ) → p ≡ n → reverse_dart (dart p) ≡ reverse_dart d = λ p i. ap (λ v. reverse_dart (dart v)) i ∙ ap reverse_dart here in
      let dn : (p : ℕ) → p ≡ n → dart p ≡ d = λ p i. ap dart i ∙ here in
      record {
        begins = λ h. elim (cases_eq n from) [
          | inl i ↦ ap dart (sym i) ∙ here ∙ g.at_start i
          | inr i ↦ w.begins (omega (arith, g.from_here))
        ];
        goes_on = λ p l h. elim (cases_eq (p + 1) n) [
          | inl i ↦ ap dart i ∙ here ∙ g.comes p l i
          | inr i ↦ w.goes_on p l (omega arith)
        ];
        below = λ p l h. elim (cases_eq p n) [
          | inl i ↦ let e = dn p i in rw e g.current_below
          | inr i ↦ w.below p l (omega arith)
        ];
        inside = λ p l h. elim (cases_eq p n) [
          | inl i ↦ let e = dn p i in rw e g.current
          | inr i ↦ w.inside p l (omega arith)
        ];
        once = λ p q l h l2 h2 e. elim (cases_eq p n) [
          | inl i ↦ elim (cases_eq q n) [
            | inl j ↦ i ∙ sym j
            | inr j ↦ absurd (g.fresh q l2 (omega arith) (sym e ∙ dn p i))
          ]
          | inr i ↦ elim (cases_eq q n) [
            | inl j ↦ absurd (g.fresh p l (omega arith) (e ∙ dn q j))
            | inr j ↦ w.once p q l (omega arith) l2 (omega arith) e
          ]
        ];
        both_tree = λ p q l h l2 h2 e. elim (cases_eq p n) [
          | inl i ↦ elim (cases_eq q n) [
            | inl j ↦ absurd (reverse_other d (sym (sym (dn q j) ∙ e ∙ rn p i)))
            | inr j ↦ ap tree i ∙ sym (tree_kept q l2 (omega arith) (e ∙ rn p i))
          ]
          | inr i ↦ elim (cases_eq q n) [
            | inl j ↦ tree_kept p l (omega arith) (reverse_flip d (dart p) (sym (dn q j) ∙ e)) ∙ ap tree (sym j)
            | inr j ↦ w.both_tree p q l (omega arith) l2 (omega arith) e
          ]
        ];
        first_new = λ p q h f l k e. elim (cases_eq p n) [
          | inl i ↦
              let s = reverse_seen q l (omega arith) (e ∙ rn p i) in
              absurd (false≢true (sym (ap first i ∙ new_here ∙ ap not s) ∙ f))
          | inr i ↦ absurd (w.first_new p q (omega arith) f l k e)
        ];
        first_old = λ p l h f. elim (cases_eq p n) [
          | inl i ↦ let s = first_here (ap first (sym i) ∙ f) in (s.0, s.1, omega arith, s.3 ∙ sym (rn p i))
          | inr i ↦ w.first_old p l (omega arith) f
        ];
        tree_new = λ p q h f t l k e. elim (cases_eq p n) [
          | inl i ↦ absurd (no_head (ap first (sym i) ∙ f) (ap tree (sym i) ∙ t) q l (omega arith) (e ∙ ap node (rn p i)))
          | inr i ↦ absurd (w.tree_new p q (omega arith) f t l k e)
        ];
        tree_old = λ p l h f t. elim (cases_eq p n) [
          | inl i ↦ let s = a_head (ap first (sym i) ∙ f) (ap tree (sym i) ∙ t) in (s.0, s.1, omega arith, s.3 ∙ sym (ap node (rn p i)))
          | inr i ↦ w.tree_old p l (omega arith) f t
        ];
      }

  module _ (seen2 known2 visited2 : ℕ → Bool) (d2 : ℕ) (comes2 : d2 ≡ after next (tree n) d)
      (seen_at : seen2 (d / 2) ≡ true) (seen_other : (e : ℕ) → e ≢ d / 2 → seen2 e ≡ seen e)
      (known_at : known2 (d / 2) ≡ tree n) (known_other : (e : ℕ) → e ≢ d / 2 → known2 e ≡ known e)
      (visited_at : visited2 (node (reverse_dart d)) ≡ true) (visited_other : (v : ℕ) → v ≢ node (reverse_dart d) → visited2 v ≡ visited v) where
    node_after_tree : tree n ≡ true → node d2 ≡ node (reverse_dart d)
    node_after_tree t = ap node (comes2 ∙ cond_true (tree n) (next d) (turn next d) t) ∙ rot.follows d g.current_below

    node_after_other : tree n ≡ false → node d2 ≡ node d
    node_after_other t = ap node (comes2 ∙ cond_false (tree n) (next d) (turn next d) t) ∙ node_of_turn m next node rot d g.current_below

    pub flagged_more : Flagged node dart tree from (n + 1) d2 seen0 visited0 seen2 known2 visited2
    flagged_more =
        let f = g.flagged in
        let at_n : n < n + 1 = omega arith in
        record {
          seen_old = λ e y. elim (cases_eq e (d / 2)) [
            | inl i ↦ inr (n, g.from_here, at_n, ap (λ v. v / 2) here ∙ sym i)
            | inr i ↦ elim (f.seen_old e (sym (seen_other e i) ∙ y)) [
              | inl z ↦ inl z
              | inr z ↦ inr (z.0, z.1, omega arith, z.3)
            ]
          ];
          seen_new = λ q l h. elim (cases_eq (dart q / 2) (d / 2)) [
            | inl i ↦ ap seen2 i ∙ seen_at
            | inr i ↦ elim (cases_eq q n) [
              | inl j ↦ absurd (i (ap (λ v. dart v / 2) j ∙ ap (λ v. v / 2) here))
              | inr j ↦ seen_other (dart q / 2) i ∙ f.seen_new q l (omega arith)
            ]
          ];
          knows = λ q l h. elim (cases_eq q n) [
            | inl j ↦ ap (λ v. known2 (dart v / 2)) j ∙ ap (λ v. known2 (v / 2)) here ∙ known_at ∙ ap tree (sym j)
            | inr j ↦ let k : q < n = omega arith in elim (cases_eq (dart q / 2) (d / 2)) [
              | inl i ↦ elim (half_cases d (dart q) (sym i)) [
                | inl e ↦ absurd (g.fresh q l k e)
                | inr e ↦ ap known2 i ∙ known_at ∙ sym (tree_kept q l k e)
              ]
              | inr i ↦ known_other (dart q / 2) i ∙ f.knows q l k
            ]
          ];
          visited_old = λ v y. elim (cases_eq v (node (reverse_dart d))) [
            | inl i ↦ elim (cases_Bool (tree n)) [
              | inl t ↦ inr (inl (node_after_tree t ∙ sym i))
              | inr t ↦ elim (cases_Bool (first n)) [
                | inl u ↦ let s = a_head u t in inr (inr (s.0, s.1, s.2, s.3 ∙ sym i))
                | inr u ↦ let s = first_here u in inr (inr (s.0, s.1, omega arith, ap node s.3 ∙ sym i))
              ]
            ]
            | inr i ↦ elim (f.visited_old v (sym (visited_other v i) ∙ y)) [
              | inl z ↦ inl z
              | inr z ↦ elim z [
                | inl e ↦ inr (inr (n, g.from_here, at_n, ap node here ∙ e))
                | inr s ↦ inr (inr (s.0, s.1, omega arith, s.3))
              ]
            ]
          ];
          visited_new = λ q l h. elim (cases_eq (node (dart q)) (node (reverse_dart d))) [
            | inl i ↦ ap visited2 i ∙ visited_at
            | inr i ↦ visited_other (node (dart q)) i ∙ elim (cases_eq q n) [
              | inl j ↦ ap (λ v. visited (node (dart v))) j ∙ ap (λ v. visited (node v)) here ∙ f.visited_here
              | inr j ↦ f.visited_new q l (omega arith)
            ]
          ];
          visited_here = elim (cases_Bool (tree n)) [
            | inl t ↦ ap visited2 (node_after_tree t) ∙ visited_at
            | inr t ↦ ap visited2 (node_after_other t) ∙ elim (cases_eq (node d) (node (reverse_dart d))) [
              | inl i ↦ ap visited2 i ∙ visited_at
              | inr i ↦ visited_other (node d) i ∙ f.visited_here
            ]
          ];
        }

    here_after : d2 ≡ after next (tree n) (dart n)
    here_after = comes2 ∙ ap (after next (tree n)) (sym here)

    pub going_more : d2 ≢ start → Going m next node start dart tree first from (n + 1) d2 seen0 visited0 seen2 known2 visited2
    going_more ns = record {
      from_here = omega (arith, g.from_here);
      listed = listed_more;
      flagged = flagged_more;
      current = let c = component_after next start d (tree n) g.current in rw comes2 c;
      current_below = let c = after_below m next node rot d (tree n) g.current_below in rw comes2 c;
      fresh = λ p l h e. elim (cases_eq p from) [
        | inl i ↦ absurd (ns (sym e ∙ ap dart i ∙ listed_more.begins (omega (arith, g.from_here))))
        | inr i ↦
            let q = p - 1 in
            let pq : p ≡ q + 1 = omega arith in
            let lq : from ≤ q = omega arith in
            let hq : q < n + 1 = omega arith in
            let s : after next (tree q) (dart q) ≡ after next (tree n) (dart n) =
            sym (listed_more.goes_on q lq (omega arith)) ∙ ap dart (sym pq) ∙ e ∙ here_after in
            let z : q ≡ n = after_once m next node rot start dart tree first from (n + 1) listed_more q n lq hq g.from_here (omega arith) s in
            absurd (omega arith)
      ];
      at_start = λ h. absurd (omega (arith, g.from_here));
      comes = λ p l h. let i : p ≡ n = omega arith in here_after ∙ ap (λ v. after next (tree v) (dart v)) (sym i);
    }

    pub follows_more : d2 ≡ start → Follows m next node start dart tree first from (n + 1)
    follows_more s =
        let w = listed_more in
        let k : from < n + 1 = omega (arith, g.from_here) in
        record {
          some = k;
          begins = w.begins k;
          goes_on = w.goes_on;
          comes_back = λ p l h. let i : p ≡ n = omega arith in sym s ∙ here_after ∙ ap (λ v. after next (tree v) (dart v)) (sym i);
          below = w.below;
          inside = w.inside;
          once = w.once;
          both_tree = w.both_tree;
          first_new = w.first_new;
          first_old = w.first_old;
          tree_new = w.tree_new;
          tree_old = w.tree_old;
        }
