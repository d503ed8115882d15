-- The walks of the components so far.
use Rattle.std.proofs.Common.{◌≡◌, ℕ, ◌+◌, ◌*◌, ◌/◌, ◌<◌, ◌≤◌, List, [], ◌∷◌, ◌++◌, length, Bool, true, false, refl, sym, ◌∙◌, ap, subst, inl, inr, arith, length-append}
use Rattle.std.proofs.lemmas.List.{get_or_append_left, get_or_push, get_or-replicate, get_or_past, length-map}
use Rattle.std.proofs.lemmas.List.Folds.{list_any_at}
use Rattle.std.proofs.lemmas.Map.Steps.{le-length_from_below}
use Rattle.std.proofs.lemmas.Bool.{cases_eq, cases_Bool, cases_lt, false≢true, eq-eqb}
use Rattle.std.proofs.Math.Dec.{eqb}
use Rattle.std.proofs.Math.ListN.{replicate, length-replicate}
use Rattle.spanning_pair.specs.Darts.{reverse_dart, InComponent}
use Rattle.spanning_pair.specs.Walks.{after, IsTreeWalk}
use Rattle.spanning_pair.specs.declared.marks.EdgeMark.{EdgeMark}
use Rattle.spanning_pair.specs.declared.marks.EdgeMark.TheVariants.{New}
use Rattle.spanning_pair.specs.Marks.{is_seen, is_tree, seen_in, trees_in}
use Rattle.spanning_pair.specs.Tours.{number_at, flag_at, IsNumberedSystem, AreClean, AreMarkedInComponent, AreStarts, IsWalkAppended, IsTour}
use Rattle.spanning_pair.proofs.Marking.{none_seen, no_trees}
use Rattle.spanning_pair.proofs.Pigeon.{at_most_from}
use Rattle.spanning_pair.proofs.Components.{component_below, component_meet, component_of_edge, component_of_node}

-- a walk in lists that agree up to its end
tree_walk_same : (next node : ℕ → ℕ) (start : ℕ) (dart dart2 : ℕ → ℕ) (tree tree2 first first2 : ℕ → Bool) (from n : ℕ)
    (sd : (p : ℕ) → p < n → dart2 p ≡ dart p) (st : (p : ℕ) → p < n → tree2 p ≡ tree p) (sf : (p : ℕ) → p < n → first2 p ≡ first p)
    → IsTreeWalk next node start dart tree first from n → IsTreeWalk next node start dart2 tree2 first2 from n
tree_walk_same next node start dart dart2 tree tree2 first first2 from n sd st sf w =
    let rv = λ (p : ℕ) (h : p < n). ap reverse_dart (sd p h) in
    let nv = λ (p : ℕ) (h : p < n). ap node (ap reverse_dart (sd p h)) in
    record {
      some = w.some;
      begins = sd from w.some ∙ w.begins;
      goes_on = λ p l h. let k : p < n = omega arith in
          sd (p + 1) h ∙ w.goes_on p l h ∙ ap (λ v. after next v (dart p)) (sym (st p k)) ∙ ap (λ v. after next (tree2 p) v) (sym (sd p k));
      comes_back = λ p l h. let k : p < n = omega arith in
          w.comes_back p l h ∙ ap (λ v. after next v (dart p)) (sym (st p k)) ∙ ap (λ v. after next (tree2 p) v) (sym (sd p k));
      members = λ d. (λ c. let s = (w.members d).0 c in (s.0, s.1, s.2, sd s.0 s.2 ∙ s.3), λ s. (w.members d).1 (s.0, s.1, s.2, sym (sd s.0 s.2) ∙ s.3));
      once = λ p q l h l2 h2 e. w.once p q l h l2 h2 (sym (sd p h) ∙ e ∙ sd q h2);
      both_tree = λ p q l h l2 h2 e. st p h ∙ w.both_tree p q l h l2 h2 (sym (sd q h2) ∙ e ∙ rv p h) ∙ sym (st q h2);
      first_new = λ p q h f l k e. let h2 : q < n = omega arith in w.first_new p q h (sym (sf p h) ∙ f) l k (sym (sd q h2) ∙ e ∙ rv p h);
      first_old = λ p l h f. let s = w.first_old p l h (sym (sf p h) ∙ f) in
          let h2 : s.0 < n = omega arith in (s.0, s.1, s.2, sd s.0 h2 ∙ s.3 ∙ sym (rv p h));
      tree_new = λ p q h f t l k e. let h2 : q < n = omega arith in
          w.tree_new p q h (sym (sf p h) ∙ f) (sym (st p h) ∙ t) l k (sym (ap node (sd q h2)) ∙ e ∙ nv p h);
      tree_old = λ p l h f t. let s = w.tree_old p l h (sym (sf p h) ∙ f) (sym (st p h) ∙ t) in
          let h2 : s.0 < n = omega arith in (s.0, s.1, s.2, ap node (sd s.0 h2) ∙ s.3 ∙ sym (nv p h));
      reaches = λ d c k. let s = w.reaches d c k in
          (s.0, s.1, s.2, st s.0 s.2 ∙ s.3, sf s.0 s.2 ∙ s.4, nv s.0 s.2 ∙ s.5);
      reaches_once = λ p q l h l2 h2 tp fp tq fq e. w.reaches_once p q l h l2 h2 (sym (st p h) ∙ tp) (sym (sf p h) ∙ fp) (sym (st q h2) ∙ tq) (sym (sf q h2) ∙ fq)
          (sym (nv p h) ∙ e ∙ nv q h2);
      never_root = λ p l h t f e. w.never_root p l h (sym (st p h) ∙ t) (sym (sf p h) ∙ f) (sym (nv p h) ∙ e);
      nest = λ p q r s l l1 l2 l3 h tp tq e f.
          let hp : p < n = omega arith in
          let hq : q < n = omega arith in
          let hr : r < n = omega arith in
          w.nest p q r s l l1 l2 l3 h (sym (st p hp) ∙ tp) (sym (st q hq) ∙ tq) (sym (sd r hr) ∙ e ∙ rv p hp) (sym (sd s h) ∙ f ∙ rv q hq);
    }

-- the walks of the first k starts
pub record Touring (m nodes : ℕ) (next node : ℕ → ℕ) (starts : List ℕ) (k : ℕ) (xs : List ℕ) (ts fs : List Bool) (ps : List ℕ) (seen known visited : List Bool) : Type 0 where
  pub tree_len : length ts ≡ length xs
  pub first_len : length fs ≡ length xs
  pub seen_len : length seen ≡ m
  pub known_len : length known ≡ m
  pub visited_len : length visited ≡ nodes
  pub places_len : length ps ≡ k + 1
  pub begins : number_at ps 0 ≡ 0
  pub ends : number_at ps k ≡ length xs
  pub within : (i : ℕ) → i < k → number_at ps (i + 1) ≤ length xs
  pub walks : (i : ℕ) → i < k → IsTreeWalk next node (number_at starts i) (number_at xs) (flag_at ts) (flag_at fs) (number_at ps i) (number_at ps (i + 1))
  pub once : (p q : ℕ) → p < length xs → q < length xs → number_at xs p ≡ number_at xs q → p ≡ q
  pub listed : (p : ℕ) → p < length xs → (i : ℕ) × (i < k) × InComponent next (number_at starts i) (number_at xs p)
  pub seen_by : (e : ℕ) → flag_at seen e ≡ true → (i : ℕ) × (d : ℕ) × (i < k) × InComponent next (number_at starts i) d × (d / 2 ≡ e)
  pub visited_by : (v : ℕ) → flag_at visited v ≡ true → (i : ℕ) × (d : ℕ) × (i < k) × InComponent next (number_at starts i) d × (node d ≡ v)

module _ (m nodes : ℕ) (next node : ℕ → ℕ) (starts : List ℕ) (rot : IsNumberedSystem m nodes next node) (are : AreStarts m next starts)
    (k : ℕ) (h : k < length starts) (xs : List ℕ) (ts fs : List Bool) (ps : List ℕ) (seen known visited : List Bool)
    (w : Touring m nodes next node starts k xs ts fs ps seen known visited) where
  other_component : (i d : ℕ) → i < k → InComponent next (number_at starts i) d → InComponent next (number_at starts k) d → ⊥
  other_component i d l c c2 =
      let l2 : i < length starts = omega arith in
      let s = component_meet m next node rot.rotation (number_at starts i) (number_at starts k) d (are.below i l2) (are.below k h) c c2 in
      let z : i ≡ k = are.apart i k l2 h s in omega arith

  pub clean_next : AreClean next node (number_at starts k) seen visited
  clean_next = record {
    seen_none = λ d c. elim (cases_Bool (flag_at seen (d / 2))) [
      | inr f ↦ f
      | inl y ↦ let s = w.seen_by (d / 2) y in
          absurd (other_component s.0 d s.2 (component_of_edge m next node rot.rotation (number_at starts s.0) s.1 d s.3 s.4) c)
    ];
    visited_none = λ d c. elim (cases_Bool (flag_at visited (node d))) [
      | inr f ↦ f
      | inl y ↦ let s = w.visited_by (node d) y in
          let b = component_below m next node rot.rotation (number_at starts k) d (are.below k h) c in
          let l : s.0 < length starts = omega arith in
          absurd (other_component s.0 d s.2
          (component_of_node m next node rot.rotation (number_at starts s.0) s.1 d (are.below s.0 l) b s.3 s.4) c)
    ];
  }

  module _ (xs2 : List ℕ) (ts2 fs2 seen2 known2 visited2 : List Bool)
      (a : IsWalkAppended next node (number_at starts k) xs ts fs xs2 ts2 fs2)
      (b : AreMarkedInComponent next node (number_at starts k) seen visited seen2 visited2)
      (sl : length seen2 ≡ length seen) (kl : length known2 ≡ length known) (vl : length visited2 ≡ length visited) where
    place_kept : (i : ℕ) → i < k + 1 → number_at (ps ++ length xs2 ∷ []) i ≡ number_at ps i
    place_kept i l = get_or_append_left ps (length xs2 ∷ []) 0 i (omega (arith, w.places_len))

    place_last : number_at (ps ++ length xs2 ∷ []) (k + 1) ≡ length xs2
    place_last = get_or_push ps (length xs2) 0 (k + 1) w.places_len

    in_new : (p : ℕ) → length xs ≤ p → p < length xs2 → InComponent next (number_at starts k) (number_at xs2 p)
    in_new p l l2 = (a.walk.members (number_at xs2 p)).1 (p, l, l2, refl)

    pub touring_more : Touring m nodes next node starts (k + 1) xs2 ts2 fs2 (ps ++ length xs2 ∷ []) seen2 known2 visited2
    touring_more = record {
      tree_len = a.tree_len;
      first_len = a.first_len;
      seen_len = sl ∙ w.seen_len;
      known_len = kl ∙ w.known_len;
      visited_len = vl ∙ w.visited_len;
      places_len = length-append ps (length xs2 ∷ []) ∙ omega (arith, w.places_len);
      begins = place_kept 0 (omega arith) ∙ w.begins;
      ends = place_last;
      within = λ i l. elim (cases_eq i k) [
        | inl e ↦ let z : number_at (ps ++ length xs2 ∷ []) (i + 1) ≡ length xs2 = ap (λ v. number_at (ps ++ length xs2 ∷ []) (v + 1)) e ∙ place_last in omega arith
        | inr n ↦ let k2 : i < k = omega arith in
            let z = place_kept (i + 1) (omega arith) in
            let y = w.within i k2 in
            let x = a.longer in omega arith
      ];
      walks = λ i l. elim (cases_eq i k) [
        | inl e ↦
            let z : number_at (ps ++ length xs2 ∷ []) i ≡ length xs = place_kept i (omega arith) ∙ ap (number_at ps) e ∙ w.ends in
            let y : number_at (ps ++ length xs2 ∷ []) (i + 1) ≡ length xs2 = ap (λ v. number_at (ps ++ length xs2 ∷ []) (v + 1)) e ∙ place_last in
            rw (z, y) (subst (λ v. IsTreeWalk next node (number_at starts v) (number_at xs2) (flag_at ts2) (flag_at fs2) (length xs) (length xs2)) (sym e) a.walk)
        | inr n ↦
            let k2 : i < k = omega arith in
            let z = place_kept i (omega arith) in
            let y = place_kept (i + 1) (omega arith) in
            let u = w.within i k2 in
            rw (z, y) (tree_walk_same next node (number_at starts i) (number_at xs) (number_at xs2) (flag_at ts) (flag_at ts2) (flag_at fs) (flag_at fs2)
            (number_at ps i) (number_at ps (i + 1))
            (λ p q. a.darts_kept p (omega arith)) (λ p q. a.tree_kept p (omega arith)) (λ p q. a.first_kept p (omega arith)) (w.walks i k2))
      ];
      once = λ p q l l2 e. elim (cases_lt p (length xs)) [
        | inl lp ↦ elim (cases_lt q (length xs)) [
          | inl lq ↦ w.once p q lp lq (sym (a.darts_kept p lp) ∙ e ∙ a.darts_kept q lq)
          | inr lq ↦ let s = w.listed p lp in
              absurd (other_component s.0 (number_at xs p) s.1 s.2
              (subst (InComponent next (number_at starts k)) (sym e ∙ a.darts_kept p lp) (in_new q lq l2)))
        ]
        | inr lp ↦ elim (cases_lt q (length xs)) [
          | inl lq ↦ let s = w.listed q lq in
              absurd (other_component s.0 (number_at xs q) s.1 s.2
              (subst (InComponent next (number_at starts k)) (e ∙ a.darts_kept q lq) (in_new p lp l)))
          | inr lq ↦ a.walk.once p q lp l lq l2 e
        ]
      ];
      listed = λ p l. elim (cases_lt p (length xs)) [
        | inl lp ↦ let s = w.listed p lp in
            (s.0, omega arith, subst (InComponent next (number_at starts s.0)) (sym (a.darts_kept p lp)) s.2)
        | inr lp ↦ (k, omega arith, in_new p lp l)
      ];
      seen_by = λ e y. elim (b.seen_by e y) [
        | inl z ↦ let s = w.seen_by e z in (s.0, s.1, omega arith, s.3, s.4)
        | inr z ↦ (k, z.0, omega arith, z.1, z.2)
      ];
      visited_by = λ v y. elim (b.visited_by v y) [
        | inl z ↦ let s = w.visited_by v z in (s.0, s.1, omega arith, s.3, s.4)
        | inr z ↦ (k, z.0, omega arith, z.1, z.2)
      ];
    }

pub touring_few : (m nodes : ℕ) (next node : ℕ → ℕ) (starts : List ℕ) (rot : IsNumberedSystem m nodes next node) (are : AreStarts m next starts)
    (k : ℕ) → k ≤ length starts → (xs : List ℕ) (ts fs : List Bool) (ps : List ℕ) (seen known visited : List Bool)
    → Touring m nodes next node starts k xs ts fs ps seen known visited → length xs ≤ 2 * m
touring_few m nodes next node starts rot are k h xs ts fs ps seen known visited w =
    let z = at_most_from (2 * m) 0 xs (omega arith)
    (λ p l l2. let s = w.listed p l2 in
    component_below m next node rot.rotation (number_at starts s.0) (number_at xs p) (are.below s.0 (omega arith)) s.2)
    (λ p q l l2 l3 l4 e. w.once p q l2 l4 e) in
    omega arith

pub touring_done : (m nodes : ℕ) (next node : ℕ → ℕ) (starts : List ℕ) (rot : IsNumberedSystem m nodes next node) (are : AreStarts m next starts)
    (xs : List ℕ) (ts fs : List Bool) (ps : List ℕ) (seen known visited : List Bool)
    → Touring m nodes next node starts (length starts) xs ts fs ps seen known visited → IsTour m next node starts xs ts fs ps
touring_done m nodes next node starts rot are xs ts fs ps seen known visited w =
    let few = touring_few m nodes next node starts rot are (length starts) (omega arith) xs ts fs ps seen known visited w in
    let many : 2 * m ≤ length xs = le-length_from_below xs (2 * m) (λ q l.
    let s = are.each q l in
    let t = ((w.walks s.0 s.1).members q).0 s.2 in
    let u = w.within s.0 s.1 in
    list_any_at (eqb q) xs t.0 0 (omega arith) (eq-eqb q (number_at xs t.0) (sym t.3))) in
    record {
      tree_len = w.tree_len;
      first_len = w.first_len;
      places_len = w.places_len;
      begins = w.begins;
      ends = w.ends;
      walks = w.walks;
      darts_len = omega arith;
      once = w.once;
    }

pub flags_none : (n e : ℕ) → flag_at (replicate n false) e ≡ false
flags_none n e = elim (cases_lt e n) [
  | inl l ↦ get_or-replicate n e false false l
  | inr l ↦ get_or_past (replicate n false) e false (simp length-replicate l)
]

pub touring_start : (m nodes : ℕ) (next node : ℕ → ℕ) (starts : List ℕ) (xs : List ℕ) (ts fs : List Bool) (ps : List ℕ) (marks : List EdgeMark) (visited : List Bool)
    → xs ≡ [] → ts ≡ [] → fs ≡ [] → ps ≡ 0 ∷ [] → marks ≡ replicate m New → visited ≡ replicate nodes false
    → Touring m nodes next node starts 0 xs ts fs ps (seen_in marks) (trees_in marks) visited
touring_start m nodes next node starts xs ts fs ps marks visited ex et ef ep em ev =
    let es : seen_in marks ≡ replicate m false = ap seen_in em ∙ none_seen m in
    let ek : trees_in marks ≡ replicate m false = ap trees_in em ∙ no_trees m in
    rw (ex, et, ef, ep, es, ek, ev) (record {
      tree_len = refl;
      first_len = refl;
      seen_len = length-replicate m false;
      known_len = length-replicate m false;
      visited_len = length-replicate nodes false;
      places_len = refl;
      begins = refl;
      ends = refl;
      within = λ i l. absurd (omega arith);
      walks = λ i l. absurd (omega arith);
      once = λ p q l. absurd (omega arith);
      listed = λ p l. absurd (omega arith);
      seen_by = λ e y. absurd (false≢true (sym (flags_none m e) ∙ y));
      visited_by = λ v y. absurd (false≢true (sym (flags_none nodes v) ∙ y));
    })

pub touring_step : {m nodes : ℕ} {next node : ℕ → ℕ} {starts : List ℕ} {k : ℕ} {xs : List ℕ} {ts fs : List Bool} {ps : List ℕ} {marks : List EdgeMark} {visited : List Bool}
    {xs2 : List ℕ} {ts2 fs2 : List Bool} (ps2 : List ℕ) (marks1 : List EdgeMark) (visited1 : List Bool) (marks2 : List EdgeMark) (visited2 : List Bool) (marks3 : List EdgeMark) (visited3 : List Bool)
    → IsNumberedSystem m nodes next node → AreStarts m next starts → k < length starts
    → Touring m nodes next node starts k xs ts fs ps (seen_in marks) (trees_in marks) visited
    → marks1 ≡ marks → visited1 ≡ visited
    → IsWalkAppended next node (number_at starts k) xs ts fs xs2 ts2 fs2
    → AreMarkedInComponent next node (number_at starts k) (seen_in marks1) visited1 (seen_in marks2) visited2
    → length marks2 ≡ length marks1 → length visited2 ≡ length visited1
    → ps2 ≡ ps ++ length xs2 ∷ []
    → (length marks2 ≡ length marks1 → marks3 ≡ marks2) → (length visited2 ≡ length visited1 → visited3 ≡ visited2)
    → Touring m nodes next node starts (k + 1) xs2 ts2 fs2 ps2 (seen_in marks3) (trees_in marks3) visited3
touring_step {m} {nodes} {next} {node} {starts} {k} {xs} {ts} {fs} {ps} {marks} {visited} {xs2} {ts2} {fs2}
    ps2 marks1 visited1 marks2 visited2 marks3 visited3 rot are h w em ev a b ml vl ep f v =
    let em3 : marks3 ≡ marks2 = f ml in
    let ev3 : visited3 ≡ visited2 = v vl in
    let b2 = rw (em, ev) at b in
    let l : length marks2 ≡ length marks = ml ∙ ap length em in
    rw (ep, em3, ev3) (touring_more m nodes next node starts rot are k h xs ts fs ps (seen_in marks) (trees_in marks) visited w
    xs2 ts2 fs2 (seen_in marks2) (trees_in marks2) visited2 a b2
    (length-map marks2 is_seen ∙ l ∙ sym (length-map marks is_seen)) (length-map marks2 is_tree ∙ l ∙ sym (length-map marks is_tree)) (vl ∙ ap length ev))
