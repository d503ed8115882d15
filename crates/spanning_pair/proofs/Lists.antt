-- The walk so far, in lists.
use Rattle.std.proofs.Common.{◌≡◌, ◌≢◌, ℕ, ◌+◌, ◌*◌, ◌/◌, ◌<◌, ◌≤◌, List, [], ◌∷◌, ◌++◌, length, Bool, true, false, cond, refl, sym, ◌∙◌, ap, inl, inr, arith, get_or-set_other, get_or-set_same, length-append}
use Rattle.std.proofs.lemmas.List.{get_or_append_left, get_or_push, set-get_or}
use Rattle.std.proofs.lemmas.Bool.{cases_eq}
use Rattle.std.proofs.Math.ListN.{set, length-set}
use Rattle.std.specs.Prelude.{not}
use Rattle.spanning_pair.specs.Darts.{reverse_dart}
use Rattle.orbits.specs.Components.InComponent.{itself}
use Rattle.spanning_pair.specs.Walks.{after}
use Rattle.spanning_pair.specs.Tours.{number_at, flag_at, IsNumberedSystem, AreClean, AreMarkedInComponent, IsWalkAppended}
use Rattle.spanning_pair.specs.declared.marks.EdgeMark.{EdgeMark}
use Rattle.spanning_pair.specs.Marks.{mark_where, seen_in, trees_in}
use Rattle.spanning_pair.proofs.Marking.{seen_marked, trees_marked}
use Rattle.spanning_pair.proofs.OtherDart.{reverse_below}
use Rattle.spanning_pair.proofs.ByRule.{is_tree_walk}
use Rattle.spanning_pair.proofs.Pigeon.{at_most_from}
use Rattle.spanning_pair.proofs.Going.{Listed, Flagged, Going, going_same, going_more, follows_more, listed_more, flagged_more, head_visited, not_false}

-- lists that a loop has made longer
pub record Longer (xs0 : List ℕ) (ts0 fs0 : List Bool) (xs : List ℕ) (ts fs : List Bool) : Type 0 where
  pub longer : length xs0 ≤ length xs
  pub tree_len : length ts ≡ length xs
  pub first_len : length fs ≡ length xs
  pub darts_kept : (p : ℕ) → p < length xs0 → number_at xs p ≡ number_at xs0 p
  pub tree_kept : (p : ℕ) → p < length xs0 → flag_at ts p ≡ flag_at ts0 p
  pub first_kept : (p : ℕ) → p < length xs0 → flag_at fs p ≡ flag_at fs0 p

pub record Walking (m : ℕ) (next node : ℕ → ℕ) (start : ℕ) (xs0 : List ℕ) (ts0 fs0 : List Bool) (xs : List ℕ) (ts fs : List Bool) (d : ℕ)
    (seen0 visited0 seen known visited : List Bool) : Type 0 where
  pub lists : Longer xs0 ts0 fs0 xs ts fs
  pub seen_len : length seen ≡ m
  pub known_len : length known ≡ m
  pub visited_len : length visited ≡ length visited0
  pub going : Going m next node start (number_at xs) (flag_at ts) (flag_at fs) (length xs0) (length xs) d
      (flag_at seen0) (flag_at visited0) (flag_at seen) (flag_at known) (flag_at visited)

-- each dart was listed once, so there are no more than all
pub listed_len : (m : ℕ) (next node : ℕ → ℕ) (start from : ℕ) (xs : List ℕ) (tree first : ℕ → Bool)
    → from ≤ length xs → Listed m next node start (number_at xs) tree first from (length xs) → length xs ≤ 2 * m + from
listed_len m next node start from xs tree first h w = at_most_from (2 * m) from xs h w.below w.once

pub walking_start : (m : ℕ) (next node : ℕ → ℕ) (start : ℕ) (xs : List ℕ) (ts fs seen known visited : List Bool)
    → IsNumberedSystem m (length visited) next node → start < 2 * m → length ts ≡ length xs → length fs ≡ length xs → length seen ≡ m → length known ≡ m
    → Walking m next node start xs ts fs xs ts fs start seen visited seen known (set visited (node start) true)
walking_start m next node start xs ts fs seen known visited rot h tl fl sl kl =
    let v : node start < length visited = rot.node_below start h in
    record {
      lists = record { longer = omega arith; tree_len = tl; first_len = fl; darts_kept = λ p l. refl; tree_kept = λ p l. refl; first_kept = λ p l. refl };
      seen_len = sl;
      known_len = kl;
      visited_len = length-set visited (node start) true;
      going = record {
        from_here = omega arith;
        listed = record {
          begins = λ l. absurd (omega arith);
          goes_on = λ p l k. absurd (omega arith);
          below = λ p l k. absurd (omega arith);
          inside = λ p l k. absurd (omega arith);
          once = λ p q l k l2 k2 e. absurd (omega arith);
          both_tree = λ p q l k l2 k2 e. absurd (omega arith);
          first_new = λ p q k f l k2 e. absurd (omega arith);
          first_old = λ p l k f. absurd (omega arith);
          tree_new = λ p q k f t l k2 e. absurd (omega arith);
          tree_old = λ p l k f t. absurd (omega arith);
        };
        flagged = record {
          seen_old = λ e y. inl y;
          seen_new = λ q l k. absurd (omega arith);
          knows = λ q l k. absurd (omega arith);
          visited_old = λ u y. elim (cases_eq u (node start)) [
            | inl i ↦ inr (inl (sym i))
            | inr i ↦ inl (sym (get_or-set_other visited (node start) u true false i) ∙ y)
          ];
          visited_new = λ q l k. absurd (omega arith);
          visited_here = get_or-set_same visited (node start) true false v;
        };
        current = itself;
        current_below = h;
        fresh = λ p l k e. absurd (omega arith);
        at_start = λ e. refl;
        comes = λ p l e. absurd (omega arith);
      };
    }

-- to write what stands there already changes nothing
set_again : (bs : List Bool) (i : ℕ) (b : Bool) → flag_at bs i ≡ b → set bs i b ≡ bs
set_again bs i b e = ap (set bs i) (sym e) ∙ set-get_or bs i false

-- what is written only where the edge is new is as if it were written always
set_where_new : (f : Bool) (bs : List Bool) (i : ℕ) (b c : Bool) → (f ≡ true → c ≡ b) → (f ≡ false → flag_at bs i ≡ b) → cond f (set bs i c) bs ≡ set bs i b
set_where_new true bs i b c n s = ap (set bs i) (n refl)
set_where_new false bs i b c n s = sym (set_again bs i b (s refl))

-- and what stands there then
flag_where_new : (f : Bool) (bs : List Bool) (i : ℕ) (c : Bool) → i < length bs → flag_at (cond f (set bs i c) bs) i ≡ cond f c (flag_at bs i)
flag_where_new true bs i c l = get_or-set_same bs i c false l
flag_where_new false bs i c l = refl

module _ (m : ℕ) (next node : ℕ → ℕ) (start : ℕ) (xs0 : List ℕ) (ts0 fs0 : List Bool) (xs : List ℕ) (ts fs : List Bool) (d : ℕ)
    (seen0 visited0 seen known visited : List Bool)
    (rot : IsNumberedSystem m (length visited0) next node) (clean : AreClean next node start seen0 visited0)
    (w : Walking m next node start xs0 ts0 fs0 xs ts fs d seen0 visited0 seen known visited)
    (t f : Bool) (d2 : ℕ)
    (is_new : f ≡ not (flag_at seen (d / 2)))
    (is_tree : t ≡ cond f (not (flag_at visited (node (reverse_dart d)))) (flag_at known (d / 2)))
    (comes : d2 ≡ after next t d) where
  grown : {A : Type 0} (ys : List A) (y : A) → length (ys ++ y ∷ []) ≡ length ys + 1
  grown ys y = length-append ys (y ∷ []) ∙ omega arith

  pub lists_more : Longer xs0 ts0 fs0 (xs ++ d ∷ []) (ts ++ t ∷ []) (fs ++ f ∷ [])
  lists_more =
      let w1 = w.lists in
      record {
        longer = omega (arith, grown xs d, w1.longer);
        tree_len = omega (arith, grown xs d, grown ts t, w1.tree_len);
        first_len = omega (arith, grown xs d, grown fs f, w1.first_len);
        darts_kept = λ p l. get_or_append_left xs (d ∷ []) 0 p (omega (arith, w1.longer)) ∙ w1.darts_kept p l;
        tree_kept = λ p l. get_or_append_left ts (t ∷ []) false p (omega (arith, w1.longer, w1.tree_len)) ∙ w1.tree_kept p l;
        first_kept = λ p l. get_or_append_left fs (f ∷ []) false p (omega (arith, w1.longer, w1.first_len)) ∙ w1.first_kept p l;
      }

  before : Going m next node start (number_at (xs ++ d ∷ [])) (flag_at (ts ++ t ∷ [])) (flag_at (fs ++ f ∷ [])) (length xs0) (length xs) d
      (flag_at seen0) (flag_at visited0) (flag_at seen) (flag_at known) (flag_at visited)
  before =
      let w1 = w.lists in
      going_same (number_at xs) (number_at (xs ++ d ∷ [])) (flag_at ts) (flag_at (ts ++ t ∷ [])) (flag_at fs) (flag_at (fs ++ f ∷ [])) (length xs)
      (λ p l. get_or_append_left xs (d ∷ []) 0 p l)
      (λ p l. get_or_append_left ts (t ∷ []) false p (omega (arith, w1.tree_len)))
      (λ p l. get_or_append_left fs (f ∷ []) false p (omega (arith, w1.first_len)))
      m next node start (length xs0) d (flag_at seen0) (flag_at visited0) (flag_at seen) (flag_at known) (flag_at visited) w.going

  here_dart : number_at (xs ++ d ∷ []) (length xs) ≡ d
  here_dart = get_or_push xs d 0 (length xs) refl

  here_tree : flag_at (ts ++ t ∷ []) (length xs) ≡ t
  here_tree = get_or_push ts t false (length xs) w.lists.tree_len

  here_first : flag_at (fs ++ f ∷ []) (length xs) ≡ f
  here_first = get_or_push fs f false (length xs) w.lists.first_len

  tree_is : flag_at (ts ++ t ∷ []) (length xs) ≡ cond (flag_at (fs ++ f ∷ []) (length xs)) (not (flag_at visited (node (reverse_dart d)))) (flag_at known (d / 2))
  tree_is = here_tree ∙ is_tree ∙ ap (λ v. cond v (not (flag_at visited (node (reverse_dart d)))) (flag_at known (d / 2))) (sym here_first)

  comes_is : d2 ≡ after next (flag_at (ts ++ t ∷ []) (length xs)) d
  comes_is = comes ∙ ap (λ v. after next v d) (sym here_tree)

  half_below : d / 2 < m
  half_below = omega (arith, w.going.current_below)

  head_below : node (reverse_dart d) < length visited
  head_below = let k = rot.node_below (reverse_dart d) (reverse_below d m w.going.current_below) in omega (arith, w.visited_len)

  pub listed_now : Listed m next node start (number_at (xs ++ d ∷ [])) (flag_at (ts ++ t ∷ [])) (flag_at (fs ++ f ∷ [])) (length xs0) (length xs + 1)
  listed_now = listed_more m next node rot.rotation start (number_at (xs ++ d ∷ [])) (flag_at (ts ++ t ∷ [])) (flag_at (fs ++ f ∷ [])) (length xs0) (length xs) d
      (flag_at seen0) (flag_at visited0) (flag_at seen) (flag_at known) (flag_at visited) before clean.seen_none clean.visited_none here_dart
      (here_first ∙ is_new) tree_is

  pub flagged_now : Flagged node (number_at (xs ++ d ∷ [])) (flag_at (ts ++ t ∷ [])) (length xs0) (length xs + 1) d2 (flag_at seen0) (flag_at visited0)
      (flag_at (set seen (d / 2) true)) (flag_at (set known (d / 2) t)) (flag_at (set visited (node (reverse_dart d)) true))
  flagged_now = flagged_more m next node rot.rotation start (number_at (xs ++ d ∷ [])) (flag_at (ts ++ t ∷ [])) (flag_at (fs ++ f ∷ [])) (length xs0) (length xs) d
      (flag_at seen0) (flag_at visited0) (flag_at seen) (flag_at known) (flag_at visited) before clean.seen_none clean.visited_none here_dart
      (here_first ∙ is_new) tree_is
      (flag_at (set seen (d / 2) true)) (flag_at (set known (d / 2) t)) (flag_at (set visited (node (reverse_dart d)) true)) d2 comes_is
      (get_or-set_same seen (d / 2) true false (omega (arith, half_below, w.seen_len))) (λ e n. get_or-set_other seen (d / 2) e true false n)
      (get_or-set_same known (d / 2) t false (omega (arith, half_below, w.known_len)) ∙ sym here_tree) (λ e n. get_or-set_other known (d / 2) e t false n)
      (get_or-set_same visited (node (reverse_dart d)) true false head_below) (λ v n. get_or-set_other visited (node (reverse_dart d)) v true false n)

  pub walking_more : d2 ≢ start
      → Walking m next node start xs0 ts0 fs0 (xs ++ d ∷ []) (ts ++ t ∷ []) (fs ++ f ∷ []) d2 seen0 visited0
      (set seen (d / 2) true) (set known (d / 2) t) (set visited (node (reverse_dart d)) true)
  walking_more ns =
      let g = going_more m next node rot.rotation start (number_at (xs ++ d ∷ [])) (flag_at (ts ++ t ∷ [])) (flag_at (fs ++ f ∷ [])) (length xs0) (length xs) d
      (flag_at seen0) (flag_at visited0) (flag_at seen) (flag_at known) (flag_at visited) before clean.seen_none clean.visited_none here_dart
      (here_first ∙ is_new) tree_is
      (flag_at (set seen (d / 2) true)) (flag_at (set known (d / 2) t)) (flag_at (set visited (node (reverse_dart d)) true)) d2 comes_is
      (get_or-set_same seen (d / 2) true false (omega (arith, half_below, w.seen_len))) (λ e n. get_or-set_other seen (d / 2) e true false n)
      (get_or-set_same known (d / 2) t false (omega (arith, half_below, w.known_len)) ∙ sym here_tree) (λ e n. get_or-set_other known (d / 2) e t false n)
      (get_or-set_same visited (node (reverse_dart d)) true false head_below) (λ v n. get_or-set_other visited (node (reverse_dart d)) v true false n) ns in
      record {
        lists = lists_more;
        seen_len = length-set seen (d / 2) true ∙ w.seen_len;
        known_len = length-set known (d / 2) t ∙ w.known_len;
        visited_len = length-set visited (node (reverse_dart d)) true ∙ w.visited_len;
        going = rw (grown xs d) g;
      }

  old_seen : f ≡ false → flag_at seen (d / 2) ≡ true
  old_seen o = not_false (flag_at seen (d / 2)) (sym is_new ∙ o)

  old_head : f ≡ false → flag_at visited (node (reverse_dart d)) ≡ true
  old_head o = head_visited m next node rot.rotation start (number_at (xs ++ d ∷ [])) (flag_at (ts ++ t ∷ [])) (flag_at (fs ++ f ∷ [])) (length xs0) (length xs) d
      (flag_at seen0) (flag_at visited0) (flag_at seen) (flag_at known) (flag_at visited) before clean.seen_none clean.visited_none here_dart
      (here_first ∙ is_new) tree_is (old_seen o)

  seen_as_set : cond f (set seen (d / 2) true) seen ≡ set seen (d / 2) true
  seen_as_set = set_where_new f seen (d / 2) true true (λ n. refl) old_seen

  known_as_set : cond f (set known (d / 2) (not (flag_at visited (node (reverse_dart d))))) known ≡ set known (d / 2) t
  known_as_set =
      let head_new = not (flag_at visited (node (reverse_dart d))) in
      set_where_new f known (d / 2) t head_new
      (λ n. sym (is_tree ∙ ap (λ v. cond v head_new (flag_at known (d / 2))) n))
      (λ o. sym (is_tree ∙ ap (λ v. cond v head_new (flag_at known (d / 2))) o))

  visited_as_set : cond f (set visited (node (reverse_dart d)) true) visited ≡ set visited (node (reverse_dart d)) true
  visited_as_set = set_where_new f visited (node (reverse_dart d)) true true (λ n. refl) old_head

  pub few : length xs < 2 * m + length xs0
  few =
      let e = grown xs d in
      let k = listed_len m next node start (length xs0) (xs ++ d ∷ []) (flag_at (ts ++ t ∷ [])) (flag_at (fs ++ f ∷ []))
      (omega (arith, w.lists.longer)) (rw e listed_now) in
      omega arith

  pub walk_done : d2 ≡ start → IsWalkAppended next node start xs0 ts0 fs0 (xs ++ d ∷ []) (ts ++ t ∷ []) (fs ++ f ∷ [])
  walk_done s =
      let l = lists_more in
      let k = follows_more m next node rot.rotation start (number_at (xs ++ d ∷ [])) (flag_at (ts ++ t ∷ [])) (flag_at (fs ++ f ∷ [])) (length xs0) (length xs) d
      (flag_at seen0) (flag_at visited0) (flag_at seen) (flag_at known) (flag_at visited) before clean.seen_none clean.visited_none here_dart
      (here_first ∙ is_new) tree_is
      (flag_at (set seen (d / 2) true)) (flag_at (set known (d / 2) t)) (flag_at (set visited (node (reverse_dart d)) true)) d2 comes_is
      (get_or-set_same seen (d / 2) true false (omega (arith, half_below, w.seen_len))) (λ e n. get_or-set_other seen (d / 2) e true false n)
      (get_or-set_same known (d / 2) t false (omega (arith, half_below, w.known_len)) ∙ sym here_tree) (λ e n. get_or-set_other known (d / 2) e t false n)
      (get_or-set_same visited (node (reverse_dart d)) true false head_below) (λ v n. get_or-set_other visited (node (reverse_dart d)) v true false n) s in
      let tw = is_tree_walk m next node rot.rotation start (number_at (xs ++ d ∷ [])) (flag_at (ts ++ t ∷ [])) (flag_at (fs ++ f ∷ [])) (length xs0) (length xs + 1) k in
      record {
        longer = l.longer;
        tree_len = l.tree_len;
        first_len = l.first_len;
        darts_kept = l.darts_kept;
        tree_kept = l.tree_kept;
        first_kept = l.first_kept;
        walk = rw (grown xs d) tw;
      }

  pub marks_done : d2 ≡ start → AreMarkedInComponent next node start seen0 visited0
      (set seen (d / 2) true) (set visited (node (reverse_dart d)) true)
  marks_done s =
      let f = flagged_now in
      let l = listed_now in
      record {
        seen_by = λ e y. elim (f.seen_old e y) [
          | inl z ↦ inl z
          | inr z ↦ inr (number_at (xs ++ d ∷ []) z.0, l.inside z.0 z.1 z.2, z.3)
        ];
        visited_by = λ v y. elim (f.visited_old v y) [
          | inl z ↦ inl z
          | inr z ↦ elim z [
            | inl e ↦ inr (start, itself, ap node (sym s) ∙ e)
            | inr z ↦ inr (number_at (xs ++ d ∷ []) z.0, l.inside z.0 z.1 z.2, z.3)
          ]
        ];
      }

-- what one step makes of the walk so far
pub record Stepped (m : ℕ) (next node : ℕ → ℕ) (start : ℕ) (xs0 : List ℕ) (ts0 fs0 : List Bool) (xs xs2 : List ℕ) (ts2 fs2 : List Bool) (d2 : ℕ)
    (seen0 visited0 seen2 known2 visited2 : List Bool) : Type 0 where
  pub more : d2 ≢ start → Walking m next node start xs0 ts0 fs0 xs2 ts2 fs2 d2 seen0 visited0 seen2 known2 visited2
  pub few : length xs < 2 * m + length xs0
  pub one_more : length xs2 ≡ length xs + 1
  pub done : d2 ≡ start → IsWalkAppended next node start xs0 ts0 fs0 xs2 ts2 fs2
  pub marks : d2 ≡ start → AreMarkedInComponent next node start seen0 visited0 seen2 visited2

stepped_lists : {m : ℕ} {next node : ℕ → ℕ} {start : ℕ} {xs0 : List ℕ} {ts0 fs0 : List Bool} {xs : List ℕ} {ts fs : List Bool} {d : ℕ}
    {seen0 visited0 seen known visited : List Bool} (xs2 : List ℕ) (ts2 fs2 seen2 known2 visited2 : List Bool) (f t : Bool) (d2 : ℕ)
    → IsNumberedSystem m (length visited0) next node → AreClean next node start seen0 visited0
    → Walking m next node start xs0 ts0 fs0 xs ts fs d seen0 visited0 seen known visited
    → f ≡ not (flag_at seen (d / 2))
    → seen2 ≡ cond f (set seen (d / 2) true) seen
    → known2 ≡ cond f (set known (d / 2) (not (flag_at visited (node (reverse_dart d))))) known
    → visited2 ≡ cond f (set visited (node (reverse_dart d)) true) visited
    → t ≡ flag_at known2 (d / 2)
    → d2 ≡ after next t d
    → xs2 ≡ xs ++ d ∷ [] → ts2 ≡ ts ++ t ∷ [] → fs2 ≡ fs ++ f ∷ []
    → Stepped m next node start xs0 ts0 fs0 xs xs2 ts2 fs2 d2 seen0 visited0 seen2 known2 visited2
stepped_lists {m} {next} {node} {start} {xs0} {ts0} {fs0} {xs} {ts} {fs} {d} {seen0} {visited0} {seen} {known} {visited} xs2 ts2 fs2 seen2 known2 visited2 f t d2
    rot clean w is_new es ek ev et comes ex ets efs =
    let head_new = not (flag_at visited (node (reverse_dart d))) in
    let is_tree : t ≡ cond f head_new (flag_at known (d / 2)) = et ∙ ap (λ bs. flag_at bs (d / 2)) ek
    ∙ flag_where_new f known (d / 2) head_new (omega (arith, w.going.current_below, w.known_len)) in
    let es2 = es ∙ seen_as_set m next node start xs0 ts0 fs0 xs ts fs d seen0 visited0 seen known visited rot clean w t f d2 is_new is_tree comes in
    let ek2 = ek ∙ known_as_set m next node start xs0 ts0 fs0 xs ts fs d seen0 visited0 seen known visited rot clean w t f d2 is_new is_tree comes in
    let ev2 = ev ∙ visited_as_set m next node start xs0 ts0 fs0 xs ts fs d seen0 visited0 seen known visited rot clean w t f d2 is_new is_tree comes in
    rw (ex, ets, efs, es2, ek2, ev2) (record {
      more = walking_more m next node start xs0 ts0 fs0 xs ts fs d seen0 visited0 seen known visited rot clean w t f d2 is_new is_tree comes;
      few = few m next node start xs0 ts0 fs0 xs ts fs d seen0 visited0 seen known visited rot clean w t f d2 is_new is_tree comes;
      one_more = length-append xs (d ∷ []) ∙ omega arith;
      done = walk_done m next node start xs0 ts0 fs0 xs ts fs d seen0 visited0 seen known visited rot clean w t f d2 is_new is_tree comes;
      marks = marks_done m next node start xs0 ts0 fs0 xs ts fs d seen0 visited0 seen known visited rot clean w t f d2 is_new is_tree comes;
    })

-- the same with the marks of the edges
pub stepped : {m : ℕ} {next node : ℕ → ℕ} {start : ℕ} {xs0 : List ℕ} {ts0 fs0 : List Bool} {xs : List ℕ} {ts fs : List Bool} {d : ℕ}
    {seen0 visited0 visited : List Bool} (marks : List EdgeMark)
    (xs2 : List ℕ) (ts2 fs2 : List Bool) (marks2 : List EdgeMark) (visited2 : List Bool) (f t : Bool) (d2 : ℕ)
    → IsNumberedSystem m (length visited0) next node → AreClean next node start seen0 visited0
    → Walking m next node start xs0 ts0 fs0 xs ts fs d seen0 visited0 (seen_in marks) (trees_in marks) visited
    → f ≡ not (flag_at (seen_in marks) (d / 2))
    → marks2 ≡ cond f (set marks (d / 2) (mark_where (flag_at visited (node (reverse_dart d))))) marks
    → visited2 ≡ cond f (set visited (node (reverse_dart d)) true) visited
    → t ≡ flag_at (trees_in marks2) (d / 2)
    → d2 ≡ after next t d
    → xs2 ≡ xs ++ d ∷ [] → ts2 ≡ ts ++ t ∷ [] → fs2 ≡ fs ++ f ∷ []
    → Stepped m next node start xs0 ts0 fs0 xs xs2 ts2 fs2 d2 seen0 visited0 (seen_in marks2) (trees_in marks2) visited2
stepped {node = node} {d = d} {visited = visited} marks xs2 ts2 fs2 marks2 visited2 f t d2 rot clean w is_new em =
    let head_visited_now = flag_at visited (node (reverse_dart d)) in
    stepped_lists xs2 ts2 fs2 (seen_in marks2) (trees_in marks2) visited2 f t d2 rot clean w is_new
    (ap seen_in em ∙ seen_marked f head_visited_now marks (d / 2))
    (ap trees_in em ∙ trees_marked f head_visited_now marks (d / 2))
