-- The innermost pair that is or encloses two others, as it is searched.
use Rattle.std.specs.Prelude.{ℤ, pos, ◌+ℤ◌, ◌-ℤ◌, ◌<ℤ◌, ◌≤ℤ◌, find, ◌&&◌, min, max, IsNone, IfSome, ◌↔◌}
use Rattle.std.proofs.Common.{◌≡◌, ◌≢◌, ℕ, ◌+◌, ◌-◌, ◌<◌, ◌≤◌, inl, inr, Bool, true, false, List, length, refl, ap, sym, ◌∙◌, arith, subst, Option, Some, None, add-zero}
use Rattle.std.proofs.lemmas.Bool.{cases_lt, and_parts, and_from, le-leb, leb-true, both_ways, false_from_ne_true}
use Rattle.std.proofs.lemmas.Int.{ints}
use Rattle.bit_words.specs.Bits.{excess, IsLast}
use Rattle.bit_words.proofs.Ranks.{excess_up, rank-le}
use Rattle.min_max_tree.specs.Tree.{least}
use Rattle.min_max_tree.proofs.Falls.{excess-ranks}
use Rattle.min_max_tree.proofs.Nodes.{least-le, least-above}
use Rattle.min_max_tree.proofs.Backs.{was_from_never}
use Rattle.parens.specs.Matching.{is_open, close_of, is_from, is_enclosing, falling, common_of, mate_of}
use Rattle.parens.specs.Pairs.{IsOver, IsCommon}
use Rattle.parens.proofs.Balances.{IsBalanced}
use Rattle.parens.proofs.Greatest.{find-greatest, find-no_falling, greatest-find, no_falling-find}
use Rattle.parens.proofs.Arcs.{close-arc, arc_from, arc-closes, mate-opens, arc-nests, open_where_up, open_within, above_after}
use Rattle.parens.proofs.Enclosing.{IsAbove, round-above, above-round}

-- a pair is round its own opening place
round_self : (bits : List Bool) (k : ℕ) → IsBalanced bits → is_open bits k ≡ true → is_enclosing bits k k ≡ true
round_self bits k b opens =
    let m = arc_from bits k b opens in
    and_from _ _ opens (rw (close-arc bits k m.0 m.1) (le-leb k m.0 (omega (arith, m.1.order))))

-- a pair that is round the opening place of another is that pair or encloses it
pub round-over : (bits : List Bool) (i k : ℕ) → IsBalanced bits → is_open bits i ≡ true → k ≤ i → is_enclosing bits i k ≡ true → IsOver bits k i
round-over bits i k b opens l r =
    let parts = and_parts (is_open bits k) (is_from i (close_of bits k)) r in
    let m = arc_from bits k b parts.0 in
    let e = mate-opens bits k m.0 m.1 in
    let n = arc_from bits i b opens in
    let f = mate-opens bits i n.0 n.1 in
    record {
      opens = parts.0;
      from = l;
      to = elim (cases_lt k i) [
        | inl x ↦
            let a : i ≤ m.0 = leb-true i m.0 (rw (close-arc bits k m.0 m.1) at parts.1) in
            let ne : i ≢ m.0 = λ g. both_ways _ (arc-closes bits k m.0 m.1) (subst (λ y. is_open bits y ≡ true) g opens) in
            let z = arc-nests bits k m.0 i b m.1 x (omega arith) in
            omega (arith, z.1)
        | inr x ↦ let g : k ≡ i = omega arith in subst (λ y. mate_of bits i ≤ mate_of bits y) (sym g) (omega arith)
      ];
    }

-- and the other way round
pub over-round : (bits : List Bool) (i k : ℕ) → IsBalanced bits → is_open bits i ≡ true → IsOver bits k i → is_enclosing bits i k ≡ true
over-round bits i k b opens o =
    let m = arc_from bits k b o.opens in
    let e = mate-opens bits k m.0 m.1 in
    let n = arc_from bits i b opens in
    let f = mate-opens bits i n.0 n.1 in
    let t = o.to in
    and_from _ _ o.opens (rw (close-arc bits k m.0 m.1) (le-leb i m.0 (omega (arith, n.1.order))))

-- the excess at places is at least 0 and at most the place
pub excess-le : (bits : List Bool) (p : ℕ) → p ≤ length bits → excess bits p ≤ℤ pos p
excess-le bits p h = let e = excess-ranks bits p h in let r = rank-le true bits p in omega (arith, ints, e, r)

above-over : (bits : List Bool) (x k : ℕ) → IsBalanced bits → is_open bits x ≡ true → is_open bits k ≡ true → k ≤ x → IsAbove bits x k → is_enclosing bits x k ≡ true
above-over bits x k b there opens l a =
    let w = open_within bits x there in
    elim (cases_lt k x) [
      | inl h ↦ above-round bits x k b h (omega arith) a
      | inr h ↦ let e : k ≡ x = omega arith in subst (λ y. is_enclosing bits y k ≡ true) e (round_self bits k b opens)
    ]

-- how far an excess is above the least from there on
pub small_fall : (bits : List Bool) (from to : ℕ) (m : ℤ) → IsBalanced bits → from ≤ to → to ≤ length bits → m ≡ least (excess bits) from (to - from) → (pos 0 ≤ℤ m) × (m ≤ℤ excess bits from) × (excess bits from ≤ℤ pos from)
small_fall bits from to m b order within e =
    let u = least-above (excess bits) (pos 0 -ℤ pos 1) from (to - from) (λ k h. let v = b.low (from + k) (omega arith) in omega (arith, ints, v)) in
    let l : least (excess bits) from (to - from) ≤ℤ excess bits from = rw add-zero at (least-le (excess bits) from (to - from) 0 (omega arith)) in
    (omega (arith, ints, u, e), omega (arith, ints, l, e), excess-le bits from (omega arith))

-- ---- the pair that is found
module _ (bits : List Bool) (i j : ℕ) (b : IsBalanced bits) (first : is_open bits i ≡ true) (second : is_open bits j ≡ true) where
  over_both : (q : ℕ) → IsOver bits q i → IsOver bits q j → is_enclosing bits i q && is_enclosing bits j q ≡ true
  over_both q o p = and_from _ _ (over-round bits i q b first o) (over-round bits j q b second p)

  pub common-some : (k : ℕ) → common_of bits i j ≡ Some k → IsCommon bits i j k
  unfolding common_of
  common-some k e =
      let g = greatest-find (λ q. is_enclosing bits i q && is_enclosing bits j q) (min i j + 1) k e in
      let parts = and_parts (is_enclosing bits i k) (is_enclosing bits j k) g.passes in
      let below = g.below in
      let o = round-over bits i k b first (omega arith) parts.0 in
      record {
        first = o;
        second = round-over bits j k b second (omega arith) parts.1;
        inside = λ q x y.
            let f = x.from in
            let h = y.from in
            let l : q ≤ k = elim (cases_lt k q) [ inl m ↦ absurd (both_ways _ (g.after q m (omega arith)) (over_both q x y)) | inr m ↦ m ] in
            let t = x.to in
            let u = o.to in
            let m = arc_from bits q b x.opens in
            let e' = mate-opens bits q m.0 m.1 in
            let n = arc_from bits i b first in
            let f' = mate-opens bits i n.0 n.1 in
            record {
              opens = x.opens;
              from = l;
              to = elim (cases_lt q k) [
                | inl z ↦ let v = arc-nests bits q m.0 k b m.1 z (omega (arith, n.1.order, o.from)) in omega (arith, v.1)
                | inr z ↦ let w : q ≡ k = omega arith in subst (λ y. mate_of bits k ≤ mate_of bits y) (sym w) (omega arith)
              ];
            };
      }

  pub common-none : common_of bits i j ≡ None → (q : ℕ) → IsOver bits q i → ¬ IsOver bits q j
  unfolding common_of
  common-none e q x y =
      let f = x.from in
      let h = y.from in
      both_ways _ (no_falling-find (λ k. is_enclosing bits i k && is_enclosing bits j k) (min i j + 1) e q (omega arith)) (over_both q x y)

  pub common-said : (o : Option ℕ) → o ≡ common_of bits i j → IfSome o (IsCommon bits i j)
  common-said None e = tt
  common-said (Some k) e = common-some k (sym e)

  pub common-none_said : (o : Option ℕ) → o ≡ common_of bits i j → IsNone o ↔ ((k : ℕ) → IsOver bits k i → ¬ IsOver bits k j)
  common-none_said None e = (λ n. common-none (sym e), λ n. refl)
  common-none_said (Some k) e = (λ n. cc, λ n. let c = common-some k (sym e) in absurd (n k c.first c.second))

pub common-self : (bits : List Bool) (i j : ℕ) → IsBalanced bits → is_open bits i ≡ true → i ≡ j → common_of bits i j ≡ Some i
unfolding common_of
common-self bits i j b opens e =
    let r = round_self bits i b opens in
    let r' : is_enclosing bits j i ≡ true = subst (λ x. is_enclosing bits x i ≡ true) e r in
    find-greatest (λ k. is_enclosing bits i k && is_enclosing bits j k) (min i j + 1) i (omega arith) (and_from _ _ r r') (λ q x y. absurd (omega arith))

-- ---- how it is searched: below the least excess between the two places
module _ (bits : List Bool) (i j low high : ℕ) (b : IsBalanced bits) (first : is_open bits i ≡ true) (second : is_open bits j ≡ true) (lo : low ≡ min i j) (hi : high ≡ max i j) where
  within : high < length bits
  within = let u = open_within bits i first in let v = open_within bits j second in omega arith

  at_high : (P : ℕ → Type 0) → P i → P j → P high
  at_high P p q = elim (cases_lt i j) [ inl l ↦ let e : j ≡ high = omega arith in subst P e q | inr l ↦ let e : i ≡ high = omega arith in subst P e p ]

  high-open : is_open bits high ≡ true
  high-open = at_high (λ x. is_open bits x ≡ true) first second

  above_both : (k : ℕ) → k ≤ low → is_enclosing bits i k && is_enclosing bits j k ≡ true → IsAbove bits high k
  above_both k l h =
      let p = and_parts (is_enclosing bits i k) (is_enclosing bits j k) h in
      let w = within in
      at_high (λ x. IsAbove bits x k) (round-above bits i k (omega arith) p.0) (round-above bits j k (omega arith) p.1)

  both_above : (k : ℕ) → k ≤ low → is_open bits k ≡ true → IsAbove bits high k → is_enclosing bits i k && is_enclosing bits j k ≡ true
  both_above k l opens a =
      and_from _ _
      (above-over bits i k b first opens (omega arith) (record { above = λ q x y. a.above q x (omega arith) }))
      (above-over bits j k b second opens (omega arith) (record { above = λ q x y. a.above q x (omega arith) }))

  module _ (m : ℤ) (is_least : m ≡ least (excess bits) (low + 1) (high + 1 - (low + 1))) where
    least_at : (q : ℕ) → low + 1 ≤ q → q ≤ high + 1 → m ≤ℤ excess bits q
    least_at q x y =
        let d = q - (low + 1) in
        let e : low + 1 + d ≡ q = omega arith in
        let l = least-le (excess bits) (low + 1) (high + 1 - (low + 1)) d (omega arith) in
        let f : excess bits (low + 1 + d) ≡ excess bits q = ap (excess bits) e in
        omega (arith, ints, l, f, is_least)

    above_all : (t : ℤ) → ((q : ℕ) → low + 1 ≤ q → q ≤ high + 1 → t <ℤ excess bits q) → t <ℤ m
    above_all t all =
        let l = least-above (excess bits) t (low + 1) (high + 1 - (low + 1)) (λ k h. all (low + 1 + k) (omega arith) (omega arith)) in
        omega (arith, ints, l, is_least)

    -- no pair that opens where the excess is the least or more is round both
    not_both : (q : ℕ) → q ≤ low → m ≤ℤ excess bits q → is_enclosing bits i q && is_enclosing bits j q ≡ false
    not_both q l h =
        false_from_ne_true _ (λ t.
        let a = above_both q l t in
        let up = excess_up bits high false within high-open in
        let lh : low ≤ high = omega arith in
        let top : excess bits q <ℤ excess bits (high + 1) = elim (cases_lt q high) [
          | inl x ↦ let u = a.above high x (omega arith) in omega (arith, ints, u, up)
          | inr x ↦ let e : q ≡ high = omega arith in let f : excess bits q ≡ excess bits high = ap (excess bits) e in omega (arith, ints, up, f)
        ] in
        let u = above_all (excess bits q) (λ x y z. elim (cases_lt high x) [
          | inl w ↦ let e : high + 1 ≡ x = omega arith in subst (λ v. excess bits q <ℤ excess bits v) e top
          | inr w ↦ a.above x (omega arith) w
        ]) in
        omega (arith, ints, u, h))

    module _ (drop : ℕ) (fall : pos drop ≡ (excess bits (low + 1) -ℤ m) +ℤ pos 1) where
      start : (m -ℤ pos 1) <ℤ excess bits (low + 1)
      start =
          let lh : low ≤ high = omega arith in
          let l = least_at (low + 1) (omega arith) (omega arith) in
          omega (arith, ints, l)

      some_common : (p : ℕ) → p < low + 1 → excess bits p ≡ excess bits (low + 1) -ℤ pos drop → ((q : ℕ) → p < q → q < low + 1 → excess bits q ≢ excess bits (low + 1) -ℤ pos drop) → common_of bits i j ≡ Some p
      unfolding common_of
      some_common p l e never =
          let w = within in
          let lh : low ≤ high = omega arith in
          let here : excess bits p ≡ m -ℤ pos 1 = omega (arith, ints, e, fall) in
          let past : (q : ℕ) → p < q → q ≤ low + 1 → excess bits p <ℤ excess bits q = λ q x y. above_after bits p (low + 1) q (omega arith) (omega (arith, ints, here, start)) (λ k c d f. never k c d (f ∙ e)) x y in
          let a : IsAbove bits high p = record {
            above = λ q x y. elim (cases_lt low q) [
              | inl z ↦ let u = least_at q (omega arith) (omega arith) in omega (arith, ints, u, here)
              | inr z ↦ past q x (omega arith)
            ];
          } in
          let opens = open_where_up bits p (omega arith) (past (p + 1) (omega arith) (omega arith)) in
          let f : find (λ k. is_enclosing bits i k && is_enclosing bits j k) (falling (low + 1)) ≡ Some p =
          find-greatest (λ k. is_enclosing bits i k && is_enclosing bits j k) (low + 1) p l (both_above p (omega arith) opens a)
          (λ q x y. let u = past q x (omega arith) in not_both q (omega arith) (omega (arith, ints, u, here))) in
          subst (λ n. find (λ k. is_enclosing bits i k && is_enclosing bits j k) (falling (n + 1)) ≡ Some p) lo f

      no_common : ((q : ℕ) → 0 ≤ q → q < low + 1 → excess bits q ≢ excess bits (low + 1) -ℤ pos drop) → common_of bits i j ≡ None
      unfolding common_of
      no_common never =
          let w = within in
          let lh : low ≤ high = omega arith in
          let t : excess bits (low + 1) -ℤ pos drop ≡ m -ℤ pos 1 = omega (arith, ints, fall) in
          let s = was_from_never bits (m -ℤ pos 1) 0 (low + 1) (omega arith) start (λ q x y f. never q x y (f ∙ sym t)) in
          let f : find (λ k. is_enclosing bits i k && is_enclosing bits j k) (falling (low + 1)) ≡ None =
          find-no_falling (λ k. is_enclosing bits i k && is_enclosing bits j k) (low + 1)
          (λ q x. let u = s.above q (omega arith) x in not_both q (omega arith) (omega (arith, ints, u))) in
          subst (λ n. find (λ k. is_enclosing bits i k && is_enclosing bits j k) (falling (n + 1)) ≡ None) lo f

      pub last-common : (o : Option ℕ) → IsLast (λ p. excess bits p ≡ excess bits (low + 1) -ℤ pos drop) 0 (low + 1) o → o ≡ common_of bits i j
      last-common None h = sym (no_common h)
      last-common (Some p) h = sym (some_common p h.1 h.2 h.3)
