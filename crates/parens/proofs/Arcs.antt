-- Pairs as arcs: from its opening place on, until after its closing place, the excess stays above where it was.
use Rattle.std.specs.Prelude.{ℤ, pos, ◌-ℤ◌, ◌<ℤ◌, ◌≤ℤ◌, unwrap_or}
use Rattle.std.proofs.Common.{◌≡◌, ◌≢◌, ℕ, zero, suc, ◌+◌, ◌-◌, ◌<◌, ◌≤◌, ◌⊎◌, inl, inr, Bool, true, false, ◌&&◌, List, length, refl, ap, sym, ◌∙◌, arith, subst, Option, Some, None, add-zero}
use borrow.Author.Differences.{up, down}
use Rattle.std.proofs.lemmas.Bool.{cases_lt, cases_Bool, and_parts, and_from, eqb-true, eq-eqb, false_from_ne_true, both_ways}
use Rattle.std.proofs.lemmas.Int.{ints}
use Rattle.std.proofs.lemmas.List.{get_or_past}
use Rattle.bit_words.specs.Lists.{is_at}
use Rattle.bit_words.specs.Bits.{excess}
use Rattle.bit_words.proofs.Ranks.{excess_up, excess_down, rank-zero}
use Rattle.bit_words.proofs.Finds.{find-least, least-find, none-find}
use Rattle.min_max_tree.proofs.Falls.{stays_from_never, excess-step-up}
use Rattle.min_max_tree.proofs.Backs.{was_from_never}
use Rattle.parens.specs.Matching.{is_open, is_even, close_of, open_of, mate_of}
use Rattle.parens.specs.Pairs.{IsPair}
use Rattle.parens.proofs.Balances.{IsBalanced}

even-level : (bits : List Bool) (i j : ℕ) → is_even bits i j ≡ true → excess bits (j + 1) ≡ excess bits i
unfolding excess
even-level bits i j h = omega (arith, ints, eqb-true _ _ h)

level-even : (bits : List Bool) (i j : ℕ) → excess bits (j + 1) ≡ excess bits i → is_even bits i j ≡ true
unfolding excess
level-even bits i j e = eq-eqb _ _ (omega (arith, ints, e))

uneven-level : (bits : List Bool) (i j : ℕ) → is_even bits i j ≡ false → excess bits (j + 1) ≢ excess bits i
uneven-level bits i j h e = both_ways _ h (level-even bits i j e)

pub record IsArc (bits : List Bool) (i j : ℕ) : Type 0 where
  pub order : i < j
  pub within : j < length bits
  pub level : excess bits (j + 1) ≡ excess bits i
  pub above : (q : ℕ) → i < q → q ≤ j → excess bits i <ℤ excess bits q

pub open_where_up : (bits : List Bool) (i : ℕ) → i < length bits → excess bits i <ℤ excess bits (i + 1) → is_open bits i ≡ true
open_where_up bits i l u = elim (cases_Bool (is_open bits i)) [ inl o ↦ o | inr c ↦ let d = excess_down bits i false l c in absurd (omega (arith, ints, d, u)) ]

pub arc-opens : (bits : List Bool) (i j : ℕ) → IsArc bits i j → is_open bits i ≡ true
arc-opens bits i j a = open_where_up bits i (omega (arith, a.order, a.within)) (a.above (i + 1) (omega arith) (omega (arith, a.order)))

pub arc-closes : (bits : List Bool) (i j : ℕ) → IsArc bits i j → is_open bits j ≡ false
arc-closes bits i j a =
    false_from_ne_true _ (λ o. let u = excess_up bits j false a.within o in let v = a.above j a.order (omega arith) in let w = a.level in omega (arith, ints, u, v, w))

-- two arcs that end at one place are one
pub one_arc : (bits : List Bool) (i k j : ℕ) → IsArc bits i j → IsArc bits k j → ¬ (i < k)
one_arc bits i k j a b l = let u = a.above k l (omega (arith, b.order)) in let v = a.level in let w = b.level in omega (arith, ints, u, v, w)

-- ---- the arc of an opening place
pub arc-close : (bits : List Bool) (i j : ℕ) → is_open bits i ≡ true → i < length bits → close_of bits i ≡ Some j → IsArc bits i j
unfolding close_of
arc-close bits i j opens within h =
    let l = least-find (is_even bits i) (i + 1) (length bits - (i + 1)) j h in
    let up = excess_up bits i false within opens in
    let start : excess bits i <ℤ excess bits (i + 1) = omega (arith, ints, up) in
    let s = stays_from_never bits (excess bits i) (i + 1) j (omega (arith, l.from)) start
    (λ p a b e. let k : p - 1 + 1 ≡ p = omega arith in
    uneven-level bits i (p - 1) (l.before (p - 1) (omega arith) (omega arith)) (rw k e)) in
    record {
      order = omega (arith, l.from);
      within = omega (arith, l.within, within);
      level = even-level bits i j l.passes;
      above = λ q a b. elim (cases_lt (i + 1) q) [ inl m ↦ s.above q m b | inr m ↦ let e : i + 1 ≡ q = omega arith in subst (λ x. excess bits i <ℤ excess bits x) e start ];
    }

pub close-arc : (bits : List Bool) (i j : ℕ) → IsArc bits i j → close_of bits i ≡ Some j
unfolding close_of
close-arc bits i j a =
    find-least (is_even bits i) (i + 1) (length bits - (i + 1)) j (record {
      from = omega (arith, a.order);
      within = omega (arith, a.within, a.order);
      passes = level-even bits i j a.level;
      before = λ q l b. false_from_ne_true _ (λ e. let v = even-level bits i q e in let w = a.above (q + 1) (omega arith) (omega arith) in omega (arith, ints, v, w));
    })

pub open_within : (bits : List Bool) (i : ℕ) → is_open bits i ≡ true → i < length bits
open_within bits i opens = elim (cases_lt i (length bits)) [ inl l ↦ l | inr g ↦ absurd (both_ways _ (get_or_past bits i false g) opens) ]

-- what opens where the excess is not below that at a later place closes before that place
close_there : (bits : List Bool) (i top : ℕ) → is_open bits i ≡ true → i < top → top ≤ length bits → excess bits top ≤ℤ excess bits i → close_of bits i ≢ None
unfolding close_of
close_there bits i top opens l within low h =
    let never = none-find (is_even bits i) (i + 1) (length bits - (i + 1)) h in
    let up = excess_up bits i false (omega arith) opens in
    let start : excess bits i <ℤ excess bits (i + 1) = omega (arith, ints, up) in
    elim (cases_lt (i + 1) top) [
      | inl m ↦
          let s = stays_from_never bits (excess bits i) (i + 1) top within start
          (λ p x y e. let k : p - 1 + 1 ≡ p = omega arith in uneven-level bits i (p - 1) (never (p - 1) (omega arith) (omega arith)) (rw k e)) in
          let x = s.above top m (omega arith) in
          omega (arith, ints, x, low)
      | inr m ↦
          let e : i + 1 ≡ top = omega arith in
          let x : excess bits i <ℤ excess bits top = subst (λ y. excess bits i <ℤ excess bits y) e start in
          omega (arith, ints, x, low)
    ]

some_of : (o : Option ℕ) → o ≢ None → (j : ℕ) × (o ≡ Some j)
some_of None h = absurd (h refl)
some_of (Some j) h = (j, refl)

pub arc_before : (bits : List Bool) (i top : ℕ) → is_open bits i ≡ true → i < top → top ≤ length bits → excess bits top ≤ℤ excess bits i → (j : ℕ) × (j < top) × IsArc bits i j
arc_before bits i top opens l within low =
    let s = some_of (close_of bits i) (close_there bits i top opens l within low) in
    let a = arc-close bits i s.0 opens (omega arith) s.1 in
    (s.0, elim (cases_lt s.0 top) [ inl x ↦ x | inr g ↦ let u = a.above top l g in absurd (omega (arith, ints, u, low)) ], a)

-- the arc of an opening place of balanced bits is there
pub arc_from : (bits : List Bool) (i : ℕ) → IsBalanced bits → is_open bits i ≡ true → (j : ℕ) × IsArc bits i j
arc_from bits i b opens =
    let w = open_within bits i opens in
    let low = b.low i (omega arith) in
    let m = arc_before bits i (length bits) opens w (omega arith) (omega (arith, ints, low, b.end)) in
    (m.0, m.2)

pub some_close : (bits : List Bool) (i : ℕ) → IsBalanced bits → is_open bits i ≡ true → close_of bits i ≢ None
some_close bits i b opens h = let m = arc_from bits i b opens in let e = close-arc bits i m.0 m.1 in cc

-- ---- the arc of a closing place
pub excess-zero : (bits : List Bool) → excess bits 0 ≡ pos 0
unfolding excess
excess-zero bits = omega (arith, ints, rank-zero true bits, rank-zero false bits)

-- the last place, from low on and before low + d, where the excess is t
pub record IsLastAt (bits : List Bool) (t : ℤ) (low high p : ℕ) : Type 0 where
  pub from : low ≤ p
  pub before : p < high
  pub here : excess bits p ≡ t
  pub above : (q : ℕ) → p < q → q ≤ high → t <ℤ excess bits q

last_step : (bits : List Bool) (t : ℤ) (low high p : ℕ) → t <ℤ excess bits (high + 1) → IsLastAt bits t low high p → IsLastAt bits t low (high + 1) p
last_step bits t low high p top l = record {
  from = l.from;
  before = omega (arith, l.before);
  here = l.here;
  above = λ q a b. elim (cases_lt high q) [ inl m ↦ let e : high + 1 ≡ q = omega arith in subst (λ x. t <ℤ excess bits x) e top | inr m ↦ l.above q a m ];
}

cases_ℤ : (x y : ℤ) → (x ≤ℤ y) ⊎ (y <ℤ x)
cases_ℤ x y = elim (cases_lt (up y + down x) (up x + down y)) [ inl h ↦ inr (omega (arith, ints)) | inr h ↦ inl (omega (arith, ints)) ]

pub last_at : (bits : List Bool) (t : ℤ) (low d : ℕ) → low + d ≤ length bits → excess bits low ≤ℤ t → t <ℤ excess bits (low + d) → (p : ℕ) × IsLastAt bits t low (low + d) p
last_at bits t low zero h l g = let u : t <ℤ excess bits low = rw add-zero at g in absurd (omega (arith, ints, l, u))
last_at bits t low (suc d) h l g =
    let e : low + suc d ≡ low + d + 1 = omega arith in
    let top : t <ℤ excess bits (low + d + 1) = subst (λ x. t <ℤ excess bits x) e g in
    let step = excess-step-up bits (low + d) (omega arith) in
    let found : (p : ℕ) × IsLastAt bits t low (low + d + 1) p =
    elim (cases_ℤ (excess bits (low + d)) t) [
      | inl a ↦ (
        low + d,
        record {
          from = omega arith;
          before = omega arith;
          here = omega (arith, ints, a, step, top);
          above = λ q x y. let f : low + d + 1 ≡ q = omega arith in subst (λ z. t <ℤ excess bits z) f top;
        },
      )
      | inr b ↦ let r = last_at bits t low d (omega arith) l b in (r.0, last_step bits t low (low + d) r.0 top r.1)
    ] in
    subst (λ x. (p : ℕ) × IsLastAt bits t low x p) (sym e) found

-- a closing place, before which the excess is above that at `low`, ends an arc that begins from there on
pub arc_to : (bits : List Bool) (low j : ℕ) → is_open bits j ≡ false → j < length bits → low ≤ j → excess bits low ≤ℤ excess bits (j + 1) → (i : ℕ) × (low ≤ i) × IsArc bits i j
arc_to bits low j closes within order l =
    let down = excess_down bits j false within closes in
    let d = j - low in
    let e : low + d ≡ j = omega arith in
    let r = last_at bits (excess bits (j + 1)) low d (omega arith) l (rw e (omega (arith, ints, down))) in
    let s : IsLastAt bits (excess bits (j + 1)) low j r.0 = subst (λ x. IsLastAt bits (excess bits (j + 1)) low x r.0) e r.1 in (
      r.0,
      s.from,
      record {
        order = s.before;
        within = within;
        level = sym s.here;
        above = λ q a b. let u = s.above q a b in let v = s.here in omega (arith, ints, u, v);
      },
    )

-- ---- the mates of an arc
pub at_some : (o : Option ℕ) (j : ℕ) → is_at o j ≡ true → o ≡ Some j
at_some None j h = cc
at_some (Some i) j h = ap Some (eqb-true i j h)

pub mate-opens : (bits : List Bool) (i j : ℕ) → IsArc bits i j → mate_of bits i ≡ j
unfolding mate_of
mate-opens bits i j a = rw (arc-opens bits i j a, close-arc bits i j a) refl

open-arc : (bits : List Bool) (i j : ℕ) → IsArc bits i j → open_of bits j ≡ Some i
unfolding open_of
open-arc bits i j a =
    find-least (λ k. is_open bits k && is_at (close_of bits k) j) 0 j i (record {
      from = omega arith;
      within = omega (arith, a.order);
      passes = and_from _ _ (arc-opens bits i j a) (rw (close-arc bits i j a) (eq-eqb j j refl));
      before = λ q l b. false_from_ne_true _ (λ t.
          let p = and_parts (is_open bits q) (is_at (close_of bits q) j) t in
          let w = open_within bits q p.0 in
          one_arc bits q i j (arc-close bits q j p.0 w (at_some (close_of bits q) j p.1)) a b);
    })

pub mate-closes : (bits : List Bool) (i j : ℕ) → IsArc bits i j → mate_of bits j ≡ i
unfolding mate_of
mate-closes bits i j a = rw (arc-closes bits i j a, open-arc bits i j a) refl

mated : (o : Option ℕ) (i j : ℕ) → unwrap_or o i ≡ j → i < j → o ≡ Some j
mated None i j e l = absurd (omega (arith, e))
mated (Some k) i j e l = ap Some e

-- what opens and has its mate after it begins an arc
pub mate-arc : (bits : List Bool) (i j : ℕ) → is_open bits i ≡ true → i < j → mate_of bits i ≡ j → IsArc bits i j
unfolding mate_of
mate-arc bits i j opens l e = arc-close bits i j opens (open_within bits i opens) (mated (close_of bits i) i j (rw opens at e) l)

-- a place inside an arc has its mate inside
pub arc-nests : (bits : List Bool) (i j k : ℕ) → IsBalanced bits → IsArc bits i j → i < k → k < j → (i < mate_of bits k) × (mate_of bits k < j)
arc-nests bits i j k b a l h =
    elim (cases_Bool (is_open bits k)) [
      | inl o ↦
          let m = arc_from bits k b o in
          let e = mate-opens bits k m.0 m.1 in
          let u = a.above k l (omega arith) in
          let v = a.level in
          let w = m.1.level in
          let s : m.0 < j =
          elim (cases_lt m.0 j) [
            | inl x ↦ x
            | inr x ↦ elim (cases_lt j m.0) [
              | inl y ↦ let z = m.1.above (j + 1) (omega arith) (omega arith) in absurd (omega (arith, ints, u, v, z))
              | inr y ↦ let f : m.0 ≡ j = omega arith in let z : excess bits (m.0 + 1) ≡ excess bits (j + 1) = ap (λ x. excess bits (x + 1)) f in absurd (omega (arith, ints, u, v, w, z))
            ]
          ] in
          let o' = m.1.order in
          (omega arith, omega arith)
      | inr c ↦
          let w = a.above (k + 1) (omega arith) (omega arith) in
          let m = arc_to bits i k c (omega (arith, a.within)) (omega arith) (omega (arith, ints, w)) in
          let e = mate-closes bits m.0 k m.2 in
          let v = m.2.level in
          let s : i < m.0 =
          elim (cases_lt i m.0) [
            | inl x ↦ x
            | inr x ↦ let f : m.0 ≡ i = omega (arith, m.1) in let z : excess bits m.0 ≡ excess bits i = ap (excess bits) f in absurd (omega (arith, ints, v, w, z))
          ] in
          let o' = m.2.order in
          (omega arith, omega arith)
    ]

pub arc-pair : (bits : List Bool) (i j : ℕ) → IsBalanced bits → IsArc bits i j → IsPair bits i j
arc-pair bits i j b a = record {
  order = a.order;
  within = a.within;
  opens = arc-opens bits i j a;
  closes = arc-closes bits i j a;
  forth = mate-opens bits i j a;
  back = mate-closes bits i j a;
  nests = λ k l h. arc-nests bits i j k b a l h;
}

-- ---- arcs, as they are searched
-- the first place after i + 1 where the excess is one less ends the arc of i
pub arc-next : (bits : List Bool) (i p : ℕ) → is_open bits i ≡ true → i + 1 < p → p ≤ length bits → excess bits p ≡ excess bits (i + 1) -ℤ pos 1 → ((q : ℕ) → i + 1 < q → q < p → excess bits q ≢ excess bits (i + 1) -ℤ pos 1) → IsArc bits i (p - 1)
arc-next bits i p opens l h e never =
    let up = excess_up bits i false (omega arith) opens in
    let k : p - 1 + 1 ≡ p = omega arith in
    let start : excess bits i <ℤ excess bits (i + 1) = omega (arith, ints, up) in
    let s = stays_from_never bits (excess bits i) (i + 1) (p - 1) (omega arith) start (λ q a b f. never q a (omega arith) (omega (arith, ints, f, up))) in
    record {
      order = omega arith;
      within = omega arith;
      level = rw k (omega (arith, ints, e, up));
      above = λ q a b. elim (cases_lt (i + 1) q) [ inl m ↦ s.above q m b | inr m ↦ let f : i + 1 ≡ q = omega arith in subst (λ x. excess bits i <ℤ excess bits x) f start ];
    }

pub some_next : (bits : List Bool) (i : ℕ) → IsBalanced bits → is_open bits i ≡ true → ((p : ℕ) → i + 1 < p → p ≤ length bits → excess bits p ≢ excess bits (i + 1) -ℤ pos 1) → ⊥
some_next bits i b opens never =
    let m = arc_from bits i b opens in
    let up = excess_up bits i false (open_within bits i opens) opens in
    never (m.0 + 1) (omega (arith, m.1.order)) (omega (arith, m.1.within)) (omega (arith, ints, m.1.level, up))

-- after the last place where the excess is that of p, which a later place g is above, it stays above
pub above_after : (bits : List Bool) (p g q : ℕ) → g ≤ length bits → excess bits p <ℤ excess bits g → ((k : ℕ) → p < k → k < g → excess bits k ≢ excess bits p) → p < q → q ≤ g → excess bits p <ℤ excess bits q
above_after bits p g q within start never l h =
    let s = was_from_never bits (excess bits p) (p + 1) g within start (λ k a b f. never k (omega arith) b f) in
    elim (cases_lt q g) [ inl m ↦ s.above q (omega arith) m | inr m ↦ let f : g ≡ q = omega arith in subst (λ x. excess bits p <ℤ excess bits x) f start ]

pub above_last : (bits : List Bool) (p g q : ℕ) → g ≤ length bits → excess bits p ≡ excess bits g -ℤ pos 1 → ((k : ℕ) → p < k → k < g → excess bits k ≢ excess bits g -ℤ pos 1) → p < q → q ≤ g → excess bits p <ℤ excess bits q
above_last bits p g q within e never l h = above_after bits p g q within (omega (arith, ints, e)) (λ k a b f. never k a b (f ∙ e)) l h

-- the last place before j where the excess is one less begins the arc that ends at j
pub arc-last : (bits : List Bool) (p j : ℕ) → is_open bits j ≡ false → j < length bits → p < j → excess bits p ≡ excess bits j -ℤ pos 1 → ((q : ℕ) → p < q → q < j → excess bits q ≢ excess bits j -ℤ pos 1) → IsArc bits p j
arc-last bits p j closes within l e never =
    let down = excess_down bits j false within closes in
    record {
      order = l;
      within = within;
      level = omega (arith, ints, down, e);
      above = λ q a b. above_last bits p j q (omega arith) e never a b;
    }

-- where the excess was never one less it is 0
pub never_less : (bits : List Bool) (g : ℕ) → IsBalanced bits → g ≤ length bits → ((q : ℕ) → 0 ≤ q → q < g → excess bits q ≢ excess bits g -ℤ pos 1) → excess bits g ≡ pos 0
never_less bits g b within never =
    let low = b.low g within in
    let z = excess-zero bits in
    elim (cases_lt 0 g) [
      | inl m ↦ let s = (was_from_never bits (excess bits g -ℤ pos 1) 0 g within (omega (arith, ints)) never).above 0 (omega arith) m in omega (arith, ints, s, z, low)
      | inr m ↦ let e : g ≡ 0 = omega arith in ap (excess bits) e ∙ z
    ]

pub some_last : (bits : List Bool) (j : ℕ) → IsBalanced bits → is_open bits j ≡ false → j < length bits → ((q : ℕ) → 0 ≤ q → q < j → excess bits q ≢ excess bits j -ℤ pos 1) → ⊥
some_last bits j b closes within never =
    let down = excess_down bits j false within closes in
    let low = b.low (j + 1) (omega arith) in
    let z = never_less bits j b (omega arith) never in
    omega (arith, ints, down, low, z)
