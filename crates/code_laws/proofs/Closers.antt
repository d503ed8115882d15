-- What a closing place closes.
use Rattle.std.specs.Prelude.{pos, ◌+ℤ◌, ◌<ℤ◌, ◌≤ℤ◌, find, nat_le}
use Rattle.std.proofs.Common.{◌≡◌, ℕ, ◌+◌, ◌<◌, ◌≤◌, inl, inr, Bool, true, false, ◌&&◌, List, length, refl, ap, sym, arith, subst, Option, Some, None}
use Rattle.std.specs.List.{range_with_len}
use Rattle.std.proofs.lemmas.Bool.{cases_lt, and_parts, and_from, eq-eqb, leb-true, leb-false, both_ways}
use Rattle.std.proofs.lemmas.Int.{ints}
use Rattle.bit_words.specs.Lists.{is_at}
use Rattle.bit_words.specs.Bits.{rank, excess}
use Rattle.bit_words.proofs.Ranks.{excess_down}
use Rattle.bit_words.proofs.Finds.{least-find, none-find}
use Rattle.min_max_tree.proofs.Falls.{excess-step-up}
use Rattle.parens.proofs.Balances.{IsBalanced}
use Rattle.parens.specs.Matching.{is_open, close_of, open_of, falling}
use Rattle.parens.proofs.Arcs.{IsArc, arc-close, close-arc, open_where_up, excess-zero, at_some}
use Rattle.parens.proofs.Greatest.{IsGreatest, greatest-find, no_falling-find}

-- the excess before i is at most that after j
no_more : List Bool → ℕ → ℕ → Bool
no_more bits j i = nat_le (rank true bits i + rank false bits (j + 1)) (rank true bits (j + 1) + rank false bits i)

no_more-true : (bits : List Bool) (j i : ℕ) → no_more bits j i ≡ true → excess bits i ≤ℤ excess bits (j + 1)
unfolding excess no_more
no_more-true bits j i h = omega (arith, ints, leb-true _ _ h)

no_more-false : (bits : List Bool) (j i : ℕ) → no_more bits j i ≡ false → excess bits (j + 1) <ℤ excess bits i
unfolding excess no_more
no_more-false bits j i h = omega (arith, ints, leb-false _ _ h)

module _ (bits : List Bool) (b : IsBalanced bits) (j : ℕ) (within : j < length bits) (closes : is_open bits j ≡ false) where
  fell : excess bits (j + 1) +ℤ pos 1 ≡ excess bits j
  fell = excess_down bits j false within closes

  arc_from : (x : ℕ) → IsGreatest (no_more bits j) j x → IsArc bits x j
  arc_from x g =
      let above : (q : ℕ) → x < q → q ≤ j → excess bits (j + 1) <ℤ excess bits q
      = λ q l h. elim (cases_lt q j) [ inl m ↦ no_more-false bits j q (g.after q l m) | inr m ↦ let e : q ≡ j = omega arith in let f = fell in subst (λ y. excess bits (j + 1) <ℤ excess bits y) (sym e) (omega (arith, ints, f)) ] in
      let low = no_more-true bits j x g.passes in
      let up = above (x + 1) (omega arith) (omega (arith, g.below)) in
      let step = excess-step-up bits x (omega (arith, g.below)) in
      let level : excess bits (j + 1) ≡ excess bits x = omega (arith, ints, low, up, step) in
      record { order = g.below; within = within; level = level; above = λ q l h. let v = above q l h in omega (arith, ints, v, level) }

  some_arc : (x : ℕ) × IsArc bits x j
  some_arc = at (find (no_more bits j) (falling j)) refl
    where
      at : (o : Option ℕ) → find (no_more bits j) (falling j) ≡ o → (x : ℕ) × IsArc bits x j
      at None e =
          let f = fell in
          let low = b.low (j + 1) (omega arith) in
          let z = excess-zero bits in
          elim (cases_lt 0 j) [
            | inl l ↦ let v = no_more-false bits j 0 (no_falling-find (no_more bits j) j e 0 l) in absurd (omega (arith, ints, v, low, z))
            | inr g ↦ let e : j ≡ 0 = omega arith in let y : excess bits j ≡ excess bits 0 = ap (excess bits) e in absurd (omega (arith, ints, f, low, z, y))
          ]
      at (Some x) e = (x, arc_from x (greatest-find (no_more bits j) j x e))

  opener : ℕ → Bool
  opener i = is_open bits i && is_at (close_of bits i) j

  pub some_open : (i : ℕ) × (open_of bits j ≡ Some i) × IsArc bits i j
  unfolding open_of opener
  some_open = at (find (λ i. is_open bits i && is_at (close_of bits i) j) (range_with_len 0 j)) refl
    where
      at : (o : Option ℕ) → find (λ i. is_open bits i && is_at (close_of bits i) j) (range_with_len 0 j) ≡ o → (i : ℕ) × (open_of bits j ≡ Some i) × IsArc bits i j
      at None e =
          let a = some_arc in
          let fails = none-find (λ i. is_open bits i && is_at (close_of bits i) j) 0 j e a.0 (omega arith) (omega (arith, a.1.order)) in
          let up = a.1.above (a.0 + 1) (omega arith) (omega (arith, a.1.order)) in
          absurd (both_ways _ fails (and_from _ _ (open_where_up bits a.0 (omega (arith, a.1.order, within)) up)
          (subst (λ o. is_at o j ≡ true) (sym (close-arc bits a.0 j a.1)) (eq-eqb j j refl))))
      at (Some i) e =
          let l = least-find (λ i. is_open bits i && is_at (close_of bits i) j) 0 j i e in
          let parts = and_parts (is_open bits i) (is_at (close_of bits i) j) l.passes in
          (i, e, arc-close bits i j parts.0 (omega (arith, l.within, within)) (at_some _ j parts.1))
