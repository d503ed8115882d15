-- Where regions open, and the regions that are or enclose one.
use Rattle.std.specs.Prelude.{unwrap_or, option_map, filter, find, nat_le}
use Rattle.std.proofs.Common.{◌≡◌, ℕ, zero, suc, ◌+◌, ◌<◌, ◌≤◌, inl, inr, Bool, true, false, List, [], ◌∷◌, map, length, refl, ap, sym, ◌∙◌, subst, arith, Option, Some, None}
use Rattle.std.specs.Cmp.{both_ways as tests_agree}
use Rattle.std.proofs.lemmas.Bool.{cases_lt, cases_Bool, and_parts, and_from, both_ways, le-leb, false_from_ne_true}
use Rattle.std.proofs.lemmas.Int.{ints}
use Rattle.bit_words.specs.Bits.{rank, select, excess}
use Rattle.rank_select.proofs.Selects.{selected}
use Rattle.code_laws.proofs.Apart.{fewer}
use Rattle.parens.specs.Matching.{is_open, close_of, is_from, is_enclosing, innermost, falling}
use Rattle.parens.proofs.Balances.{IsBalanced}
use Rattle.parens.proofs.Arcs.{arc_from, close-arc, open_within}
use Rattle.parens.proofs.Greatest.{IsGreatest, greatest-find, no_falling-find}
use Rattle.parens.proofs.Enclosing.{IsAbove, round-above, above-round}
use Rattle.region_tree.specs.Nesting.{opening, parent_number, upward}

-- an opening place is that of the region of its number
pub select-open : (bits : List Bool) (i : ℕ) → is_open bits i ≡ true → select true bits (rank true bits i) ≡ Some i
select-open bits i opens = sym (selected true bits (rank true bits i) (Some i) (open_within bits i opens, opens, refl))

pub opening-rank : (bits : List Bool) (i : ℕ) → is_open bits i ≡ true → opening bits (rank true bits i) ≡ i
opening-rank bits i opens = ap (λ o. unwrap_or o 0) (select-open bits i opens)

pub parent-rank : (bits : List Bool) (i : ℕ) → is_open bits i ≡ true → parent_number bits (rank true bits i) ≡ option_map (rank true bits) (innermost bits i)
unfolding parent_number
parent-rank bits i opens = ap (λ p. option_map (rank true bits) (innermost bits p)) (opening-rank bits i opens)

-- the parent of a region that opens at a place
pub parent-at : (bits : List Bool) (x i : ℕ) (o : Option ℕ) → i ≡ opening bits x → o ≡ innermost bits i → option_map (rank true bits) o ≡ parent_number bits x
unfolding parent_number
parent-at bits x i o at is = ap (option_map (rank true bits)) (is ∙ ap (innermost bits) at)

pub round_open : (bits : List Bool) (gap k : ℕ) → is_enclosing bits gap k ≡ true → is_open bits k ≡ true
round_open bits gap k h = (and_parts (is_open bits k) (is_from gap (close_of bits k)) h).0

module _ (bits : List Bool) (b : IsBalanced bits) where
  -- a pair is round itself
  pub round_self : (i : ℕ) → is_open bits i ≡ true → is_enclosing bits i i ≡ true
  round_self i opens =
      let a = arc_from bits i b opens in
      let from : is_from i (close_of bits i) ≡ true = subst (λ o. is_from i o ≡ true) (sym (close-arc bits i a.0 a.1)) (le-leb i a.0 (omega (arith, a.1.order))) in
      and_from _ _ opens from

  -- what is round the innermost pair round a place is what is round that place
  pub round_step : (i j : ℕ) → i ≤ length bits → j < i → is_enclosing bits i j ≡ true → (k : ℕ) → k < j → is_enclosing bits i k ≡ is_enclosing bits j k
  round_step i j within l round k h =
      let near = round-above bits i j (omega arith) round in
      tests_agree _ _
      (λ r. let a = round-above bits i k (omega arith) r in above-round bits j k b h (omega arith) (record { above = λ q x y. a.above q x (omega arith) }))
      (λ r. let a = round-above bits j k (omega arith) r in
      let here = a.above j h (omega arith) in
      above-round bits i k b (omega arith) within (record {
        above = λ q x y. elim (cases_lt j q) [
          | inl past ↦ let v = near.above q past y in omega (arith, ints, here, v)
          | inr up ↦ a.above q x up
        ];
      }))

-- ---- filters of falling numbers
pub falling_more : (p : ℕ → Bool) (n : ℕ) → p n ≡ true → filter p (falling (suc n)) ≡ (n ∷ filter p (falling n))
unfolding falling
falling_more p n h = rw h refl

pub falling_less : (p : ℕ → Bool) (n : ℕ) → p n ≡ false → filter p (falling (suc n)) ≡ filter p (falling n)
unfolding falling
falling_less p n h = rw h refl

pub filter_none : (p : ℕ → Bool) (n : ℕ) → ((q : ℕ) → q < n → p q ≡ false) → filter p (falling n) ≡ []
unfolding falling
filter_none p zero h = refl
filter_none p (suc n) h = rw (h n (omega arith)) (filter_none p n (λ q l. h q (omega arith)))

pub filter_same : (p r : ℕ → Bool) (n : ℕ) → ((q : ℕ) → q < n → p q ≡ r q) → filter p (falling n) ≡ filter r (falling n)
unfolding falling
filter_same p r zero same = refl
filter_same p r (suc n) same = rw (same n (omega arith), filter_same p r n (λ q h. same q (omega arith))) refl

-- up to the greatest that passes, none passes
pub filter_skip : (p : ℕ → Bool) (n k : ℕ) → ((q : ℕ) → n ≤ q → q < n + k → p q ≡ false) → filter p (falling (n + k)) ≡ filter p (falling n)
unfolding falling
filter_skip p n zero none = let e : n + zero ≡ n = omega arith in rw e refl
filter_skip p n (suc k) none =
    let e : n + suc k ≡ suc (n + k) = omega arith in
    rw e (rw (none (n + k) (omega arith) (omega arith)) (filter_skip p n k (λ q l h. none q (omega arith) (omega arith))))
