-- What a check finds, by the definitions of faults.
use Rattle.std.specs.Prelude.{not, find, is_none, slice_index_or, nat_lt, if◌then◌else◌, ◌&&◌}
use Rattle.std.specs.List.{range_with_len}
use Rattle.std.proofs.Common.{◌≡◌, ◌≢◌, ℕ, zero, suc, ◌+◌, ◌-◌, ◌<◌, ◌≤◌, inl, inr, Bool, true, false, List, length, refl, ap, sym, ◌∙◌, arith, subst, Option, Some, None, ◌==◌}
use Rattle.std.proofs.lemmas.Bool.{cases_lt, and_from, eqb-true, eq-eqb, ne_eqb, lt-ltb}
use Rattle.bit_words.specs.Bits.{rank}
use Rattle.bit_words.specs.Lists.{first_some}
use Rattle.bit_words.proofs.Ranks.{rank_both, rank_more_yes, rank_more_no}
use Rattle.rank_select.proofs.CountLaws.{rank_past}
use Rattle.bit_words.proofs.Finds.{find-least, find-none}
use Rattle.rank_select.proofs.Selects.{cases_kind}
use Rattle.parens.specs.Matching.{balance_fault, is_balanced, or_end, closes_more}
use Rattle.code_laws.specs.Code.{Code, parens, place, start_of, end_of, component_count}
use Rattle.code_laws.specs.SeqFault.{is_start, starts_fault, is_balanced_in, balance_fault_of, ones_fault, seq_fault, is_sound}
use Rattle.code_laws.specs.declared.seq_fault.SeqFault.TheVariants.{Starts, Ones, Tree, Dual}
use Rattle.code_laws.proofs.Sound.{IsLaidOut, laid_out, rises, start_within, places_within}
use Rattle.turan_code.specs.Sequences.{AreFew, AreLaidOut}

pub no_places : (bits : List Bool) (p : ℕ) → is_balanced bits p p ≡ true
unfolding balance_fault
no_places bits p =
    let e : p - p ≡ 0 = omega arith in
    rw e (rw (eq-eqb (rank true bits p + rank false bits p) (rank false bits p + rank true bits p) (omega arith)) refl)

end-even : (o : Option ℕ) (even : Bool) (to : ℕ) → is_none (or_end o even to) ≡ true → even ≡ true
end-even None true to h = refl
end-even None false to h = cc
end-even (Some p) even to h = cc

-- as many of balanced places open as close, so they are none or at least two
pub two_places : (bits : List Bool) (from to : ℕ) → from < to → to ≤ length bits → is_balanced bits from to ≡ true → from + 2 ≤ to
unfolding balance_fault
two_places bits from to l m h =
    let e = eqb-true _ _ (end-even (find (closes_more bits from) (range_with_len from (to - from))) (rank true bits to + rank false bits from == rank false bits to + rank true bits from) to h) in
    let a = rank_both bits from (omega arith) in
    let b = rank_both bits to m in
    omega (arith, e, a, b)

pub not_balanced : (bits : List Bool) (from to p : ℕ) → balance_fault bits from to ≡ Some p → is_balanced bits from to ≡ false
not_balanced bits from to p e = ap is_none e

rank_next : (bit : Bool) (bits : List Bool) (i : ℕ) → rank bit bits (i + 1) ≤ rank bit bits i + 1
rank_next bit bits i =
    elim (cases_lt i (length bits)) [
      | inl l ↦ elim (cases_kind bit (slice_index_or bits i false)) [
        | inl is ↦ omega (arith, rank_more_yes bit bits i false l is)
        | inr other ↦ omega (arith, rank_more_no bit bits i false l other)
      ]
      | inr g ↦ omega (arith, rank_past bit bits (i + 1) (omega arith), rank_past bit bits i g)
    ]

-- so many places more have at most so many bits of a kind more
pub rank_up : (bit : Bool) (bits : List Bool) (from d : ℕ) → rank bit bits (from + d) ≤ rank bit bits from + d
rank_up bit bits from zero = let e : from + 0 ≡ from = omega arith in let f : rank bit bits (from + 0) ≡ rank bit bits from = ap (rank bit bits) e in omega (arith, f)
rank_up bit bits from (suc d) =
    let more = rank_up bit bits from d in
    let e : from + suc d ≡ from + d + 1 = omega arith in
    let f : rank bit bits (from + suc d) ≡ rank bit bits (from + d + 1) = ap (rank bit bits) e in
    let one = rank_next bit bits (from + d) in
    omega (arith, more, f, one)

-- what passes for the first n passes for one more
pub passed_one : (P : ℕ → Bool) (n : ℕ) → ((k : ℕ) → k < n → P k ≡ true) → P n ≡ true → (k : ℕ) → k < n + 1 → P k ≡ true
passed_one P n before here k l = elim (cases_lt k n) [ inl m ↦ before k m | inr m ↦ let e : n ≡ k = omega arith in subst (λ x. P x ≡ true) e here ]

module _ (c : Code) where
  pub start_fault_at : (j : ℕ) → j < length c.starts → ((k : ℕ) → k < j → is_start c k ≡ true) → is_start c j ≡ false → Some j ≡ starts_fault c
  start_fault_at j l before here =
      sym (find-least (λ k. not (is_start c k)) 0 (length c.starts) j
      (record { from = omega arith; within = omega (arith, l); passes = ap not here; before = λ k a b. ap not (before k b) }))

  pub no_start_fault : (n : ℕ) → length c.starts ≤ n → ((k : ℕ) → k < n → is_start c k ≡ true) → None ≡ starts_fault c
  no_start_fault n l all = sym (find-none (λ k. not (is_start c k)) 0 (length c.starts) (λ k a b. ap not (all k (omega arith))))

  pub balance_fault_at : (kind : Bool) (j : ℕ) → j < component_count c → ((k : ℕ) → k < j → is_balanced_in c kind k ≡ true) → is_balanced_in c kind j ≡ false → Some j ≡ balance_fault_of c kind
  balance_fault_at kind j l before here =
      sym (find-least (λ k. not (is_balanced_in c kind k)) 0 (component_count c) j
      (record { from = omega arith; within = omega (arith, l); passes = ap not here; before = λ k a b. ap not (before k b) }))

  pub no_balance_fault : (kind : Bool) (n : ℕ) → component_count c ≤ n → ((k : ℕ) → k < n → is_balanced_in c kind k ≡ true) → None ≡ balance_fault_of c kind
  no_balance_fault kind n l all = sym (find-none (λ k. not (is_balanced_in c kind k)) 0 (component_count c) (λ k a b. ap not (all k (omega arith))))

  -- entry `index` after the entry before it
  pub start_test : (index start before : ℕ) → start ≡ start_of c index → (0 < index → before ≡ start_of c (index - 1))
      → ((if index == 0 then start == 0 else nat_lt before start) && (if index + 1 == length c.starts then start == length c.a else true)) ≡ is_start c index
  start_test zero start before e f = rw e refl
  start_test (suc index) start before e f = rw e (rw (f (omega arith)) refl)

  pub laid : AreLaidOut c → IsLaidOut c
  laid a = let some = a.few.some in laid_out c (omega (arith, some)) a.few.sizes a.starts a.ones

  -- where component j ends
  pub end_after : AreLaidOut c → (j start end : ℕ) → j < component_count c → start ≡ start_of c j → end ≡ end_of c j → start ≤ end
  end_after a j start end l e f = let r = rises c (laid a) j l in omega (arith, r, e, f)

  pub end_within : AreLaidOut c → (j end : ℕ) → j < component_count c → end ≡ end_of c j → end ≤ length c.a
  end_within a j end l f = let w = start_within c (laid a) (j + 1) (omega (arith, l)) in omega (arith, w, f)

  pub part_within : AreLaidOut c → (kind : Bool) (j end : ℕ) → j < component_count c → end ≡ end_of c j → place c kind end ≤ length (parens c kind)
  part_within a kind j end l f = places_within c (laid a) kind end (end_within a j end l f)

  pub part_at : (kind : Bool) (j start end low high : ℕ) → start ≡ start_of c j → end ≡ end_of c j → low ≡ place c kind start → high ≡ place c kind end → is_balanced (parens c kind) low high ≡ is_balanced_in c kind j
  part_at kind j start end low high s e l h =
      let x : low ≡ place c kind (start_of c j) = l ∙ ap (place c kind) s in
      let y : high ≡ place c kind (end_of c j) = h ∙ ap (place c kind) e in
      ap (λ p. is_balanced (parens c kind) p high) x ∙ ap (is_balanced (parens c kind) (place c kind (start_of c j))) y

  pub fewer : AreFew c → (kind : Bool) → length (parens c kind) ≤ 2147483647
  fewer a true = let p = a.positions in let s = a.sizes in omega (arith, p, s)
  fewer a false = let p = a.positions in let s = a.sizes in omega (arith, p, s)

  pub ones_none : rank true c.a (length c.a) ≡ length c.tree → ones_fault c ≡ None
  ones_none e = rw (eq-eqb _ _ e) refl

  pub ones_wrong : rank true c.a (length c.a) ≢ length c.tree → ones_fault c ≡ Some (rank true c.a (length c.a))
  ones_wrong e = rw (ne_eqb _ _ e) refl

  pub starts_first : (j : ℕ) → Some j ≡ starts_fault c → seq_fault c ≡ Some (Starts j)
  unfolding seq_fault first_some
  starts_first j e = rw (sym e) refl

  pub ones_first : starts_fault c ≡ None → (n : ℕ) → ones_fault c ≡ Some n → seq_fault c ≡ Some (Ones n)
  unfolding seq_fault first_some
  ones_first s n e = rw s (rw e refl)

  pub tree_first : starts_fault c ≡ None → ones_fault c ≡ None → (j : ℕ) → Some j ≡ balance_fault_of c true → seq_fault c ≡ Some (Tree j)
  unfolding seq_fault first_some
  tree_first s o j e = rw s (rw o (rw (sym e) refl))

  pub dual_first : starts_fault c ≡ None → ones_fault c ≡ None → balance_fault_of c true ≡ None → (j : ℕ) → Some j ≡ balance_fault_of c false → seq_fault c ≡ Some (Dual j)
  unfolding seq_fault first_some
  dual_first s o t j e = rw s (rw o (rw t (rw (sym e) refl)))

  no_fault : starts_fault c ≡ None → ones_fault c ≡ None → balance_fault_of c true ≡ None → balance_fault_of c false ≡ None → seq_fault c ≡ None
  unfolding seq_fault first_some
  no_fault s o t d = rw s (rw o (rw t (rw d refl)))

  pub sound : AreFew c → starts_fault c ≡ None → ones_fault c ≡ None → balance_fault_of c true ≡ None → balance_fault_of c false ≡ None → is_sound c ≡ true
  sound a s o t d =
      let some = a.some in
      and_from _ _ (and_from _ _ (lt-ltb 0 (length c.starts) (omega (arith, some))) (eq-eqb _ _ a.sizes)) (ap is_none (no_fault s o t d))
