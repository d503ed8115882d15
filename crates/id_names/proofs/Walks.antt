-- The steps of the walk from a place.
use Rattle.std.proofs.Common.{◌≡◌, ◌≢◌, ℕ, zero, suc, ◌+◌, ◌-◌, ◌<◌, ◌≤◌, Bool, true, false, ◌&&◌, inl, inr, List, length, get_or, refl, ap, sym, ◌∙◌, subst, arith, Option, Some, None}
use Rattle.std.proofs.lemmas.Bool.{lt-ltb, le-ltb, eq-eqb, ne_eqb, cases_Bool, cases_lt, cases_eq, and_parts}
use Rattle.bit_words.specs.Bits.{rank}
use Rattle.bit_words.specs.Digits.{digits}
use Rattle.bit_words.proofs.Ranks.{rank_more_yes, rank-le-rank}
use Rattle.id_names.specs.Inverse.{walk, back_from, number_at}

not_some : (k : ℕ) → None ≡ Some k → ⊥
not_some k e = cc

-- a mark has one of the pointers
pub mark_within : (marks : List Bool) (x : ℕ) → x < length marks → get_or marks x false ≡ true → rank true marks x < rank true marks (length marks)
mark_within marks x h e = omega (arith, rank_more_yes true marks x false h e, rank-le-rank true marks (x + 1) (length marks) (omega arith))

-- a walk may not jump where it may no more, or where no mark is
pub clear_first : (a b : Bool) → a ≡ false → (a && b) ≡ false
clear_first false b e = refl
clear_first true b e = cc

pub clear_second : (a b : Bool) → b ≡ false → (a && b) ≡ false
clear_second false b e = refl
clear_second true b e = e

module _ (places : List ℕ) (marks : List Bool) (back : List ℕ) (j : ℕ) where
  -- a walk that has come to no number
  pub walk_past : (tests x : ℕ) (may : Bool) → length places ≤ x → walk places marks back j tests may x ≡ None
  unfolding walk
  walk_past zero x may h = refl
  walk_past (suc tests) x may h = rw (le-ltb x (length places) h) refl

  -- one that has come to the number of the place
  pub walk_here : (tests x : ℕ) (may : Bool) → 0 < tests → x < length places → get_or places x 0 ≡ j → walk places marks back j tests may x ≡ Some x
  unfolding walk
  walk_here zero x may some h e = absurd (omega arith)
  walk_here (suc tests) x may some h e = rw (lt-ltb x (length places) h, eq-eqb (get_or places x 0) j e) refl

  -- the jump
  pub walk_jumps : (tests x : ℕ) → 0 < tests → x < length places → get_or places x 0 ≢ j → get_or marks x false ≡ true → walk places marks back j tests true x ≡ walk places marks back j (tests - 1) false (back_from marks back x)
  unfolding walk
  walk_jumps zero x some h n m = absurd (omega arith)
  walk_jumps (suc tests) x some h n m = let e : suc tests - 1 ≡ tests = omega arith in rw (lt-ltb x (length places) h, ne_eqb (get_or places x 0) j n, m, e) refl

  -- and each other step
  pub walk_follows : (tests x : ℕ) (may : Bool) → 0 < tests → x < length places → get_or places x 0 ≢ j → (may && get_or marks x false) ≡ false → walk places marks back j tests may x ≡ walk places marks back j (tests - 1) may (get_or places x 0)
  unfolding walk
  walk_follows zero x may some h n m = absurd (omega arith)
  walk_follows (suc tests) x may some h n m = let e : suc tests - 1 ≡ tests = omega arith in rw (lt-ltb x (length places) h, ne_eqb (get_or places x 0) j n, m, e) refl

  pub walk_ends : (tests x : ℕ) (may : Bool) → tests ≡ 0 → walk places marks back j tests may x ≡ None
  unfolding walk
  walk_ends zero x may e = refl
  walk_ends (suc tests) x may e = absurd (omega arith)

  -- more tests come to the same number
  pub walk_longer : (tests more x : ℕ) (may : Bool) (number : ℕ) → tests ≤ more → walk places marks back j tests may x ≡ Some number → walk places marks back j more may x ≡ Some number
  walk_longer zero more x may number l e = absurd (not_some number (sym (walk_ends 0 x may refl) ∙ e))
  walk_longer (suc tests) more x may number l e =
      let t : suc tests - 1 ≡ tests = omega arith in
      elim (cases_lt x (length places)) [
        | inl within ↦ elim (cases_eq (get_or places x 0) j) [
          | inl is ↦ walk_here more x may (omega arith) within is ∙ sym (walk_here (suc tests) x may (omega arith) within is) ∙ e
          | inr ne ↦ elim (cases_Bool (may && get_or marks x false)) [
            | inl jumps ↦
                let both = and_parts may (get_or marks x false) jumps in
                let before = subst (λ b. walk places marks back j (suc tests) b x ≡ Some number) both.0 e in
                let rest = sym (ap (λ n. walk places marks back j n false (back_from marks back x)) t) ∙ sym (walk_jumps (suc tests) x (omega arith) within ne both.1) ∙ before in
                subst (λ b. walk places marks back j more b x ≡ Some number) (sym both.0)
                (walk_jumps more x (omega arith) within ne both.1 ∙ walk_longer tests (more - 1) (back_from marks back x) false number (omega arith) rest)
            | inr follows ↦
                let rest = sym (ap (λ n. walk places marks back j n may (get_or places x 0)) t) ∙ sym (walk_follows (suc tests) x may (omega arith) within ne follows) ∙ e in
                walk_follows more x may (omega arith) within ne follows ∙ walk_longer tests (more - 1) (get_or places x 0) may number (omega arith) rest
          ]
        ]
        | inr past ↦ absurd (not_some number (sym (walk_past (suc tests) x may past) ∙ e))
      ]

  -- what is left of a walk of `tests` tests after i of them, one test later
  pub left_jumped : (tests i x to : ℕ) (may later : Bool) (end : Option ℕ) → i < tests → walk places marks back j (tests - i) may x ≡ end → x < length places → get_or places x 0 ≢ j → may ≡ true → get_or marks x false ≡ true → later ≡ false → to ≡ back_from marks back x → walk places marks back j (tests - (i + 1)) later to ≡ end
  left_jumped tests i x to may later end l left h n m at now here =
      let e : tests - (i + 1) ≡ tests - i - 1 = omega arith in
      let before : walk places marks back j (tests - i) true x ≡ end = subst (λ b. walk places marks back j (tests - i) b x ≡ end) m left in
      let step = walk_jumps (tests - i) x (omega arith) h n at in
      rw (e, now, here) (sym step ∙ before)

  pub left_followed : (tests i x to : ℕ) (may later : Bool) (end : Option ℕ) → i < tests → walk places marks back j (tests - i) may x ≡ end → x < length places → get_or places x 0 ≢ j → (may && get_or marks x false) ≡ false → later ≡ may → to ≡ get_or places x 0 → walk places marks back j (tests - (i + 1)) later to ≡ end
  left_followed tests i x to may later end l left h n m now here =
      let e : tests - (i + 1) ≡ tests - i - 1 = omega arith in
      let step = walk_follows (tests - i) x may (omega arith) h n m in
      rw (e, now, here) (sym step ∙ left)

  -- what the whole walk comes to
  pub walked : (count n i x : ℕ) (may : Bool) (end : Option ℕ) → count ≡ length places → n ≡ digits (count + 2) → walk places marks back j (n + 1 - i) may x ≡ walk places marks back j (n + 1) true j → walk places marks back j (n + 1 - i) may x ≡ end → end ≡ number_at places marks back j
  walked count n i x may end e f left is = sym is ∙ left ∙ ap (λ t. walk places marks back j (t + 1) true j) (f ∙ ap (λ c. digits (c + 2)) e)
