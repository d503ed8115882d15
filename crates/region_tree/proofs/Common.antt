-- The innermost pair that is or encloses two is the first region of the one chain that is in the other.
use Rattle.std.specs.Prelude.{option_map, filter, find, nat_lt, min, ◌-◌}
use Rattle.std.proofs.Common.{◌≡◌, ℕ, zero, suc, ◌+◌, ◌<◌, ◌≤◌, inl, inr, Bool, true, false, ◌&&◌, ◌||◌, ◌==◌, List, [], ◌∷◌, map, length, refl, ap, sym, ◌∙◌, subst, arith, Option, Some, None, eq-eqb}
use Rattle.std.proofs.lemmas.Bool.{cases_lt, cases_Bool, and_parts, and_from, both_ways, eqb-true, ne_eqb, lt-ltb, le-ltb, false_from_ne_true}
use Rattle.bit_words.specs.Bits.{rank}
use Rattle.code_laws.proofs.Apart.{fewer}
use Rattle.parens.specs.Matching.{is_open, is_enclosing, innermost, falling, common_of}
use Rattle.parens.proofs.Balances.{IsBalanced}
use Rattle.parens.proofs.Arcs.{open_within}
use Rattle.parens.proofs.Greatest.{greatest-find, no_falling-find, falling_skip, falling_same}
use Rattle.plane_model.specs.Sets.{has}
use Rattle.region_tree.specs.Nesting.{region_count, upward, chain, common_number}
use Rattle.region_tree.proofs.Opened.{parent-rank, round_open, round_self, round_step, falling_more, filter_none, filter_same, filter_skip}

-- the opening places of the pairs that are or enclose the pair of place i, from the innermost on
abbrev pub over : List Bool → ℕ → List ℕ
over bits i = filter (is_enclosing bits i) (falling (suc i))

find-map : (t : ℕ → Bool) (f : ℕ → ℕ) (xs : List ℕ) → find t (map f xs) ≡ option_map f (find (λ k. t (f k)) xs)
find-map t f [] = refl
find-map t f (x ∷ xs) = elim (cases_Bool (t (f x))) [ inl e ↦ rw e refl | inr e ↦ rw e (find-map t f xs) ]

find-filter : (t p : ℕ → Bool) (xs : List ℕ) → find t (filter p xs) ≡ find (λ k. p k && t k) xs
find-filter t p [] = refl
find-filter t p (x ∷ xs) = elim (cases_Bool (p x)) [
  | inl e ↦ elim (cases_Bool (t x)) [ inl f ↦ rw (e, f) refl | inr f ↦ rw (e, f) (find-filter t p xs) ]
  | inr e ↦ rw e (find-filter t p xs)
]

-- what a filter of falling numbers has
has-falling : (p : ℕ → Bool) (n k : ℕ) → has (filter p (falling n)) k ≡ (nat_lt k n && p k)
unfolding falling
has-falling p zero k = rw (le-ltb k 0 (omega arith)) refl
has-falling p (suc n) k =
    let more = has-falling p n k in
    elim (cases_lt k n) [
      | inl l ↦
          let apart = ne_eqb k n (omega arith) in
          let below = lt-ltb k n l in
          let here = lt-ltb k (suc n) (omega arith) in
          elim (cases_Bool (p n)) [ inl e ↦ rw (e, apart, more, below, here) refl | inr e ↦ rw (e, more, below, here) refl ]
      | inr g ↦
          let above = le-ltb k n g in
          elim (cases_Bool (k == n)) [
            | inl is ↦
                let e = eqb-true k n is in
                let here = lt-ltb k (suc n) (omega arith) in
                let same : p k ≡ p n = ap p e in
                elim (cases_Bool (p n)) [
                  | inl y ↦ rw (y, is, here, same, y) refl
                  | inr o ↦ rw (o, more, above, here, same, o) refl
                ]
            | inr other ↦
                let far = le-ltb k (suc n) (let ne = λ (e : k ≡ n). both_ways _ other (eq-eqb k n e) in omega (arith, ne)) in
                elim (cases_Bool (p n)) [ inl y ↦ rw (y, other, more, above, far) refl | inr o ↦ rw (o, more, above, far) refl ]
          ]
    ]

module _ (bits : List Bool) (b : IsBalanced bits) where
  rank_apart : (k q : ℕ) → is_open bits k ≡ true → is_open bits q ≡ true → rank true bits k ≡ rank true bits q → k ≡ q
  rank_apart k q ok oq e =
      let wk = open_within bits k ok in
      let wq = open_within bits q oq in
      elim (cases_lt k q) [
        | inl l ↦ let f = fewer bits b k q l (omega arith) ok in absurd (omega (arith, e, f))
        | inr g ↦ elim (cases_lt q k) [ inl l ↦ let f = fewer bits b q k l (omega arith) oq in absurd (omega (arith, e, f)) | inr h ↦ omega arith ]
      ]

  -- among opening places a number is that of one place
  has-ranks : (p : ℕ → Bool) → ((q : ℕ) → p q ≡ true → is_open bits q ≡ true) → (xs : List ℕ) (k : ℕ) → is_open bits k ≡ true → has (map (rank true bits) (filter p xs)) (rank true bits k) ≡ has (filter p xs) k
  has-ranks p opens [] k ok = refl
  has-ranks p opens (x ∷ xs) k ok =
      let more = has-ranks p opens xs k ok in
      elim (cases_Bool (p x)) [
        | inl e ↦ elim (cases_Bool (k == x)) [
          | inl is ↦ let same = eq-eqb (rank true bits k) (rank true bits x) (ap (rank true bits) (eqb-true k x is)) in rw (e, is, same) refl
          | inr not ↦
              let apart = ne_eqb (rank true bits k) (rank true bits x) (λ s. both_ways _ not (eq-eqb k x (rank_apart k x ok (opens x e) s))) in
              rw (e, not, apart) more
        ]
        | inr e ↦ rw e more
      ]

  over_first : (i : ℕ) → is_open bits i ≡ true → over bits i ≡ (i ∷ filter (is_enclosing bits i) (falling i))
  over_first i opens = falling_more (is_enclosing bits i) i (round_self bits b i opens)

  over_none : (i : ℕ) → innermost bits i ≡ None → filter (is_enclosing bits i) (falling i) ≡ []
  unfolding innermost
  over_none i h = filter_none (is_enclosing bits i) i (λ q l. no_falling-find (is_enclosing bits i) i h q l)

  over_some : (i j : ℕ) → i ≤ length bits → innermost bits i ≡ Some j → (j < i) × (is_open bits j ≡ true) × (filter (is_enclosing bits i) (falling i) ≡ over bits j)
  unfolding innermost
  over_some i j within h =
      let g = greatest-find (is_enclosing bits i) i j h in
      let opens = round_open bits i j g.passes in
      let d = i - suc j in
      let e : suc j + d ≡ i = omega (arith, g.below) in
      let skip : filter (is_enclosing bits i) (falling (suc j + d)) ≡ filter (is_enclosing bits i) (falling (suc j)) = filter_skip (is_enclosing bits i) (suc j) d (λ q x y. g.after q (omega arith) (omega arith)) in
      let here = falling_more (is_enclosing bits i) j g.passes in
      let below = filter_same (is_enclosing bits i) (is_enclosing bits j) j (round_step bits b i j within g.below g.passes) in (
        g.below,
        opens,
        subst (λ n. filter (is_enclosing bits i) (falling n) ≡ filter (is_enclosing bits i) (falling (suc j))) e skip ∙ here ∙ ap (λ xs. j ∷ xs) below ∙ sym (over_first j opens),
      )

  upward_none : (n : ℕ) → upward n bits None ≡ []
  unfolding upward
  upward_none zero = refl
  upward_none (suc n) = refl

  upward_rest : (n i : ℕ) → i ≤ length bits → ((j : ℕ) → j < i → is_open bits j ≡ true → upward n bits (Some (rank true bits j)) ≡ map (rank true bits) (over bits j)) → (o : Option ℕ) → innermost bits i ≡ o
      → upward n bits (option_map (rank true bits) o) ≡ map (rank true bits) (filter (is_enclosing bits i) (falling i))
  upward_rest n i within more None h = upward_none n ∙ sym (ap (map (rank true bits)) (over_none i h))
  upward_rest n i within more (Some j) h = let s = over_some i j within h in more j s.0 s.1 ∙ sym (ap (map (rank true bits)) s.2)

  -- a chain is the numbers of these pairs
  upward-over : (n i : ℕ) → is_open bits i ≡ true → rank true bits i < n → upward n bits (Some (rank true bits i)) ≡ map (rank true bits) (over bits i)
  unfolding upward
  upward-over zero i opens l = absurd (omega arith)
  upward-over (suc n) i opens l =
      let within = open_within bits i opens in
      let rest = upward_rest n i (omega arith) (λ j lower oj. upward-over n j oj (let less = fewer bits b j i lower (omega arith) oj in omega (arith, less, l))) (innermost bits i) refl in
      ap (λ o. rank true bits i ∷ upward n bits o) (parent-rank bits i opens) ∙ ap (λ xs. rank true bits i ∷ xs) rest ∙ sym (ap (map (rank true bits)) (over_first i opens))

  pub chain-over : (i : ℕ) → is_open bits i ≡ true → chain bits (rank true bits i) ≡ map (rank true bits) (over bits i)
  unfolding chain
  chain-over i opens = let within = open_within bits i opens in upward-over (region_count bits) i opens (fewer bits b i (length bits) within (omega arith) opens)

  -- the first of the one chain in the other
  pub common-rank : (i j : ℕ) → is_open bits i ≡ true → is_open bits j ≡ true → common_number bits (rank true bits i) (rank true bits j) ≡ option_map (rank true bits) (common_of bits i j)
  unfolding common_number common_of
  common-rank i j oi oj =
      let in_second = λ (x : ℕ). has (map (rank true bits) (over bits j)) x in
      let both = λ (k : ℕ). is_enclosing bits i k && is_enclosing bits j k in
      let test = λ (k : ℕ). is_enclosing bits i k && in_second (rank true bits k) in
      let n = min i j + 1 in
      let d = suc i - n in
      let e : n + d ≡ suc i = omega arith in
      let second : (k : ℕ) → is_enclosing bits i k ≡ true → in_second (rank true bits k) ≡ (nat_lt k (suc j) && is_enclosing bits j k) =
      λ k r. has-ranks (is_enclosing bits j) (round_open bits j) (falling (suc j)) k (round_open bits i k r) ∙ has-falling (is_enclosing bits j) (suc j) k in
      let past : (q : ℕ) → n ≤ q → q < n + d → test q ≡ false =
      λ q x y. elim (cases_Bool (is_enclosing bits i q)) [
        | inl r ↦ let far = le-ltb q (suc j) (omega arith) in rw (r, second q r, far) refl
        | inr r ↦ rw r refl
      ] in
      let same : (q : ℕ) → q < n → test q ≡ both q =
      λ q x. elim (cases_Bool (is_enclosing bits i q)) [
        | inl r ↦ let near = lt-ltb q (suc j) (omega arith) in rw (r, second q r, near) refl
        | inr r ↦ rw r refl
      ] in
      let skip : find test (falling (n + d)) ≡ find test (falling n) = falling_skip test n d past in
      ap (λ xs. find (has (chain bits (rank true bits j))) xs) (chain-over i oi)
      ∙ ap (λ xs. find (has xs) (map (rank true bits) (over bits i))) (chain-over j oj)
      ∙ find-map in_second (rank true bits) (over bits i)
      ∙ ap (option_map (rank true bits)) (find-filter (λ k. in_second (rank true bits k)) (is_enclosing bits i) (falling (suc i))
      ∙ subst (λ m. find test (falling m) ≡ find test (falling n)) e skip
      ∙ falling_same test both n same)

  pub common-at : (x y i j : ℕ) (o : Option ℕ) → rank true bits i ≡ x → rank true bits j ≡ y → is_open bits i ≡ true → is_open bits j ≡ true → o ≡ common_of bits i j → option_map (rank true bits) o ≡ common_number bits x y
  common-at x y i j o ex ey oi oj is =
      ap (option_map (rank true bits)) is ∙ sym (common-rank i j oi oj) ∙ ap (λ z. common_number bits z (rank true bits j)) ex ∙ ap (common_number bits x) ey
