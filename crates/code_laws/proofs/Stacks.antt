-- The pairs round each gap, the outermost first: one more after a place that opens, and the last one less after a place
-- that closes.
use Rattle.std.specs.Prelude.{pos, ◌+ℤ◌, ◌≤ℤ◌, filter, map, option_map, ◌++◌, if◌then◌else◌}
use Rattle.std.specs.List.{range_with_len}
use Rattle.std.proofs.Common.{◌≡◌, ℕ, zero, suc, ◌+◌, ◌-◌, ◌<◌, ◌≤◌, inl, inr, Bool, true, false, List, [], ◌∷◌, length, refl, ap, sym, ◌∙◌, arith, subst, Option, Some, None}
use Rattle.std.proofs.lemmas.Bool.{cases_lt, cases_Bool, false_from_ne_true}
use Rattle.std.proofs.lemmas.List.{append-nil}
use Rattle.std.proofs.lemmas.Int.{ints}
use Rattle.bit_words.specs.Bits.{rank, excess}
use Rattle.bit_words.proofs.Ranks.{excess_up, rank_more_yes, rank_more_no}
use Rattle.min_max_tree.proofs.Falls.{excess-step}
use Rattle.parens.specs.Matching.{is_open, is_enclosing, innermost, pair_number, mate_of}
use Rattle.parens.proofs.Balances.{IsBalanced}
use Rattle.parens.proofs.Arcs.{IsArc}
use Rattle.parens.proofs.Enclosing.{round-above, above-round}
use Rattle.parens.proofs.Greatest.{greatest-find, no_falling-find}
use Rattle.code_laws.proofs.Walks.{filter-none}
use Rattle.code_laws.specs.Enclosing.{enclosing_places, enclosing_numbers, IsLastOf}
use Rattle.code_laws.proofs.Closers.{some_open}

range-split : (test : ℕ → Bool) (low n d : ℕ) → filter test (range_with_len low (n + d)) ≡ filter test (range_with_len low n) ++ filter test (range_with_len (low + n) d)
range-split test low zero d =
    let e : 0 + d ≡ d = omega arith in
    let f : low + 0 ≡ low = omega arith in
    ap (λ x. filter test (range_with_len low x)) e ∙ ap (λ x. filter test (range_with_len x d)) (sym f)
range-split test low (suc n) d =
    let e : suc n + d ≡ suc (n + d) = omega arith in
    let f : low + 1 + n ≡ low + suc n = omega arith in
    let more = subst (λ x. filter test (range_with_len (low + 1) (n + d)) ≡ filter test (range_with_len (low + 1) n) ++ filter test (range_with_len x d)) f (range-split test (low + 1) n d) in
    rw e (elim (cases_Bool (test low)) [
      | inl w ↦ rw w (ap (λ xs. low ∷ xs) more)
      | inr n ↦ rw n more
    ])

-- tests that agree over a range
pub filter-same : (p r : ℕ → Bool) (low n : ℕ) → ((x : ℕ) → low ≤ x → x < low + n → p x ≡ r x) → filter p (range_with_len low n) ≡ filter r (range_with_len low n)
filter-same p r low zero same = refl
filter-same p r low (suc n) same =
    let more = filter-same p r (low + 1) n (λ x a b. same x (omega arith) (omega arith)) in
    elim (cases_Bool (r low)) [
      | inl w ↦ rw w (rw (same low (omega arith) (omega arith) ∙ w) (ap (λ xs. low ∷ xs) more))
      | inr f ↦ rw f (rw (same low (omega arith) (omega arith) ∙ f) more)
    ]

-- of the numbers from x on, only x passes
only-first : (test : ℕ → Bool) (x d : ℕ) → test x ≡ true → ((y : ℕ) → x < y → y < x + suc d → test y ≡ false) → filter test (range_with_len x (suc d)) ≡ x ∷ []
only-first test x d w none = rw w (ap (λ xs. x ∷ xs) (filter-none test (x + 1) d (λ y a b. none y (omega arith) (omega arith))))

pub same_tests : (x y : Bool) → (x ≡ true → y ≡ true) → (y ≡ true → x ≡ true) → x ≡ y
same_tests true y f g = sym (f refl)
same_tests false true f g = g refl
same_tests false false f g = refl

map-append : (f : ℕ → ℕ) (xs ys : List ℕ) → map f (xs ++ ys) ≡ map f xs ++ map f ys
map-append f [] ys = refl
map-append f (x ∷ xs) ys = ap (λ zs. f x ∷ zs) (map-append f xs ys)

module _ (bits : List Bool) (b : IsBalanced bits) where
  -- the pairs up to the innermost one
  rounds-split : (gap x : ℕ) → x < gap → is_enclosing bits gap x ≡ true → ((y : ℕ) → x < y → y < gap → is_enclosing bits gap y ≡ false) → enclosing_places bits gap ≡ filter (is_enclosing bits gap) (range_with_len 0 x) ++ x ∷ []
  rounds-split gap x l passes after =
      let d = gap - (x + 1) in
      let e : x + suc d ≡ gap = omega arith in
      subst (λ n. filter (is_enclosing bits gap) (range_with_len 0 n) ≡ filter (is_enclosing bits gap) (range_with_len 0 x) ++ x ∷ []) e
      (range-split (is_enclosing bits gap) 0 x (suc d)
      ∙ ap (λ xs. filter (is_enclosing bits gap) (range_with_len 0 x) ++ xs) (at x d (only-first (is_enclosing bits gap) x d passes (λ y m n. after y m (omega arith)))))
    where
      at : (x d : ℕ) → filter (is_enclosing bits gap) (range_with_len x (suc d)) ≡ x ∷ [] → filter (is_enclosing bits gap) (range_with_len (0 + x) (suc d)) ≡ x ∷ []
      at x d h = let e : x ≡ 0 + x = omega arith in subst (λ y. filter (is_enclosing bits gap) (range_with_len y (suc d)) ≡ x ∷ []) e h

  open_up : (i : ℕ) → i < length bits → is_open bits i ≡ true → excess bits (i + 1) ≡ excess bits i +ℤ pos 1
  open_up i l o = excess_up bits i false l o

  -- after a place that opens
  rounds-open : (i : ℕ) → i < length bits → is_open bits i ≡ true → enclosing_places bits (i + 1) ≡ enclosing_places bits i ++ i ∷ []
  rounds-open i l o =
      let up = open_up i l o in
      let here = above-round bits (i + 1) i b (omega arith) (omega arith) (record { above = λ q m n. let e : q ≡ i + 1 = omega arith in let f : excess bits q ≡ excess bits (i + 1) = ap (excess bits) e in omega (arith, ints, up, f) }) in
      rounds-split (i + 1) i (omega arith) here (λ y m n. absurd (omega arith))
      ∙ ap (λ xs. xs ++ i ∷ []) (filter-same (is_enclosing bits (i + 1)) (is_enclosing bits i) 0 i (λ x m n. same_tests _ _
      (λ h. let a = round-above bits (i + 1) x (omega arith) h in above-round bits i x b (omega arith) (omega arith) (record { above = λ q u v. a.above q u (omega arith) }))
      (λ h.
      let a = round-above bits i x (omega arith) h in
      let v = a.above i (omega arith) (omega arith) in
      above-round bits (i + 1) x b (omega arith) (omega arith) (record {
        above = λ q u w. elim (cases_lt i q) [
          | inl past ↦ let e : q ≡ i + 1 = omega arith in let f : excess bits q ≡ excess bits (i + 1) = ap (excess bits) e in omega (arith, ints, up, f, v)
          | inr before ↦ a.above q u before
        ];
      }))))

  module _ (i j : ℕ) (arc : IsArc bits i j) where
    -- a pair before an arc is round each gap from the first one of the arc on to the one after it, or none of them
    before_arc : (gap x : ℕ) → i ≤ gap → gap ≤ j + 1 → x < i → is_enclosing bits gap x ≡ is_enclosing bits i x
    before_arc gap x from to l =
        let order = arc.order in
        let within = arc.within in
        same_tests _ _
        (λ h. let a = round-above bits gap x (omega arith) h in above-round bits i x b l (omega arith) (record { above = λ q u v. a.above q u (omega arith) }))
        (λ h.
        let a = round-above bits i x (omega arith) h in
        let here = a.above i l (omega arith) in
        above-round bits gap x b (omega arith) (omega arith) (record {
          above = λ q u v. elim (cases_lt i q) [
            | inl after ↦ elim (cases_lt j q) [
              | inl past ↦
                  let e : q ≡ j + 1 = omega arith in
                  let f : excess bits q ≡ excess bits (j + 1) = ap (excess bits) e in
                  let w = arc.level in
                  omega (arith, ints, here, f, w)
              | inr inside ↦ let w = arc.above q after inside in omega (arith, ints, here, w)
            ]
            | inr before ↦ a.above q u before
          ];
        }))

    pub rounds-last : enclosing_places bits j ≡ enclosing_places bits i ++ i ∷ []
    rounds-last =
        let order = arc.order in
        let within = arc.within in
        let here = above-round bits j i b order (omega arith) (record { above = λ q m n. arc.above q m n }) in
        rounds-split j i order here (λ y m n. false_from_ne_true _ (λ r.
        let a = round-above bits j y (omega arith) r in
        let v = a.above j n (omega arith) in
        let u = arc.above y m (omega arith) in
        let w = arc.level in
        let d : excess bits j ≤ℤ (excess bits (j + 1) +ℤ pos 1) = excess-step bits j within in
        omega (arith, ints, u, v, w, d)))
        ∙ ap (λ xs. xs ++ i ∷ []) (filter-same (is_enclosing bits j) (is_enclosing bits i) 0 i (λ x m n. before_arc j x (omega arith) (omega arith) (omega arith)))

    pub rounds-past : enclosing_places bits (j + 1) ≡ enclosing_places bits i
    rounds-past =
        let order = arc.order in
        let within = arc.within in
        let d = j + 1 - i in
        let e : i + d ≡ j + 1 = omega arith in
        let split : filter (is_enclosing bits (j + 1)) (range_with_len 0 (i + d)) ≡ enclosing_places bits i =
        range-split (is_enclosing bits (j + 1)) 0 i d
        ∙ ap (λ xs. filter (is_enclosing bits (j + 1)) (range_with_len 0 i) ++ xs) (filter-none (is_enclosing bits (j + 1)) (0 + i) d (λ y m n. false_from_ne_true _ (λ r.
        let a = round-above bits (j + 1) y (omega arith) r in
        let v = a.above (j + 1) (omega arith) (omega arith) in
        let w = arc.level in
        elim (cases_lt i y) [
          | inl more ↦ let u = arc.above y more (omega arith) in omega (arith, ints, u, v, w)
          | inr same ↦ let e : y ≡ i = omega arith in let f : excess bits y ≡ excess bits i = ap (excess bits) e in omega (arith, ints, v, w, f)
        ])))
        ∙ append-nil (filter (is_enclosing bits (j + 1)) (range_with_len 0 i))
        ∙ filter-same (is_enclosing bits (j + 1)) (is_enclosing bits i) 0 i (λ x m n. before_arc (j + 1) x (omega arith) (omega arith) (omega arith)) in
        subst (λ n. filter (is_enclosing bits (j + 1)) (range_with_len 0 n) ≡ enclosing_places bits i) e split

  -- a place that opens: its number is the last one from there on
  pub numbers-open : (i : ℕ) → i < length bits → is_open bits i ≡ true → (enclosing_numbers bits (i + 1) ≡ enclosing_numbers bits i ++ rank true bits i ∷ []) × (pair_number bits i ≡ rank true bits i) × (rank true bits (i + 1) ≡ rank true bits i + 1)
  unfolding enclosing_numbers pair_number
  numbers-open i l o = (
    ap (map (rank true bits)) (rounds-open i l o) ∙ map-append (rank true bits) (enclosing_places bits i) (i ∷ []),
    rw o refl,
    rank_more_yes true bits i false l o,
  )

  -- a place that closes: its number is the last one up to there
  pub numbers-close : (j : ℕ) → j < length bits → is_open bits j ≡ false → (enclosing_numbers bits j ≡ enclosing_numbers bits (j + 1) ++ pair_number bits j ∷ []) × (rank true bits (j + 1) ≡ rank true bits j)
  unfolding enclosing_numbers pair_number mate_of
  numbers-close j l n =
      let o = some_open bits b j l n in
      let last = ap (map (rank true bits)) (rounds-last o.0 j o.2) ∙ map-append (rank true bits) (enclosing_places bits o.0) (o.0 ∷ []) in
      let past = ap (map (rank true bits)) (rounds-past o.0 j o.2) in
      let number : rank true bits (if is_open bits j then j else mate_of bits j) ≡ rank true bits o.0 = rw n (rw (o.1) refl) in (
        last ∙ ap (λ x. map (rank true bits) (enclosing_places bits o.0) ++ x ∷ []) (sym number) ∙ ap (λ xs. xs ++ rank true bits (if is_open bits j then j else mate_of bits j) ∷ []) (sym past),
        rank_more_no true bits j false l n,
      )

  -- the last number is that of the innermost pair
  pub numbers-innermost : (gap : ℕ) (o : Option ℕ) → innermost bits gap ≡ o → IsLastOf (enclosing_numbers bits gap) (option_map (rank true bits) o)
  unfolding innermost enclosing_numbers
  numbers-innermost gap None e = ap (map (rank true bits)) (filter-none (is_enclosing bits gap) 0 gap (λ y l h. no_falling-find (is_enclosing bits gap) gap e y (omega arith)))
  numbers-innermost gap (Some x) e =
      let g = greatest-find (is_enclosing bits gap) gap x e in (
        map (rank true bits) (filter (is_enclosing bits gap) (range_with_len 0 x)),
        ap (map (rank true bits)) (rounds-split gap x g.below g.passes (λ y l h. g.after y l h)) ∙ map-append (rank true bits) (filter (is_enclosing bits gap) (range_with_len 0 x)) (x ∷ []),
      )
