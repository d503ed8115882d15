-- Sums over the numbers below n, and that half of the points come before their mate where each has one.
use Rattle.std.proofs.Common.{◌≡◌, ℕ, zero, suc, ◌+◌, ◌<◌, cond, ltb, eqb, ⊎_elim, refl, sym, ap, ◌∙◌, arith}
use Rattle.std.proofs.lemmas.Bool.{lt-ltb, le-ltb, eq-eqb, ne_eqb, cases_order, cases_eq, cond-true, cond-false, cases_Bool}
use Rattle.cycle_pairs.specs.Pairs.{IsPairing, pairs}

abbrev pub total : (ℕ → ℕ) → ℕ → ℕ
total f zero = 0
total f (suc k) = total f k + f k

total-add : (f g : ℕ → ℕ) (n : ℕ) → total (λ i. f i + g i) n ≡ total f n + total g n
total-add f g zero = refl
total-add f g (suc n) = omega (arith, total-add f g n)

total_same : (f g : ℕ → ℕ) (n : ℕ) → ((i : ℕ) → i < n → f i ≡ g i) → total f n ≡ total g n
total_same f g zero h = refl
total_same f g (suc n) h = omega (arith, total_same f g n (λ i lt. h i (omega arith)), h n (omega arith))

total_zero : (f : ℕ → ℕ) (n : ℕ) → ((i : ℕ) → i < n → f i ≡ 0) → total f n ≡ 0
total_zero f zero h = refl
total_zero f (suc n) h = omega (arith, total_zero f n (λ i lt. h i (omega arith)), h n (omega arith))

total_one : (f : ℕ → ℕ) (n : ℕ) → ((i : ℕ) → i < n → f i ≡ 1) → total f n ≡ n
total_one f zero h = refl
total_one f (suc n) h = omega (arith, total_one f n (λ i lt. h i (omega arith)), h n (omega arith))

total_swap : (f : ℕ → ℕ → ℕ) (n m : ℕ) → total (λ i. total (λ j. f i j) m) n ≡ total (λ j. total (λ i. f i j) n) m
total_swap f zero m = sym (total_zero (λ j. 0) m (λ i lt. refl))
total_swap f (suc n) m =
    ap (λ x. x + total (λ j. f n j) m) (total_swap f n m) ∙ sym (total-add (λ j. total (λ i. f i j) n) (λ j. f n j) m)

total_pick : (f : ℕ → ℕ) (m n : ℕ) → m < n → total (λ j. cond (eqb m j) (f j) 0) n ≡ f m
total_pick f m zero lt = absurd (omega arith)
total_pick f m (suc n) lt =
    ⊎_elim
    (λ same.
    let here : cond (eqb m n) (f n) 0 ≡ f n = cond-true (eqb m n) (f n) 0 (eq-eqb m n same) in
    let below : total (λ j. cond (eqb m j) (f j) 0) n ≡ 0 =
    total_zero (λ j. cond (eqb m j) (f j) 0) n (λ j j_lt. cond-false (eqb m j) (f j) 0 (ne_eqb m j (λ e. omega arith))) in
    omega (arith, ap f same))
    (λ other.
    let here : cond (eqb m n) (f n) 0 ≡ 0 = cond-false (eqb m n) (f n) 0 (ne_eqb m n other) in
    omega (arith, total_pick f m n (omega arith)))
    (cases_eq m n)

module _ (n : ℕ) (mate : ℕ → ℕ) (p : IsPairing n mate) where
  same_test : (i j : ℕ) → i < n → j < n → eqb (mate i) j ≡ eqb (mate j) i
  same_test i j il jl =
      ⊎_elim
      (λ e. eq-eqb (mate i) j e ∙ sym (eq-eqb (mate j) i (ap mate (sym e) ∙ p.back i il)))
      (λ o. ne_eqb (mate i) j o ∙ sym (ne_eqb (mate j) i (λ e. o (ap mate (sym e) ∙ p.back j jl))))
      (cases_eq (mate i) j)

  -- the mates of all points are all points
  pub total_mates : (f : ℕ → ℕ) → total (λ i. f (mate i)) n ≡ total f n
  total_mates f =
      total_same (λ i. f (mate i)) (λ i. total (λ j. cond (eqb (mate i) j) (f j) 0) n) n
      (λ i lt. sym (total_pick f (mate i) n (p.in_range i lt)))
      ∙ total_swap (λ i j. cond (eqb (mate i) j) (f j) 0) n n
      ∙ total_same (λ j. total (λ i. cond (eqb (mate i) j) (f j) 0) n) f n
      (λ j lt.
      total_same (λ i. cond (eqb (mate i) j) (f j) 0) (λ i. cond (eqb (mate j) i) (f j) 0) n
      (λ i il. ap (λ b. cond b (f j) 0) (same_test i j il lt))
      ∙ total_pick (λ i. f j) (mate j) n (p.in_range j lt))

  abbrev is_first : ℕ → ℕ
  is_first i = cond (ltb i (mate i)) 1 0

  pairs-total : (k : ℕ) → pairs mate k ≡ total is_first k
  pairs-total zero = refl
  pairs-total (suc k) =
      ⊎_elim
      (λ e. ap (λ b. cond b (suc (pairs mate k)) (pairs mate k)) e ∙ let a : is_first k ≡ 1 = cond-true (ltb k (mate k)) 1 0 e in omega (arith, pairs-total k))
      (λ e. ap (λ b. cond b (suc (pairs mate k)) (pairs mate k)) e ∙ let a : is_first k ≡ 0 = cond-false (ltb k (mate k)) 1 0 e in omega (arith, pairs-total k))
      (cases_Bool (ltb k (mate k)))

  one_of_two : ((i : ℕ) → i < n → mate i ≡ i → ⊥) → (i : ℕ) → i < n → is_first i + is_first (mate i) ≡ 1
  one_of_two apart i lt =
      let back : mate (mate i) ≡ i = p.back i lt in
      ⊎_elim
      (λ same. absurd (apart i lt (sym same)))
      (λ o. ⊎_elim
      (λ l. let a : is_first i ≡ 1 = cond-true (ltb i (mate i)) 1 0 (lt-ltb i (mate i) l) in
      let b : is_first (mate i) ≡ 0 = cond-false (ltb (mate i) (mate (mate i))) 1 0 (le-ltb (mate i) (mate (mate i)) (omega arith)) in omega arith)
      (λ l. let a : is_first i ≡ 0 = cond-false (ltb i (mate i)) 1 0 (le-ltb i (mate i) (omega arith)) in
      let b : is_first (mate i) ≡ 1 = cond-true (ltb (mate i) (mate (mate i))) 1 0 (lt-ltb (mate i) (mate (mate i)) (omega arith)) in omega arith) o)
      (cases_order i (mate i))

  -- where each point has a mate, half of them come before it
  pub half_open : ((i : ℕ) → i < n → mate i ≡ i → ⊥) → pairs mate n + pairs mate n ≡ n
  half_open apart =
      let both : total (λ i. is_first i + is_first (mate i)) n ≡ n = total_one (λ i. is_first i + is_first (mate i)) n (one_of_two apart) in
      omega (arith, pairs-total n, both, total-add is_first (λ i. is_first (mate i)) n, total_mates is_first)
