-- Pairs that nest: the last open point before each point is a colour that the step to the point after the mate keeps.
use Rattle.std.proofs.Common.{◌≡◌, ℕ, zero, suc, ◌+◌, ◌-◌, ◌<◌, ◌≤◌, false, cond, ltb, leb, ⊎_elim, refl, sym, ap, ◌∙◌, arith, add-one}
use Rattle.std.proofs.lemmas.Bool.{lt-ltb, le-ltb, le-leb, lt-leb, cases_lt, cases_eq, cases_Bool, cond-true, cond-false, false_from_ne_true}
use Rattle.cycle_pairs.specs.Pairs.{IsPairing, pairs, IsKept, Nests, is_used, colours}
use Rattle.cycle_pairs.proofs.Walk.{used_true}
use Rattle.cycle_pairs.proofs.Orbits.{after_cases}

-- one more than the last point below b whose mate is k or comes after k, and 0 if there is none
abbrev pub latest : (ℕ → ℕ) → ℕ → ℕ → ℕ
latest mate k zero = 0
latest mate k (suc j) = cond (leb k (mate j)) (suc j) (latest mate k j)

latest_hit : (mate : ℕ → ℕ) (k j : ℕ) → k ≤ mate j → latest mate k (suc j) ≡ suc j
latest_hit mate k j le = cond-true (leb k (mate j)) (suc j) (latest mate k j) (le-leb k (mate j) le)

latest_miss : (mate : ℕ → ℕ) (k j : ℕ) → mate j < k → latest mate k (suc j) ≡ latest mate k j
latest_miss mate k j lt = cond-false (leb k (mate j)) (suc j) (latest mate k j) (lt-leb k (mate j) lt)

latest-le : (mate : ℕ → ℕ) (k b : ℕ) → latest mate k b ≤ b
latest-le mate k zero = omega arith
latest-le mate k (suc j) =
    ⊎_elim
    (λ miss. omega (arith, latest_miss mate k j miss, latest-le mate k j))
    (λ hit. omega (arith, latest_hit mate k j hit))
    (cases_lt (mate j) k)

latest_down : (mate : ℕ → ℕ) (k b j : ℕ) → j ≤ b → ((l : ℕ) → j ≤ l → l < b → mate l < k) → latest mate k b ≡ latest mate k j
latest_down mate k zero j le h = let e : 0 ≡ j = omega arith in ap (latest mate k) e
latest_down mate k (suc b) j le h =
    ⊎_elim
    (λ same. ap (latest mate k) (sym same))
    (λ other. latest_miss mate k b (h b (omega arith) (omega arith)) ∙ latest_down mate k b j (omega arith) (λ l ge lt. h l ge (omega arith)))
    (cases_eq j (suc b))

latest_same : (mate : ℕ → ℕ) (k k' b : ℕ) → ((j : ℕ) → j < b → (k ≤ mate j → k' ≤ mate j) × (k' ≤ mate j → k ≤ mate j)) → latest mate k b ≡ latest mate k' b
latest_same mate k k' zero h = refl
latest_same mate k k' (suc b) h =
    let ih : latest mate k b ≡ latest mate k' b = latest_same mate k k' b (λ j lt. h j (omega arith)) in
    let at : (k ≤ mate b → k' ≤ mate b) × (k' ≤ mate b → k ≤ mate b) = h b (omega arith) in
    ⊎_elim
    (λ miss. ⊎_elim
    (λ miss'. latest_miss mate k b miss ∙ ih ∙ sym (latest_miss mate k' b miss'))
    (λ hit'. let hit : k ≤ mate b = at.1 hit' in absurd (omega arith))
    (cases_lt (mate b) k'))
    (λ hit. latest_hit mate k b hit ∙ sym (latest_hit mate k' b (at.0 hit)))
    (cases_lt (mate b) k)

colours_grow : (c : ℕ → ℕ) (n : ℕ) → colours c n ≤ colours c (suc n)
colours_grow c n =
    ⊎_elim
    (λ used. let e : colours c (suc n) ≡ colours c n = cond-true (is_used c (c n) n) (colours c n) (suc (colours c n)) used in omega arith)
    (λ new. let e : colours c (suc n) ≡ suc (colours c n) = cond-false (is_used c (c n) n) (colours c n) (suc (colours c n)) new in omega arith)
    (cases_Bool (is_used c (c n) n))

module _ (n : ℕ) (mate : ℕ → ℕ) (p : IsPairing n mate) (nested : Nests n mate) where
  abbrev pub last_open : ℕ → ℕ
  last_open k = latest mate k k

  -- after a pair is closed the last open point is again the one from before it
  pub after_pair : (i : ℕ) → i < n → i < mate i → last_open (suc (mate i)) ≡ last_open i
  after_pair i lt first =
      let m_lt : mate i < n = p.in_range i lt in
      let back : mate (mate i) ≡ i = p.back i lt in
      latest_down mate (suc (mate i)) (suc (mate i)) i (omega arith)
      (λ l ge l_lt. ⊎_elim
      (λ same. let e : mate l ≡ mate i = ap mate same in omega arith)
      (λ o. ⊎_elim
      (λ last. let e : mate l ≡ mate (mate i) = ap mate last in omega arith)
      (λ o'. let no : mate i < mate l → ⊥ = nested i l (omega arith) (omega arith) (omega arith) in omega arith)
      (cases_eq l (mate i)))
      (cases_eq l i))
      ∙ latest_same mate (suc (mate i)) i i
      (λ j j_lt. (
        λ a. omega arith,
        λ a.
            let back_j : mate (mate j) ≡ j = p.back j (omega arith) in
            let not_i : mate j ≡ i → ⊥ = λ e. (let e' : mate (mate j) ≡ mate i = ap mate e in omega arith) in
            let not_m : mate j ≡ mate i → ⊥ = λ e. (let e' : mate (mate j) ≡ mate (mate i) = ap mate e in omega arith) in
            let no : mate j < mate i → ⊥ = nested j i j_lt lt (omega arith) in
            omega arith,
      ))

  -- the last open point before a second point is its mate
  pub before_second : (i : ℕ) → i < n → mate i < i → last_open i ≡ suc (mate i)
  before_second i lt second =
      let back : mate (mate i) ≡ i = p.back i lt in
      latest_down mate i i (suc (mate i)) second
      (λ l ge l_lt.
      let back_l : mate (mate l) ≡ l = p.back l (omega arith) in
      let not_i : mate l ≡ i → ⊥ = λ e. (let e' : mate (mate l) ≡ mate i = ap mate e in omega arith) in
      let no : mate (mate i) < mate l → ⊥ = nested (mate i) l ge (omega arith) (omega arith) in
      omega arith)
      ∙ latest_hit mate i (mate i) (omega arith)

  pub after_first : (i : ℕ) → i < mate i → last_open (suc i) ≡ suc i
  after_first i first = latest_hit mate (suc i) i first

  last_open_end : last_open n ≡ 0
  last_open_end = latest_down mate n n 0 (omega arith) (λ l ge lt. p.in_range l lt)

  -- a point that has no mate changes nothing
  after_alone : (i : ℕ) → i < n → mate i ≡ i → last_open (suc i) ≡ last_open i
  after_alone i lt alone =
      latest_miss mate (suc i) i (omega arith)
      ∙ latest_same mate (suc i) i i
      (λ j j_lt. (
        λ a. omega arith,
        λ a.
            let back_j : mate (mate j) ≡ j = p.back j (omega arith) in
            let not_i : mate j ≡ i → ⊥ = λ e. (let e' : mate (mate j) ≡ mate i = ap mate e in omega arith) in
            omega arith,
      ))

  after_first_or_alone : (i : ℕ) → i < n → i ≤ mate i → last_open (suc (mate i)) ≡ last_open i
  after_first_or_alone i lt le =
      ⊎_elim
      (λ alone. ap (λ x. last_open (suc x)) alone ∙ after_alone i lt alone)
      (λ paired. after_pair i lt (omega arith))
      (cases_eq (mate i) i)

  pub last_open_kept : IsKept n mate last_open
  last_open_kept i lt =
      let back : mate (mate i) ≡ i = p.back i lt in
      ⊎_elim
      (λ second. ⊎_elim
      (λ h. ap last_open (h.1 ∙ add-one (mate i)) ∙ after_first (mate i) (omega arith) ∙ sym (before_second i lt second))
      (λ h. let e : mate i + 1 ≡ n = h.0 in absurd (omega arith))
      (after_cases n (mate i) (p.in_range i lt)))
      (λ le. ⊎_elim
      (λ h. ap last_open (h.1 ∙ add-one (mate i)) ∙ after_first_or_alone i lt le)
      (λ h. ap last_open h.1 ∙ sym last_open_end ∙ ap last_open (sym h.0 ∙ add-one (mate i)) ∙ after_first_or_alone i lt le)
      (after_cases n (mate i) (p.in_range i lt)))
      (cases_lt (mate i) i)

  enough : (k : ℕ) → k < n → suc (pairs mate k) ≤ colours last_open (suc k)
  enough zero lt = omega arith
  enough (suc k) lt =
      let ih : suc (pairs mate k) ≤ colours last_open (suc k) = enough k (omega arith) in
      ⊎_elim
      (λ first.
      let o : pairs mate (suc k) ≡ suc (pairs mate k) = cond-true (ltb k (mate k)) (suc (pairs mate k)) (pairs mate k) (lt-ltb k (mate k) first) in
      let at : last_open (suc k) ≡ suc k = after_first k first in
      let new : is_used last_open (last_open (suc k)) (suc k) ≡ false = false_from_ne_true (is_used last_open (last_open (suc k)) (suc k))
      (λ used. let r : (j : ℕ) × (j < suc k) × (last_open j ≡ last_open (suc k)) = used_true last_open (last_open (suc k)) (suc k) used in
      let small : last_open r.0 ≤ r.0 = latest-le mate r.0 r.0 in omega arith) in
      let c : colours last_open (suc (suc k)) ≡ suc (colours last_open (suc k)) =
      cond-false (is_used last_open (last_open (suc k)) (suc k)) (colours last_open (suc k)) (suc (colours last_open (suc k))) new in
      omega arith)
      (λ le.
      let o : pairs mate (suc k) ≡ pairs mate k = cond-false (ltb k (mate k)) (suc (pairs mate k)) (pairs mate k) (le-ltb k (mate k) le) in
      omega (arith, colours_grow last_open (suc k)))
      (cases_lt k (mate k))

  enough_at_end : (k : ℕ) → n ≡ suc k → suc (pairs mate n) ≤ colours last_open n
  enough_at_end k e =
      let lt : mate k < n = p.in_range k (omega arith) in
      let o : pairs mate (suc k) ≡ pairs mate k = cond-false (ltb k (mate k)) (suc (pairs mate k)) (pairs mate k) (le-ltb k (mate k) (omega arith)) in
      let h : suc (pairs mate k) ≤ colours last_open (suc k) = enough k (omega arith) in
      omega (arith, ap (pairs mate) e, ap (colours last_open) e)

  pub enough_colours : 0 < n → suc (pairs mate n) ≤ colours last_open n
  enough_colours pos = let k : ℕ = n - 1 in enough_at_end k (omega arith)
