-- The orbits of a permutation of the points below n, by the least point of each.
use Rattle.std.proofs.Common.{◌≡◌, ℕ, zero, suc, ◌+◌, ◌-◌, ◌%◌, min, ◌<◌, ◌≤◌, true, ◌⊎◌, inl, inr, ⊎_elim, refl, sym, ap, ◌∙◌, subst, arith, mod-eq_of_lt, suc-add, zero-add}
use Rattle.std.proofs.Math.Nat.{mod_self}
use Rattle.std.proofs.lemmas.Bool.{cases_lt, cases_eq}
use Rattle.cycle_pairs.specs.Pairs.{IsPairing, IsPermuted, after_mate, colours, is_used, iterate, least_of, Meet}
use Rattle.cycle_pairs.proofs.Walk.{used_true}
use Rattle.cycle_pairs.proofs.Values.{carried, repeated, colours-le}

pub iterate-add : (f : ℕ → ℕ) (a b i : ℕ) → iterate f (a + b) i ≡ iterate f a (iterate f b i)
iterate-add f zero b i = ap (λ k. iterate f k i) (zero-add b)
iterate-add f (suc a) b i = ap (λ k. iterate f k i) (suc-add a b) ∙ ap f (iterate-add f a b i)

least_below : (f : ℕ → ℕ) (n k i : ℕ) → k ≤ n → least_of f n i ≤ iterate f k i
least_below f zero k i le = let e : k ≡ 0 = omega arith in subst (λ k. i ≤ iterate f k i) (sym e) (omega arith)
least_below f (suc n) k i le =
    ⊎_elim
    (λ same. subst (λ k. min (least_of f n i) (iterate f (suc n) i) ≤ iterate f k i) (sym same) (omega arith))
    (λ other. omega (arith, least_below f n k i (omega arith)))
    (cases_eq k (suc n))

least_is : (f : ℕ → ℕ) (n i : ℕ) → (k : ℕ) × (k ≤ n) × (least_of f n i ≡ iterate f k i)
least_is f zero i = (0, omega arith, refl)
least_is f (suc n) i =
    let ih : (k : ℕ) × (k ≤ n) × (least_of f n i ≡ iterate f k i) = least_is f n i in
    ⊎_elim
    (λ lt. let e : min (least_of f n i) (iterate f (suc n) i) ≡ least_of f n i = omega arith in (ih.0, omega arith, e ∙ ih.2))
    (λ le. let e : min (least_of f n i) (iterate f (suc n) i) ≡ iterate f (suc n) i = omega arith in (suc n, omega arith, e))
    (cases_lt (least_of f n i) (iterate f (suc n) i))

module _ (n : ℕ) (f : ℕ → ℕ) (p : IsPermuted n f) where
  pub iterate_range : (k i : ℕ) → i < n → iterate f k i < n
  iterate_range zero i lt = lt
  iterate_range (suc k) i lt = p.stays (iterate f k i) (iterate_range k i lt)

  cancel : (a d i : ℕ) → i < n → iterate f a i ≡ iterate f (a + d) i → i ≡ iterate f d i
  cancel zero d i lt e = e ∙ ap (λ k. iterate f k i) (zero-add d)
  cancel (suc a) d i lt e =
      cancel a d i lt
      (p.one (iterate f a i) (iterate f (a + d) i) (iterate_range a i lt) (iterate_range (a + d) i lt)
      (e ∙ ap (λ k. iterate f k i) (suc-add a d)))

  -- f leads back after at most n steps
  period : (i : ℕ) → i < n → (q : ℕ) × (suc q ≤ n) × (iterate f (suc q) i ≡ i)
  period i lt =
      let val : ℕ → ℕ = λ k. iterate f k i in
      let few : colours val (suc n) ≤ colours (λ x. x) n = carried val (λ x. x) (suc n) n (λ k k_lt. (iterate f k i, iterate_range k i lt, refl)) in
      let again : (b : ℕ) × (b < suc n) × (is_used val (val b) b ≡ true) = repeated val (suc n) (omega (arith, colours-le (λ x. x) n)) in
      let first : (a : ℕ) × (a < again.0) × (val a ≡ val again.0) = used_true val (val again.0) again.0 again.2 in
      let d : ℕ = again.0 - suc first.0 in
      let sum : again.0 ≡ first.0 + suc d = omega arith in
      (d, omega arith, sym (cancel first.0 (suc d) i lt (first.2 ∙ ap val sum)))

  reduce : (q i : ℕ) → iterate f (suc q) i ≡ i → (k : ℕ) → (r : ℕ) × (r ≤ q) × (iterate f k i ≡ iterate f r i)
  reduce q i back zero = (0, omega arith, refl)
  reduce q i back (suc k) =
      let ih : (r : ℕ) × (r ≤ q) × (iterate f k i ≡ iterate f r i) = reduce q i back k in
      ⊎_elim
      (λ same. (0, omega arith, ap f ih.2 ∙ ap (λ r. iterate f (suc r) i) same ∙ back))
      (λ other. (suc ih.0, omega arith, ap f ih.2))
      (cases_eq ih.0 q)

  least_lower : (k i : ℕ) → i < n → least_of f n i ≤ iterate f k i
  least_lower k i lt =
      let q : (q : ℕ) × (suc q ≤ n) × (iterate f (suc q) i ≡ i) = period i lt in
      let r : (r : ℕ) × (r ≤ q.0) × (iterate f k i ≡ iterate f r i) = reduce q.0 i q.2 k in
      omega (arith, least_below f n r.0 i (omega arith), r.2)

  pub least_kept : (i : ℕ) → i < n → least_of f n (f i) ≡ least_of f n i
  least_kept i lt =
      let q : (q : ℕ) × (suc q ≤ n) × (iterate f (suc q) i ≡ i) = period i lt in
      let a : (k : ℕ) × (k ≤ n) × (least_of f n i ≡ iterate f k i) = least_is f n i in
      let b : (k : ℕ) × (k ≤ n) × (least_of f n (f i) ≡ iterate f k (f i)) = least_is f n (f i) in
      let up : iterate f b.0 (f i) ≡ iterate f (b.0 + 1) i = sym (iterate-add f b.0 1 i) in
      let round : i ≡ iterate f q.0 (f i) = sym q.2 ∙ ap (λ k. iterate f k i) (let e : suc q.0 ≡ q.0 + 1 = omega arith in e) ∙ iterate-add f q.0 1 i in
      let down : iterate f a.0 i ≡ iterate f (a.0 + q.0) (f i) = ap (iterate f a.0) round ∙ sym (iterate-add f a.0 q.0 (f i)) in
      let l : least_of f n i ≤ iterate f (b.0 + 1) i = least_lower (b.0 + 1) i lt in
      let m : least_of f n (f i) ≤ iterate f (a.0 + q.0) (f i) = least_lower (a.0 + q.0) (f i) (p.stays i lt) in
      omega arith

  least-iterate : (k i : ℕ) → i < n → least_of f n (iterate f k i) ≡ least_of f n i
  least-iterate zero i lt = refl
  least-iterate (suc k) i lt = least_kept (iterate f k i) (iterate_range k i lt) ∙ least-iterate k i lt

  pub least_of_meet : (i j : ℕ) → i < n → j < n → Meet f i j → least_of f n i ≡ least_of f n j
  least_of_meet i j il jl m = sym (least-iterate m.0 i il) ∙ ap (least_of f n) m.2 ∙ least-iterate m.1 j jl

  pub meet_of_least : (i j : ℕ) → least_of f n i ≡ least_of f n j → Meet f i j
  meet_of_least i j e =
      let a : (k : ℕ) × (k ≤ n) × (least_of f n i ≡ iterate f k i) = least_is f n i in
      let b : (k : ℕ) × (k ≤ n) × (least_of f n j ≡ iterate f k j) = least_is f n j in
      (a.0, b.0, sym a.2 ∙ e ∙ b.2)

  -- what f keeps, all the points of an orbit have
  kept_iterate : (c : ℕ → ℕ) → ((i : ℕ) → i < n → c (f i) ≡ c i) → (k i : ℕ) → i < n → c (iterate f k i) ≡ c i
  kept_iterate c kept zero i lt = refl
  kept_iterate c kept (suc k) i lt = kept (iterate f k i) (iterate_range k i lt) ∙ kept_iterate c kept k i lt

  pub kept_meet : (c : ℕ → ℕ) → ((i : ℕ) → i < n → c (f i) ≡ c i) → (i j : ℕ) → i < n → j < n → Meet f i j → c i ≡ c j
  kept_meet c kept i j il jl m = sym (kept_iterate c kept m.0 i il) ∙ ap c m.2 ∙ kept_iterate c kept m.1 j jl

pub after_cases : (n a : ℕ) → a < n → ((a + 1 < n) × ((a + 1) % n ≡ a + 1)) ⊎ ((a + 1 ≡ n) × ((a + 1) % n ≡ 0))
after_cases n a lt =
    ⊎_elim
    (λ below. inl (below, mod-eq_of_lt below))
    (λ le. let e : a + 1 ≡ n = omega arith in inr (e, ap (λ x. x % n) e ∙ mod_self n))
    (cases_lt (a + 1) n)

pub after_permuted : (n : ℕ) (mate : ℕ → ℕ) → IsPairing n mate → IsPermuted n (after_mate n mate)
after_permuted n mate p = record {
  stays = λ i lt. ⊎_elim
      (λ h. let e : after_mate n mate i ≡ mate i + 1 = h.1 in let l : mate i + 1 < n = h.0 in omega arith)
      (λ h. let e : after_mate n mate i ≡ 0 = h.1 in omega arith)
      (after_cases n (mate i) (p.in_range i lt));
  one = λ i j il jl e.
      let same : mate i ≡ mate j =
      ⊎_elim
      (λ h. let a : after_mate n mate i ≡ mate i + 1 = h.1 in ⊎_elim
      (λ h'. let b : after_mate n mate j ≡ mate j + 1 = h'.1 in omega arith)
      (λ h'. let b : after_mate n mate j ≡ 0 = h'.1 in omega arith)
      (after_cases n (mate j) (p.in_range j jl)))
      (λ h. let a : after_mate n mate i ≡ 0 = h.1 in let end : mate i + 1 ≡ n = h.0 in ⊎_elim
      (λ h'. let b : after_mate n mate j ≡ mate j + 1 = h'.1 in omega arith)
      (λ h'. let end' : mate j + 1 ≡ n = h'.0 in omega arith)
      (after_cases n (mate j) (p.in_range j jl)))
      (after_cases n (mate i) (p.in_range i il)) in
      sym (p.back i il) ∙ ap mate same ∙ p.back j jl;
}
