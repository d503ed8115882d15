-- The colours of the points, read round the cycle, are a walk; so are the least points of orbits.
use Rattle.std.proofs.Common.{◌≡◌, ℕ, zero, suc, ◌+◌, ◌*◌, ◌%◌, ◌<◌, ◌≤◌, ◌↔◌, cond, eqb, ◌||◌, refl, sym, ap, ap₂, ◌∙◌, arith, mod-eq_of_lt, add-one}
use Rattle.std.proofs.lemmas.Bool.{cond_both}
use Rattle.cycle_pairs.specs.Pairs.{IsPairing, pairs, Nests, IsKept, is_used, colours, after_mate, least_of, orbits, IsPermuted, Meet}
use Rattle.cycle_pairs.proofs.Walk.{IsWalk, counted, nests, AllFresh}
use Rattle.cycle_pairs.proofs.Totals.{half_open}
use Rattle.cycle_pairs.proofs.Values.{carried, factored}
use Rattle.cycle_pairs.proofs.Orbits.{after_permuted, least_kept, least_of_meet, meet_of_least, kept_meet}
use Rattle.cycle_pairs.proofs.Nested.{last_open, last_open_kept, enough_colours}

used_same : (c d : ℕ → ℕ) (v k : ℕ) → ((i : ℕ) → i < k → c i ≡ d i) → is_used c v k ≡ is_used d v k
used_same c d v zero h = refl
used_same c d v (suc k) h = ap₂ (λ x y. eqb x v || y) (h k (omega arith)) (used_same c d v k (λ i lt. h i (omega arith)))

colours_same : (c d : ℕ → ℕ) (n : ℕ) → ((i : ℕ) → i < n → c i ≡ d i) → colours c n ≡ colours d n
colours_same c d zero h = refl
colours_same c d (suc n) h =
    ap₂ (λ b x. cond b x (suc x))
    (ap (λ v. is_used c v n) (h n (omega arith)) ∙ used_same c d (d n) n (λ i lt. h i (omega arith)))
    (colours_same c d n (λ i lt. h i (omega arith)))

colours_grow : (c : ℕ → ℕ) (n : ℕ) → colours c n ≤ colours c (suc n)
colours_grow c n = cond_both (is_used c (c n) n) (colours c n) (suc (colours c n)) (λ x. colours c n ≤ x) (λ _. omega arith) (λ _. omega arith)

-- the colours read round the cycle
abbrev round : ℕ → (ℕ → ℕ) → ℕ → ℕ
round n colour i = colour (i % n)

round_walk : (n : ℕ) (mate colour : ℕ → ℕ) → IsKept n mate colour → IsWalk n mate (round n colour)
round_walk n mate colour kept i lt =
    ap (λ x. colour (x % n)) (sym (add-one (mate i))) ∙ kept i lt ∙ ap colour (sym (mod-eq_of_lt lt))

round-colours : (n : ℕ) (colour : ℕ → ℕ) → colours colour n ≤ colours (round n colour) (suc n)
round-colours n colour =
    omega (arith, colours_same colour (round n colour) n (λ i lt. ap colour (sym (mod-eq_of_lt lt))), colours_grow (round n colour) n)

pub few_colours : (n : ℕ) (mate colour : ℕ → ℕ) → IsPairing n mate → IsKept n mate colour → colours colour n ≤ pairs mate n + 1
few_colours n mate colour p kept =
    let bound : colours (round n colour) (suc n) ≤ suc (pairs mate n) =
    (counted n mate (round n colour) p (round_walk n mate colour kept) n (omega arith)).0 in
    omega (arith, round-colours n colour)

pub most_colours : (n : ℕ) (mate colour : ℕ → ℕ) → IsPairing n mate → IsKept n mate colour → pairs mate n + 1 ≤ colours colour n → Nests n mate
most_colours n mate colour p kept most =
    let walk : IsWalk n mate (round n colour) = round_walk n mate colour kept in
    let fresh : AllFresh mate (round n colour) n =
    (counted n mate (round n colour) p walk n (omega arith)).1
    (omega (arith, round-colours n colour)) in
    nests n mate (round n colour) p walk fresh

pub few_orbits : (n : ℕ) (mate : ℕ → ℕ) → IsPairing n mate → orbits n (after_mate n mate) ≤ pairs mate n + 1
few_orbits n mate p = few_colours n mate (least_of (after_mate n mate) n) p (least_kept n (after_mate n mate) (after_permuted n mate p))

most_orbits : (n : ℕ) (mate : ℕ → ℕ) → IsPairing n mate → pairs mate n + 1 ≤ orbits n (after_mate n mate) → Nests n mate
most_orbits n mate p most = most_colours n mate (least_of (after_mate n mate) n) p (least_kept n (after_mate n mate) (after_permuted n mate p)) most

nested_orbits : (n : ℕ) (mate : ℕ → ℕ) → IsPairing n mate → Nests n mate → 0 < n → orbits n (after_mate n mate) ≡ pairs mate n + 1
nested_orbits n mate p nested some =
    let f : ℕ → ℕ = after_mate n mate in
    let perm : IsPermuted n f = after_permuted n mate p in
    let c : ℕ → ℕ = last_open n mate p nested in
    let less : colours c n ≤ orbits n f =
    factored c (least_of f n) n
    (λ i j il jl e. kept_meet n f perm c (last_open_kept n mate p nested) i j il jl (meet_of_least n f perm i j e)) in
    omega (arith, enough_colours n mate p nested some, few_orbits n mate p)

pub nests_exactly : (n : ℕ) (mate : ℕ → ℕ) → IsPairing n mate → 0 < n → Nests n mate ↔ (orbits n (after_mate n mate) ≡ pairs mate n + 1)
nests_exactly n mate p some = (λ nested. nested_orbits n mate p nested some, λ e. most_orbits n mate p (omega (arith, e)))

pub half : (g : ℕ) (mate : ℕ → ℕ) → IsPairing (2 * g) mate → ((i : ℕ) → i < 2 * g → mate i ≡ i → ⊥) → pairs mate (2 * g) ≡ g
half g mate p apart = omega (arith, half_open (2 * g) mate p apart)

pub whole : (g : ℕ) (mate : ℕ → ℕ) → IsPairing (2 * g) mate → ((i : ℕ) → i < 2 * g → mate i ≡ i → ⊥) → 0 < g
    → Nests (2 * g) mate ↔ (orbits (2 * g) (after_mate (2 * g) mate) ≡ g + 1)
whole g mate p apart some =
    let count : pairs mate (2 * g) ≡ g = half g mate p apart in
    let exactly = nests_exactly (2 * g) mate p (omega arith) in
    (λ nested. exactly.0 nested ∙ ap (λ k. k + 1) count, λ e. exactly.1 (e ∙ sym (ap (λ k. k + 1) count)))

pub restricted : (m n : ℕ) (next mate at : ℕ → ℕ) → IsPermuted m next → IsPairing n mate
    → ((i : ℕ) → i < n → at i < m)
    → ((i : ℕ) → i < n → Meet next (at (after_mate n mate i)) (at i))
    → ((d : ℕ) → d < m → (i : ℕ) × (i < n) × Meet next (at i) d)
    → pairs mate n + 1 ≤ orbits m next → Nests n mate
restricted m n next mate at perm p below follows meets most =
    most_colours n mate (λ i. least_of next m (at i)) p
    (λ i lt.
    least_of_meet m next perm (at (after_mate n mate i)) (at i)
    (below (after_mate n mate i) ((after_permuted n mate p).stays i lt)) (below i lt) (follows i lt))
    (omega (
      arith,
      carried (least_of next m) (λ i. least_of next m (at i)) m n
          (λ d lt.
          let r : (i : ℕ) × (i < n) × Meet next (at i) d = meets d lt in
          (r.0, r.1, least_of_meet m next perm (at r.0) d (below r.0 r.1) lt r.2)),
    ))

pub colours_orbits : (n : ℕ) (step colour : ℕ → ℕ) → IsPermuted n step → ((i : ℕ) → i < n → colour (step i) ≡ colour i)
    → ((i j : ℕ) → i < n → j < n → colour i ≡ colour j → Meet step i j) → colours colour n ≡ orbits n step
colours_orbits n step colour p kept apart =
    let few = factored colour (least_of step n) n (λ i j il jl e. kept_meet n step p colour kept i j il jl (meet_of_least n step p i j e)) in
    let most = factored (least_of step n) colour n (λ i j il jl e. least_of_meet n step p i j il jl (apart i j il jl e)) in
    omega arith
