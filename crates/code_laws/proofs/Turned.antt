-- The orbit from any position: the positions beside it from it on, and then those before it.
use Rattle.std.specs.Prelude.{filter, ◌++◌}
use Rattle.std.specs.List.{range_with_len}
use Rattle.std.proofs.Common.{◌≡◌, ℕ, zero, suc, ◌+◌, ◌-◌, ◌<◌, ◌≤◌, inl, inr, Bool, true, false, List, [], ◌∷◌, length, refl, ap, sym, ◌∙◌, arith, subst, ◌==◌}
use Rattle.std.proofs.lemmas.Bool.{cases_lt, cases_Bool, ne_eqb, eq-eqb, both_ways}
use Rattle.orbits.specs.Walks as walks
use Rattle.code_laws.specs.Code.{Code, step}
use Rattle.code_laws.specs.Orbits.{walk, orbit, is_beside, from_on}
use Rattle.code_laws.proofs.Walks.{Goes, filter-none, filter-next}
use Rattle.code_laws.proofs.Steps.{goes}
use Rattle.code_laws.proofs.Sound.{SoundParts, is_well, in_one}
use Rattle.code_laws.proofs.Beside.{AreBeside, beside-from, beside-to, beside-self, first_beside}

-- the numbers below p that pass, from the first one on
low_part : (test : ℕ → Bool) (first p : ℕ) → first < p → test first ≡ true → ((y : ℕ) → y < first → test y ≡ false)
    → filter test (range_with_len 0 p) ≡ first ∷ filter test (range_with_len (first + 1) (p - (first + 1)))
low_part test first p l passes none =
    let e : 0 + p - (first + 1) ≡ p - (first + 1) = omega arith in
    subst (λ m. filter test (range_with_len 0 p) ≡ first ∷ filter test (range_with_len (first + 1) m)) e
    (filter-next test 0 p first (omega arith) (omega arith) passes (λ x a b. none x b))

module _ (test : ℕ → Bool) (n first p : ℕ) (f : ℕ → ℕ) (p_in : p < n) (p_passes : test p ≡ true) (goes : (x : ℕ) → x < n → test x ≡ true → Goes test n first x (f x)) where
  -- from below p up to the return
  walk-low : (fuel x : ℕ) → p ≤ x + fuel → x < p → test x ≡ true → walk fuel f p x ≡ x ∷ filter test (range_with_len (x + 1) (p - (x + 1)))
  unfolding walks.until_return
  walk-low zero x enough l passes = absurd (omega arith)
  walk-low (suc fuel) x enough l passes =
      elim (goes x (omega arith) passes) [
        | inl a ↦ elim (cases_lt (f x) p) [
          | inl less ↦
              let other : (f x == p) ≡ false = ne_eqb (f x) p (λ e. omega (arith, e, less)) in
              let e : x + 1 + (p - (x + 1)) - (f x + 1) ≡ p - (f x + 1) = omega (arith, a.order) in
              rw other (ap (λ xs. x ∷ xs)
              (rw (filter-next test (x + 1) (p - (x + 1)) (f x) (omega (arith, a.order)) (omega (arith, a.order, less)) a.passes (λ y l h. a.none y (omega arith) h), e)
              (walk-low fuel (f x) (omega (arith, a.order)) less a.passes)))
          | inr more ↦ elim (cases_lt p (f x)) [
            | inl past ↦ absurd (both_ways _ (a.none p l past) p_passes)
            | inr up ↦
                let e : f x ≡ p = omega arith in
                rw (eq-eqb (f x) p e) (ap (λ xs. x ∷ xs) (sym (filter-none test (x + 1) (p - (x + 1)) (λ y k h. a.none y (omega arith) (omega (arith, e))))))
          ]
        ]
        | inr a ↦ absurd (both_ways _ (a.1.none p l p_in) p_passes)
      ]

  -- from p on to the last, and on from the first
  walk-up : (first_passes : test first ≡ true) (none_before : (y : ℕ) → y < first → test y ≡ false) (fuel x : ℕ) → n + p ≤ x + fuel → p ≤ x → x < n → first ≤ p → test x ≡ true
      → walk fuel f p x ≡ x ∷ (filter test (range_with_len (x + 1) (n - (x + 1))) ++ filter test (range_with_len 0 p))
  unfolding walks.until_return
  walk-up first_passes none_before zero x enough from to low passes = absurd (omega arith)
  walk-up first_passes none_before (suc fuel) x enough from to low passes =
      elim (goes x to passes) [
        | inl a ↦
            let other : (f x == p) ≡ false = ne_eqb (f x) p (λ e. omega (arith, e, a.order)) in
            let e : x + 1 + (n - (x + 1)) - (f x + 1) ≡ n - (f x + 1) = omega (arith, a.order) in
            rw other (ap (λ xs. x ∷ xs)
            (rw (filter-next test (x + 1) (n - (x + 1)) (f x) (omega (arith, a.order)) (omega (arith, a.order, a.within)) a.passes (λ y l h. a.none y (omega arith) h), e)
            (walk-up first_passes none_before fuel (f x) (omega (arith, a.order)) (omega (arith, a.order)) a.within low a.passes)))
        | inr a ↦
            let nothing : filter test (range_with_len (x + 1) (n - (x + 1))) ≡ [] = filter-none test (x + 1) (n - (x + 1)) (λ y k h. a.1.none y (omega arith) (omega arith)) in
            rw nothing
            (elim (cases_lt first p) [
              | inl l ↦
                  let other : (f x == p) ≡ false = ne_eqb (f x) p (λ e. omega (arith, e, a.0)) in
                  rw other (ap (λ xs. x ∷ xs)
                  (ap (λ y. walk fuel f p y) a.0 ∙ walk-low fuel first (omega (arith)) l first_passes ∙ sym (low_part test first p l first_passes none_before)))
              | inr g ↦
                  let same : f x ≡ p = omega (arith, a.0) in
                  rw (eq-eqb (f x) p same) (ap (λ xs. x ∷ xs) (sym (filter-none test 0 p (λ y k h. none_before y (omega arith)))))
            ])
      ]

filter-append : (test : ℕ → Bool) (xs ys : List ℕ) → filter test (xs ++ ys) ≡ filter test xs ++ filter test ys
filter-append test [] ys = refl
filter-append test (x ∷ xs) ys =
    elim (cases_Bool (test x)) [
      | inl w ↦ rw w (ap (λ zs. x ∷ zs) (filter-append test xs ys))
      | inr f ↦ rw f (filter-append test xs ys)
    ]

-- the positions beside p are those beside any position beside it
beside-same : (c : Code) (kind : Bool) (p f y : ℕ) → AreBeside c kind p f → (b : Bool) → is_beside c kind p y ≡ b → is_beside c kind f y ≡ b
beside-same c kind p f y b true h =
    let a = beside-from c kind p y h in
    beside-to c kind f y (record { component = a.component ∙ sym b.component; number = a.number ∙ sym b.number })
beside-same c kind p f y b false h =
    elim (cases_Bool (is_beside c kind f y)) [
      | inl w ↦ let a = beside-from c kind f y w in absurd (both_ways _ h (beside-to c kind p y (record { component = a.component ∙ b.component; number = a.number ∙ b.number })))
      | inr n ↦ n
    ]

goes-same : (test other : ℕ → Bool) (n first x y : ℕ) → ((z : ℕ) (b : Bool) → test z ≡ b → other z ≡ b) → Goes test n first x y → Goes other n first x y
goes-same test other n first x y same (inl a) = inl (record { order = a.order; within = a.within; passes = same y true a.passes; none = λ z l h. same z false (a.none z l h) })
goes-same test other n first x y same (inr a) = inr (a.0, record { none = λ z l h. same z false (a.1.none z l h) })

pub orbit_on : (c : Code) → SoundParts c → (kind : Bool) (p : ℕ) → p < length c.a → orbit c kind p ≡ filter (is_beside c kind p) (from_on c p)
orbit_on c s kind p l =
    let n = length c.a in
    let test = is_beside c kind p in
    let w = is_well c s in
    let f = first_beside c kind p l in
    let least = f.1 in
    let to_first = beside-from c kind p f.0 least.passes in
    let back : AreBeside c kind f.0 p = record { component = sym to_first.component; number = sym to_first.number } in
    let first_in : f.0 < n = omega (arith, least.within) in
    let none : (y : ℕ) → y < f.0 → is_beside c kind f.0 y ≡ false = λ y h. beside-same c kind p f.0 y to_first false (least.before y (omega arith) h) in
    let moves : (x : ℕ) → x < n → test x ≡ true → Goes test n f.0 x (step c kind x)
    = λ x h t. let i = in_one c s x h in
    goes-same (is_beside c kind f.0) test n f.0 x (step c kind x) (λ z b e. beside-same c kind f.0 p z back b e)
    (goes c w kind f.0 first_in none x i.0 i.1 (beside-same c kind p f.0 x to_first true t)) in
    let low : f.0 ≤ p = elim (cases_lt p f.0) [ inl h ↦ absurd (both_ways _ (least.before p (omega arith) h) (beside-self c kind p)) | inr g ↦ g ] in
    let up = walk-up test n f.0 p (step c kind) l (beside-self c kind p) moves least.passes (λ y h. least.before y (omega arith) h) n p (omega arith) (omega arith) l low (beside-self c kind p) in
    let head = filter-next test p (n - p) p (omega arith) (omega arith) (beside-self c kind p) (λ x a b. absurd (omega arith)) in
    let e : p + (n - p) - (p + 1) ≡ n - (p + 1) = omega arith in
    up
    ∙ ap (λ xs. xs ++ filter test (range_with_len 0 p)) (sym (head ∙ ap (λ m. p ∷ filter test (range_with_len (p + 1) m)) e))
    ∙ sym (filter-append test (range_with_len p (n - p)) (range_with_len 0 p))
