-- laws of `find` over a range of numbers, of the last number that passes a test, and of the first of some options
use Rattle.std.proofs.Common.{◌≡◌, ℕ, zero, suc, ◌+◌, ◌<◌, ◌≤◌, inl, inr, Bool, true, false, List, ◌∷◌, refl, sym, ap, subst, arith, Option, Some, None}
use Rattle.std.specs.Prelude.{find}
use Rattle.std.specs.List.{range_with_len}
use Rattle.std.proofs.lemmas.Bool.{cases_Bool, cases_lt, both_ways}
use Rattle.std.proofs.lemmas.Option.{same_Some}
use Rattle.std.specs.Bool.{Decides}
use Rattle.bit_words.specs.Bits.{IsNext, IsLast}
use Rattle.bit_words.specs.Lists.{first_some, last_below}

-- the least number of a range that passes a test
pub record IsLeast (p : ℕ → Bool) (low high j : ℕ) : Type 0 where
  pub from : low ≤ j
  pub within : j < high
  pub passes : p j ≡ true
  pub before : (q : ℕ) → low ≤ q → q < j → p q ≡ false

pub find-none : (p : ℕ → Bool) (low n : ℕ) → ((q : ℕ) → low ≤ q → q < low + n → p q ≡ false) → find p (range_with_len low n) ≡ None
find-none p low zero none = refl
find-none p low (suc n) none = rw (none low (omega arith) (omega arith)) (find-none p (low + 1) n (λ q l h. none q (omega arith) (omega arith)))

pub find-least : (p : ℕ → Bool) (low n j : ℕ) → IsLeast p low (low + n) j → find p (range_with_len low n) ≡ Some j
find-least p low zero j h = absurd (omega (arith, h.from, h.within))
find-least p low (suc n) j h =
    elim (cases_lt low j) [
      | inl l ↦
          rw (h.before low (omega arith) l)
          (find-least p (low + 1) n j (record { from = omega arith; within = omega (arith, h.within); passes = h.passes; before = λ q above below. h.before q (omega arith) below }))
      | inr g ↦ let e : j ≡ low = omega (arith, h.from) in rw (subst (λ x. p x ≡ true) e h.passes) (ap Some (sym e))
    ]

pub least-find : (p : ℕ → Bool) (low n j : ℕ) → find p (range_with_len low n) ≡ Some j → IsLeast p low (low + n) j
least-find p low zero j h = cc
least-find p low (suc n) j h =
    elim (cases_Bool (p low)) [
      | inl w ↦
          let e : low ≡ j = same_Some low j (rw w at h) in
          record { from = omega (arith, e); within = omega (arith, e); passes = subst (λ x. p x ≡ true) e w; before = λ q above below. absurd (omega (arith, e)) }
      | inr f ↦
          let more = least-find p (low + 1) n j (rw f at h) in
          record {
            from = omega (arith, more.from);
            within = omega (arith, more.within);
            passes = more.passes;
            before = λ q above below. elim (cases_lt low q) [ inl l ↦ more.before q (omega arith) below | inr g ↦ let e : q ≡ low = omega arith in rw e f ];
          }
    ]

pub none-find : (p : ℕ → Bool) (low n : ℕ) → find p (range_with_len low n) ≡ None → (q : ℕ) → low ≤ q → q < low + n → p q ≡ false
none-find p low zero h q above below = absurd (omega arith)
none-find p low (suc n) h q above below =
    elim (cases_Bool (p low)) [
      | inl w ↦ let no_way : ◌≡◌ {A = Option ℕ} (Some low) None = rw w at h in cc
      | inr f ↦ elim (cases_lt low q) [
        | inl l ↦ none-find p (low + 1) n (rw f at h) q (omega arith) (omega arith)
        | inr g ↦ let e : q ≡ low = omega arith in rw e f
      ]
    ]

module _ (p : ℕ → Bool) (P : ℕ → Type 0) (tells : (q : ℕ) → Decides (p q) (P q)) where
  pub next-find : (low n : ℕ) (o : Option ℕ) → find p (range_with_len (low + 1) n) ≡ o → IsNext P low (low + n) o
  next-find low n None e = λ q above upto x. both_ways (p q) (none-find p (low + 1) n e q (omega arith) (omega arith)) ((tells q).1 x)
  next-find low n (Some j) e =
      let l = least-find p (low + 1) n j e in
      (omega (arith, l.from), omega (arith, l.within), (tells j).0 l.passes, λ q above below x. both_ways (p q) (l.before q (omega arith) below) ((tells q).1 x))

  -- one number more, which does not pass
  last_more : (n : ℕ) (o : Option ℕ) → p n ≡ false → IsLast P 0 n o → IsLast P 0 (suc n) o
  last_more n None f h =
      λ q above below x.
      elim (cases_lt q n) [
        | inl l ↦ h q above l x
        | inr g ↦ let e : q ≡ n = omega arith in both_ways (p q) (rw e f) ((tells q).1 x)
      ]
  last_more n (Some j) f h = (
    omega arith,
    omega (arith, h.1),
    h.2,
    λ q above below x.
        elim (cases_lt q n) [
          | inl l ↦ h.3 q above l x
          | inr g ↦ let e : q ≡ n = omega arith in both_ways (p q) (rw e f) ((tells q).1 x)
        ],
  )

  pub last-below : (n : ℕ) → IsLast P 0 n (last_below p n)
  unfolding last_below
  last-below zero = λ q above below x. absurd (omega arith)
  last-below (suc n) =
      elim (cases_Bool (p n)) [
        | inl y ↦ rw y (omega arith, omega arith, (tells n).0 y, λ q above below x. absurd (omega arith))
        | inr f ↦ rw f (last_more n (last_below p n) f (last-below n))
      ]

-- none of some options is none of each
pub first_none : {X : Type 0} (o : Option X) (os : List (Option X)) → first_some (o ∷ os) ≡ None → (o ≡ None) × (first_some os ≡ None)
unfolding first_some
first_none None os h = (refl, h)
first_none (Some x) os h = cc
