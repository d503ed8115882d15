-- What the tests of faults say.
use Rattle.std.specs.Prelude.{not, nat_le, nat_lt}
use Rattle.std.proofs.Common.{◌≡◌, ℕ, ◌-◌, ◌<◌, ◌≤◌, Bool, true, false, eqb, List, length, get_or, refl, ap, sym, ◌∙◌, arith, inl, inr, Option, Some, None, cond}
use Rattle.std.proofs.lemmas.Bool.{cases_lt, and_parts, and_from, ltb-true, leb-true, eqb-true, lt-ltb, le-leb, eq-eqb, ne_eqb, cond-true, cond-false, not-true, not-false, false_from_ne_true}
use Rattle.bit_words.specs.Lists.{is_at}
use Rattle.bit_words.proofs.Finds.{find-least, find-none, least-find, none-find}
use Rattle.id_names.specs.Names.{is_id}
use Rattle.id_names.specs.Faults.{is_rising, is_ordered, first_failing}

-- the first number that fails a test, and none where all pass
pub failing_none : (test : ℕ → Bool) (n : ℕ) → ((k : ℕ) → k < n → test k ≡ true) → first_failing test n ≡ None
failing_none test n all = find-none (λ j. not (test j)) 0 n (λ j a b. ap not (all j (omega arith)))

pub failing_some : (test : ℕ → Bool) (n j : ℕ) → j < n → ((k : ℕ) → k < j → test k ≡ true) → test j ≡ false → first_failing test n ≡ Some j
failing_some test n j within before here =
    find-least (λ j. not (test j)) 0 n j (record {
      from = omega arith;
      within = omega arith;
      passes = ap not here;
      before = λ k a b. ap not (before k b);
    })

pub none_failing : (test : ℕ → Bool) (n : ℕ) → first_failing test n ≡ None → (k : ℕ) → k < n → test k ≡ true
none_failing test n e k h = not-false _ (none-find (λ j. not (test j)) 0 n e k (omega arith) (omega arith))

-- what it says that a number is the first that fails
pub record IsFirstFailing (test : ℕ → Bool) (n j : ℕ) : Type 0 where
  pub within : j < n
  pub fails : test j ≡ false
  pub before : (k : ℕ) → k < j → test k ≡ true

pub some_failing : (test : ℕ → Bool) (n j : ℕ) → first_failing test n ≡ Some j → IsFirstFailing test n j
some_failing test n j e =
    let least = least-find (λ j. not (test j)) 0 n j e in
    record {
      within = omega (arith, least.within);
      fails = not-true (test j) least.passes;
      before = λ k h. not-false (test k) (least.before k (omega arith) h);
    }

-- what the id at a place is where the place has no fault
pub record IsRising (bound : ℕ) (id : ℕ → ℕ) (j : ℕ) : Type 0 where
  pub least : 1 ≤ id j
  pub within : id j < bound
  pub above : 0 < j → id (j - 1) < id j

pub rising_parts : (bound : ℕ) (id : ℕ → ℕ) (j : ℕ) → is_rising bound id j ≡ true → IsRising bound id j
rising_parts bound id j h =
    let last = nat_lt (id (j - 1)) (id j) in
    let p = and_parts (is_id bound (id j)) (cond (eqb j 0) true last) h in
    let r = and_parts (nat_le 1 (id j)) (nat_lt (id j) bound) p.0 in
    record {
      least = leb-true 1 (id j) r.0;
      within = ltb-true (id j) bound r.1;
      above = λ some. ltb-true (id (j - 1)) (id j) (sym (cond-false (eqb j 0) true last (ne_eqb j 0 (λ e. omega arith))) ∙ p.1);
    }

pub rising_test : (bound : ℕ) (id : ℕ → ℕ) (j : ℕ) → IsRising bound id j → is_rising bound id j ≡ true
rising_test bound id j h =
    let last = nat_lt (id (j - 1)) (id j) in
    let above : cond (eqb j 0) true last ≡ true = elim (cases_lt 0 j) [
      | inl some ↦ cond-false (eqb j 0) true last (ne_eqb j 0 (λ e. omega arith)) ∙ lt-ltb (id (j - 1)) (id j) (h.above some)
      | inr none ↦ cond-true (eqb j 0) true last (eq-eqb j 0 (omega arith))
    ] in
    and_from _ _ (and_from _ _ (le-leb 1 (id j) h.least) (lt-ltb (id j) bound h.within)) above

pub not_rising : (bound : ℕ) (id : ℕ → ℕ) (j : ℕ) → (IsRising bound id j → ⊥) → is_rising bound id j ≡ false
not_rising bound id j h = false_from_ne_true (is_rising bound id j) (λ e. h (rising_parts bound id j e))

-- an id that is not above the one before
pub low_id : (bound : ℕ) (id : ℕ → ℕ) (j last : ℕ) → (j ≡ 0 → last ≡ 0) → (0 < j → last ≡ id (j - 1)) → id j ≤ last → IsRising bound id j → ⊥
low_id bound id j last first later h n = elim (cases_lt 0 j) [
  | inl some ↦ omega (arith, later some, n.above some)
  | inr none ↦ omega (arith, first (omega arith), n.least)
]

pub high_id : (bound : ℕ) (id : ℕ → ℕ) (j last : ℕ) → (0 < j → last ≡ id (j - 1)) → last < id j → id j < bound → IsRising bound id j
high_id bound id j last later above within = record {
  least = omega arith;
  within = within;
  above = λ some. omega (arith, later some);
}

at_some : (o : Option ℕ) (k : ℕ) → is_at o k ≡ true → o ≡ Some k
at_some None k e = cc
at_some (Some i) k e = ap Some (eqb-true i k e)

-- what a number without fault says
pub record IsOrdered (places : List ℕ) (number : ℕ → Option ℕ) (k : ℕ) : Type 0 where
  pub within : get_or places k 0 < length places
  pub found : number (get_or places k 0) ≡ Some k

pub ordered_parts : (places : List ℕ) (number : ℕ → Option ℕ) (k : ℕ) → is_ordered places number k ≡ true → IsOrdered places number k
ordered_parts places number k h =
    let p = and_parts (nat_lt (get_or places k 0) (length places)) (is_at (number (get_or places k 0)) k) h in
    record { within = ltb-true (get_or places k 0) (length places) p.0; found = at_some (number (get_or places k 0)) k p.1 }

pub ordered_test : (places : List ℕ) (number : ℕ → Option ℕ) (k : ℕ) → IsOrdered places number k → is_ordered places number k ≡ true
ordered_test places number k h =
    let e : is_at (number (get_or places k 0)) k ≡ true = ap (λ o. is_at o k) h.found ∙ eq-eqb k k refl in
    and_from _ _ (lt-ltb (get_or places k 0) (length places) h.within) e

pub not_ordered : (places : List ℕ) (number : ℕ → Option ℕ) (k : ℕ) → (IsOrdered places number k → ⊥) → is_ordered places number k ≡ false
not_ordered places number k h = false_from_ne_true (is_ordered places number k) (λ e. h (ordered_parts places number k e))
