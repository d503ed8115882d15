-- Laws of ids by number: what a number is found by, and a test of whether ids are distinct and in range.
use Rattle.std.specs.Prelude.{nat_le, nat_lt}
use Rattle.std.proofs.Common.{◌≡◌, ◌≢◌, ℕ, ◌<◌, Bool, true, eqb, List, length, get_or, refl, ap, sym, ◌∙◌, ◌&&◌, arith, Option, Some, None, nat_cmp, Less, Equal, Greater}
use Rattle.std.specs.List.{range_with_len}
use Rattle.std.proofs.lemmas.Bool.{and_parts, and_from, leb-true, ltb-true, eqb-true, eqb-false, le-leb, lt-ltb, eq-eqb, ne_eqb}
use Rattle.std.proofs.lemmas.Bool.Decides.{nat_tests}
use Rattle.std.proofs.lemmas.List.Sums.{AllPass-from_list_all, list_all-from_AllPass}
use Rattle.std.proofs.lemmas.List.FromFn.{get_or-range_with_len, length-range_with_len}
use Rattle.std.proofs.lemmas.Option.{same_Some}
use Rattle.bit_words.specs.Lists.{is_at}
use Rattle.bit_words.proofs.Finds.{find-least, find-none, least-find, none-find}
use Rattle.id_names.specs.Names.{is_id, AreDistinct, AreDistinctIds, number_of, is_names}

-- the number that has an id is found
pub number_of-at : (ids : List ℕ) (k id : ℕ) → AreDistinct ids → k < length ids → get_or ids k 0 ≡ id → number_of ids id ≡ Some k
unfolding number_of
number_of-at ids k id distinct h e =
    find-least (λ k. eqb (get_or ids k 0) id) 0 (length ids) k (record {
      from = omega arith;
      within = omega arith;
      passes = eq-eqb (get_or ids k 0) id e;
      before = λ q a b. ne_eqb (get_or ids q 0) id (λ f.
          let same : q ≡ k = distinct q k (omega arith) h (f ∙ sym e) in
          omega arith);
    })

-- and none where no number has it
pub number_of-none : (ids : List ℕ) (id : ℕ) → ((k : ℕ) → k < length ids → get_or ids k 0 ≢ id) → number_of ids id ≡ None
unfolding number_of
number_of-none ids id none = find-none (λ k. eqb (get_or ids k 0) id) 0 (length ids) (λ q a b. ne_eqb (get_or ids q 0) id (none q (omega arith)))

-- what a comparison of two numbers tells
pub less_is : (a b : ℕ) → nat_cmp a b ≡ Less → a < b
less_is a b e = grind (arith, nat_tests)

pub equal_is : (a b : ℕ) → nat_cmp a b ≡ Equal → a ≡ b
equal_is a b e = grind (arith, nat_tests)

pub greater_is : (a b : ℕ) → nat_cmp a b ≡ Greater → b < a
greater_is a b e = grind (arith, nat_tests)

-- a number that is found has the id
pub number_of-found : (ids : List ℕ) (id k : ℕ) → number_of ids id ≡ Some k → (k < length ids) × (get_or ids k 0 ≡ id)
unfolding number_of
number_of-found ids id k e =
    let p = λ (k : ℕ). eqb (get_or ids k 0) id in
    let least = least-find p 0 (length ids) k e in
    (omega (arith, least.within), eqb-true (get_or ids k 0) id least.passes)

pub number_of-missing : (ids : List ℕ) (id : ℕ) → number_of ids id ≡ None → (k : ℕ) → k < length ids → get_or ids k 0 ≢ id
unfolding number_of
number_of-missing ids id e k h f = eqb-false (get_or ids k 0) id (none-find (λ (k : ℕ). eqb (get_or ids k 0) id) 0 (length ids) e k (omega arith) (omega arith)) f

at_some : (o : Option ℕ) (k : ℕ) → is_at o k ≡ true → o ≡ Some k
at_some None k e = cc
at_some (Some i) k e = ap Some (eqb-true i k e)

-- what `is_names` tests at a number
abbrev is_own : ℕ → List ℕ → ℕ → Bool
is_own bound ids k = is_id bound (get_or ids k 0) && is_at (number_of ids (get_or ids k 0)) k

pub names_pass : (bound : ℕ) (ids : List ℕ) → AreDistinctIds bound ids → is_names bound ids ≡ true
unfolding is_names
names_pass bound ids names = list_all-from_AllPass (is_own bound ids) (range_with_len 0 (length ids)) (λ k d h.
    let n = length ids in
    let l : k < n = rw length-range_with_len at h in
    let e : get_or (range_with_len 0 n) k d ≡ k = get_or-range_with_len 0 n k d l ∙ omega arith in
    let id = get_or ids k 0 in
    let r = names.in_range k l in
    let found : number_of ids id ≡ Some k = number_of-at ids k id names.distinct l refl in
    let own : is_own bound ids k ≡ true = and_from (is_id bound id) (is_at (number_of ids id) k) (and_from _ _ (le-leb 1 id r.0) (lt-ltb id bound r.1)) (ap (λ o. is_at o k) found ∙ eq-eqb k k refl) in
    ap (is_own bound ids) e ∙ own)

own_from_test : (bound : ℕ) (ids : List ℕ) → is_names bound ids ≡ true → (k : ℕ) → k < length ids → is_own bound ids k ≡ true
unfolding is_names
own_from_test bound ids t k l =
    let n = length ids in
    let e : get_or (range_with_len 0 n) k 0 ≡ k = get_or-range_with_len 0 n k 0 l ∙ omega arith in
    sym (ap (is_own bound ids) e) ∙ AllPass-from_list_all (is_own bound ids) (range_with_len 0 n) t k 0 (rw length-range_with_len l)

pub names_from_test : (bound : ℕ) (ids : List ℕ) → is_names bound ids ≡ true → AreDistinctIds bound ids
names_from_test bound ids t =
    let parts = λ (k : ℕ) (l : k < length ids). and_parts (is_id bound (get_or ids k 0)) (is_at (number_of ids (get_or ids k 0)) k) (own_from_test bound ids t k l) in
    record {
      in_range = λ k l.
          let id = get_or ids k 0 in
          let r = and_parts (nat_le 1 id) (nat_lt id bound) (parts k l).0 in
          (leb-true 1 id r.0, ltb-true id bound r.1);
      distinct = λ j k h l e.
          let a : number_of ids (get_or ids j 0) ≡ Some j = at_some (number_of ids (get_or ids j 0)) j (parts j h).1 in
          let b : number_of ids (get_or ids k 0) ≡ Some k = at_some (number_of ids (get_or ids k 0)) k (parts k l).1 in
          same_Some j k (sym a ∙ ap (number_of ids) e ∙ b);
    }
