-- Numbers that are followed along the places, from a mark to the next and round a short cycle.
use Rattle.std.proofs.Common.{◌≡◌, ℕ, suc, ◌+◌, ◌<◌, ◌≤◌, inl, inr, Bool, false, List, length, get_or, refl, ap, sym, subst, ◌∙◌, arith}
use Rattle.std.proofs.lemmas.Bool.{cases_lt, both_ways}
use Rattle.id_names.specs.Inverse.{stride}
use Rattle.id_names.specs.Ways.{after, is_marked, IsFollowed, IsShortCycle, begun}
use Rattle.id_names.specs.declared.ways.Way.{Way}

pub next_after : (places : List ℕ) (k x number next : ℕ) → number ≡ after places k x → next ≡ get_or places number 0 → next ≡ after places (k + 1) x
next_after places k x number next at is =
    let e : suc k ≡ k + 1 = omega arith in
    is ∙ ap (λ y. get_or places y 0) at ∙ ap (λ n. after places n x) e

-- after k steps from a number neither a mark nor a number that is not above it has come
pub record IsAbove (places : List ℕ) (marks : List Bool) (least number k : ℕ) : Type 0 where
  pub at : number ≡ after places k least
  pub within : (i : ℕ) → i ≤ k → after places i least < length places
  pub free : (i : ℕ) → i < k → is_marked places marks i least ≡ false
  pub above : (i : ℕ) → 1 ≤ i → i ≤ k → least < after places i least

module _ (places : List ℕ) (marks : List Bool) where
  -- the steps before one, and that one
  up_to : (P : ℕ → Type 0) (k : ℕ) → ((i : ℕ) → i ≤ k → P i) → P (k + 1) → (i : ℕ) → i ≤ k + 1 → P i
  up_to P k before last i h = elim (cases_lt i (k + 1)) [
    | inl less ↦ before i (omega arith)
    | inr end ↦ let e : k + 1 ≡ i = omega arith in subst P e last
  ]

  at_first : (x : ℕ) → x < length places → (i : ℕ) → i ≤ 0 → after places i x < length places
  at_first x h i l = let e : 0 ≡ i = omega arith in subst (λ i. after places i x < length places) e h

  pub followed_none : (mark : ℕ) → mark < length places → IsFollowed places marks (begun mark)
  followed_none mark h = record {
    at = refl;
    within = at_first mark h;
    free = λ k some less. absurd (omega arith);
    last = λ some. absurd (omega arith);
    some = λ ended. absurd (both_ways _ refl ended);
  }

  -- one step more
  abbrev stepped_to : Way → ℕ → Bool → Way
  stepped_to way number has_ended = record { mark = way.mark; number = number; passed = way.passed + 1; has_ended = has_ended }

  pub followed_more : (way : Way) (number : ℕ) (has_ended : Bool) → IsFollowed places marks way → way.has_ended ≡ false → number ≡ get_or places way.number 0 → number < length places → get_or marks number false ≡ has_ended → IsFollowed places marks (stepped_to way number has_ended)
  followed_more way number has_ended f going is within ends =
      let e = next_after places way.passed way.mark way.number number f.at is in
      record {
        at = e;
        within = up_to (λ k. after places k way.mark < length places) way.passed f.within (subst (λ y. y < length places) e within);
        free = λ k some less. elim (cases_lt k way.passed) [
          | inl before ↦ f.free k some before
          | inr end ↦ let same : way.passed ≡ k = omega arith in subst (λ k. 1 ≤ k → is_marked places marks k way.mark ≡ false) same (λ one. f.last one ∙ going) some
        ];
        last = λ some. ap (λ y. get_or marks y false) (sym e) ∙ ends;
        some = λ ended. omega arith;
      }

  pub above_none : (least : ℕ) → least < length places → IsAbove places marks least least 0
  above_none least h = record {
    at = refl;
    within = at_first least h;
    free = λ i none. absurd (omega arith);
    above = λ i some none. absurd (omega arith);
  }

  free_before : (least number k : ℕ) → IsAbove places marks least number k → get_or marks number false ≡ false → (i : ℕ) → i < k + 1 → is_marked places marks i least ≡ false
  free_before least number k a free i h = elim (cases_lt i k) [
    | inl less ↦ a.free i less
    | inr end ↦ let e : k ≡ i = omega arith in subst (λ i. is_marked places marks i least ≡ false) e (ap (λ y. get_or marks y false) (sym a.at) ∙ free)
  ]

  pub above_more : (least number next k : ℕ) → IsAbove places marks least number k → get_or marks number false ≡ false → next ≡ get_or places number 0 → next < length places → least < next → IsAbove places marks least next (k + 1)
  above_more least number next k a free is within above =
      let e = next_after places k least number next a.at is in
      record {
        at = e;
        within = up_to (λ i. after places i least < length places) k a.within (subst (λ y. y < length places) e within);
        free = free_before least number k a free;
        above = λ i some most. up_to (λ i. 1 ≤ i → least < after places i least) k (λ i l s. a.above i s l) (λ s. subst (λ y. least < y) e above) i most some;
      }

  pub above_cycle : (least number next k : ℕ) → IsAbove places marks least number k → get_or marks number false ≡ false → next ≡ get_or places number 0 → next ≡ least → k < stride (length places) + 1 → IsShortCycle places marks least (k + 1)
  above_cycle least number next k a free is ends few =
      let e = next_after places k least number next a.at is in
      record {
        some = omega arith;
        few = omega arith;
        within = λ i l. a.within i (omega arith);
        free = free_before least number k a free;
        above = λ i some l. a.above i some (omega arith);
        ends = sym e ∙ ends;
      }
