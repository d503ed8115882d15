-- A sum over ids that are asked one after the other.
use Rattle.std.specs.Prelude.{slice_index, drop, sum_by}
use Rattle.std.proofs.Common.{◌≡◌, ℕ, ◌+◌, ◌<◌, ◌≤◌, List, length, ap, ◌∙◌, arith}
use Rattle.std.proofs.lemmas.List.Sums.{sum_by-drop_more}
use Rattle.std.proofs.Math.ListN.{drop_of_length-le}

-- with what is left a total is `all`; each item was read, and what is left may read as much as stays below `most`
pub record IsSummed (items words : ℕ → ℕ) (left : List ℕ) (all first most total steps : ℕ) : Type 0 where
  pub adds_up : total + sum_by items left ≡ all
  pub least : first + total ≤ steps
  pub paid : steps + sum_by words left ≤ most

-- one id more, which is read first
pub summed_more : (items words : ℕ → ℕ) (ids : List ℕ) (k all first most total steps price middle last count id : ℕ) → IsSummed items (λ x. price + words x) (drop k ids) all first most total steps → k < length ids → id ≡ slice_index ids k
    → steps ≤ middle → middle ≤ steps + price → count ≡ items id → middle + count ≤ last → last ≤ middle + words id → IsSummed items (λ x. price + words x) (drop (k + 1) ids) all first most (total + count) last
summed_more items words ids k all first most total steps price middle last count id s l is low high counted least paid =
    let some = sum_by-drop_more items ids k 0 l in
    let read = sum_by-drop_more (λ x. price + words x) ids k 0 l in
    let one : count ≡ items (slice_index ids k) = counted ∙ ap items is in
    let cost = ap words is in
    let a = s.adds_up in
    let b = s.least in
    let c = s.paid in
    record {
      adds_up = omega (arith, a, some, one);
      least = omega (arith, b, low, least);
      paid = omega (arith, c, read, cost, high, paid);
    }

-- a sum with one id more fits where all do
pub summed_fits : (items words : ℕ → ℕ) (ids : List ℕ) (k all first most total steps count id : ℕ) → IsSummed items words (drop k ids) all first most total steps → k < length ids → id ≡ slice_index ids k → count ≡ items id → total + count ≤ all
summed_fits items words ids k all first most total steps count id s l is counted =
    let some = sum_by-drop_more items ids k 0 l in
    let one : count ≡ items (slice_index ids k) = counted ∙ ap items is in
    let a = s.adds_up in
    omega (arith, a, some, one)

-- where all were asked
pub summed_all : (items words : ℕ → ℕ) (ids : List ℕ) (k all first most total steps : ℕ) → IsSummed items words (drop k ids) all first most total steps → length ids ≤ k → total ≡ all
summed_all items words ids k all first most total steps s l =
    let none = ap (sum_by items) (drop_of_length-le ids l) in
    let a = s.adds_up in
    omega (arith, a, none)
