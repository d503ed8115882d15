use Rattle.std.proofs.Common.{◌≡◌, ℕ, List, eqb, subst, sym}
use Rattle.std.specs.List.{Contains, dedup}
use Rattle.std.specs.List.Sorted.{IsStrictlyIncreasing}
use Rattle.std.proofs.lemmas.List.Sorted.{Contains-permutation, IsPermutation-sym}
use Rattle.std.proofs.lemmas.List.Filters.{dedup_is}
use Rattle.std.proofs.lemmas.List.Kept.{Contains-dedup_nat, Contains-from_dedup}
use Rattle.std.proofs.lemmas.Map.Keys.{IsStrictlyIncreasing-dedup}
use Rattle.islands.proofs.collect.rising.Goals as goal

pub returns-clause-increasing : goal.returns-clause-increasing
returns-clause-increasing c =
    let sorted : List ℕ = c.sort_unstable.new.self.items in
    let new : List ℕ = c.dedup.new.self.items in
    let e : new ≡ dedup eqb sorted = dedup_is eqb sorted new c.dedup.ensures.filtered in
    subst (λ (xs : List ℕ). IsStrictlyIncreasing xs) (sym e) (IsStrictlyIncreasing-dedup sorted c.sort_unstable.ensures.sorted)

pub returns-clause-all : goal.returns-clause-all
returns-clause-all c i h =
    let sorted : List ℕ = c.sort_unstable.new.self.items in
    let new : List ℕ = c.dedup.new.self.items in
    let e : new ≡ dedup eqb sorted = dedup_is eqb sorted new c.dedup.ensures.filtered in
    subst (λ (xs : List ℕ). Contains xs i) (sym e) (Contains-dedup_nat sorted i (Contains-permutation c.args.numbers.items sorted i c.sort_unstable.ensures.permutation h))

pub returns-clause-only : goal.returns-clause-only
returns-clause-only c i h =
    let sorted : List ℕ = c.sort_unstable.new.self.items in
    let new : List ℕ = c.dedup.new.self.items in
    let e : new ≡ dedup eqb sorted = dedup_is eqb sorted new c.dedup.ensures.filtered in
    Contains-permutation sorted c.args.numbers.items i (IsPermutation-sym c.args.numbers.items sorted c.sort_unstable.ensures.permutation) (Contains-from_dedup eqb sorted i (subst (λ (xs : List ℕ). Contains xs i) e h))
