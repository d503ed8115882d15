use Rattle.std.proofs.Common.{◌≡◌, ◌<◌, ◌≤◌, ℕ, inl, inr, length, arith}
use Rattle.std.specs.Prelude.{Err}
use Rattle.std.proofs.lemmas.Bool.{cases_lt}
use Rattle.std.proofs.lemmas.List.Sorted.{searched}
use Rattle.region_tree.proofs.Lookups.{not_there}
use Rattle.region_tree.proofs.rows.place_of.Goals as goal

pub returns-in-Err : goal.returns-in-Err
returns-in-Err c =
    let ids = c.args.ids.now in
    let id = c.args.id in
    let s = searched ids id (Err c.in-Err.field-0) c.in-Err.ensures.position (λ i j le lt. c.requires.rising i j 0 le lt) in
    not_there ids id (λ k l e. elim (cases_lt k c.in-Err.field-0) [
      | inl before ↦ let less = s.1 k before in omega (arith, less, e)
      | inr after ↦ let more = s.2 k after l in omega (arith, more, e)
    ])
