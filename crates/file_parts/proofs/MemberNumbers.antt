-- A region's number in the list of members.
use Rattle.std.specs.Prelude.{option_map, slice_index, unwrap_or}
use Rattle.std.proofs.Common.{◌≡◌, ℕ, ◌+◌, ◌==◌, List, inl, inr, sym, arith}
use Rattle.std.proofs.lemmas.Bool.{cases_Bool, eqb-true, eq-eqb, both_ways}
use Rattle.region_tree.specs.Nesting.{region_at}

pub member_back : (members : List ℕ) (place : ℕ) → unwrap_or (option_map (λ r. r + 1) (region_at members place)) 0 ≡ slice_index members place
unfolding region_at
member_back members place = elim (cases_Bool (slice_index members place == 0)) [
  | inl e ↦ rw e (sym (eqb-true (slice_index members place) 0 e))
  | inr e ↦ rw e (let other = λ (s : slice_index members place ≡ 0). both_ways _ e (eq-eqb (slice_index members place) 0 s) in omega (arith, other))
]
