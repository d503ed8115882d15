-- Ids with no gap among them: the greatest of them tells that there is none.
use Rattle.std.proofs.Common.{◌≡◌, ◌≢◌, ℕ, zero, suc, ◌+◌, ◌-◌, ◌<◌, ◌≤◌, List, length, subst, arith, None}
use Rattle.id_names.specs.RisingNames.{RisingNames, count, id_at, ids_by_number, HasNoGap}
use Rattle.id_names.specs.Faults.{name_fault}
use Rattle.id_names.proofs.NameLaws.{length-ids, risen, rises}

module _ (p : RisingNames) (high_counts mark_counts : List ℕ) (right : name_fault p high_counts mark_counts ≡ None) where
  -- an id is above its place
  above_place : (j : ℕ) → j < count p → j + 1 ≤ id_at p j
  above_place zero h = (risen p high_counts mark_counts right zero h).least
  above_place (suc j) h =
      let before : j + 1 ≤ id_at p j = above_place j (omega arith) in
      let more : id_at p j < id_at p (suc j) = rises p high_counts mark_counts right j (suc j) (omega arith) h in
      omega (arith, before, more)

  -- so many places before another, an id is less by so many at least
  below_later : (k j : ℕ) → j + k < count p → id_at p j + k ≤ id_at p (j + k)
  below_later zero j h = let e : j + 0 ≡ j = omega arith in rw e (omega arith)
  below_later (suc k) j h =
      let before : id_at p j + k ≤ id_at p (j + k) = below_later k j (omega arith) in
      let more : id_at p (j + k) < id_at p (j + suc k) = rises p high_counts mark_counts right (j + k) (j + suc k) (omega arith) h in
      omega (arith, before, more)

  -- where the greatest is as great as they are many, each is one more than its place
  pub greatest_tells : (n : ℕ) → n ≡ count p → 0 < n → id_at p (n - 1) ≡ n → HasNoGap p
  greatest_tells n e some last j h =
      let low = above_place j h in
      let k = n - 1 - j in
      let at : j + k ≡ n - 1 = omega (arith, e, some, h) in
      let up : id_at p j + k ≤ id_at p (n - 1) = subst (λ m. id_at p j + k ≤ id_at p m) at (below_later k j (omega (arith, at, e, some))) in
      omega (arith, low, up, last, e, some, h)
