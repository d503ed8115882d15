-- How many of some rising places are below each of some milestones.
use Rattle.std.specs.Prelude.{ℕ, ◌<◌, ◌≤◌, ◌*◌, slice_index, slice_index_or}
use Rattle.file_laws.specs.Contents.{Contents}
use Rattle.pemb_file.specs.declared.milestones.Milestones.{Milestones}

-- where the component lies that is an entry of the order of places
abbrev pub place_at : Contents → ℕ → ℕ
place_at c j = slice_index c.places (slice_index c.place_order j)

-- so many of the places, the first ones, are below this place
pub record IsMilestone (at : ℕ → ℕ) (places place below : ℕ) : Type 0 where
  pub within : below ≤ places
  pub before : (j : ℕ) → j < below → at j < place
  pub from : (j : ℕ) → below ≤ j → j < places → place ≤ at j

-- what is put down is so of each milestone
abbrev pub AreMilestones : (ℕ → ℕ) → ℕ → Milestones → Type 0
AreMilestones at places m = (k d : ℕ) → k < m.count → IsMilestone at places (k * m.stride) (slice_index_or m.below k d)

-- those below this place end between one entry and another
pub record IsAround (at : ℕ → ℕ) (places place from to : ℕ) : Type 0 where
  pub order : from ≤ to
  pub within : to ≤ places
  pub before : (j : ℕ) → j < from → at j < place
  pub behind : (j : ℕ) → to ≤ j → j < places → place ≤ at j
