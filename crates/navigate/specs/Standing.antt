-- Where a walk to the faces across the edges of a face stands.
use Rattle.std.specs.Prelude.{ℕ, ◌≡◌, ◌≢◌, ◌≤◌, ◌+◌, false, List, ◌∷◌, take, drop, length}
use Rattle.plane_model.specs.Sets.{has}
use Rattle.file_laws.specs.Contents.{Contents}
use Rattle.navigate.specs.Beside.{place_across, adjacent_places, unseen}

-- g is the place across the edge at p, another than `place` and not seen
pub record IsUnseen (c : Contents) (place : ℕ) (seen : List ℕ) (p g : ℕ) : Type 0 where
  pub face : g ≡ place_across c p
  pub other : g ≢ place
  pub new : has seen g ≡ false
  pub low : g ≤ length c.faces

-- of the places across the edges at `all` the first `count` were given: the rest lies across the edges at `left`, the
-- next of it, `next`, across the first
pub record IsStanding (c : Contents) (place : ℕ) (all left : List ℕ) (count next : ℕ) : Type 0 where
  pub stays : drop count (adjacent_places c place all) ≡ unseen c place (take count (adjacent_places c place all)) left
  pub ahead : (p : ℕ) (ps : List ℕ) → left ≡ p ∷ ps → IsUnseen c place (take count (adjacent_places c place all)) p next
  pub few : length (adjacent_places c place all) ≤ length c.faces + 1
