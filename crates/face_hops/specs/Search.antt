-- A search by breadth on its way from the face at a place: numbers by place, and a queue of places.
use Rattle.std.specs.Prelude.{◌≡◌, ℕ, ◌+◌, ◌<◌, ◌≤◌, ◌==◌, ◌⊎◌, if◌then◌else◌, IsTrue, List, length, slice_index, slice_set}
use Rattle.plane_model.specs.Sets.{has}
use Rattle.plane_model.specs.Lists.{adjacent}
use Rattle.plane_model.specs.Hops.{is_within}
use Rattle.file_laws.specs.Contents.{Contents}
use Rattle.file_laws.specs.MapOfFile.{face_at_place}
use Rattle.navigate.specs.Bound.{map_with}

-- what is known of a number by place, 0 where none is, and of the places queued: those before `head` were gone round
pub record IsSearch (c : Contents) (to : ℕ) (number queue : ℕ → ℕ) (head tail : ℕ) : Type 0 where
  pub begins : number to ≡ 1
  pub started : 0 < tail
  pub within : head ≤ tail
  -- the queue has each place that has a number, once
  pub place : (i : ℕ) → i < tail → queue i ≤ length c.faces
  pub numbered : (i : ℕ) → i < tail → 0 < number (queue i)
  pub queued : (p : ℕ) → p ≤ length c.faces → 0 < number p → (i : ℕ) × (i < tail) × (queue i ≡ p)
  pub apart : (i j : ℕ) → i < tail → j < tail → queue i ≡ queue j → i ≡ j
  -- numbers do not fall along the queue, and are at most one more than where it begins
  pub rising : (i j : ℕ) → i ≤ j → j < tail → number (queue i) ≤ number (queue j)
  pub near : (j : ℕ) → head < tail → j < tail → number (queue j) ≤ number (queue head) + 1
  pub few : (i : ℕ) → i < tail → number (queue i) ≤ i + 1
  -- a number n + 1 stands for a path of n moves
  pub path : (p n : ℕ) → p ≤ length c.faces → number p ≡ n + 1 → IsTrue (is_within n (map_with c) (face_at_place c p) (face_at_place c to))
  -- beside a face that was gone round each has a number, at most one more
  pub passed : (i p : ℕ) → i < head → p ≤ length c.faces → IsTrue (has (adjacent (map_with c) (face_at_place c (queue i))) (face_at_place c p)) → (0 < number p) × (number p ≤ number (queue i) + 1)

-- each face beside the one at a place has a number, or is among some that are still to come
abbrev pub IsHalfRound : Contents → (ℕ → ℕ) → ℕ → List ℕ → Type 0
IsHalfRound c number place coming =
    (p : ℕ) → p ≤ length c.faces → IsTrue (has (adjacent (map_with c) (face_at_place c place)) (face_at_place c p)) → ((0 < number p) × (number p ≤ number place + 1)) ⊎ IsTrue (has coming p)

-- the numbers, and the queue with its end, once a place has a number
abbrev pub numbers_with : List ℕ → ℕ → ℕ → List ℕ
numbers_with ds place number = if slice_index ds place == 0 then slice_set ds place number else ds

abbrev pub queue_with : List ℕ → List ℕ → ℕ → ℕ → List ℕ
queue_with ds qs tail place = if slice_index ds place == 0 then slice_set qs tail place else qs

abbrev pub tail_with : List ℕ → ℕ → ℕ → ℕ
tail_with ds tail place = if slice_index ds place == 0 then tail + 1 else tail
