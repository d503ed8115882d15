-- A round over numbered rings, faces and components: the rings through which components are reached, and the faces
-- beside them.
use Rattle.std.specs.Prelude.{◌≡◌, ◌<◌, ◌⊎◌, ℕ, Bool, true, false, not, IsTrue, List, [], ◌∷◌, flat_map, length, slice_index, slice_index_or}
use Rattle.std.specs.List.{filter}
use Rattle.plane_model.specs.Sets.{has}

-- whether the number k is marked
abbrev pub is_marked : List Bool → ℕ → Bool
is_marked marks k = slice_index_or marks k false

-- each number is below those behind it
abbrev pub AreIncreasing : List ℕ → Type 0
AreIncreasing [] = Unit
AreIncreasing (x ∷ xs) = ((y : ℕ) → IsTrue (has xs y) → x < y) × AreIncreasing xs

-- the rings on the faces of the front whose component was not reached
pub record AreRoundRings (faces components front : List ℕ) (reached : List Bool) (now : List ℕ) : Type 0 where
  pub increases : AreIncreasing now
  pub sound : (i : ℕ) → IsTrue (has now i) → (i < length faces) × IsTrue (has front (slice_index faces i)) × (is_marked reached (slice_index components i) ≡ false)
  pub complete : (i : ℕ) → i < length faces → IsTrue (has front (slice_index faces i)) → is_marked reached (slice_index components i) ≡ false → IsTrue (has now i)

-- the faces beside the components of these rings that were not entered
pub record AreNextFaces (faces components now : List ℕ) (entered : List Bool) (next : List ℕ) : Type 0 where
  pub sound : (f : ℕ) → IsTrue (has next f) → (is_marked entered f ≡ false) × ((i : ℕ) × (j : ℕ) × IsTrue (has now i) × (j < length faces) × (slice_index components j ≡ slice_index components i) × (slice_index faces j ≡ f))
  pub complete : (i j : ℕ) → IsTrue (has now i) → j < length faces → slice_index components j ≡ slice_index components i → is_marked entered (slice_index faces j) ≡ false → IsTrue (has next (slice_index faces j))

-- what is marked after these were: what was marked before, and the keys of these
pub record KeysAreMarked (key : ℕ → ℕ) (now : List ℕ) (old new : List Bool) : Type 0 where
  pub same : length new ≡ length old
  pub stays : (k : ℕ) → is_marked old k ≡ true → is_marked new k ≡ true
  pub marks : (i : ℕ) → IsTrue (has now i) → is_marked new (key i) ≡ true
  pub only : (k : ℕ) → is_marked new k ≡ true → is_marked old k ≡ false → (i : ℕ) × IsTrue (has now i) × (key i ≡ k)

-- a ring's component was not reached
abbrev pub is_fresh : List ℕ → List Bool → ℕ → Bool
is_fresh components reached i = not (is_marked reached (slice_index components i))

-- the rings on these faces that were not reached, in order and as often as they come
abbrev pub fresh_on : List ℕ → List Bool → (ℕ → List ℕ) → List ℕ → List ℕ
fresh_on components reached on_face front = flat_map (λ f. filter (is_fresh components reached) (on_face f)) front

-- the faces of some rings are entered, and those that were not before are appended
pub record AreEntered (faces : List ℕ) (P : ℕ → Type 0) (old new : List Bool) (before after : List ℕ) : Type 0 where
  pub same : length new ≡ length old
  pub stays : (k : ℕ) → is_marked old k ≡ true → is_marked new k ≡ true
  pub all : (q : ℕ) → P q → is_marked new (slice_index faces q) ≡ true
  pub kept : (f : ℕ) → IsTrue (has before f) → IsTrue (has after f)
  pub added : (f : ℕ) → IsTrue (has after f) → IsTrue (has before f) ⊎ ((is_marked old f ≡ false) × (is_marked new f ≡ true) × ((q : ℕ) × P q × (slice_index faces q ≡ f)))
  pub opened : (k : ℕ) → is_marked old k ≡ false → is_marked new k ≡ true → IsTrue (has after k)

-- the faces of the rings of a list
abbrev pub AreAllEntered : List ℕ → List ℕ → List Bool → List Bool → List ℕ → List ℕ → Type 0
AreAllEntered faces rings old new before after = AreEntered faces (λ q. IsTrue (has rings q)) old new before after

-- a ring in the component of one of these
abbrev pub IsBeside : List ℕ → List ℕ → List ℕ → ℕ → Type 0
IsBeside faces components now q = (q < length faces) × ((i : ℕ) × IsTrue (has now i) × (slice_index components q ≡ slice_index components i))
