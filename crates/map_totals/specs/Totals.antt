-- How many items the questions on all faces and on all nodes of a map have together, and how many words they may read.
use Rattle.std.specs.Prelude.{ℕ, ◌+◌, ◌*◌, List, ◌∷◌, length, sum_by}
use Rattle.bit_words.specs.Digits.{digits}
use Rattle.plane_model.specs.PlaneMap.{PlaneMap}
use Rattle.plane_model.specs.Lists.{node_edges, face_edges, adjacent}
use Rattle.navigate.specs.Bound.{most_words}

-- the faces of a map, face 0 among them
abbrev pub all_faces : PlaneMap → List ℕ
all_faces m = 0 ∷ m.faces

-- the numbers of signed edges along all faces and round all nodes, and of faces across the edges of all faces
unfoldable pub face_total : PlaneMap → ℕ
face_total m = sum_by (λ f. length (face_edges m f)) (all_faces m)

unfoldable pub node_total : PlaneMap → ℕ
node_total m = sum_by (λ n. length (node_edges m n)) m.nodes.keys

unfoldable pub adjacent_total : PlaneMap → ℕ
adjacent_total m = sum_by (λ f. length (adjacent m f)) (all_faces m)

-- how many words one such question may read
abbrev pub face_words : PlaneMap → ℕ → ℕ
face_words m f = most_words m (length (face_edges m f)) (length (face_edges m f))

abbrev pub node_words : PlaneMap → ℕ → ℕ
node_words m n = most_words m (length (node_edges m n)) (length (node_edges m n))

abbrev pub adjacent_words : PlaneMap → ℕ → ℕ
adjacent_words m f = most_words m (length (face_edges m f)) (length (adjacent m f))

-- how many words the id of one of so many may take
abbrev pub id_words : ℕ → ℕ
id_words count = 3 * digits (count + 2) + 20

-- how many all of one kind may read, with those of each id that is read before its question
unfoldable pub most_face_words : PlaneMap → ℕ
most_face_words m = face_words m 0 + sum_by (λ f. id_words (length m.faces) + face_words m f) m.faces

unfoldable pub most_node_words : PlaneMap → ℕ
most_node_words m = sum_by (λ n. id_words (length m.nodes.keys) + node_words m n) m.nodes.keys

unfoldable pub most_adjacent_words : PlaneMap → ℕ
most_adjacent_words m = adjacent_words m 0 + sum_by (λ f. id_words (length m.faces) + adjacent_words m f) m.faces

-- how many all of them may read
abbrev pub most_total_words : PlaneMap → ℕ
most_total_words m = most_face_words m + most_node_words m + most_adjacent_words m
