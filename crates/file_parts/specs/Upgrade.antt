-- What the file of form 2 of another file's map is.
use Rattle.std.specs.Prelude.{ℕ, ◌≡◌, List, IsTrue}
use Rattle.plane_model.specs.Rows.{Rows}
use Rattle.file_laws.specs.Layout.{counts_in, words_of}
use Rattle.file_laws.specs.Held.{contents_of}
use Rattle.file_laws.specs.Image.{image_of}
use Rattle.file_laws.specs.Lawful.{StandsFor, is_lawful, map_of_file}

-- the one image of form 2 of what the old file holds: lawful, and its map is the old one's, so it stands for the same
-- tables
pub record IsUpgradeOf (old new : List ℕ) : Type 0 where
  pub is : new ≡ image_of 2 (contents_of (words_of old))
  pub form : (counts_in (words_of new)).form ≡ 2
  pub lawful : IsTrue (is_lawful new)
  pub contents : contents_of (words_of new) ≡ contents_of (words_of old)
  pub map : map_of_file new ≡ map_of_file old
  pub stands : (t : Rows) → StandsFor old t → StandsFor new t
