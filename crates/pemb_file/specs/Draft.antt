-- The file of a draft.
use Rattle.std.specs.Prelude.{ℕ, List}
use Rattle.pemb_file.specs.Sealed.{sealed}
use Rattle.pemb_file.specs.declared.draft.Draft.{Draft}

-- the bytes of the file that a draft is sealed to
abbrev pub file_of_draft : Draft → List ℕ
file_of_draft d = sealed d.bytes.items
