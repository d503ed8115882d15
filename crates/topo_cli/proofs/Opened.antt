-- The map of a file that was opened, and what it cost.
use Rattle.std.proofs.Common.{◌≡◌, ℕ, ◌+◌, ◌*◌, ◌≤◌, List, IsTrue, None, is_none, ap, subst}
use Rattle.bit_words.specs.Digits.{digits}
use Rattle.plane_model.specs.PlaneMap.{map_of}
use Rattle.plane_model.specs.Consistent.{size}
use Rattle.file_laws.specs.Layout.{counts_in, words_of}
use Rattle.file_laws.specs.Contents.{Contents}
use Rattle.file_laws.specs.Held.{contents_of}
use Rattle.file_laws.specs.Lawful.{file_size, first_fault, is_lawful, map_of_file}
use Rattle.navigate.specs.Bound.{map_with}
use Rattle.topo_cli.specs.Outcome.{words_to_open}

pub lawful_from : (bytes : List ℕ) → first_fault bytes ≡ None → IsTrue (is_lawful bytes)
lawful_from bytes is = ap is_none is

pub map_is : (bytes : List ℕ) (c : Contents) → c ≡ contents_of (words_of bytes) → map_with c ≡ map_of (map_of_file bytes)
unfolding map_of_file
map_is bytes c is = ap map_with is

-- the bound of opening by the size of the map
pub cost_is : (bytes : List ℕ) (before after : ℕ) → file_size (counts_in (words_of bytes)) ≡ size (map_of (map_of_file bytes))
    → after ≤ before + 1024 * digits (file_size (counts_in (words_of bytes))) * (file_size (counts_in (words_of bytes)) + 2) → after ≤ before + words_to_open (map_of (map_of_file bytes))
cost_is bytes before after same h = let P : ℕ → Type 0 = λ n. after ≤ before + 1024 * digits n * (n + 2) in subst P same h
