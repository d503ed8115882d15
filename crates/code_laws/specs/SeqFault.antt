-- When three sequences of bits are a code, and the first thing that is wrong where they are not.
use Rattle.std.specs.Prelude.{ℕ, ◌+◌, ◌-◌, ◌==◌, Bool, true, false, not, ◌&&◌, nat_lt, if◌then◌else◌, [], ◌∷◌, length, find, Option, Some, None, option_map, is_none}
use Rattle.std.specs.List.{range_with_len}
use Rattle.bit_words.specs.Lists.{first_some}
use Rattle.bit_words.specs.Bits.{rank}
use Rattle.parens.specs.Matching.{is_balanced}
use Rattle.code_laws.specs.Code.{Code, parens, place, start_of, end_of, component_count}
use Rattle.code_laws.specs.declared.seq_fault.SeqFault.{SeqFault}
use Rattle.code_laws.specs.declared.seq_fault.SeqFault.TheVariants.{Starts, Ones, Tree, Dual}

-- entry j of the starts is above the one before it, the first is 0 and the last is the number of positions
abbrev pub is_start : Code → ℕ → Bool
is_start c j =
    (if j == 0 then start_of c j == 0 else nat_lt (start_of c (j - 1)) (start_of c j))
    && (if j + 1 == length c.starts then start_of c j == length c.a else true)

abbrev pub starts_fault : Code → Option ℕ
starts_fault c = find (λ j. not (is_start c j)) (range_with_len 0 (length c.starts))

-- component j's part of the parentheses of a kind is balanced
abbrev pub is_balanced_in : Code → Bool → ℕ → Bool
is_balanced_in c kind j = is_balanced (parens c kind) (place c kind (start_of c j)) (place c kind (end_of c j))

abbrev pub balance_fault_of : Code → Bool → Option ℕ
balance_fault_of c kind = find (λ j. not (is_balanced_in c kind j)) (range_with_len 0 (component_count c))

abbrev pub ones_fault : Code → Option ℕ
ones_fault c = let ones = rank true c.a (length c.a) in if ones == length c.tree then None else Some ones

unfoldable pub seq_fault : Code → Option SeqFault
seq_fault c =
    first_some (
    option_map Starts (starts_fault c)
    ∷ option_map Ones (ones_fault c)
    ∷ option_map Tree (balance_fault_of c true)
    ∷ option_map Dual (balance_fault_of c false)
    ∷ [])

-- A code: at least one start, a parenthesis for each position, and no fault.
abbrev pub is_sound : Code → Bool
is_sound c = nat_lt 0 (length c.starts) && (length c.tree + length c.dual == length c.a) && is_none (seq_fault c)
