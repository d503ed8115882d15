-- How numbers are spelled: plain decimal digits, with no sign but a '-', no leading zero, and none above the greatest
-- id.
use Rattle.std.specs.Prelude.{ℕ, ◌+◌, ◌*◌, ◌-◌, ℤ, pos, neg_ℤ, ◌&&◌, nat_lt, nat_le, slice_index, length, ◌==◌, if◌then◌else◌, List, [], ◌∷◌, Option, Some, None, option_map, option_and_then}
use Rattle.std.specs.Char.{is_ascii_digit}
use Rattle.topo_base.specs.declared.id.TheConstants.{LARGEST_ID}

-- the value of these digits behind a number, or nothing where a byte is no digit
unfoldable pub digits_behind : ℕ → List ℕ → Option ℕ
digits_behind n [] = Some n
digits_behind n (b ∷ bytes) = if is_ascii_digit b then digits_behind (10 * n + (b - 48)) bytes else None

-- plain decimal: at least one digit, and none of several is a leading zero
abbrev pub plain_decimal : List ℕ → Option ℕ
plain_decimal bytes =
    if length bytes == 0 then None
    else if nat_lt 1 (length bytes) && (slice_index bytes 0 == 48) then None
    else digits_behind 0 bytes

-- the number, where it is from least to the greatest id
abbrev pub in_range : ℕ → ℕ → Option ℕ
in_range least n = if nat_le least n && nat_le n LARGEST_ID then Some n else None

-- an id from 0 on
abbrev pub id_number : List ℕ → Option ℕ
id_number bytes = option_and_then (in_range 0) (plain_decimal bytes)

-- an id from 1 on
abbrev pub positive_number : List ℕ → Option ℕ
positive_number bytes = option_and_then (in_range 1) (plain_decimal bytes)

-- a signed edge: an optional '-', and an id from 1 on
abbrev pub signed_number : List ℕ → Option ℤ
signed_number [] = None
signed_number (b ∷ bytes) = if b == 45 then option_map (λ n. neg_ℤ (pos n)) (positive_number bytes) else option_map pos (positive_number (b ∷ bytes))
