-- The ids of a rising list by their high and low parts.
use Rattle.std.proofs.Common.{◌≡◌, ℕ, ◌+◌, ◌*◌, ◌/◌, ◌%◌, ◌^◌, ◌<◌, ◌≤◌, Bool, List, length, get_or, arith}
use Rattle.std.proofs.lemmas.Nat.{pow_pos, pow-add, mod_below, div-mul-add, mod-mul-add}
use Rattle.std.proofs.Math.Nat.{mul-le-mul_right, pow-le-pow_right}
use Rattle.bit_words.specs.Bits.{field_at, fields_in}
use Rattle.bit_words.proofs.BitLists.{length-tabulate}
use Rattle.bit_words.proofs.Streams.{get_or-fields_in}
use Rattle.id_names.specs.Rising.{high_part, rising_at}

length-fields_in : (words : List ℕ) (count width : ℕ) → length (fields_in words count width) ≡ count
unfolding fields_in
length-fields_in words count width = length-tabulate count _

at_small : (words : List ℕ) (from width : ℕ) → field_at words from width < 2 ^ width
unfolding field_at
at_small words from width = mod_below _ (2 ^ width) (pow_pos width)

-- a field is below the power of its width
pub field_small : (words : List ℕ) (count width i : ℕ) → i < length (fields_in words count width) → get_or (fields_in words count width) i 0 < 2 ^ width
field_small words count width i h =
    let small = at_small words (i * width) width in
    omega (arith, small, get_or-fields_in words count width i 0 (omega (arith, h, length-fields_in words count width)))

-- what a high part and a low one make, where there are few of both
pub parts_fit : (h d low part : ℕ) → h ≤ 2 ^ d → part < 2 ^ low → d + low ≤ 63 → h * 2 ^ low + part < 2 ^ 64
parts_fit h d low part few small narrow =
    let product : h * 2 ^ low ≤ 2 ^ d * 2 ^ low = mul-le-mul_right (2 ^ low) few in
    let sum : 2 ^ (d + low) ≡ 2 ^ d * 2 ^ low = pow-add 2 d low in
    let two : 0 < 2 = omega arith in
    let a : 2 ^ (d + low) ≤ 2 ^ 63 = pow-le-pow_right two narrow in
    let l : low ≤ 63 = omega arith in
    let b : 2 ^ low ≤ 2 ^ 63 = pow-le-pow_right two l in
    omega arith

pub id_parts : (high : List Bool) (lows : List ℕ) (low j : ℕ) → get_or lows j 0 < 2 ^ low → (rising_at high lows low j / 2 ^ low ≡ high_part high j) × (rising_at high lows low j % 2 ^ low ≡ get_or lows j 0)
unfolding rising_at
id_parts high lows low j small = (div-mul-add (high_part high j) (2 ^ low) (get_or lows j 0) small, mod-mul-add (high_part high j) (2 ^ low) (get_or lows j 0) small)
