-- the tables of bytes agree with their definitions by bits, and what a look at one gives
use Rattle.std.specs.Prelude.{ℤ, pos}
use Rattle.std.specs.Int.{w8, cast_signed, cast_unsigned}
use Rattle.std.proofs.Common.{◌≡◌, ℕ, ◌+◌, ◌-◌, ◌*◌, ◌/◌, ◌%◌, ◌<◌, ◌≤◌, get_or, refl, ap, ap₂, ◌∙◌, arith}
use Rattle.std.proofs.lemmas.Int.{ints}
use Rattle.bit_words.proofs.ByteLaws.{byte_excess-bounds, byte_least-bounds, small_kept}
use Rattle.bit_words.specs.Lists.{tabulate, last_below}
use Rattle.bit_words.specs.Bits.{is_set, word_bits, rank, excess}
use Rattle.bit_words.specs.Bytes.{byte_excess, byte_least, least_front, place_or, first_fall, last_rise, fall_entry, rise_entry, place_in_byte}
use Rattle.bit_words.specs.declared.tables.TheConstants.{BYTE_EXCESSES, BYTE_LEASTS, FIRST_FALLS, LAST_RISES, PLACES_IN_BYTES}
use Rattle.bit_words.proofs.BitLists.{get_or-tabulate}

pub excesses_by_bits : BYTE_EXCESSES ≡ tabulate 256 byte_excess
unfolding tabulate byte_excess is_set word_bits rank excess
excesses_by_bits = refl

pub leasts_by_bits : BYTE_LEASTS ≡ tabulate 256 byte_least
unfolding tabulate byte_least is_set word_bits rank excess least_front
leasts_by_bits = refl

pub places_by_bits : PLACES_IN_BYTES ≡ tabulate 2048 place_in_byte
unfolding tabulate place_in_byte is_set word_bits rank
places_by_bits = refl

pub falls_by_bits : FIRST_FALLS ≡ tabulate 2048 fall_entry
unfolding tabulate fall_entry first_fall is_set word_bits rank excess
falls_by_bits = refl

pub rises_by_bits : LAST_RISES ≡ tabulate 2048 rise_entry
unfolding tabulate rise_entry last_rise last_below is_set word_bits rank excess
rises_by_bits = refl

pub excess-read : (byte : ℕ) (d : ℤ) → byte < 256 → get_or BYTE_EXCESSES byte d ≡ byte_excess byte
excess-read byte d h = ap (λ xs. get_or xs byte d) excesses_by_bits ∙ get_or-tabulate 256 byte_excess byte d h

pub least-read : (byte : ℕ) (d : ℤ) → byte < 256 → get_or BYTE_LEASTS byte d ≡ byte_least byte
least-read byte d h = ap (λ xs. get_or xs byte d) leasts_by_bits ∙ get_or-tabulate 256 byte_least byte d h

pub place-read : (i d : ℕ) → i < 2048 → get_or PLACES_IN_BYTES i d ≡ place_in_byte i
place-read i d h = ap (λ xs. get_or xs i d) places_by_bits ∙ get_or-tabulate 2048 place_in_byte i d h

-- the entry of a byte and a number from 1 to 8
module _ (byte need : ℕ) (small : byte < 256) (some : 1 ≤ need) (few : need ≤ 8) where
  row : (8 * byte + (need - 1)) / 8 ≡ byte
  row = omega arith

  column : (8 * byte + (need - 1)) % 8 + 1 ≡ need
  column = omega arith

  pub fall-read : (d : ℕ) → get_or FIRST_FALLS (8 * byte + (need - 1)) d ≡ place_or 9 (first_fall byte need)
  unfolding fall_entry
  fall-read d =
      let i = 8 * byte + (need - 1) in
      ap (λ xs. get_or xs i d) falls_by_bits ∙ get_or-tabulate 2048 fall_entry i d (omega arith) ∙ ap₂ (λ b n. place_or 9 (first_fall b n)) row column

  pub rise-read : (d : ℕ) → get_or LAST_RISES (8 * byte + (need - 1)) d ≡ place_or 8 (last_rise byte need)
  unfolding rise_entry
  rise-read d =
      let i = 8 * byte + (need - 1) in
      ap (λ xs. get_or xs i d) rises_by_bits ∙ get_or-tabulate 2048 rise_entry i d (omega arith) ∙ ap₂ (λ b n. place_or 8 (last_rise b n)) row column

-- what code reads there
pub excess-look : (byte : ℕ) → byte < 256 → cast_signed w8 (cast_unsigned w8 (get_or BYTE_EXCESSES byte (pos 0))) ≡ byte_excess byte
excess-look byte h =
    let b = byte_excess-bounds byte in
    ap (λ z. cast_signed w8 (cast_unsigned w8 z)) (excess-read byte (pos 0) h) ∙ small_kept (byte_excess byte) b.0 b.1

pub least-look : (byte : ℕ) → byte < 256 → cast_signed w8 (cast_unsigned w8 (get_or BYTE_LEASTS byte (pos 0))) ≡ byte_least byte
least-look byte h =
    let b = byte_least-bounds byte in
    ap (λ z. cast_signed w8 (cast_unsigned w8 z)) (least-read byte (pos 0) h) ∙ small_kept (byte_least byte) b.0 (omega (arith, ints, b.1))
