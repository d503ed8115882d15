-- The gap before a position, among the edges that are none of the trees.
use Rattle.std.specs.Prelude.{ℕ, ◌≡◌, pos, false}
use Rattle.bit_words.specs.Bits.{excess}
use Rattle.code_laws.specs.Code.{Code, place}
use Rattle.pemb_file.specs.declared.places.Gap.{Gap}

-- so many pairs have opened before it and not closed, and so many of their places stand before it
pub record IsGap (c : Code) (p : ℕ) (gap : Gap) : Type 0 where
  pub depth : pos gap.depth ≡ excess c.dual (place c false p)
  pub place : gap.place ≡ place c false p
