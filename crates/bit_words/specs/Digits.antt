-- How many binary digits a number has.
use Rattle.std.specs.Prelude.{ℕ, length}
use Rattle.std.specs.Int.Digits.{digits_of}

-- how many binary digits n has: none where it is 0
unfoldable pub digits : ℕ → ℕ
digits n = length (digits_of 2 n)
