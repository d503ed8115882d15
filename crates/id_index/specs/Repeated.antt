-- The least of ids that stand twice.
use Rattle.std.specs.Prelude.{ℕ, Bool, if◌then◌else◌, min, Option, Some, unwrap_or}

-- the least, with one id more, which stands again behind or not
abbrev pub with_id : Option ℕ → ℕ → Bool → Option ℕ
with_id behind id again = if again then Some (min (unwrap_or behind id) id) else behind
