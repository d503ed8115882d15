-- What was taken of a script, where it is told.
use Rattle.std.proofs.Common.{◌≡◌, ℕ, ◌≤◌, List, length, Option, Some, None, sym, ap, subst, arith, length-append}
use Rattle.std.specs.Io.KnownBytes.{Consumes}
use Rattle.topo_cli.specs.Outcome.{TookAtMost}

pub took_at_most : (most : ℕ) (a b : Option (List ℕ)) (xs : List ℕ) → Consumes a b xs → length xs ≤ most → TookAtMost most a b
took_at_most most None b xs p h = tt
took_at_most most (Some a) None xs p h = p
took_at_most most (Some a) (Some b) xs p h = omega (arith, ap length p, length-append xs b)

pub took_nothing : (most : ℕ) (a b : Option (List ℕ)) → b ≡ a → TookAtMost most a b
took_nothing most a b e = let P : Option (List ℕ) → Type 0 = λ o. TookAtMost most a o in subst P (sym e) (same a)
  where
    same : (o : Option (List ℕ)) → TookAtMost most o o
    same None = tt
    same (Some xs) = omega arith
