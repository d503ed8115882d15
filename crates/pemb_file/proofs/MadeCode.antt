-- The code of a walk that is written.
use Rattle.std.proofs.Common.{◌≡◌, ℕ, Bool, List}
use Rattle.code_laws.specs.Code.{Code}
use Rattle.code_laws.specs.Tour.{code_of}

pub same_walk : (tree tree' first first' : List Bool) (starts starts' : List ℕ) → tree ≡ tree' → first ≡ first' → starts ≡ starts' → ◌≡◌ {A = Code} (code_of tree first starts) (code_of tree' first' starts')
same_walk tree tree' first first' starts starts' e f g = cc
