use Rattle.std.specs.Prelude.{drop}
use Rattle.id_names.specs.Known.{IsNew}
use Rattle.id_names.proofs.known.known_of.Given as goal

-- what is left decides
abbrev pub invariant-loop-found : goal.invariant-loop-found
invariant-loop-found l = IsNew l.id (drop l.found-index l.known) → IsNew l.id l.known
