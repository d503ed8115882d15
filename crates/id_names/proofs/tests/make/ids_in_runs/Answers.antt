use Rattle.std.proofs.Common.{◌++◌, ◌∷◌, [], ap, sym, ◌∙◌, arith}
use Rattle.std.proofs.lemmas.List.FromFn.{map-range_with_len_more}
use Rattle.id_names.proofs.InRuns.{id_of}
use Rattle.id_names.proofs.tests.make.ids_in_runs.Goals as goal

pub loop-number-preserved : goal.loop-number-preserved
loop-number-preserved c =
    let n = c.loop-number.number in
    c.in_ok-push.ensures.items ∙ ap (λ xs. xs ++ (id_of n ∷ [])) c.loop-number.invariant ∙ sym (map-range_with_len_more id_of 0 n n (omega arith))
