use Rattle.std.proofs.Common.{◌++◌, ◌∷◌, [], ap, sym, ◌∙◌, arith}
use Rattle.std.proofs.lemmas.List.FromFn.{map-range_with_len_more}
use Rattle.id_names.proofs.InCycles.{id_of}
use Rattle.id_names.proofs.tests.make.ids_in_cycles.Goals as goal

pub loop-number-preserved : goal.loop-number-preserved
loop-number-preserved c =
    let n = c.loop-number.number in
    let len = c.args.len in
    c.in_ok-push.ensures.items ∙ ap (λ xs. xs ++ (id_of len n ∷ [])) c.loop-number.invariant ∙ sym (map-range_with_len_more (id_of len) 0 n n (omega arith))
