use Rattle.std.proofs.Common.{rules, ap, ◌∙◌}
use Rattle.std.specs.Prelude.{◌==◌, find}
use Rattle.std.proofs.lemmas.List.Sorted.{IsNonDecreasingBy-from_sort, answers_always}
use Rattle.id_index.specs.declared.sparse.Entry.{Entry}
use Rattle.id_index.proofs.Sorted.{first_kept}
use Rattle.id_index.proofs.sparse.rising.Goals as goal

pub returns-clause-rising : goal.returns-clause-rising
returns-clause-rising c =
    let id = λ (e : Entry). e.id in
    IsNonDecreasingBy-from_sort id _ (c.in_ok-sort_by_key.ensures.sorted id (answers_always _ _ _ (λ f a r g h. search rules)))

pub returns-clause-first : goal.returns-clause-first
returns-clause-first c = λ id.
    let key = λ (e : Entry). e.id in
    let stable = c.in_ok-sort_by_key.ensures.stable key (answers_always _ _ _ (λ f a r g h. search rules)) in
    first_kept c.in_ok-entries.entries.items c.sort_by_key.new.self.items stable id ∙ ap (find (λ e. e.id == id)) c.in_ok-entries.ensures
