use Rattle.std.proofs.Common.{rules}
use Rattle.std.proofs.lemmas.List.Sorted.{IsNonDecreasingBy-from_sort, answers_always}
use Rattle.plane_model.specs.declared.rows.RegionRow.{RegionRow}
use Rattle.region_tree.proofs.rows.rows_by_id.Goals as goal

pub returns-clause-rising : goal.returns-clause-rising
returns-clause-rising c =
    let id = λ (r : RegionRow). r.id in
    IsNonDecreasingBy-from_sort id _ (c.sort_unstable_by_key.ensures.sorted id (answers_always _ _ _ (λ f a r g h. search rules)))
