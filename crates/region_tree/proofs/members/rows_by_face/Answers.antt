use Rattle.std.proofs.Common.{rules}
use Rattle.std.proofs.lemmas.List.Sorted.{IsNonDecreasingBy-from_sort, answers_always}
use Rattle.plane_model.specs.declared.rows.MemberRow.{MemberRow}
use Rattle.region_tree.proofs.members.rows_by_face.Goals as goal

pub returns-clause-rising : goal.returns-clause-rising
returns-clause-rising c =
    let face = λ (x : MemberRow). x.face in
    IsNonDecreasingBy-from_sort face _ (c.sort_unstable_by_key.ensures.sorted face (answers_always _ _ _ (λ f a r g h. search rules)))
