use Rattle.std.proofs.Common.{◌≡◌, ◌++◌, ◌∙◌, ◌∷◌, [], ap, None}
use Rattle.std.proofs.lemmas.Result.{on_ok_weaker}
use Rattle.std.proofs.lemmas.List.{get_or_read}
use Rattle.region_tree.specs.Ancestors.{parent_at}
use Rattle.region_tree.specs.Walked.{steps_of, IsOpened}
use Rattle.region_tree.specs.declared.walk.Step.TheVariants as step
use Rattle.region_tree.proofs.walk.put_open.Goals as goal

pub returns : goal.returns
returns c =
    let first = c.args.siblings.now.first.items in
    let next = c.args.siblings.now.next.items in
    let k = c.args.place in
    let old = c.args.left.now.items in
    let behind : c.index.result.now ≡ parent_at next k = get_or_read next k _ c.requires.next c.index.ensures None in
    let within : c.index-2.result.now ≡ parent_at first k = get_or_read first k _ c.requires.first c.index-2.ensures None in
    let done : (c.put-2.new.left.items ≡ c.push.new.self.items ++ steps_of c.index-2.result.now) → IsOpened old c.put-2.new.left.items first next k = λ h. record {
      places =
          h
          ∙ ap (λ xs. xs ++ steps_of c.index-2.result.now) (c.in_ok-push.ensures.items ∙ ap (λ xs. xs ++ step.Close ∷ []) (c.in_ok-put.ensures ∙ ap (λ o. old ++ steps_of o) behind))
          ∙ ap (λ o. ((old ++ steps_of (parent_at next k)) ++ step.Close ∷ []) ++ steps_of o) within;
    } in
    on_ok_weaker _ done c.put-2.ensures
