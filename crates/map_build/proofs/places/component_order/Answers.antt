use Rattle.std.specs.Prelude.{map, nat_eq}
use Rattle.std.specs.List.{IsDistinct}
use Rattle.std.specs.List.Sorted.{IsPermutation}
use Rattle.std.proofs.lemmas.Result.{IfOk-weaker}
use Rattle.std.proofs.Common.{◌≡◌, ◌∙◌, ap, sym, subst, length}
use Rattle.std.proofs.lemmas.List.{length-map}
use Rattle.map_build.specs.declared.standing.Standing.{Standing}
use Rattle.map_build.specs.DartRows.{key_of_dart}
use Rattle.map_build.specs.Placed.{placed_components, AreOrdered}
use Rattle.map_build.proofs.Standings.{keys_are, ordered}
use Rattle.map_build.proofs.places.component_order.Goals as goal

pub in_order-requires : goal.in_order-requires
in_order-requires c =
    let places = c.args.places.now in
    let keys = map (key_of_dart c.args.edges.now) c.args.starts.now in
    let many : length places ≡ length keys = c.requires.many ∙ sym (length-map c.args.starts.now (key_of_dart c.args.edges.now)) in
    let are = ap (map (λ (s : Standing). s.key)) c.in_ok-standing.ensures ∙ keys_are places keys many in
    record { apart = subst (λ ks. IsDistinct nat_eq ks) (sym are) c.requires.apart }

pub returns : goal.returns
returns c =
    let places = c.args.places.now in
    let keys = map (key_of_dart c.args.edges.now) c.args.starts.now in
    let moved : IsPermutation (placed_components places keys) c.in_order.result.items = subst (λ ss. IsPermutation ss c.in_order.result.items) c.in_ok-standing.ensures c.in_order.ensures.permutation in
    let all = ordered places keys c.in_order.result.items moved c.in_order.ensures.order in
    IfOk-weaker c.standing_components.result _ _ (λ order is. subst (λ xs. AreOrdered places keys xs) (ap (map (λ (s : Standing). s.component)) (sym c.deref.ensures.value) ∙ sym is) all) c.standing_components.ensures
