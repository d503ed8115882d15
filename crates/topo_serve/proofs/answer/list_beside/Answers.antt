use Rattle.std.proofs.Common.{◌++◌, map, refl}
use Rattle.topo_base.specs.Script.{Item}
use Rattle.navigate.specs.AdjacentWalk as across
use Rattle.topo_serve.proofs.Listing.{listed_none, listed_some, listed_then, some_part, split_items}
use Rattle.topo_serve.proofs.answer.list_beside.Goals as goal

pub returns-clause-writes : goal.returns-clause-writes
returns-clause-writes g c =
    let rest = across.rest c.args.walk.now in
    let faces = c.args.faces.now in
    listed_then _ (map Item.Number (faces ++ rest)) (map Item.Number rest) _ _ _
    (listed_some _ _ _ _ (map Item.Number faces) _ _ _ (listed_none _ _) (split_items Item.Number (faces ++ rest) faces rest refl) c.in_ok-list_numbers.ensures) c.list_across.ensures.writes

pub returns-in_err-list_numbers-clause-writes : goal.returns-in_err-list_numbers-clause-writes
returns-in_err-list_numbers-clause-writes g c =
    let rest = across.rest c.args.walk.now in
    let faces = c.args.faces.now in
    some_part _ _ _ _ _ (map Item.Number rest) (map Item.Number faces) _ _ _ (listed_none _ _) (split_items Item.Number (faces ++ rest) faces rest refl) c.from_residual.ensures.1 c.in_err-list_numbers.ensures
