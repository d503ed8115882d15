use Rattle.std.proofs.Common.{arith, ap, ◌∙◌, length}
use Rattle.std.specs.Prelude.{map, ◌++◌}
use Rattle.topo_base.specs.Script.{Item}
use Rattle.plane_model.specs.Lists.{holes, isolated_nodes}
use Rattle.pemb_file.specs.Served.{contents_of_view}
use Rattle.navigate.specs.Bound.{map_with}
use Rattle.navigate.specs.IslandWalk.{rest}
use Rattle.navigate.proofs.Facts.{digits_components, digits_isolated, words_line}
use Rattle.navigate.proofs.OrbitLengths.{some_digits}
use Rattle.navigate.proofs.IslandLaws.{islands_listed, islands_fit}
use Rattle.navigate.proofs.islands.island_walk.Goals as goal

pub returns-in_default-clause-paid : goal.returns-in_default-clause-paid
returns-in_default-clause-paid g c =
    let d = some_digits (contents_of_view c.args.served) in
    let words = words_line (contents_of_view c.args.served) c.args.served.whole 0 0 in
    omega (arith, d, words, c.in_default.ensures.cost)

pub returns-clause-list : goal.returns-clause-list
returns-clause-list g c =
    let m = contents_of_view c.args.served in
    c.between.ensures.rest
    ∙ islands_listed m c.args.served.whole c.in-Some.place c.components_below-hole.result c.components_to-end.result c.isolated_below-node.result c.isolated_to-last.result c.in-Some.ensures.found.0
    c.components_below-hole.ensures.within c.isolated_below-node.ensures.within
    (record {
      within = c.components_to-end.ensures.within;
      before_from = c.components_below-hole.ensures.before;
      from_from = c.components_below-hole.ensures.from;
      before_to = c.components_to-end.ensures.before;
      from_to = c.components_to-end.ensures.from;
    })
    (record {
      within = c.isolated_to-last.ensures.within;
      before_from = c.isolated_below-node.ensures.before;
      from_from = c.isolated_below-node.ensures.from;
      before_to = c.isolated_to-last.ensures.before;
      from_to = c.isolated_to-last.ensures.from;
    })
    ∙ ap (λ f. map Item.Signed_edge (holes (map_with m) f) ++ map Item.Island_node (isolated_nodes (map_with m) f)) c.in-Some.ensures.found.1

pub returns-clause-paid : goal.returns-clause-paid
returns-clause-paid g c =
    let m = contents_of_view c.args.served in
    let n = length (rest c.between.result) in
    let words = words_line m c.args.served.whole 0 n in
    let few = digits_components m c.args.served.whole in
    let alone = digits_isolated m c.args.served.whole in
    let fits = islands_fit m c.between.result c.args.steps.now c.isolated_to-last.new.steps c.between.ensures.contents
    (omega (arith, few, alone, c.in-Some.ensures.cost, c.components_below-hole.ensures.cost, c.components_to-end.ensures.cost, c.isolated_below-node.ensures.cost, c.isolated_to-last.ensures.cost)) in
    omega (arith, words, fits)
