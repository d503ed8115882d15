use Rattle.std.specs.Prelude.{slice_index}
use Rattle.std.proofs.Common.{◌≡◌, ◌+◌, ◌<◌, ◌∙◌, ap, sym, subst, arith, true, length, List, ℕ}
use Rattle.plane_model.specs.Answers.{has_node}
use Rattle.plane_model.specs.Lists.{node_edges}
use Rattle.pemb_file.specs.Served.{contents_of_view}
use Rattle.navigate.specs.Bound.{served_map}
use Rattle.map_totals.specs.Totals.{node_words, id_words}
use Rattle.map_totals.proofs.Ids.{node_there}
use Rattle.map_totals.proofs.Summing.{summed_more, summed_fits, summed_all}
use Rattle.map_totals.proofs.Wholes.{node_total_is, node_words_are, node_total_fits}
use Rattle.map_totals.proofs.sums.sum_nodes.Goals as goal

pub loop-number-init : goal.loop-number-init
loop-number-init g c =
    let i = node_total_is (contents_of_view c.args.served) c.args.served.whole in
    let k = node_words_are (contents_of_view c.args.served) c.args.served.whole in
    record { adds_up = omega (arith, i); least = omega arith; paid = omega (arith, k) }

pub node_items-total-requires : goal.node_items-total-requires
node_items-total-requires g c =
    let many = ap length c.nodes-nodes.ensures in
    let below = c.loop-number-test.true in
    let within : c.loop-number.number < length (contents_of_view c.args.served).nodes = omega (arith, many, below, c.count-count.ensures.count) in
    let is = c.id_of.ensures.id ∙ ap (λ (xs : List ℕ). slice_index xs c.loop-number.number) c.nodes-nodes.ensures in
    subst (λ x. has_node (served_map c.args.served) x ≡ true) (sym is) (node_there (contents_of_view c.args.served) c.loop-number.number within)

pub overflow_add-total : goal.overflow_add-total
overflow_add-total g c =
    let m = served_map c.args.served in
    let many = ap length c.nodes-nodes.ensures in
    let below = c.loop-number-test.true in
    let within : c.loop-number.number < length (contents_of_view c.args.served).nodes = omega (arith, many, below, c.count-count.ensures.count) in
    let is = c.id_of.ensures.id ∙ ap (λ (xs : List ℕ). slice_index xs c.loop-number.number) c.nodes-nodes.ensures in
    let all = node_total_fits (contents_of_view c.args.served) c.args.served.whole in
    let more = summed_fits (λ x. length (node_edges m x)) (λ x. id_words (length (contents_of_view c.args.served).nodes) + node_words m x) (contents_of_view c.args.served).nodes c.loop-number.number _ _ _ c.loop-number.total _ c.node_items-total.result c.id_of.result c.loop-number.invariant within is c.node_items-total.ensures.count in
    omega (arith, all, more)

pub loop-number-preserved : goal.loop-number-preserved
loop-number-preserved g c =
    let m = served_map c.args.served in
    let many = ap length c.nodes-nodes.ensures in
    let below = c.loop-number-test.true in
    let within : c.loop-number.number < length (contents_of_view c.args.served).nodes = omega (arith, many, below, c.count-count.ensures.count) in
    let is = c.id_of.ensures.id ∙ ap (λ (xs : List ℕ). slice_index xs c.loop-number.number) c.nodes-nodes.ensures in
    let price = ap id_words many in
    summed_more (λ x. length (node_edges m x)) (node_words m) (contents_of_view c.args.served).nodes c.loop-number.number _ _ _ c.loop-number.total c.loop-number.steps (id_words (length (contents_of_view c.args.served).nodes)) c.id_of.new.steps c.node_items-total.new.steps c.node_items-total.result c.id_of.result c.loop-number.invariant within is (omega (arith, c.id_of.ensures.some_steps)) (omega (arith, c.id_of.ensures.cost, price)) c.node_items-total.ensures.count c.node_items-total.ensures.least c.node_items-total.ensures.paid

pub returns-clause-sum : goal.returns-clause-sum
returns-clause-sum g c =
    let m = served_map c.args.served in
    let many = ap length c.nodes-nodes.ensures in
    let above = c.loop-number-test.false in
    summed_all (λ x. length (node_edges m x)) (λ x. id_words (length (contents_of_view c.args.served).nodes) + node_words m x) (contents_of_view c.args.served).nodes c.loop-number.number _ _ _ c.loop-number.total _ c.loop-number.invariant (omega (arith, many, above, c.count-count.ensures.count))
