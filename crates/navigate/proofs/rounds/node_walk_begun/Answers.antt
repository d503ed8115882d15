use Rattle.std.proofs.Common.{arith, ◌∙◌, ◌<◌, ◌+◌, ◌++◌, ap, sym, subst, length, ℕ, refl, Option, true}
use Rattle.std.specs.Prelude.{slice_index, IsNone}
use Rattle.turan_code.specs.TuranView.{code_of_view}
use Rattle.code_laws.specs.Code.{Code}
use Rattle.code_laws.specs.Numbers.{node_count}
use Rattle.code_laws.specs.Orbits.{orbit}
use Rattle.file_laws.specs.MapOfFile.{node_at}
use Rattle.pemb_file.specs.Served.{contents_of_view}
use Rattle.navigate.specs.FirstEdges.{edges_in}
use Rattle.navigate.specs.OrbitWalk.{rest, allowance}
use Rattle.navigate.proofs.Facts.{words_line, digits_view, few_nodes}
use Rattle.navigate.proofs.Resting.{rest-none, allowance-none}
use Rattle.navigate.proofs.MapLists.{node_list, node_alone}
use Rattle.navigate.proofs.NodePlaces.{first_node}
use Rattle.navigate.proofs.OrbitLengths.{some_digits}
use Rattle.navigate.proofs.BegunWalks.{begun_none, begun_long, node_begun_fits}
use Rattle.navigate.proofs.rounds.node_walk_begun.Goals as goal

pub returns-in_default-clause-least : goal.returns-in_default-clause-least
returns-in_default-clause-least g c = let none = ap length c.clear.ensures in omega (arith, none, c.in_default.ensures.grows)

pub returns-in_default-clause-paid : goal.returns-in_default-clause-paid
returns-in_default-clause-paid g c =
    let d = some_digits (contents_of_view c.args.served) in
    let words = words_line (contents_of_view c.args.served) c.args.served.whole 0 0 in
    omega (arith, d, words, c.in_default.ensures.cost)

pub returns-in-Some-first_of_node-clause-list : goal.returns-in-Some-first_of_node-clause-list
unfolding node_at
returns-in-Some-first_of_node-clause-list g c =
    let m = contents_of_view c.args.served in
    let code = c.code.ensures.code in
    let p = c.in-Some-first_of_node.p in
    let p_in = subst (λ (k : Code). p < length k.a) code c.in-Some-first_of_node.ensures.within in
    let at = first_node m (code_of_view c.code.result.now) c.in-Some.number p code c.in-Some-first_of_node.ensures.position in
    let walk = c.edges_from_smallest in
    walk.ensures.list ∙ node_list m c.args.served.whole p c.args.node.0 p_in walk.ensures.within (ap (slice_index m.nodes) at ∙ c.in-Some.ensures.found.1)

pub returns-in-Some-first_of_node-clause-least : goal.returns-in-Some-first_of_node-clause-least
returns-in-Some-first_of_node-clause-least g c = omega (arith, c.in-Some.ensures.grows, c.in-Some-first_of_node.ensures.some_steps, c.edges_from_smallest.ensures.least)

pub returns-in-Some-first_of_node-clause-paid : goal.returns-in-Some-first_of_node-clause-paid
returns-in-Some-first_of_node-clause-paid g c =
    let m = contents_of_view c.args.served in
    let walk = c.edges_from_smallest in
    let p = c.in-Some-first_of_node.p in
    let code = c.code.ensures.code in
    let p_in = subst (λ (k : Code). p < length k.a) code c.in-Some-first_of_node.ensures.within in
    let ds = edges_in walk.new.edges ++ rest walk.result in
    let n = length ds in
    let long = begun_long m c.args.served.whole true p ds p_in walk.ensures.within walk.ensures.list in
    let words = words_line m c.args.served.whole n n in
    let k = digits_view m c.args.served.whole (code_of_view c.code.result.now) code in
    let fits = node_begun_fits m n (length (orbit m.code true p)) c.args.steps.now c.first_of_node.new.steps (walk.new.steps + allowance walk.result) long (omega (arith, k, c.in-Some.ensures.cost, c.in-Some-first_of_node.ensures.cost)) walk.ensures.paid in
    omega (arith, words, fits)

pub returns-in-None-clause-list : goal.returns-in-None-clause-list
returns-in-None-clause-list g c =
    let m = contents_of_view c.args.served in
    let none = c.first_of_node.ensures.none.0 (subst (λ (o : Option ℕ). IsNone o) (sym c.in-None.is) refl) in
    let same = ap (λ (k : Code). node_count k) c.code.ensures.code in
    let alone = node_alone m c.args.served.whole c.in-Some.number c.args.node.0 c.in-Some.ensures.found.0 c.in-Some.ensures.found.1 (omega (arith, none, same)) in
    begun_none (edges_in c.clear.new.self) (rest c.over.result) c.clear.ensures (rest-none c.over.result c.over.ensures.positions) ∙ sym alone

pub returns-in-None-clause-least : goal.returns-in-None-clause-least
returns-in-None-clause-least g c = let none = ap length c.clear.ensures in omega (arith, none, c.in-Some.ensures.grows, c.in-None.ensures.some_steps)

pub returns-in-None-clause-paid : goal.returns-in-None-clause-paid
returns-in-None-clause-paid g c =
    let m = contents_of_view c.args.served in
    let d = some_digits m in
    let n = length (edges_in c.clear.new.self ++ rest c.over.result) in
    let words = words_line m c.args.served.whole n n in
    let k = digits_view m c.args.served.whole (code_of_view c.code.result.now) c.code.ensures.code in
    let none = allowance-none c.over.result (rest-none c.over.result c.over.ensures.positions) in
    omega (arith, d, k, words, none, c.in-Some.ensures.cost, c.in-None.ensures.cost)

pub overflow_cast-number : goal.overflow_cast-number
overflow_cast-number g c = let few = few_nodes (contents_of_view c.args.served) c.args.served.whole in omega (arith, few, c.in-Some.ensures.found.0)
