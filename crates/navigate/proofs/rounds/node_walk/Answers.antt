use Rattle.std.proofs.Common.{arith, ◌∙◌, ◌<◌, ap, sym, subst, length, ℕ, refl, Option}
use Rattle.std.specs.Prelude.{slice_index, IsNone}
use Rattle.turan_code.specs.TuranView.{code_of_view}
use Rattle.code_laws.specs.Code.{Code}
use Rattle.code_laws.specs.Numbers.{node_count}
use Rattle.file_laws.specs.MapOfFile.{node_at}
use Rattle.pemb_file.specs.Served.{contents_of_view}
use Rattle.navigate.specs.OrbitWalk.{rest}
use Rattle.navigate.proofs.Facts.{words_line, digits_view, few_nodes}
use Rattle.navigate.proofs.Resting.{rest-none, allowance-none}
use Rattle.navigate.proofs.MapLists.{node_list, node_alone}
use Rattle.navigate.proofs.NodePlaces.{first_node}
use Rattle.navigate.proofs.OrbitLengths.{some_digits, twice_read}
use Rattle.navigate.proofs.rounds.node_walk.Goals as goal

pub returns-in_default-clause-paid : goal.returns-in_default-clause-paid
returns-in_default-clause-paid g c =
    let d = some_digits (contents_of_view c.args.served) in
    let words = words_line (contents_of_view c.args.served) c.args.served.whole 0 0 in
    omega (arith, d, words, c.in_default.ensures.cost)

pub returns-in-Some-first_of_node-clause-list : goal.returns-in-Some-first_of_node-clause-list
unfolding node_at
returns-in-Some-first_of_node-clause-list g c =
    let m = contents_of_view c.args.served in
    let code = c.code.ensures.code in
    let p = c.in-Some-first_of_node.p in
    let p_in = subst (λ (k : Code). p < length k.a) code c.in-Some-first_of_node.ensures.within in
    let at = first_node m (code_of_view c.code.result.now) c.in-Some.number p code c.in-Some-first_of_node.ensures.position in
    c.walk_from_smallest.ensures.list ∙ node_list m c.args.served.whole p c.args.node.0 p_in c.walk_from_smallest.ensures.within (ap (slice_index m.nodes) at ∙ c.in-Some.ensures.found.1)

pub returns-in-Some-first_of_node-clause-paid : goal.returns-in-Some-first_of_node-clause-paid
returns-in-Some-first_of_node-clause-paid g c =
    let m = contents_of_view c.args.served in
    let d = some_digits m in
    let n = length (rest c.walk_from_smallest.result) in
    let words = words_line m c.args.served.whole n n in
    let k = digits_view m c.args.served.whole (code_of_view c.code.result.now) c.code.ensures.code in
    let twice = twice_read m n in
    omega (arith, d, k, words, twice, c.in-Some.ensures.cost, c.in-Some-first_of_node.ensures.cost, c.walk_from_smallest.ensures.paid)

pub returns-in-None-clause-list : goal.returns-in-None-clause-list
returns-in-None-clause-list g c =
    let m = contents_of_view c.args.served in
    let none = c.first_of_node.ensures.none.0 (subst (λ (o : Option ℕ). IsNone o) (sym c.in-None.is) refl) in
    let same = ap (λ (k : Code). node_count k) c.code.ensures.code in
    let alone = node_alone m c.args.served.whole c.in-Some.number c.args.node.0 c.in-Some.ensures.found.0 c.in-Some.ensures.found.1 (omega (arith, none, same)) in
    rest-none c.over.result c.over.ensures.positions ∙ sym alone

pub returns-in-None-clause-paid : goal.returns-in-None-clause-paid
returns-in-None-clause-paid g c =
    let m = contents_of_view c.args.served in
    let d = some_digits m in
    let n = length (rest c.over.result) in
    let words = words_line m c.args.served.whole n n in
    let k = digits_view m c.args.served.whole (code_of_view c.code.result.now) c.code.ensures.code in
    let none = allowance-none c.over.result (rest-none c.over.result c.over.ensures.positions) in
    omega (arith, d, k, words, none, c.in-Some.ensures.cost, c.in-None.ensures.cost)

pub overflow_cast-number : goal.overflow_cast-number
overflow_cast-number g c = let few = few_nodes (contents_of_view c.args.served) c.args.served.whole in omega (arith, few, c.in-Some.ensures.found.0)
