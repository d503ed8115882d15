use Rattle.std.proofs.Common.{List, ◌≡◌, ◌+◌, ◌*◌, drop, take, length, length-append, ap, ◌∙◌, sym, subst, arith}
use Rattle.bit_words.specs.Digits.{digits}
use Rattle.id_names.specs.Views.{ids_of, names_in}
use Rattle.navigate.specs.FirstEdges.{edges_in as first_in}
use Rattle.navigate.specs.Ranked.{AreRanksOf}
use Rattle.navigate.specs.declared.ranked.RankedEdge.{RankedEdge}
use Rattle.navigate.proofs.RankLists.{ranks_cut, ranks_many, turned_ranks}
use Rattle.navigate.proofs.ranked_edges.put_down_turned.Goals as goal

pub put_down-requires-clause-room : goal.put_down-requires-clause-room
put_down-requires-clause-room g c =
    let none = ap length c.requires.none in
    omega (arith, none, c.requires.room, c.split_at.ensures.back_len)

pub put_down-requires-clause-ranks : goal.put_down-requires-clause-ranks
put_down-requires-clause-ranks g c =
    let names = names_in c.args.names.now in
    let given = c.requires.ranks in
    let es = drop c.args.before given.0 in
    (es, subst (λ (xs : List RankedEdge). AreRanksOf names xs es) (sym c.split_at.ensures.back) (ranks_cut names c.args.ranks.now c.args.before given.0 given.1).1)

pub put_down-requires-2-clause-room : goal.put_down-requires-2-clause-room
put_down-requires-2-clause-room g c =
    let names = names_in c.args.names.now in
    let given = c.requires.ranks in
    let es = drop c.args.before given.0 in
    let are = subst (λ (xs : List RankedEdge). AreRanksOf names xs es) (sym c.split_at.ensures.back) (ranks_cut names c.args.ranks.now c.args.before given.0 given.1).1 in
    let many = ranks_many names c.split_at.result.1.now es are in
    let none = ap length c.requires.none in
    let put = ap length (c.put_down.ensures.edges es are) ∙ length-append (first_in c.args.edges.now) es in
    omega (arith, none, put, many, c.requires.room, c.split_at.ensures.front_len, c.split_at.ensures.back_len)

pub put_down-requires-2-clause-ranks : goal.put_down-requires-2-clause-ranks
put_down-requires-2-clause-ranks g c =
    let names = names_in c.args.names.now in
    let given = c.requires.ranks in
    let es = take c.args.before given.0 in
    (es, subst (λ (xs : List RankedEdge). AreRanksOf names xs es) (sym c.split_at.ensures.front) (ranks_cut names c.args.ranks.now c.args.before given.0 given.1).0)

pub returns-clause-edges : goal.returns-clause-edges
returns-clause-edges g c = λ ds are.
    turned_ranks (names_in c.args.names.now) c.args.ranks.now c.split_at.result.0.now c.split_at.result.1.now c.args.before (first_in c.args.edges.now) (first_in c.put_down.new.edges) (first_in c.put_down-2.new.edges) ds
    c.split_at.ensures.front c.split_at.ensures.back c.requires.none c.put_down.ensures.edges c.put_down-2.ensures.edges are

pub returns-clause-cost : goal.returns-clause-cost
returns-clause-cost g c =
    let price = 3 * digits (length (ids_of c.args.names.now) + 2) + 18 in
    let front = c.split_at.result.0.now in
    let back = c.split_at.result.1.now in
    let all : length front + length back ≡ length c.args.ranks.now = omega (arith, c.split_at.ensures.front_len, c.split_at.ensures.back_len) in
    let paid : price * length front + price * length back ≡ price * length c.args.ranks.now = omega arith ∙ ap (λ k. price * k) all in
    omega (arith, paid, c.put_down.ensures.cost, c.put_down-2.ensures.cost)
