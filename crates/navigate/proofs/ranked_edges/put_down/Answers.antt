use Rattle.std.proofs.Common.{◌≡◌, ◌+◌, ◌*◌, ◌++◌, length, length-append, ap, sym, ◌∙◌, refl, arith}
use Rattle.bit_words.specs.Digits.{digits}
use Rattle.id_names.specs.Views.{ids_of, names_in}
use Rattle.navigate.specs.FirstEdges.{edges_in as first_in}
use Rattle.navigate.specs.Several.{edges_in}
use Rattle.navigate.proofs.RankLists.{left_ranks, front_ranks, front_many, no_items, no_ranks_left}
use Rattle.navigate.proofs.ranked_edges.put_down.Goals as goal

pub loop-left-init : goal.loop-left-init
loop-left-init g c = record {
  left = λ ds are. record { left = ds; all = refl; are = are };
  count = refl;
  grows = omega arith;
  cost = omega arith;
}

pub edges_of-requires-clause-ranks : goal.edges_of-requires-clause-ranks
edges_of-requires-clause-ranks g c =
    let given = c.requires.ranks in
    front_ranks (names_in c.args.names.now) c.loop-left.left.now c.split_at.result.0.now c.min.result (first_in c.loop-left.edges) (first_in c.args.edges.now) given.0 c.split_at.ensures.front (c.loop-left.invariant.left given.0 given.1)

pub extend-requires : goal.extend-requires
extend-requires g c =
    let given = c.requires.ranks in
    let some = front_ranks (names_in c.args.names.now) c.loop-left.left.now c.split_at.result.0.now c.min.result (first_in c.loop-left.edges) (first_in c.args.edges.now) given.0 c.split_at.ensures.front (c.loop-left.invariant.left given.0 given.1) in
    let many = front_many (names_in c.args.names.now) c.split_at.result.0.now (edges_in c.edges_of.new.edges) some c.edges_of.ensures.edges in
    let n = ap length c.as_slice.ensures in
    omega (arith, many, n, c.loop-left.invariant.count, c.requires.room, c.split_at.ensures.front_len, c.split_at.ensures.back_len)

pub loop-left-preserved : goal.loop-left-preserved
loop-left-preserved g c =
    let names = names_in c.args.names.now in
    let i = c.loop-left.invariant in
    let given = c.requires.ranks in
    let now = c.split_at.result.0.now in
    let later = c.split_at.result.1.now in
    let left = c.loop-left.left.now in
    let some = front_ranks names left now c.min.result (first_in c.loop-left.edges) (first_in c.args.edges.now) given.0 c.split_at.ensures.front (i.left given.0 given.1) in
    let many = front_many names now (edges_in c.edges_of.new.edges) some c.edges_of.ensures.edges in
    let more = c.extend.ensures ∙ ap (λ xs. first_in c.loop-left.edges ++ xs) c.as_slice.ensures in
    let n = ap length more ∙ length-append (first_in c.loop-left.edges) (edges_in c.edges_of.new.edges) in
    let all : length now + length later ≡ length left = omega (arith, c.split_at.ensures.front_len, c.split_at.ensures.back_len) in
    let price = 3 * digits (length (ids_of c.args.names.now) + 2) + 18 in
    let paid : price * length now + price * length later ≡ price * length left = omega arith ∙ ap (λ k. price * k) all in
    record {
      left = λ ds are. left_ranks names left now later c.min.result (first_in c.loop-left.edges) (edges_in c.edges_of.new.edges) (first_in c.extend.new.self) (first_in c.args.edges.now) ds c.split_at.ensures.front c.split_at.ensures.back c.edges_of.ensures.edges more (i.left ds are);
      count = omega (arith, n, many, all, i.count);
      grows = omega (arith, c.edges_of.ensures.grows, i.grows);
      cost = omega (arith, c.edges_of.ensures.cost, paid, i.cost);
    }

pub returns-clause-edges : goal.returns-clause-edges
returns-clause-edges g c = λ ds are. no_ranks_left (names_in c.args.names.now) c.loop-left.left.now (first_in c.loop-left.edges) (first_in c.args.edges.now) ds (no_items c.loop-left.left.now (sym c.is_empty.ensures ∙ c.loop-left-test.false)) (c.loop-left.invariant.left ds are)
