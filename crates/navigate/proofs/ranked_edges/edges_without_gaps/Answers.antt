use Rattle.std.proofs.Common.{◌≡◌, ◌+◌, ◌∷◌, ◌++◌, [], length, length-append, append-nil, drop, ap, sym, ◌∙◌, arith}
use Rattle.std.proofs.lemmas.List.{drop_all}
use Rattle.std.specs.Prelude.{slice_index_or}
use Rattle.id_names.specs.Views.{names_in}
use Rattle.navigate.specs.Several.{edges_in}
use Rattle.navigate.proofs.RankLists.{no_rank, this_rank, ranks_none, rank_id, rank_signed, one_given}
use Rattle.navigate.proofs.ranked_edges.edges_without_gaps.Goals as goal

pub id_without_gaps-id-requires-clause-within : goal.id_without_gaps-id-requires-clause-within
id_without_gaps-id-requires-clause-within c =
    let given = c.requires.ranks in
    let left = c.loop-edge.invariant.left given.0 given.1 in
    (this_rank (names_in c.args.names.now) c.args.ranks.now c.loop-edge.edge-index left.0 (omega arith) left.2).is.within

pub with_direction-requires : goal.with_direction-requires
with_direction-requires c =
    let names = names_in c.args.names.now in
    let given = c.requires.ranks in
    let left = c.loop-edge.invariant.left given.0 given.1 in
    let f = this_rank names c.args.ranks.now c.loop-edge.edge-index left.0 (omega arith) left.2 in
    rank_id names (slice_index_or c.args.ranks.now c.loop-edge.edge-index no_rank) f.d c.id_without_gaps-id.result f.is c.id_without_gaps-id.ensures.id

pub loop-edge-preserved : goal.loop-edge-preserved
loop-edge-preserved c =
    let names = names_in c.args.names.now in
    let i = c.loop-edge.invariant in
    let k = c.loop-edge.edge-index in
    let old = edges_in c.loop-edge.edges in
    let edge = c.with_direction.result in
    record {
      left = λ ds are.
          let left = i.left ds are in
          let f = this_rank names c.args.ranks.now k left.0 (omega arith) left.2 in
          let same : edge ≡ f.d = rank_signed names (slice_index_or c.args.ranks.now k no_rank) f.d edge c.id_without_gaps-id.result f.is c.id_without_gaps-id.ensures.id c.with_direction.ensures in
          (f.later, one_given ds old left.0 f.later (edges_in c.push.new.self) edge f.d left.1 f.both same c.push.ensures, f.are);
      count = ap length c.push.ensures ∙ length-append old (edge ∷ []) ∙ ap (λ n. n + 1) i.count;
    }

pub returns : goal.returns
returns c = record {
  edges = λ ds are.
      let left = c.loop-edge.invariant.left ds are in
      let none = ranks_none (names_in c.args.names.now) (drop c.loop-edge.edge-index c.args.ranks.now) left.0 (drop_all c.loop-edge.edge-index c.args.ranks.now (omega arith)) left.2 in
      sym (left.1 ∙ ap (λ x. edges_in c.loop-edge.edges ++ x) none ∙ append-nil (edges_in c.loop-edge.edges));
}
