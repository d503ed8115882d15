use Rattle.std.proofs.Common.{◌≡◌, ◌+◌, ◌*◌, ◌∷◌, ◌++◌, [], length, length-append, append-nil, drop, refl, ap, sym, ◌∙◌, arith}
use Rattle.std.proofs.lemmas.List.{drop_all}
use Rattle.std.specs.Prelude.{slice_index_or}
use Rattle.bit_words.specs.Digits.{digits}
use Rattle.id_names.specs.Views.{ids_of, names_in}
use Rattle.navigate.specs.Several.{edges_in}
use Rattle.navigate.proofs.RankLists.{no_rank, this_rank, low_at_place, ranks_none, rank_id, rank_signed, cost_more, one_given}
use Rattle.navigate.proofs.ranked_edges.edges_by_reading.Goals as goal

pub id_with-id-requires-clause-within : goal.id_with-id-requires-clause-within
id_with-id-requires-clause-within g c =
    let given = c.requires.ranks in
    let left = c.loop-place.invariant.left given.0 given.1 in
    (this_rank (names_in c.args.names.now) c.args.ranks.now c.loop-place.place left.0 (omega arith) left.2).is.within

pub id_with-id-requires-clause-low : goal.id_with-id-requires-clause-low
id_with-id-requires-clause-low g c = low_at_place (names_in c.args.names.now) c.args.ranks.now c.loop-place.place c.as_slice.result.now (omega arith) (c.as_slice.ensures.value ∙ c.low_parts-lows.ensures.lows)

pub with_direction-requires : goal.with_direction-requires
with_direction-requires g c =
    let names = names_in c.args.names.now in
    let given = c.requires.ranks in
    let left = c.loop-place.invariant.left given.0 given.1 in
    let f = this_rank names c.args.ranks.now c.loop-place.place left.0 (omega arith) left.2 in
    rank_id names (slice_index_or c.args.ranks.now c.loop-place.place no_rank) f.d c.id_with-id.result f.is c.id_with-id.ensures.id

pub loop-place-preserved : goal.loop-place-preserved
loop-place-preserved g c =
    let names = names_in c.args.names.now in
    let i = c.loop-place.invariant in
    let k = c.loop-place.place in
    let old = edges_in c.loop-place.edges in
    let edge = c.with_direction.result in
    record {
      left = λ ds are.
          let left = i.left ds are in
          let f = this_rank names c.args.ranks.now k left.0 (omega arith) left.2 in
          let same : edge ≡ f.d = rank_signed names (slice_index_or c.args.ranks.now k no_rank) f.d edge c.id_with-id.result f.is c.id_with-id.ensures.id c.with_direction.ensures in
          (f.later, one_given ds old left.0 f.later (edges_in c.push.new.self) edge f.d left.1 f.both same c.push.ensures, f.are);
      count = ap length c.push.ensures ∙ length-append old (edge ∷ []) ∙ ap (λ n. n + 1) i.count;
      least = omega (arith, i.least, c.id_with-id.ensures.some_steps);
      cost = cost_more (3 * digits (length (ids_of c.args.names.now) + 2) + 16) k (k + 1) c.low_parts-lows.new.steps c.loop-place.steps c.id_with-id.new.steps refl i.cost (omega (arith, c.id_with-id.ensures.cost));
    }

pub returns-clause-edges : goal.returns-clause-edges
returns-clause-edges g c = λ ds are.
    let left = c.loop-place.invariant.left ds are in
    let none = ranks_none (names_in c.args.names.now) (drop c.loop-place.place c.args.ranks.now) left.0 (drop_all c.loop-place.place c.args.ranks.now (omega arith)) left.2 in
    sym (left.1 ∙ ap (λ x. edges_in c.loop-place.edges ++ x) none ∙ append-nil (edges_in c.loop-place.edges))
