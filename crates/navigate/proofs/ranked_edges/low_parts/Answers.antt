use Rattle.std.proofs.Common.{◌+◌, ◌∷◌, ◌++◌, [], map, length, length-append, append-nil, refl, ap, sym, ◌∙◌, arith}
use Rattle.std.proofs.lemmas.List.{drop_all}
use Rattle.id_names.specs.Views.{names_in}
use Rattle.navigate.specs.Ranked.{low_of}
use Rattle.navigate.proofs.RankLists.{this_rank, lows_more, ranks_drop}
use Rattle.navigate.proofs.ranked_edges.low_parts.Goals as goal

pub low_at-requires : goal.low_at-requires
low_at-requires g c =
    let names = names_in c.args.names.now in
    let given = c.requires.ranks in
    let left = ranks_drop names c.args.ranks.now c.loop-ranked.ranked-index given.0 given.1 in
    (this_rank names c.args.ranks.now c.loop-ranked.ranked-index left.0 (omega arith) left.1).is.within

pub loop-ranked-init : goal.loop-ranked-init
loop-ranked-init g c = record {
  lows = rw c.new-lows.ensures refl;
  count = ap length c.new-lows.ensures;
  grows = omega arith;
  cost = omega arith;
}

pub loop-ranked-preserved : goal.loop-ranked-preserved
loop-ranked-preserved g c =
    let names = names_in c.args.names.now in
    let i = c.loop-ranked.invariant in
    let k = c.loop-ranked.ranked-index in
    record {
      lows = lows_more names c.args.ranks.now k c.loop-ranked.lows.items c.push.new.self.items c.low_at.result (omega arith) i.lows c.low_at.ensures.low c.push.ensures.items;
      count = ap length c.push.ensures.items ∙ length-append c.loop-ranked.lows.items (c.low_at.result ∷ []) ∙ ap (λ n. n + 1) i.count;
      grows = omega (arith, i.grows, c.low_at.ensures.some_steps);
      cost = omega (arith, i.cost, c.low_at.ensures.cost);
    }

pub returns-clause-lows : goal.returns-clause-lows
returns-clause-lows g c =
    let i = c.loop-ranked.invariant in
    let f = low_of (names_in c.args.names.now) in
    sym (i.lows ∙ ap (λ x. c.loop-ranked.lows.items ++ map f x) (drop_all c.loop-ranked.ranked-index c.args.ranks.now (omega arith)) ∙ append-nil c.loop-ranked.lows.items)
