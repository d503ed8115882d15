use Rattle.std.proofs.Common.{◌≡◌, ◌≤◌, ◌+◌, ◌∷◌, ◌++◌, [], List, length, length-append, append_assoc, refl, ap, sym, ◌∙◌, subst, arith}
use Rattle.file_laws.specs.MapOfFile.{signed_at}
use Rattle.id_names.specs.RisingNames.{RisingNames}
use Rattle.navigate.specs.Bound.{line_digits}
use Rattle.navigate.specs.OrbitWalk.{contents_in, edge_names, rest, rank_price}
use Rattle.navigate.specs.Ranked.{IsRankOf, AreRanksOf}
use Rattle.navigate.specs.declared.ranked.RankedEdge.{RankedEdge}
use Rattle.navigate.proofs.RankLists.{ranks_more, ranks_none, cost_more}
use Rattle.navigate.proofs.Resting.{rest-none, rest-some}
use Rattle.navigate.proofs.orbit_walk.OrbitWalk.several_ranked.Goals as goal

pub loop-self-init : goal.loop-self-init
loop-self-init g c =
    let names = edge_names c.args.self.now in
    let none = c.requires in
    let n : length c.args.ranks.now.items ≡ 0 = ap length none in
    record {
      contents = refl;
      names = refl;
      gives = ([], refl, subst (λ (xs : List RankedEdge). AreRanksOf names xs []) (sym none) tt);
      least = omega (arith, n);
      cost = omega arith;
    }

pub loop-self-preserved : goal.loop-self-preserved
loop-self-preserved g c =
    let m = contents_in c.args.self.now in
    let names = edge_names c.args.self.now in
    let i = c.loop-self.invariant in
    let w = c.loop-self.self in
    let ranks = c.loop-self.ranks.items in
    let given = i.gives.0 in
    let here = c.in-Some.ensures in
    let p = c.in-Some.found.0 in
    let edge = c.in-Some.found.1 in
    let d = signed_at (contents_in w) p in
    let is = subst (λ (x : RisingNames). IsRankOf x edge d) i.names here.edge in
    let next = rest-some w c.ranked_once.new.self p d here.contents here.next refl in
    let n : length c.push.new.self.items ≡ length ranks + 1 = ap length c.push.ensures.items ∙ length-append ranks (edge ∷ []) in
    let price : c.ranked_once.new.steps ≤ c.loop-self.steps + rank_price m = let e = ap line_digits i.contents in omega (arith, e, here.cost.1) in
    record {
      contents = here.contents ∙ i.contents;
      names = here.names ∙ i.names;
      gives = (
        given ++ d ∷ [],
        i.gives.1 ∙ ap (λ x. given ++ x) next ∙ sym (append_assoc given (d ∷ []) (rest c.ranked_once.new.self)),
        subst (λ (xs : List RankedEdge). AreRanksOf names xs (given ++ d ∷ [])) (sym c.push.ensures.items) (ranks_more names ranks given edge d i.gives.2 is),
      );
      least = omega (arith, n, i.least, here.cost.0);
      cost = cost_more (rank_price m) (length ranks) (length c.push.new.self.items) c.args.steps.now c.loop-self.steps c.ranked_once.new.steps n i.cost price;
    }

pub returns-in-None-clause-end : goal.returns-in-None-clause-end
returns-in-None-clause-end g c = λ e.
    let i = c.loop-self.invariant in
    i.gives.1 ∙ ap (λ x. x ++ rest c.loop-self.self) (ranks_none (edge_names c.args.self.now) c.loop-self.ranks.items i.gives.0 e i.gives.2) ∙ rest-none c.loop-self.self c.in-None.ensures.next

pub returns-in-None-clause-gives : goal.returns-in-None-clause-gives
returns-in-None-clause-gives g c =
    let i = c.loop-self.invariant in
    let same : rest c.loop-self.self ≡ rest c.ranked_once.new.self = rest-none c.loop-self.self c.in-None.ensures.next ∙ sym (rest-none c.ranked_once.new.self c.in-None.ensures.within) in (i.gives.0, i.gives.1 ∙ ap (λ x. i.gives.0 ++ x) same, i.gives.2)
