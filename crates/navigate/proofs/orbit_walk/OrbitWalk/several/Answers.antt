use Rattle.std.proofs.Common.{◌≡◌, ◌≤◌, ◌+◌, ◌*◌, ℕ, List, length, ap, sym, ◌∙◌, subst, arith}
use Rattle.std.proofs.Math.Nat.{mul-le-mul_left}
use Rattle.bit_words.specs.Digits.{digits}
use Rattle.id_names.specs.Views.{ids_of}
use Rattle.navigate.specs.Bound.{line_digits}
use Rattle.navigate.specs.OrbitWalk.{contents_in, edge_names, price, rank_price}
use Rattle.navigate.specs.Ranked.{AreRanksOf}
use Rattle.navigate.specs.Several.{edges_in}
use Rattle.navigate.specs.declared.ranked.RankedEdge.{RankedEdge}
use Rattle.navigate.proofs.Facts.{digits_edges}
use Rattle.navigate.proofs.RankLists.{ranks_many, edges_none, allowance-several}
use Rattle.navigate.proofs.orbit_walk.OrbitWalk.several.Goals as goal

pub returns-clause-end : goal.returns-clause-end
returns-clause-end g c = λ e.
    let names = edge_names c.args.self.now in
    let s = c.several_ranked.ensures in
    let ranks = c.several_ranked.new.ranks.items in
    let given = s.gives.0 in
    let same : edges_in c.edges_of.new.edges ≡ given = c.edges_of.ensures.edges given (subst (λ (xs : List RankedEdge). AreRanksOf names xs given) (sym c.as_slice.ensures.value) s.gives.2) in
    s.end (edges_none names ranks given (sym same ∙ e) s.gives.2)

pub returns-clause-least : goal.returns-clause-least
returns-clause-least g c =
    let names = edge_names c.args.self.now in
    let s = c.several_ranked.ensures in
    let ranks = c.several_ranked.new.ranks.items in
    let given = s.gives.0 in
    let same : edges_in c.edges_of.new.edges ≡ given = c.edges_of.ensures.edges given (subst (λ (xs : List RankedEdge). AreRanksOf names xs given) (sym c.as_slice.ensures.value) s.gives.2) in
    let n : length ranks ≡ length (edges_in c.edges_of.new.edges) = ranks_many names ranks given s.gives.2 ∙ ap length (sym same) in
    omega (arith, n, s.least, c.edges_of.ensures.grows)

pub returns-clause-free : goal.returns-clause-free
returns-clause-free g c = λ e.
    let names = edge_names c.args.self.now in
    let s = c.several_ranked.ensures in
    let ranks = c.several_ranked.new.ranks.items in
    let given = s.gives.0 in
    let same : edges_in c.edges_of.new.edges ≡ given = c.edges_of.ensures.edges given (subst (λ (xs : List RankedEdge). AreRanksOf names xs given) (sym c.as_slice.ensures.value) s.gives.2) in
    let none = edges_none names ranks given (sym same ∙ e) s.gives.2 in
    let n : length c.as_slice.result.now ≡ 0 = ap length (c.as_slice.ensures.value ∙ none) in
    let cost = subst (λ k. c.edges_of.new.steps ≤ c.several_ranked.new.steps + (3 * digits (length (ids_of c.args.self.now.edges.now) + 2) + 18) * k) n c.edges_of.ensures.cost in
    let read = s.free none in
    omega (arith, read, cost, c.edges_of.ensures.grows)

pub returns-clause-paid : goal.returns-clause-paid
returns-clause-paid g c =
    let names = edge_names c.args.self.now in
    let m = contents_in c.args.self.now in
    let s = c.several_ranked.ensures in
    let ranks = c.several_ranked.new.ranks.items in
    let given = s.gives.0 in
    let n = length given in
    let l = line_digits m in
    let k = digits (length (ids_of c.args.self.now.edges.now) + 2) in
    let many = ranks_many names ranks given s.gives.2 in
    let few : k ≤ l = let d = digits_edges m c.args.self.now.served.whole in let e = ap (λ (xs : List ℕ). digits (length xs + 2)) c.args.self.now.ids in omega (arith, d, e) in
    let each : n * (3 * k + 18) ≤ n * (3 * l + 18) = mul-le-mul_left n (omega (arith, few)) in
    let ids : c.edges_of.new.steps ≤ c.several_ranked.new.steps + (3 * k + 18) * n
    = subst (λ x. c.edges_of.new.steps ≤ c.several_ranked.new.steps + (3 * k + 18) * x) (ap length c.as_slice.ensures.value ∙ many) c.edges_of.ensures.cost in
    let walked = subst (λ x. c.several_ranked.new.steps ≤ c.args.steps.now + rank_price m * x) many s.cost in
    let all : rank_price m * n + n * (3 * l + 18) ≡ price m * n = omega arith in
    let more = allowance-several c.args.self.now c.several_ranked.new.self given s.contents s.gives.1 in
    omega (arith, each, ids, walked, all, more)
