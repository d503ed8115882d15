use Rattle.std.proofs.Common.{◌≡◌, arith, refl, sym, ◌∙◌, ap, subst, ◌<◌, ◌≤◌, ◌+◌, length}
use Rattle.code_laws.specs.Orbits.{orbit}
use Rattle.file_laws.specs.Contents.{Contents}
use Rattle.file_laws.specs.MapOfFile.{signed_at}
use Rattle.pemb_file.specs.Served.{contents_of_view}
use Rattle.id_names.specs.RisingNames.{RisingNames}
use Rattle.id_names.specs.Views.{names_in}
use Rattle.navigate.specs.Bound.{line_digits}
use Rattle.navigate.specs.Ranked.{IsRankOf}
use Rattle.navigate.specs.OrbitWalk.{edge_names, positions_left, rank_price}
use Rattle.navigate.proofs.RankLaws.{before_by_rank}
use Rattle.navigate.proofs.Leasts.{least-none, least-taken, least-left, paid-one}
use Rattle.navigate.proofs.search.searched.Goals as goal

pub loop-found-init : goal.loop-found-init
loop-found-init g c = record {
  map = c.requires.contents;
  names = refl;
  kind = c.requires.kind;
  within = c.requires.within;
  edge = c.requires.edge;
  least_left = c.requires.smallest;
  grows = omega arith;
  paid = omega arith;
}

pub loop-found-preserved-then-is_less : goal.loop-found-preserved-then-is_less
loop-found-preserved-then-is_less g c =
    let m = contents_of_view c.args.served in
    let i = c.loop-found.invariant in
    let q = c.in-Some.found.0 in
    let here = c.in-Some.ensures in
    let left = positions_left c.loop-found.walk in
    let new = positions_left c.ranked.new.self in
    let names = names_in c.edges-edges.result.now in
    let all : edge_names c.loop-found.walk ≡ names = i.names ∙ sym c.edges-edges.ensures in
    let there = subst (λ (x : Contents). IsRankOf (edge_names c.loop-found.walk) c.in-Some.found.1 (signed_at x q)) i.map here.edge in
    let edge = subst (λ (x : RisingNames). IsRankOf x c.in-Some.found.1 (signed_at m q)) all there in
    let best = subst (λ (x : RisingNames). IsRankOf x c.loop-found.best.1 (signed_at m c.loop-found.best.0)) all i.edge in
    let order = before_by_rank names c.in-Some.found.1 c.loop-found.best.1 (signed_at m q) (signed_at m c.loop-found.best.0) c.count-count.ensures.rising edge best ∙ sym c.is_less.ensures in
    let cost : c.ranked.new.steps ≤ c.loop-found.steps + rank_price m = let e = ap line_digits i.map in omega (arith, e, here.cost.1) in
    record {
      map = here.contents ∙ i.map;
      names = here.names ∙ i.names;
      kind = here.kind ∙ i.kind;
      within = subst (λ (x : Contents). q < length x.code.a) i.map here.within;
      edge = subst (λ (x : RisingNames). IsRankOf x c.in-Some.found.1 (signed_at m q)) (sym here.names) there;
      least_left = least-taken m c.loop-found.best.0 q left new _ _ _ refl refl (order ∙ c.if-is_less.true) here.next i.least_left;
      grows = omega (arith, i.grows, here.cost.0);
      paid = paid-one m q left new c.loop-found.steps c.ranked.new.steps _ here.next i.paid cost;
    }

pub loop-found-preserved : goal.loop-found-preserved
loop-found-preserved g c =
    let m = contents_of_view c.args.served in
    let i = c.loop-found.invariant in
    let q = c.in-Some.found.0 in
    let here = c.in-Some.ensures in
    let left = positions_left c.loop-found.walk in
    let new = positions_left c.ranked.new.self in
    let names = names_in c.edges-edges.result.now in
    let all : edge_names c.loop-found.walk ≡ names = i.names ∙ sym c.edges-edges.ensures in
    let there = subst (λ (x : Contents). IsRankOf (edge_names c.loop-found.walk) c.in-Some.found.1 (signed_at x q)) i.map here.edge in
    let edge = subst (λ (x : RisingNames). IsRankOf x c.in-Some.found.1 (signed_at m q)) all there in
    let best = subst (λ (x : RisingNames). IsRankOf x c.loop-found.best.1 (signed_at m c.loop-found.best.0)) all i.edge in
    let order = before_by_rank names c.in-Some.found.1 c.loop-found.best.1 (signed_at m q) (signed_at m c.loop-found.best.0) c.count-count.ensures.rising edge best ∙ sym c.is_less.ensures in
    let cost : c.ranked.new.steps ≤ c.loop-found.steps + rank_price m = let e = ap line_digits i.map in omega (arith, e, here.cost.1) in
    record {
      map = here.contents ∙ i.map;
      names = here.names ∙ i.names;
      kind = here.kind ∙ i.kind;
      within = i.within;
      edge = subst (λ (x : RisingNames). IsRankOf x c.loop-found.best.1 (signed_at m c.loop-found.best.0)) (sym here.names) i.edge;
      least_left = least-left m c.loop-found.best.0 q left new _ _ _ refl refl (order ∙ c.if-is_less.false) here.next i.least_left;
      grows = omega (arith, i.grows, here.cost.0);
      paid = paid-one m q left new c.loop-found.steps c.ranked.new.steps _ here.next i.paid cost;
    }

pub returns-clause-positions : goal.returns-clause-positions
returns-clause-positions g c =
    let m = contents_of_view c.args.served in
    let i = c.loop-found.invariant in
    let last = c.in_default.ensures in
    let best = least-none m c.loop-found.best.0 (positions_left c.loop-found.walk) _ last.next i.least_left in
    c.begin_at.ensures.positions ∙ ap (λ (x : Contents). orbit x.code c.ranked.new.self.kind c.loop-found.best.0) (last.contents ∙ i.map)
    ∙ ap (λ k. orbit m.code k c.loop-found.best.0) (last.kind ∙ i.kind) ∙ ap (orbit m.code c.args.kind) best

pub returns-clause-within : goal.returns-clause-within
returns-clause-within g c =
    let m = contents_of_view c.args.served in
    let i = c.loop-found.invariant in
    subst (λ x. x < length m.code.a) (least-none m c.loop-found.best.0 (positions_left c.loop-found.walk) _ c.in_default.ensures.next i.least_left) i.within
