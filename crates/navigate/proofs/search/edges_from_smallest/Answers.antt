use Rattle.std.proofs.Common.{◌≡◌, ◌≤◌, ◌<◌, ◌+◌, ◌*◌, ◌++◌, ◌∷◌, [], List, map, length, length-append, append-nil, arith, refl, sym, ◌∙◌, ap, subst}
use Rattle.std.proofs.Math.Nat.{mul-le-mul_left}
use Rattle.bit_words.specs.Digits.{digits}
use Rattle.code_laws.specs.Code.{step}
use Rattle.code_laws.specs.Orbits.{orbit}
use Rattle.code_laws.proofs.Sound.{sound_parts}
use Rattle.file_laws.specs.Contents.{Contents}
use Rattle.file_laws.specs.MapOfFile.{signed_at}
use Rattle.pemb_file.specs.Served.{contents_of_view}
use Rattle.id_names.specs.RisingNames.{RisingNames, ids_by_number}
use Rattle.id_names.specs.Views.{ids_of, names_in}
use Rattle.navigate.specs.Bound.{line_digits}
use Rattle.navigate.specs.FirstEdges.{edges_in}
use Rattle.navigate.specs.Least.{smallest_of}
use Rattle.navigate.specs.Ranked.{IsRankOf, AreRanksOf}
use Rattle.navigate.specs.OrbitWalk.{edge_names, positions_left, rest, rank_price, price}
use Rattle.navigate.specs.declared.ranked.RankedEdge.{RankedEdge}
use Rattle.navigate.proofs.Facts.{sound_code, digits_edges}
use Rattle.navigate.proofs.Walking.{walk-head}
use Rattle.navigate.proofs.FaceLaws.{orbit-some}
use Rattle.navigate.proofs.RankLaws.{before_by_rank}
use Rattle.navigate.proofs.RankLists.{ranks_more, ranks_many, named_ranks, length-turned}
use Rattle.navigate.proofs.Resting.{rest-none, rest-at, allowance-none}
use Rattle.navigate.proofs.OrbitLengths.{smallest-length, making_paid}
use Rattle.navigate.proofs.Leasts.{least-first, least-none, least-taken, least-left, paid-more}
use Rattle.navigate.proofs.Turning.{turned-first, turned-taken, turned-left, turned-before, turned-many, turned-last}
use Rattle.navigate.proofs.search.edges_from_smallest.Goals as goal

pub unreachable-requires : goal.unreachable-requires
unreachable-requires g c =
    orbit-some (contents_of_view c.args.served).code c.args.kind c.args.p c.requires (sym c.from-walk.ensures.positions ∙ c.in_default.ensures.next)

pub loop-names-init : goal.loop-names-init
loop-names-init g c =
    let m = contents_of_view c.args.served in
    let kind = c.args.kind in
    let p = c.args.p in
    let own = c.in-Some.best.0 in
    let all = orbit m.code kind p in
    let same = c.from-walk.ensures.contents in
    let new = positions_left c.ranked_once.new.self in
    let next : all ≡ own ∷ new = sym c.from-walk.ensures.positions ∙ c.in-Some.ensures.next in
    let cost : c.ranked_once.new.steps ≤ c.args.steps.now + rank_price m = let e = ap line_digits same in omega (arith, e, c.in-Some.ensures.cost.1) in
    let edge = subst (λ (x : RisingNames). IsRankOf x c.in-Some.best.1 (signed_at m own)) (sym c.in-Some.ensures.names)
    (subst (λ (x : Contents). IsRankOf (edge_names c.from-walk.result) c.in-Some.best.1 (signed_at x own)) same c.in-Some.ensures.edge) in
    let one : c.push.new.self.items ≡ c.in-Some.best.1 ∷ [] = c.push.ensures.items ∙ ap (λ xs. xs ++ c.in-Some.best.1 ∷ []) c.new-ranks.ensures in
    let n : length c.push.new.self.items ≡ 1 = ap length one in
    record {
      map = c.in-Some.ensures.contents ∙ same;
      names = refl;
      kind = c.in-Some.ensures.kind ∙ c.from-walk.ensures.kind;
      within = subst (λ (x : Contents). own < length x.code.a) same c.in-Some.ensures.within;
      edge = edge;
      least_left = least-first m p own all new (walk-head (length m.code.a) (step m.code kind) p p (λ z. omega (arith, z, c.requires))) next;
      ranks = (
        signed_at m own ∷ [],
        turned-first (signed_at m) all own (signed_at m own ∷ []) new (signed_at m own) next refl refl,
        subst (λ (xs : List RankedEdge). AreRanksOf (edge_names c.ranked_once.new.self) xs (signed_at m own ∷ [])) (sym one) (edge, tt),
      );
      none = c.clear.ensures;
      many = omega (arith, n, c.in-Some.ensures.cost.0);
      paid = paid-more (rank_price m) own all new c.args.steps.now c.ranked_once.new.steps _ next (omega arith) cost;
    }

pub loop-names-preserved-then-is_less : goal.loop-names-preserved-then-is_less
loop-names-preserved-then-is_less g c =
    let m = contents_of_view c.args.served in
    let i = c.loop-names.invariant in
    let found = c.in-Some-ranked_once.next in
    let q = found.0 in
    let here = c.in-Some-ranked_once.ensures in
    let left = positions_left c.loop-names.walk in
    let new = positions_left c.ranked_once-in-loop-names.new.self in
    let names = names_in c.edges-names.result.now in
    let all : edge_names c.loop-names.walk ≡ names = i.names ∙ c.in-Some.ensures.names ∙ sym c.edges-names.ensures in
    let there = subst (λ (x : Contents). IsRankOf (edge_names c.loop-names.walk) found.1 (signed_at x q)) i.map here.edge in
    let edge = subst (λ (x : RisingNames). IsRankOf x found.1 (signed_at m q)) all there in
    let best = subst (λ (x : RisingNames). IsRankOf x c.loop-names.best.1 (signed_at m c.loop-names.best.0)) all i.edge in
    let order = before_by_rank names found.1 c.loop-names.best.1 (signed_at m q) (signed_at m c.loop-names.best.0) c.count-count.ensures.rising edge best ∙ sym c.is_less.ensures in
    let cost : c.ranked_once-in-loop-names.new.steps ≤ c.loop-names.steps + rank_price m = let e = ap line_digits i.map in omega (arith, e, here.cost.1) in
    let ds = i.ranks.0 in
    let more = ranks_more (edge_names c.loop-names.walk) c.loop-names.ranks.items ds found.1 (signed_at m q) i.ranks.2 there in
    let ranks = subst (λ (x : RisingNames). AreRanksOf x c.push-in-loop-names.new.self.items (ds ++ signed_at m q ∷ [])) (sym here.names)
    (subst (λ (xs : List RankedEdge). AreRanksOf (edge_names c.loop-names.walk) xs (ds ++ signed_at m q ∷ [])) (sym c.push-in-loop-names.ensures.items) more) in
    let n : length c.push-in-loop-names.new.self.items ≡ length c.loop-names.ranks.items + 1 = ap length c.push-in-loop-names.ensures.items ∙ length-append c.loop-names.ranks.items (found.1 ∷ []) in
    record {
      map = here.contents ∙ i.map;
      names = here.names ∙ i.names;
      kind = here.kind ∙ i.kind;
      within = subst (λ (x : Contents). q < length x.code.a) i.map here.within;
      edge = subst (λ (x : RisingNames). IsRankOf x found.1 (signed_at m q)) (sym here.names) there;
      least_left = least-taken m c.loop-names.best.0 q left new _ _ _ refl refl (order ∙ c.if-is_less.true) here.next i.least_left;
      ranks = (
        ds ++ signed_at m q ∷ [],
        turned-taken (signed_at m) (orbit m.code c.args.kind c.args.p) c.loop-names.best.0 c.loop-names.before ds left i.ranks.1 q (signed_at m q)
            c.len-count.result (ds ++ signed_at m q ∷ []) new here.next refl (c.len-count.ensures.value ∙ ranks_many (edge_names c.loop-names.walk) c.loop-names.ranks.items ds i.ranks.2) refl,
        ranks,
      );
      none = i.none;
      many = omega (arith, n, i.many, here.cost.0);
      paid = paid-more (rank_price m) q left new c.loop-names.steps c.ranked_once-in-loop-names.new.steps _ here.next i.paid cost;
    }

pub loop-names-preserved : goal.loop-names-preserved
loop-names-preserved g c =
    let m = contents_of_view c.args.served in
    let i = c.loop-names.invariant in
    let found = c.in-Some-ranked_once.next in
    let q = found.0 in
    let here = c.in-Some-ranked_once.ensures in
    let left = positions_left c.loop-names.walk in
    let new = positions_left c.ranked_once-in-loop-names.new.self in
    let names = names_in c.edges-names.result.now in
    let all : edge_names c.loop-names.walk ≡ names = i.names ∙ c.in-Some.ensures.names ∙ sym c.edges-names.ensures in
    let there = subst (λ (x : Contents). IsRankOf (edge_names c.loop-names.walk) found.1 (signed_at x q)) i.map here.edge in
    let edge = subst (λ (x : RisingNames). IsRankOf x found.1 (signed_at m q)) all there in
    let best = subst (λ (x : RisingNames). IsRankOf x c.loop-names.best.1 (signed_at m c.loop-names.best.0)) all i.edge in
    let order = before_by_rank names found.1 c.loop-names.best.1 (signed_at m q) (signed_at m c.loop-names.best.0) c.count-count.ensures.rising edge best ∙ sym c.is_less.ensures in
    let cost : c.ranked_once-in-loop-names.new.steps ≤ c.loop-names.steps + rank_price m = let e = ap line_digits i.map in omega (arith, e, here.cost.1) in
    let ds = i.ranks.0 in
    let more = ranks_more (edge_names c.loop-names.walk) c.loop-names.ranks.items ds found.1 (signed_at m q) i.ranks.2 there in
    let ranks = subst (λ (x : RisingNames). AreRanksOf x c.push-in-loop-names.new.self.items (ds ++ signed_at m q ∷ [])) (sym here.names)
    (subst (λ (xs : List RankedEdge). AreRanksOf (edge_names c.loop-names.walk) xs (ds ++ signed_at m q ∷ [])) (sym c.push-in-loop-names.ensures.items) more) in
    let n : length c.push-in-loop-names.new.self.items ≡ length c.loop-names.ranks.items + 1 = ap length c.push-in-loop-names.ensures.items ∙ length-append c.loop-names.ranks.items (found.1 ∷ []) in
    record {
      map = here.contents ∙ i.map;
      names = here.names ∙ i.names;
      kind = here.kind ∙ i.kind;
      within = i.within;
      edge = subst (λ (x : RisingNames). IsRankOf x c.loop-names.best.1 (signed_at m c.loop-names.best.0)) (sym here.names) i.edge;
      least_left = least-left m c.loop-names.best.0 q left new _ _ _ refl refl (order ∙ c.if-is_less.false) here.next i.least_left;
      ranks = (
        ds ++ signed_at m q ∷ [],
        turned-left (signed_at m) (orbit m.code c.args.kind c.args.p) c.loop-names.best.0 c.loop-names.before ds left i.ranks.1 q (signed_at m q)
            (ds ++ signed_at m q ∷ []) new here.next refl refl,
        ranks,
      );
      none = i.none;
      many = omega (arith, n, i.many, here.cost.0);
      paid = paid-more (rank_price m) q left new c.loop-names.steps c.ranked_once-in-loop-names.new.steps _ here.next i.paid cost;
    }

pub put_down_turned-requires-clause-none : goal.put_down_turned-requires-clause-none
put_down_turned-requires-clause-none g c = c.loop-names.invariant.none

pub put_down_turned-requires-clause-before : goal.put_down_turned-requires-clause-before
put_down_turned-requires-clause-before g c =
    let m = contents_of_view c.args.served in
    let i = c.loop-names.invariant in
    let before = turned-before (signed_at m) (orbit m.code c.args.kind c.args.p) c.loop-names.best.0 c.loop-names.before i.ranks.0 (positions_left c.loop-names.walk) i.ranks.1 in
    let many = ranks_many (edge_names c.loop-names.walk) c.loop-names.ranks.items i.ranks.0 i.ranks.2 in
    let n = ap length c.as_slice.ensures.value in
    omega (arith, before, many, n)

pub put_down_turned-requires-clause-ranks : goal.put_down_turned-requires-clause-ranks
put_down_turned-requires-clause-ranks g c =
    let i = c.loop-names.invariant in
    let all : edge_names c.loop-names.walk ≡ names_in c.edges-names.result.now = i.names ∙ c.in-Some.ensures.names ∙ sym c.edges-names.ensures in
    (i.ranks.0, named_ranks (edge_names c.loop-names.walk) (names_in c.edges-names.result.now) c.loop-names.ranks.items c.as_slice.result.now i.ranks.0 all c.as_slice.ensures.value i.ranks.2)

pub returns-in_default-ranked_once-clause-list : goal.returns-in_default-ranked_once-clause-list
returns-in_default-ranked_once-clause-list g c =
    let m = contents_of_view c.args.served in
    let kind = c.args.kind in
    let i = c.loop-names.invariant in
    let last = c.in_default-ranked_once.ensures in
    let left = positions_left c.loop-names.walk in
    let all : edge_names c.loop-names.walk ≡ names_in c.edges-names.result.now = i.names ∙ c.in-Some.ensures.names ∙ sym c.edges-names.ensures in
    let are = named_ranks (edge_names c.loop-names.walk) (names_in c.edges-names.result.now) c.loop-names.ranks.items c.as_slice.result.now i.ranks.0 all c.as_slice.ensures.value i.ranks.2 in
    let best = least-none m c.loop-names.best.0 left _ last.next i.least_left in
    let put = c.put_down_turned.ensures.edges i.ranks.0 are
    ∙ turned-last m.code (sound_parts m.code (sound_code m c.args.served.whole)) kind (signed_at m) c.args.p c.loop-names.best.0 c.loop-names.before i.ranks.0 left c.requires i.ranks.1 last.next
    ∙ ap (λ q. map (signed_at m) (orbit m.code kind q)) best in
    ap (λ xs. edges_in c.put_down_turned.new.edges ++ xs) (rest-none c.ranked_once-in-loop-names.new.self last.within) ∙ append-nil (edges_in c.put_down_turned.new.edges) ∙ put

pub returns-in_default-ranked_once-clause-within : goal.returns-in_default-ranked_once-clause-within
returns-in_default-ranked_once-clause-within g c =
    let m = contents_of_view c.args.served in
    let i = c.loop-names.invariant in
    subst (λ x. x < length m.code.a) (least-none m c.loop-names.best.0 (positions_left c.loop-names.walk) _ c.in_default-ranked_once.ensures.next i.least_left) i.within

pub returns-in_default-ranked_once-clause-least : goal.returns-in_default-ranked_once-clause-least
returns-in_default-ranked_once-clause-least g c =
    let i = c.loop-names.invariant in
    let ds = i.ranks.0 in
    let all : edge_names c.loop-names.walk ≡ names_in c.edges-names.result.now = i.names ∙ c.in-Some.ensures.names ∙ sym c.edges-names.ensures in
    let are = named_ranks (edge_names c.loop-names.walk) (names_in c.edges-names.result.now) c.loop-names.ranks.items c.as_slice.result.now ds all c.as_slice.ensures.value i.ranks.2 in
    let put = ap length (c.put_down_turned.ensures.edges ds are) ∙ length-turned c.loop-names.before ds in
    let many = ranks_many (names_in c.edges-names.result.now) c.as_slice.result.now ds are in
    let same = ap length c.as_slice.ensures.value in
    omega (arith, put, many, same, i.many, c.in_default-ranked_once.ensures.cost, c.put_down_turned.ensures.grows)

pub returns-in_default-ranked_once-clause-paid : goal.returns-in_default-ranked_once-clause-paid
returns-in_default-ranked_once-clause-paid g c =
    let m = contents_of_view c.args.served in
    let i = c.loop-names.invariant in
    let last = c.in_default-ranked_once.ensures in
    let ds = i.ranks.0 in
    let left = positions_left c.loop-names.walk in
    let n = length (orbit m.code c.args.kind c.args.p) in
    let l = line_digits m in
    let k = digits (length (ids_of c.edges-names.result.now) + 2) in
    let ids : length (ids_of c.edges-names.result.now) ≡ length m.edges
    = ap (λ (x : RisingNames). length (ids_by_number x)) c.edges-names.ensures ∙ ap length c.from-walk.result.ids ∙ ap (λ (x : Contents). length x.edges) c.from-walk.ensures.contents in
    let few : k ≤ l = let d = digits_edges m c.args.served.whole in let e = ap (λ x. digits (x + 2)) ids in omega (arith, d, e) in
    let many : length c.as_slice.result.now ≡ n
    = ap length c.as_slice.ensures.value ∙ ranks_many (edge_names c.loop-names.walk) c.loop-names.ranks.items ds i.ranks.2
    ∙ turned-many (signed_at m) (orbit m.code c.args.kind c.args.p) c.loop-names.best.0 c.loop-names.before ds left i.ranks.1 last.next in
    let put : c.put_down_turned.new.steps ≤ c.ranked_once-in-loop-names.new.steps + (3 * k + 18) * n
    = subst (λ x. c.put_down_turned.new.steps ≤ c.ranked_once-in-loop-names.new.steps + (3 * k + 18) * x) many c.put_down_turned.ensures.cost in
    let each : n * (3 * k + 18) ≤ n * (3 * l + 18) = mul-le-mul_left n (omega (arith, few)) in
    let all : n * (3 * l + 18) + rank_price m * n ≤ (rank_price m + price m) * n = omega arith in
    let none = allowance-none c.ranked_once-in-loop-names.new.self (rest-none c.ranked_once-in-loop-names.new.self last.within) in
    omega (arith, none, put, each, all, last.cost, i.paid)

pub returns-clause-list : goal.returns-clause-list
returns-clause-list g c =
    let m = contents_of_view c.args.served in
    let walk = c.searched in
    ap (λ xs. xs ++ rest walk.result) c.loop-names.invariant.none
    ∙ rest-at walk.result m (orbit m.code c.args.kind (smallest_of m c.args.kind c.args.p)) walk.ensures.contents walk.ensures.positions

pub returns-clause-least : goal.returns-clause-least
returns-clause-least g c =
    let i = c.loop-names.invariant in
    let none = ap length i.none in
    omega (arith, none, i.many, c.searched.ensures.grows)

pub returns-clause-paid : goal.returns-clause-paid
returns-clause-paid g c =
    let m = contents_of_view c.args.served in
    let walk = c.searched in
    let i = c.loop-names.invariant in
    let list = rest-at walk.result m (orbit m.code c.args.kind (smallest_of m c.args.kind c.args.p)) walk.ensures.contents walk.ensures.positions in
    let long = ap length list ∙ smallest-length m (sound_code m c.args.served.whole) c.args.kind c.args.p c.requires walk.ensures.within in
    let n = length (orbit m.code c.args.kind c.args.p) in
    let same : (rank_price m + price m) * length (rest walk.result) ≡ (rank_price m + price m) * n = ap (λ k. (rank_price m + price m) * k) long in
    let made = making_paid walk.result m n c.args.steps.now walk.new.steps walk.ensures.contents long (omega (arith, i.paid, walk.ensures.cost)) in
    omega (arith, same, made)
