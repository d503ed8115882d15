use Rattle.std.proofs.Common.{◌≡◌, [], false, arith, refl, sym, ◌∙◌, ap, subst, ◌<◌, ◌≤◌, ◌+◌, ◌∷◌, length, length-append}
use Rattle.std.specs.Prelude.{◌++◌, map}
use Rattle.code_laws.specs.Code.{step}
use Rattle.code_laws.specs.Orbits.{orbit}
use Rattle.code_laws.proofs.Sound.{sound_parts}
use Rattle.file_laws.specs.Contents.{Contents}
use Rattle.file_laws.specs.MapOfFile.{signed_at}
use Rattle.pemb_file.specs.Served.{contents_of_view}
use Rattle.id_names.specs.RisingNames.{RisingNames}
use Rattle.id_names.specs.Views.{names_in}
use Rattle.navigate.specs.Bound.{line_digits}
use Rattle.navigate.specs.Beside.{place_across}
use Rattle.navigate.specs.Ranked.{IsRankOf}
use Rattle.navigate.specs.OrbitWalk.{edge_names, positions_left, across_price}
use Rattle.navigate.proofs.Facts.{few_faces, sound_code}
use Rattle.navigate.proofs.Walking.{walk-head}
use Rattle.navigate.proofs.FaceLaws.{orbit-some}
use Rattle.navigate.proofs.RankLaws.{before_by_rank}
use Rattle.navigate.proofs.Leasts.{least-first, least-none, least-taken, least-left, paid-more}
use Rattle.navigate.proofs.Turning.{turned-first, turned-taken, turned-left, turned-last}
use Rattle.navigate.proofs.search.places_from_smallest.Goals as goal

pub unreachable-requires : goal.unreachable-requires
unreachable-requires g c =
    orbit-some (contents_of_view c.args.served).code false c.args.p c.requires (sym c.from-walk.ensures.positions ∙ c.in_default.ensures.next)

pub overflow_cast-first : goal.overflow_cast-first
overflow_cast-first g c =
    let few = few_faces (contents_of_view c.args.served) c.args.served.whole in
    let same : length (contents_of_view c.from-walk.result.served).faces ≡ length (contents_of_view c.args.served).faces = ap (λ (x : Contents). length x.faces) c.from-walk.ensures.contents in
    omega (arith, few, same, c.in-Some.ensures.low)

pub overflow_cast-found : goal.overflow_cast-found
overflow_cast-found g c =
    let few = few_faces (contents_of_view c.args.served) c.args.served.whole in
    let same : length (contents_of_view c.loop-walk.walk.served).faces ≡ length (contents_of_view c.args.served).faces = ap (λ (x : Contents). length x.faces) c.loop-walk.invariant.map in
    omega (arith, few, same, c.in-Some-across_once.ensures.low)

pub loop-walk-init : goal.loop-walk-init
loop-walk-init g c =
    let m = contents_of_view c.args.served in
    let own = c.in-Some.first.0 in
    let all = orbit m.code false c.args.p in
    let same = c.from-walk.ensures.contents in
    let new = positions_left c.across_once.new.self in
    let next : all ≡ own ∷ new = sym c.from-walk.ensures.positions ∙ c.in-Some.ensures.next in
    let cost : c.across_once.new.steps ≤ c.args.steps.now + across_price m = let e = ap line_digits same in omega (arith, e, c.in-Some.ensures.cost.1) in
    let across : c.in-Some.first.1.across ≡ place_across m own = c.in-Some.ensures.across ∙ ap (λ (x : Contents). place_across x own) same in
    record {
      map = c.in-Some.ensures.contents ∙ same;
      names = refl;
      kind = c.in-Some.ensures.kind;
      within = subst (λ (x : Contents). own < length x.code.a) same c.in-Some.ensures.within;
      edge = subst (λ (x : RisingNames). IsRankOf x c.in-Some.first.1.edge (signed_at m own)) (sym c.in-Some.ensures.names)
          (subst (λ (x : Contents). IsRankOf (edge_names c.from-walk.result) c.in-Some.first.1.edge (signed_at x own)) same c.in-Some.ensures.edge);
      least_left = least-first m c.args.p own all new (walk-head (length m.code.a) (step m.code false) c.args.p c.args.p (λ z. omega (arith, z, c.requires))) next;
      turned = turned-first (place_across m) all own c.push.new.self.items new c.in-Some.first.1.across next (c.push.ensures.items ∙ ap (λ xs. xs ++ c.in-Some.first.1.across ∷ []) c.clear.ensures) across;
      grows = c.in-Some.ensures.cost.0;
      many = let n : length c.push.new.self.items ≡ 1 = ap length (c.push.ensures.items ∙ ap (λ xs. xs ++ c.in-Some.first.1.across ∷ []) c.clear.ensures) in omega (arith, n, c.in-Some.ensures.cost.0);
      paid = paid-more (across_price m) own all new c.args.steps.now c.across_once.new.steps _ next (omega arith) cost;
    }

pub loop-walk-preserved-then-is_less : goal.loop-walk-preserved-then-is_less
loop-walk-preserved-then-is_less g c =
    let m = contents_of_view c.args.served in
    let i = c.loop-walk.invariant in
    let q = c.in-Some-across_once.found.0 in
    let here = c.in-Some-across_once.ensures in
    let left = positions_left c.loop-walk.walk in
    let new = positions_left c.across_once-in-loop-walk.new.self in
    let names = names_in c.edges-names.result.now in
    let all : edge_names c.loop-walk.walk ≡ names = i.names ∙ c.in-Some.ensures.names ∙ sym c.edges-names.ensures in
    let there = subst (λ (x : Contents). IsRankOf (edge_names c.loop-walk.walk) c.in-Some-across_once.found.1.edge (signed_at x q)) i.map here.edge in
    let edge = subst (λ (x : RisingNames). IsRankOf x c.in-Some-across_once.found.1.edge (signed_at m q)) all there in
    let best = subst (λ (x : RisingNames). IsRankOf x c.loop-walk.best.1 (signed_at m c.loop-walk.best.0)) all i.edge in
    let order = before_by_rank names c.in-Some-across_once.found.1.edge c.loop-walk.best.1 (signed_at m q) (signed_at m c.loop-walk.best.0) c.count-count.ensures.rising edge best ∙ sym c.is_less.ensures in
    let cost : c.across_once-in-loop-walk.new.steps ≤ c.loop-walk.steps + across_price m = let e = ap line_digits i.map in omega (arith, e, here.cost.1) in
    let across : c.in-Some-across_once.found.1.across ≡ place_across m q = here.across ∙ ap (λ (x : Contents). place_across x q) i.map in
    record {
      map = here.contents ∙ i.map;
      names = here.names ∙ i.names;
      kind = here.kind;
      within = subst (λ (x : Contents). q < length x.code.a) i.map here.within;
      edge = subst (λ (x : RisingNames). IsRankOf x c.in-Some-across_once.found.1.edge (signed_at m q)) (sym here.names) there;
      least_left = least-taken m c.loop-walk.best.0 q left new _ _ _ refl refl (order ∙ c.if-is_less.true) here.next i.least_left;
      turned = turned-taken (place_across m) (orbit m.code false c.args.p) c.loop-walk.best.0 c.loop-walk.before c.loop-walk.places.items left i.turned q c.in-Some-across_once.found.1.across
          c.len-count.result c.push-in-loop-walk.new.self.items new here.next across c.len-count.ensures.value c.push-in-loop-walk.ensures.items;
      grows = omega (arith, i.grows, here.cost.0);
      many = let n = ap length c.push-in-loop-walk.ensures.items ∙ length-append c.loop-walk.places.items (c.in-Some-across_once.found.1.across ∷ []) in omega (arith, n, i.many, here.cost.0);
      paid = paid-more (across_price m) q left new c.loop-walk.steps c.across_once-in-loop-walk.new.steps _ here.next i.paid cost;
    }

pub loop-walk-preserved : goal.loop-walk-preserved
loop-walk-preserved g c =
    let m = contents_of_view c.args.served in
    let i = c.loop-walk.invariant in
    let q = c.in-Some-across_once.found.0 in
    let here = c.in-Some-across_once.ensures in
    let left = positions_left c.loop-walk.walk in
    let new = positions_left c.across_once-in-loop-walk.new.self in
    let names = names_in c.edges-names.result.now in
    let all : edge_names c.loop-walk.walk ≡ names = i.names ∙ c.in-Some.ensures.names ∙ sym c.edges-names.ensures in
    let there = subst (λ (x : Contents). IsRankOf (edge_names c.loop-walk.walk) c.in-Some-across_once.found.1.edge (signed_at x q)) i.map here.edge in
    let edge = subst (λ (x : RisingNames). IsRankOf x c.in-Some-across_once.found.1.edge (signed_at m q)) all there in
    let best = subst (λ (x : RisingNames). IsRankOf x c.loop-walk.best.1 (signed_at m c.loop-walk.best.0)) all i.edge in
    let order = before_by_rank names c.in-Some-across_once.found.1.edge c.loop-walk.best.1 (signed_at m q) (signed_at m c.loop-walk.best.0) c.count-count.ensures.rising edge best ∙ sym c.is_less.ensures in
    let cost : c.across_once-in-loop-walk.new.steps ≤ c.loop-walk.steps + across_price m = let e = ap line_digits i.map in omega (arith, e, here.cost.1) in
    let across : c.in-Some-across_once.found.1.across ≡ place_across m q = here.across ∙ ap (λ (x : Contents). place_across x q) i.map in
    record {
      map = here.contents ∙ i.map;
      names = here.names ∙ i.names;
      kind = here.kind;
      within = i.within;
      edge = subst (λ (x : RisingNames). IsRankOf x c.loop-walk.best.1 (signed_at m c.loop-walk.best.0)) (sym here.names) i.edge;
      least_left = least-left m c.loop-walk.best.0 q left new _ _ _ refl refl (order ∙ c.if-is_less.false) here.next i.least_left;
      turned = turned-left (place_across m) (orbit m.code false c.args.p) c.loop-walk.best.0 c.loop-walk.before c.loop-walk.places.items left i.turned q c.in-Some-across_once.found.1.across
          c.push-in-loop-walk.new.self.items new here.next across c.push-in-loop-walk.ensures.items;
      grows = omega (arith, i.grows, here.cost.0);
      many = let n = ap length c.push-in-loop-walk.ensures.items ∙ length-append c.loop-walk.places.items (c.in-Some-across_once.found.1.across ∷ []) in omega (arith, n, i.many, here.cost.0);
      paid = paid-more (across_price m) q left new c.loop-walk.steps c.across_once-in-loop-walk.new.steps _ here.next i.paid cost;
    }

pub returns-in_default-across_once-clause-positions : goal.returns-in_default-across_once-clause-positions
returns-in_default-across_once-clause-positions g c =
    let m = contents_of_view c.args.served in
    let i = c.loop-walk.invariant in
    let last = c.in_default-across_once.ensures in
    let best = least-none m c.loop-walk.best.0 (positions_left c.loop-walk.walk) _ last.next i.least_left in
    c.begin_at.ensures.positions ∙ ap (λ (x : Contents). orbit x.code c.across_once-in-loop-walk.new.self.kind c.loop-walk.best.0) (last.contents ∙ i.map)
    ∙ ap (λ k. orbit m.code k c.loop-walk.best.0) last.kind ∙ ap (orbit m.code false) best

pub returns-in_default-across_once-clause-within : goal.returns-in_default-across_once-clause-within
returns-in_default-across_once-clause-within g c =
    let m = contents_of_view c.args.served in
    let i = c.loop-walk.invariant in
    subst (λ x. x < length m.code.a) (least-none m c.loop-walk.best.0 (positions_left c.loop-walk.walk) _ c.in_default-across_once.ensures.next i.least_left) i.within

pub returns-in_default-across_once-clause-places : goal.returns-in_default-across_once-clause-places
returns-in_default-across_once-clause-places g c =
    let m = contents_of_view c.args.served in
    let i = c.loop-walk.invariant in
    let last = c.in_default-across_once.ensures in
    let best = c.loop-walk.best.0 in
    let there : positions_left c.begin_at.new.self ≡ orbit m.code false best
    = c.begin_at.ensures.positions ∙ ap (λ (x : Contents). orbit x.code c.across_once-in-loop-walk.new.self.kind best) (last.contents ∙ i.map)
    ∙ ap (λ k. orbit m.code k best) last.kind in
    λ _. turned-last m.code (sound_parts m.code (sound_code m c.args.served.whole)) false (place_across m) c.args.p best c.loop-walk.before c.loop-walk.places.items
    (positions_left c.loop-walk.walk) c.requires i.turned last.next
    ∙ ap (map (place_across m)) (sym there)
