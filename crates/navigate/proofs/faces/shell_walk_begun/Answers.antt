use Rattle.std.proofs.Common.{arith, ◌∙◌, ◌+◌, ◌*◌, ◌<◌, ◌++◌, ap, subst, length, false, ◌-◌}
use Rattle.turan_code.specs.TuranView.{code_of_view}
use Rattle.code_laws.specs.Code.{Code}
use Rattle.code_laws.specs.Orbits.{orbit}
use Rattle.pemb_file.specs.Served.{contents_of_view}
use Rattle.navigate.specs.Bound.{line_digits}
use Rattle.navigate.specs.FirstEdges.{edges_in}
use Rattle.navigate.specs.OrbitWalk.{rest, price, rank_price, allowance}
use Rattle.navigate.proofs.Facts.{digits_view, few_faces}
use Rattle.navigate.proofs.Resting.{rest-none}
use Rattle.navigate.proofs.HoleLaws.{face_0}
use Rattle.navigate.proofs.ShellLaws.{shell_first, no_shell}
use Rattle.navigate.proofs.BegunWalks.{begun_none, begun_none_paid, begun_long, shell_begun, paid_behind}
use Rattle.navigate.proofs.faces.shell_walk_begun.Goals as goal

pub returns-then-place-eq0-clause-list : goal.returns-then-place-eq0-clause-list
returns-then-place-eq0-clause-list g c =
    begun_none (edges_in c.clear.new.self) (rest c.over.result) c.clear.ensures (rest-none c.over.result c.over.ensures.positions) ∙ face_0 (contents_of_view c.args.served) c.args.served.whole c.args.place c.if-place-eq0.true

pub returns-then-place-eq0-clause-least : goal.returns-then-place-eq0-clause-least
returns-then-place-eq0-clause-least g c = let none = ap length c.clear.ensures in omega (arith, none)

pub returns-then-place-eq0-clause-paid : goal.returns-then-place-eq0-clause-paid
returns-then-place-eq0-clause-paid g c =
    begun_none_paid c.over.result c.args.steps.now _ (rest-none c.over.result c.over.ensures.positions)

pub unreachable-requires : goal.unreachable-requires
unreachable-requires g c =
    no_shell (contents_of_view c.args.served) c.args.served.whole (code_of_view c.code.result.now) (c.args.place - 1) c.first_of_shell.result c.code.ensures.code c.in_default.is c.first_of_shell.ensures.none (omega (arith, c.requires, c.if-place-eq0.false))

pub returns-clause-list : goal.returns-clause-list
returns-clause-list g c =
    let m = contents_of_view c.args.served in
    let p = c.in-Some.p in
    let code = c.code.ensures.code in
    let walk = c.edges_from_smallest in
    shell_begun m c.args.served.whole (edges_in walk.new.edges ++ rest walk.result) p c.args.place (subst (λ (k : Code). p < length k.a) code c.in-Some.ensures.within) walk.ensures.within
    c.requires c.if-place-eq0.false (shell_first m (code_of_view c.code.result.now) (c.args.place - 1) p code c.in-Some.ensures.position) walk.ensures.list

pub returns-clause-least : goal.returns-clause-least
returns-clause-least g c = omega (arith, c.in-Some.ensures.some_steps, c.edges_from_smallest.ensures.least)

pub returns-clause-paid : goal.returns-clause-paid
returns-clause-paid g c =
    let m = contents_of_view c.args.served in
    let p = c.in-Some.p in
    let code = c.code.ensures.code in
    let walk = c.edges_from_smallest in
    let d = digits_view m c.args.served.whole (code_of_view c.code.result.now) code in
    let ds = edges_in walk.new.edges ++ rest walk.result in
    let long = begun_long m c.args.served.whole false p ds (subst (λ (k : Code). p < length k.a) code c.in-Some.ensures.within) walk.ensures.within walk.ensures.list in
    paid_behind (rank_price m + price m) (length ds) (length (orbit m.code false p)) c.args.steps.now c.first_of_shell.new.steps (6 * line_digits m + 24) (walk.new.steps + allowance walk.result)
    walk.ensures.paid long (omega (arith, d, c.in-Some.ensures.cost))

pub overflow_cast-place : goal.overflow_cast-place
overflow_cast-place g c = let few = few_faces (contents_of_view c.args.served) c.args.served.whole in omega (arith, few, c.requires)
