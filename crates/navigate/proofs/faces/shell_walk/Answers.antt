use Rattle.std.proofs.Common.{refl, arith, ◌∙◌, ◌<◌, subst, length, false, ◌-◌}
use Rattle.turan_code.specs.TuranView.{code_of_view}
use Rattle.code_laws.specs.Code.{Code}
use Rattle.code_laws.specs.Orbits.{orbit}
use Rattle.pemb_file.specs.Served.{contents_of_view}
use Rattle.navigate.specs.Least.{smallest_of}
use Rattle.navigate.proofs.Facts.{digits_view, few_faces}
use Rattle.navigate.proofs.Resting.{rest-none, rest-at}
use Rattle.navigate.proofs.HoleLaws.{face_0}
use Rattle.navigate.proofs.ShellLaws.{shell_first, searched, no_shell, shell_list}
use Rattle.navigate.proofs.faces.shell_walk.Goals as goal

pub returns-then-place-eq0-clause-list : goal.returns-then-place-eq0-clause-list
returns-then-place-eq0-clause-list g c = rest-none c.over.result c.over.ensures.positions ∙ face_0 (contents_of_view c.args.served) c.args.served.whole c.args.place c.if-place-eq0.true

pub unreachable-requires : goal.unreachable-requires
unreachable-requires g c =
    no_shell (contents_of_view c.args.served) c.args.served.whole (code_of_view c.code.result.now) (c.args.place - 1) c.first_of_shell.result c.code.ensures.code c.in_default.is c.first_of_shell.ensures.none (omega (arith, c.requires, c.if-place-eq0.false))

pub returns-clause-list : goal.returns-clause-list
returns-clause-list g c =
    let m = contents_of_view c.args.served in
    let p = c.in-Some.p in
    let code = c.code.ensures.code in
    let walk = c.begun_at_smallest in
    shell_list m c.args.served.whole walk.result p c.args.place (smallest_of m false p) (subst (λ (k : Code). p < length k.a) code c.in-Some.ensures.within) walk.ensures.within refl
    c.requires c.if-place-eq0.false (shell_first m (code_of_view c.code.result.now) (c.args.place - 1) p code c.in-Some.ensures.position)
    (rest-at walk.result m (orbit m.code false (smallest_of m false p)) walk.ensures.contents walk.ensures.positions)

pub returns-clause-cost : goal.returns-clause-cost
returns-clause-cost g c =
    let m = contents_of_view c.args.served in
    let p = c.in-Some.p in
    let code = c.code.ensures.code in
    let walk = c.begun_at_smallest in
    let d = digits_view m c.args.served.whole (code_of_view c.code.result.now) code in
    let cost = searched m c.args.served.whole walk.result false p (smallest_of m false p) c.first_of_shell.new.steps walk.new.steps (subst (λ (k : Code). p < length k.a) code c.in-Some.ensures.within) walk.ensures.within refl
    (rest-at walk.result m (orbit m.code false (smallest_of m false p)) walk.ensures.contents walk.ensures.positions) walk.ensures.cost in
    omega (arith, d, cost, c.in-Some.ensures.cost)

pub overflow_cast-place : goal.overflow_cast-place
overflow_cast-place g c = let few = few_faces (contents_of_view c.args.served) c.args.served.whole in omega (arith, few, c.requires)
