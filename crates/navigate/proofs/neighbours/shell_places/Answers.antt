use Rattle.std.proofs.Common.{refl, arith, ap, ◌∙◌, ◌≡◌, ◌<◌, ◌*◌, subst, length, false, ◌-◌}
use Rattle.turan_code.specs.TuranView.{code_of_view}
use Rattle.code_laws.specs.Code.{Code}
use Rattle.code_laws.specs.Orbits.{orbit}
use Rattle.code_laws.proofs.Sound.{sound_parts}
use Rattle.pemb_file.specs.Served.{contents_of_view}
use Rattle.navigate.specs.Least.{smallest_of}
use Rattle.navigate.specs.OrbitWalk.{across_price, positions_left}
use Rattle.navigate.proofs.Facts.{digits_view, few_faces, sound_code}
use Rattle.navigate.proofs.Resting.{rest-none, rest-at}
use Rattle.navigate.proofs.HoleLaws.{face_0}
use Rattle.navigate.proofs.OrbitLengths.{orbit-length, smallest-beside}
use Rattle.navigate.proofs.ShellLaws.{shell_first, no_shell, shell_list}
use Rattle.navigate.proofs.neighbours.shell_places.Goals as goal

pub returns-then-place-eq0-clause-list : goal.returns-then-place-eq0-clause-list
returns-then-place-eq0-clause-list g c = rest-none c.over.result c.over.ensures.positions ∙ face_0 (contents_of_view c.args.served) c.args.served.whole c.args.place c.if-place-eq0.true

pub overflow_cast-place : goal.overflow_cast-place
overflow_cast-place g c = let few = few_faces (contents_of_view c.args.served) c.args.served.whole in omega (arith, few, c.requires)

pub unreachable-requires : goal.unreachable-requires
unreachable-requires g c =
    no_shell (contents_of_view c.args.served) c.args.served.whole (code_of_view c.code.result.now) (c.args.place - 1) c.first_of_shell.result c.code.ensures.code c.in_default.is c.first_of_shell.ensures.none (omega (arith, c.requires, c.if-place-eq0.false))

pub returns-clause-list : goal.returns-clause-list
returns-clause-list g c =
    let m = contents_of_view c.args.served in
    let p = c.in-Some.p in
    let code = c.code.ensures.code in
    let walk = c.places_from_smallest in
    shell_list m c.args.served.whole walk.result.0 p c.args.place (smallest_of m false p) (subst (λ (k : Code). p < length k.a) code c.in-Some.ensures.within) walk.ensures.within refl
    c.requires c.if-place-eq0.false (shell_first m (code_of_view c.code.result.now) (c.args.place - 1) p code c.in-Some.ensures.position)
    (rest-at walk.result.0 m (orbit m.code false (smallest_of m false p)) walk.ensures.contents walk.ensures.positions)

pub returns-clause-cost : goal.returns-clause-cost
returns-clause-cost g c =
    let m = contents_of_view c.args.served in
    let h = c.args.served.whole in
    let p = c.in-Some.p in
    let code = c.code.ensures.code in
    let walk = c.places_from_smallest in
    let d = digits_view m h (code_of_view c.code.result.now) code in
    let l : p < length m.code.a = subst (λ (k : Code). p < length k.a) code c.in-Some.ensures.within in
    let long : length (positions_left walk.result.0) ≡ length (orbit m.code false p) = ap length walk.ensures.positions
    ∙ orbit-length m.code (sound_parts m.code (sound_code m h)) false p (smallest_of m false p) l walk.ensures.within (smallest-beside m (sound_code m h) false p l) in
    let same = ap (λ n. across_price m * n) long in
    omega (arith, d, same, walk.ensures.cost, c.in-Some.ensures.cost)
