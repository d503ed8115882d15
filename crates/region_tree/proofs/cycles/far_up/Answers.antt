use Rattle.std.proofs.Common.{◌≡◌, ◌+◌, ◌*◌, ◌∙◌, sym, ap, subst, arith, map}
use Rattle.std.specs.Prelude.{option_and_then}
use Rattle.region_tree.specs.Ancestors.{AreParentNumbers, ancestors, parent_at}
use Rattle.region_tree.proofs.Steps.{ancestors-one, ancestors-places, doubled-ancestors}
use Rattle.region_tree.proofs.cycles.far_up.Goals as goal

pub loop-steps-init : goal.loop-steps-init
loop-steps-init c = record { some = omega arith; is = c.in_ok-far.ensures.items ∙ ancestors-one c.args.parents.now }

pub doubled-requires : goal.doubled-requires
doubled-requires c = subst AreParentNumbers (sym (c.deref.ensures.value ∙ c.loop-steps.invariant.is)) (ancestors-places c.args.parents.now c.requires.places c.loop-steps.steps)

pub loop-steps-preserved : goal.loop-steps-preserved
loop-steps-preserved c =
    let parents = c.args.parents.now in
    let s = c.loop-steps.steps in
    let far = c.deref.ensures.value ∙ c.loop-steps.invariant.is in
    let some = c.loop-steps.invariant.some in
    let e : s + s ≡ s * 2 = omega arith in
    record {
      some = omega arith;
      is = c.in_ok-far-2.ensures ∙ ap (λ xs. map (option_and_then (parent_at xs)) xs) far ∙ doubled-ancestors parents c.requires.places s ∙ ap (ancestors parents) e;
    }
