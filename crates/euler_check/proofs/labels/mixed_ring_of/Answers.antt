use Rattle.std.proofs.Common.{◌≡◌, ◌∙◌, refl, sym, Option, None, Some, true}
use Rattle.std.specs.Prelude.{is_none}
use Rattle.plane_model.proofs.AllFaults.{none-mixed_ring}
use Rattle.euler_check.specs.Labels.{label_fault}
use Rattle.euler_check.proofs.Walking.{own_rows}
use Rattle.euler_check.proofs.labels.mixed_ring_of.Goals as goal

is_nothing : {X : Type 0} (a : Option X) → is_none a ≡ true → None ≡ a
is_nothing None h = refl
is_nothing (Some x) h = cc

pub returns-then-branch-clause-fault : goal.returns-then-branch-clause-fault
returns-then-branch-clause-fault c =
    let r = c.args.rotation.now in
    is_nothing (label_fault r) (none-mixed_ring (own_rows r) ∙ sym c.in_ok-have_one_face.ensures ∙ c.if-branch.true)
