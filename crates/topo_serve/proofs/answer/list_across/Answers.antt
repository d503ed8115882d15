use Rattle.std.proofs.Common.{◌∙◌, ap, arith, length, map, refl}
use Rattle.topo_base.specs.Script.{Item}
use Rattle.topo_serve.proofs.Listing.{listed_none, listed_more, listed_part}
use Rattle.topo_serve.proofs.answer.list_across.Goals as goal

pub loop-face-init : goal.loop-face-init
loop-face-init g c = (listed_none _ _, refl, refl, c.requires.marks, omega arith, omega arith, omega arith)

pub loop-face-preserved : goal.loop-face-preserved
loop-face-preserved g c =
    let next = c.in-Some.ensures.next in
    let shorter = ap length next in
    let least = c.in-Some.ensures.least refl in
    let kept = c.loop-face.invariant in (
      listed_more _ _ _ _ _ _ _ _ kept.0 (ap (map Item.Number) next) c.in_ok-gather_item.ensures,
      c.in-Some.ensures.contents ∙ kept.1,
      c.in-Some.ensures.room ∙ kept.2,
      c.in-Some.ensures.marks,
      omega (arith, shorter, least, kept.4),
      omega (arith, least, kept.5),
      omega (arith, kept.6, c.in-Some.ensures.paid),
    )

pub returns-in_err-gather_item-clause-writes : goal.returns-in_err-gather_item-clause-writes
returns-in_err-gather_item-clause-writes g c =
    listed_part _ _ _ _ _ _ _ _ _ _ c.loop-face.invariant.0 (ap (map Item.Number) c.in-Some.ensures.next) c.from_residual.ensures.1 c.in_err-gather_item.ensures
