use Rattle.std.proofs.Common.{refl, arith, ◌∙◌}
use Rattle.scratch_region.specs.Marks.{is_marked}
use Rattle.region_border.proofs.Closing.{clear_one, keep_rest}
use Rattle.region_border.proofs.clearing.clear_below.Goals as goal

pub loop-number-init : goal.loop-number-init
loop-number-init c = record { room = refl; cleared = λ j l. absurd (omega (arith, l)); kept = λ j l. refl }

pub clear-requires : goal.clear-requires
clear-requires c = omega (arith, c.requires, c.loop-number.invariant.room)

pub loop-number-preserved : goal.loop-number-preserved
loop-number-preserved c =
    let i = c.loop-number.invariant in
    let old = is_marked c.loop-number.marks in
    let new = is_marked c.clear.new.self in
    record {
      room = c.clear.ensures.room ∙ i.room;
      cleared = clear_one old new c.loop-number.number c.clear.ensures.marked i.cleared;
      kept = keep_rest (is_marked c.args.marks.now) old new c.loop-number.number c.clear.ensures.marked i.kept;
    }

pub returns-clause-cleared : goal.returns-clause-cleared
returns-clause-cleared c = λ j l. c.loop-number.invariant.cleared j (omega (arith, l))

pub returns-clause-kept : goal.returns-clause-kept
returns-clause-kept c = λ j l. c.loop-number.invariant.kept j (omega (arith, l))
