use Rattle.std.specs.Prelude.{ℤ, slice_set}
use Rattle.std.specs.Int.{cast_unsigned}
use Rattle.std.proofs.Math.Facts.{to_z-of_z}
use Rattle.std.proofs.Common.{w64, SFits, rules, ap, sym, subst, ◌∙◌, ◌+◌, ◌*◌}
use Rattle.scratch_region.specs.Numbers.{numbers_of}
use Rattle.pemb_file.specs.Served.{contents_of_view}
use Rattle.navigate.proofs.Facts.{w}
use Rattle.table_dump.specs.Sweep.{AreSwept}
use Rattle.table_dump.proofs.Sweeping.{same_swept, other_swept}
use Rattle.table_dump.proofs.sweep.put_next_position.Goals as goal

pub returns-then-here-behind-clause-swept : goal.returns-then-here-behind-clause-swept
returns-then-here-behind-clause-swept g c = λ p l numbers swept.
    let m = contents_of_view c.args.served in
    let here = c.put_position-here in
    let f : SFits w64 c.put_position-here.result.first = search rules in
    let k : SFits w64 c.args.behind.first = search rules in
    subst (λ (z : ℤ). AreSwept m c.args.edges.now (p + 1) (numbers_of c.put_next.new.ends) (record { component = here.result.component; first = z; end = here.result.end })) (sym (to_z-of_z k))
    (same_swept m (w m c.args.served.whole) c.args.edges.now c.requires.edges p (numbers_of c.args.ends.now) (numbers_of here.new.ends) (numbers_of c.put_next.new.ends) c.args.behind here.result l c.requires.room here.ensures.room c.requires.within swept
    (here.ensures.put p l numbers) c.if-here-behind.true f (c.put_next.ensures ∙ ap (λ (z : ℤ). slice_set (numbers_of here.new.ends) (3 * c.args.behind.end + 2) (cast_unsigned w64 z)) (to_z-of_z f)))

pub returns-else-here-behind-clause-swept : goal.returns-else-here-behind-clause-swept
returns-else-here-behind-clause-swept g c = λ p l numbers swept.
    let m = contents_of_view c.args.served in
    let here = c.put_position-here in
    let f : SFits w64 c.args.behind.first = search rules in
    other_swept m (w m c.args.served.whole) c.args.edges.now c.requires.edges p (numbers_of c.args.ends.now) (numbers_of here.new.ends) (numbers_of c.put_next-else-here-behind.new.ends) c.args.behind here.result l c.requires.room here.ensures.room c.requires.within swept
    (here.ensures.put p l numbers) c.if-here-behind.false f (c.put_next-else-here-behind.ensures ∙ ap (λ (z : ℤ). slice_set (numbers_of here.new.ends) (3 * c.args.behind.end + 2) (cast_unsigned w64 z)) (to_z-of_z f))
