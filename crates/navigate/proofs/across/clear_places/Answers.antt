use Rattle.std.proofs.Common.{arith, ◌∙◌, drop}
use Rattle.std.proofs.lemmas.List.{drop_all}
use Rattle.scratch_region.specs.Marks.{is_marked}
use Rattle.navigate.proofs.ClearLaws.{clear_at, clear_end, item_in, later_in}
use Rattle.navigate.proofs.across.clear_places.Goals as goal

pub clear-requires : goal.clear-requires
clear-requires c =
    let i = c.loop-place.invariant in
    let within = i.within _ (item_in c.args.places.now c.loop-place.place-index (omega arith)) in
    omega (arith, within, i.room)

pub loop-place-preserved : goal.loop-place-preserved
loop-place-preserved c =
    let i = c.loop-place.invariant in
    let xs = c.args.places.now in
    let at = c.loop-place.place-index in
    record {
      room = c.clear.ensures.room ∙ i.room;
      within = λ j there. i.within j (later_in xs at j (omega arith) there);
      marked = λ j. clear_at xs at j (is_marked c.loop-place.marks j) (is_marked c.clear.new.self j) (omega arith) (c.clear.ensures.marked j) ∙ i.marked j;
    }

pub returns-clause-marked : goal.returns-clause-marked
returns-clause-marked c = λ j.
    let i = c.loop-place.invariant in
    let xs = c.args.places.now in
    let at = c.loop-place.place-index in
    clear_end (drop at xs) j (is_marked c.loop-place.marks j) (drop_all at xs (omega arith)) ∙ i.marked j
