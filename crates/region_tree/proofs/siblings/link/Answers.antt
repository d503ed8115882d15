use Rattle.std.proofs.Common.{◌≡◌, ◌+◌, ◌-◌, ◌<◌, ◌≤◌, arith, sym, subst, length, set, None, Some}
use Rattle.std.specs.Prelude.{slice_index}
use Rattle.std.proofs.lemmas.List.{get_or_read}
use Rattle.region_tree.specs.Ancestors.{parent_at}
use Rattle.region_tree.specs.Siblings.{AreSiblingsFrom}
use Rattle.region_tree.proofs.Slots.{more_siblings}
use Rattle.region_tree.proofs.siblings.link.Goals as goal

pub loop-place-preserved : goal.loop-place-preserved
loop-place-preserved c =
    let slots = c.args.slots.now in
    let i = c.loop-place.place - 1 in
    let first = c.loop-place.first.items in
    let next = c.loop-place.next.items in
    let slot = slice_index slots i in
    let l : i < length slots = omega arith in
    let old : AreSiblingsFrom slots (i + 1) first next = subst (λ k. AreSiblingsFrom slots k first next) (let e : c.loop-place.place ≡ i + 1 = omega arith in e) c.loop-place.invariant in
    let le = c.requires.within i l in
    let read : c.index.result.now ≡ parent_at first slot = get_or_read first slot _ (let m = old.first_many in omega (arith, le)) c.index.ensures None in
    subst (λ x. AreSiblingsFrom slots i (set first slot (Some i)) (set next i x)) (sym read) (more_siblings slots i slot first next l (let e : slot ≡ slot = omega arith in e) le old)
