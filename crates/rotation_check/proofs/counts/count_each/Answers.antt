use Rattle.std.proofs.Common.{◌∙◌, arith, get_or}
use Rattle.std.proofs.lemmas.Grind.{get_or_default_zero}
use Rattle.rotation_check.proofs.CountLemmas.{how_often-take}
use Rattle.rotation_check.proofs.counts.count_each.Goals as goal

pub overflow_add-index_mut : goal.overflow_add-index_mut
overflow_add-index_mut c =
    let i = c.loop-value.value-index in
    let values = c.args.values.now in
    let room = how_often-take values i (get_or values i 0) (omega arith) in
    let below = c.requires.below i (omega arith) in
    let count = c.loop-value.invariant.count (get_or values i 0) below in
    let read = c.index_mut.ensures.value in
    let here = get_or_default_zero c.loop-value.counts.items (get_or values i 0) c.index_mut.result.now (let size = c.loop-value.invariant.size in omega arith) in
    let is = read ∙ here ∙ count in
    omega (arith, is, room, c.requires.short)
