use Rattle.std.proofs.Common.{◌≡◌, ◌*◌, ◌<◌, ◌∙◌, sym, ap, subst, length, get_or, arith, Some}
use Rattle.std.specs.Prelude.{replicate}
use Rattle.euler_check.specs.Counts.{AreCounted}
use Rattle.euler_check.proofs.Counting.{counted_none, counted_further, counted_room}
use Rattle.euler_check.proofs.ComponentCounts.{edges_counted}
use Rattle.euler_check.proofs.euler_counts.count_edges.Goals as goal

pub loop-row-init : goal.loop-row-init
loop-row-init c =
    let parts = c.args.components.now in
    counted_none parts.count (λ i. Some (get_or parts.of_darts (2 * i) 0)) c.in_ok-counts.counts.items (c.in_ok-counts.ensures ∙ ap (λ n. replicate n 0) c.count.ensures)

pub overflow_add-index_mut : goal.overflow_add-index_mut
overflow_add-index_mut c =
    let parts = c.args.components.now in
    let i = c.loop-row.row in
    let lt : i < length c.args.rotation.now.edges = (let a = c.edges-row-end.ensures.edges in let b = c.loop-row-test.true in omega arith) in
    let below = c.requires.below (2 * i) (omega arith) in
    let is = c.number.ensures in
    let room = counted_room parts.count (λ i. Some (get_or parts.of_darts (2 * i) 0)) i c.number.result c.index_mut.result.now c.loop-row.counts.items (omega arith) c.index_mut.ensures.value c.loop-row.invariant in
    omega (arith, room, lt, c.edges-row-end.ensures.rotation.few_edges)

pub loop-row-preserved : goal.loop-row-preserved
loop-row-preserved c =
    let parts = c.args.components.now in
    let i = c.loop-row.row in
    let lt : i < length c.args.rotation.now.edges = (let a = c.edges-row-end.ensures.edges in let b = c.loop-row-test.true in omega arith) in
    let below = c.requires.below (2 * i) (omega arith) in
    let is = c.number.ensures in
    counted_further parts.count (λ i. Some (get_or parts.of_darts (2 * i) 0)) i c.number.result c.index_mut.result.now c.loop-row.counts.items (ap Some (sym c.number.ensures)) (omega arith) c.index_mut.ensures.value c.loop-row.invariant

pub returns : goal.returns
returns c =
    let r = c.args.rotation.now in
    let parts = c.args.components.now in
    let whole : c.loop-row.row ≡ length r.edges = (let a = c.edges-row-end.ensures.edges in let b = c.loop-row-test.false in let d = c.loop-row.auto.row-end in omega arith) in
    edges_counted r c.edges-row-end.ensures.rotation parts c.requires c.loop-row.counts.items (subst (λ n. AreCounted parts.count (λ i. Some (get_or parts.of_darts (2 * i) 0)) n c.loop-row.counts.items) whole c.loop-row.invariant)
