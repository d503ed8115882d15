use Rattle.std.proofs.Common.{◌*◌, ◌<◌, ◌∙◌, ap, sym, arith}
use Rattle.std.specs.List.{list_all}
use Rattle.spanning_pair.proofs.OneRing.{met_none, met_next, one_start}
use Rattle.spanning_pair.proofs.path_tests.is_one_ring.Goals as goal

pub loop-init : goal.loop-init
loop-init c =
    let some : 0 < 2 * c.edges-darts.result = (let n = c.if-darts-eq0.false in omega arith) in
    rw (c.in_ok-met.ensures.items_if_clones_equal (λ y e. e)) (met_none c.args.rotation.now (2 * c.edges-darts.result) (ap (λ n. 2 * n) c.edges-darts.ensures.edges) some)

pub loop-preserved : goal.loop-preserved
loop-preserved c =
    met_next c.args.rotation.now c.edges-darts.ensures.rotation c.loop.met.items c.loop.dart c.next-dart.result c.loop.invariant c.next-dart.ensures.within c.next-dart.ensures.next

pub returns : goal.returns
returns c all =
    one_start c.args.rotation.now c.edges-darts.ensures.rotation c.loop.met.items c.loop.dart c.loop.invariant
    (ap (list_all (λ flag. flag)) (sym c.deref.ensures.value) ∙ sym c.are_all.ensures ∙ all)
