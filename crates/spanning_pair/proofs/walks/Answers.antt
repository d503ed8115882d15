use Rattle.spanning_pair.specs.Rotations.{next_dart, node_row}
use Rattle.spanning_pair.proofs.RotationDarts.{numbered_system}
use Rattle.spanning_pair.proofs.ComponentDarts.{dart_starts}
use Rattle.std.proofs.Common.{rules, replicate, ◌≡◌, ◌+◌, length, take, drop, ◌++◌, [], ◌∷◌, vec_len, refl, subst, sym, ◌∙◌, ap, arith}
use Rattle.std.proofs.lemmas.List.{take_at, length-map}
use Rattle.spanning_pair.specs.declared.marks.EdgeMark.TheVariants.{New}
use Rattle.spanning_pair.specs.Marks.{is_seen, seen_in, trees_in}
use Rattle.spanning_pair.proofs.Touring.{Touring, touring_start, clean_next, touring_few, touring_done, touring_step}
use Rattle.spanning_pair.proofs.walks.Goals as goal

pub loop-start-init : goal.loop-start-init
loop-start-init c =
    touring_start (length c.args.rotation.now.edges) (length c.args.rotation.now.nodes) (next_dart c.args.rotation.now) (node_row c.args.rotation.now) c.args.starts.now
    c.new.result.items c.new-2.result.items c.new-3.result.items c.push.new.self.items c.in_ok-marks.marks.items c.in_ok-visited.visited.items
    c.new.ensures.items c.new-2.ensures.items c.new-3.ensures.items (c.in_ok-push.ensures.items ∙ ap (λ xs. xs ++ 0 ∷ []) c.new-4.ensures.items)
    (c.in_ok-marks.ensures ∙ ap (λ n. replicate n New) c.edges-edges.ensures.edges) (search rules)

pub walk-requires-clause-clean : goal.walk-requires-clause-clean
walk-requires-clause-clean c =
    let h = clean_next (length c.args.rotation.now.edges) (length c.args.rotation.now.nodes) (next_dart c.args.rotation.now) (node_row c.args.rotation.now) c.args.starts.now (numbered_system c.args.rotation.now c.edges-edges.ensures.rotation) (dart_starts c.args.rotation.now c.edges-edges.ensures.rotation c.args.starts.now c.requires.starts)
    c.loop-start.start-index c.loop-start-test.true c.loop-start.tour.darts.items c.loop-start.tour.tree.items c.loop-start.tour.first.items c.loop-start.tour.starts.items
    (seen_in c.loop-start.marks.items) (trees_in c.loop-start.marks.items) c.loop-start.visited.items c.loop-start.invariant in
    rw (c.deref_mut.ensures.value, c.deref_mut-in-loop-start.ensures.value) h

pub loop-start-preserved : goal.loop-start-preserved
loop-start-preserved c =
    let n : vec_len c.walk.new.tour.darts ≡ length c.walk.new.tour.darts.items = c.walk.new.tour.darts.ok.0 in
    touring_step c.push-in-loop-start.new.self.items
    c.deref_mut.result.now c.deref_mut-in-loop-start.result.now
    c.walk.new.marks c.walk.new.visited
    (take c.loop-start.marks.len (c.walk.new.marks ++ drop (length c.walk.new.marks) c.loop-start.marks.items))
    (take c.loop-start.visited.len (c.walk.new.visited ++ drop (length c.walk.new.visited) c.loop-start.visited.items))
    (numbered_system c.args.rotation.now c.edges-edges.ensures.rotation) (dart_starts c.args.rotation.now c.edges-edges.ensures.rotation c.args.starts.now c.requires.starts) c.loop-start-test.true c.loop-start.invariant
    c.deref_mut.ensures.value c.deref_mut-in-loop-start.ensures.value
    c.in_ok-walk.ensures.walk c.in_ok-walk.ensures.marks c.walk.auto.marks c.walk.auto.visited
    (c.in_ok-push-2.ensures.items ∙ ap (λ xs. xs ++ c.len-place.result ∷ []) c.in_ok-walk.ensures.starts ∙ ap (λ v. c.loop-start.tour.starts.items ++ v ∷ []) (c.len-place.ensures ∙ n))
    (λ e. take_at c.walk.new.marks (drop (length c.walk.new.marks) c.loop-start.marks.items) c.loop-start.marks.len
    (e ∙ ap length c.deref_mut.ensures.value ∙ sym c.loop-start.marks.ok.0))
    (λ e. take_at c.walk.new.visited (drop (length c.walk.new.visited) c.loop-start.visited.items) c.loop-start.visited.len
    (e ∙ ap length c.deref_mut-in-loop-start.ensures.value ∙ sym c.loop-start.visited.ok.0))

pub overflow_cast-place : goal.overflow_cast-place
overflow_cast-place c =
    let t = touring_step (c.loop-start.tour.starts.items ++ length c.walk.new.tour.darts.items ∷ [])
    c.deref_mut.result.now c.deref_mut-in-loop-start.result.now
    c.walk.new.marks c.walk.new.visited c.walk.new.marks c.walk.new.visited
    (numbered_system c.args.rotation.now c.edges-edges.ensures.rotation) (dart_starts c.args.rotation.now c.edges-edges.ensures.rotation c.args.starts.now c.requires.starts) c.loop-start-test.true c.loop-start.invariant
    c.deref_mut.ensures.value c.deref_mut-in-loop-start.ensures.value
    c.in_ok-walk.ensures.walk c.in_ok-walk.ensures.marks c.walk.auto.marks c.walk.auto.visited
    refl (λ e. refl) (λ e. refl) in
    let f = touring_few (length c.args.rotation.now.edges) (length c.args.rotation.now.nodes) (next_dart c.args.rotation.now) (node_row c.args.rotation.now) c.args.starts.now (numbered_system c.args.rotation.now c.edges-edges.ensures.rotation) (dart_starts c.args.rotation.now c.edges-edges.ensures.rotation c.args.starts.now c.requires.starts)
    (c.loop-start.start-index + 1) (omega (arith, c.loop-start-test.true)) c.walk.new.tour.darts.items c.walk.new.tour.tree.items c.walk.new.tour.first.items
    (c.loop-start.tour.starts.items ++ length c.walk.new.tour.darts.items ∷ []) (seen_in c.walk.new.marks) (trees_in c.walk.new.marks) c.walk.new.visited t in
    let n : vec_len c.walk.new.tour.darts ≡ length c.walk.new.tour.darts.items = c.walk.new.tour.darts.ok.0 in
    omega (arith, f, n, c.len-place.ensures, c.edges-edges.ensures.rotation.few_edges)

pub returns-clause-tour : goal.returns-clause-tour
returns-clause-tour c =
    let e : c.loop-start.start-index ≡ length c.args.starts.now = omega (arith, c.loop-start-test.false, c.loop-start.auto.start-index-end) in
    let w = subst (λ k. Touring (length c.args.rotation.now.edges) (length c.args.rotation.now.nodes) (next_dart c.args.rotation.now) (node_row c.args.rotation.now) c.args.starts.now k
    c.loop-start.tour.darts.items c.loop-start.tour.tree.items c.loop-start.tour.first.items c.loop-start.tour.starts.items (seen_in c.loop-start.marks.items) (trees_in c.loop-start.marks.items) c.loop-start.visited.items)
    e c.loop-start.invariant in
    touring_done (length c.args.rotation.now.edges) (length c.args.rotation.now.nodes) (next_dart c.args.rotation.now) (node_row c.args.rotation.now) c.args.starts.now (numbered_system c.args.rotation.now c.edges-edges.ensures.rotation) (dart_starts c.args.rotation.now c.edges-edges.ensures.rotation c.args.starts.now c.requires.starts)
    c.loop-start.tour.darts.items c.loop-start.tour.tree.items c.loop-start.tour.first.items c.loop-start.tour.starts.items (seen_in c.loop-start.marks.items) (trees_in c.loop-start.marks.items) c.loop-start.visited.items w

pub walk-requires-clause-system : goal.walk-requires-clause-system
walk-requires-clause-system c =
    let marks = ap length c.deref_mut.ensures.value ∙ sym (length-map c.loop-start.marks.items is_seen) ∙ c.loop-start.invariant.seen_len in
    let visited = ap length c.deref_mut-in-loop-start.ensures.value ∙ c.loop-start.invariant.visited_len in
    rw (marks, visited) (numbered_system c.args.rotation.now c.edges-edges.ensures.rotation)
