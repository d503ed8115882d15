use Rattle.std.proofs.Common.{◌≡◌, ◌<◌, ◌+◌, ◌∙◌, false, length, get_or, sym, ap, subst, arith, None}
use Rattle.std.proofs.lemmas.List.{get_or_default, with_items_is}
use Rattle.id_names.specs.Cycles.{HavePointers, AreVisited, cycle}
use Rattle.id_names.proofs.Sweeping.{IsSwept, swept_next, swept_skip, swept_all, members_left, members_fresh}
use Rattle.id_names.proofs.cycles.cycle_marks.Goals as goal
use Rattle.id_names.proofs.cycles.cycle_marks.Goals.{then-not-index+in_ok-visit_and_mark, else-not-index}

pub visit_and_mark-requires-clause-unvisited : goal.visit_and_mark-requires-clause-unvisited
visit_and_mark-requires-clause-unvisited c =
    let places = c.args.places.now in
    let s = c.loop-first.invariant in
    let within : c.loop-first.first < length places = omega (arith, c.loop-first-test.true) in
    let read = c.index.ensures ∙ get_or_default c.loop-first.visited.items c.loop-first.first c.index.result.now false (omega (arith, s.visited_size)) in
    λ i l. ap (λ seen. get_or seen (get_or (cycle places c.loop-first.first) i 0) false) c.deref_mut.ensures.value
    ∙ members_left places c.requires.places c.args.stride c.loop-first.first c.loop-first.visited.items c.loop-first.marks.items s within (sym read ∙ c.if-not-index.true) i l

pub visit_and_mark-requires-clause-fresh : goal.visit_and_mark-requires-clause-fresh
visit_and_mark-requires-clause-fresh c =
    let places = c.args.places.now in
    let s = c.loop-first.invariant in
    let within : c.loop-first.first < length places = omega (arith, c.loop-first-test.true) in
    let read = c.index.ensures ∙ get_or_default c.loop-first.visited.items c.loop-first.first c.index.result.now false (omega (arith, s.visited_size)) in
    λ i l. ap (λ marks. get_or marks (get_or (cycle places c.loop-first.first) i 0) None) c.deref_mut-then-not-index.ensures.value
    ∙ members_fresh places c.requires.places c.args.stride c.loop-first.first c.loop-first.visited.items c.loop-first.marks.items s within (sym read ∙ c.if-not-index.true) i l

pub loop-first-preserved : goal.loop-first-preserved
loop-first-preserved c =
    let places = c.args.places.now in
    let stride = c.args.stride in
    let k = c.loop-first.first in
    let s = c.loop-first.invariant in
    let within : k < length places = omega (arith, c.loop-first-test.true) in
    let read = c.index.ensures ∙ get_or_default c.loop-first.visited.items k c.index.result.now false (omega (arith, s.visited_size)) in
    elim c.if-not-index.branch [
      | then-not-index+in_ok-visit_and_mark w ↦
          let v = subst (λ old. AreVisited (cycle places k) old w.visit_and_mark.new.visited) w.deref_mut.ensures.value w.in_ok-visit_and_mark.ensures.visited in
          let m = subst (λ old. HavePointers stride (cycle places k) old w.visit_and_mark.new.marks) w.deref_mut-then-not-index.ensures.value w.in_ok-visit_and_mark.ensures.marks in
          let next = swept_next places c.requires.places stride k c.loop-first.visited.items c.loop-first.marks.items s within (sym read ∙ w.if-not-index.true) w.visit_and_mark.new.visited w.visit_and_mark.new.marks v m in
          let visited_items = ap (λ v. v.items) w.visited-is ∙ with_items_is c.loop-first.visited w.visit_and_mark.new.visited (v.size ∙ sym c.loop-first.visited.ok.0) in
          let marks_items = ap (λ v. v.items) w.marks-is ∙ with_items_is c.loop-first.marks w.visit_and_mark.new.marks (m.size ∙ sym c.loop-first.marks.ok.0) in
          subst (λ xs. IsSwept places stride (k + 1) xs c.if-not-index.marks.items) (sym visited_items)
          (subst (λ xs. IsSwept places stride (k + 1) w.visit_and_mark.new.visited xs) (sym marks_items) next)
      | else-not-index w ↦
          subst (λ v. IsSwept places stride (k + 1) v.items c.if-not-index.marks.items) (sym w.visited-is)
          (subst (λ v. IsSwept places stride (k + 1) c.loop-first.visited.items v.items) (sym w.marks-is)
          (swept_skip places c.requires.places stride k c.loop-first.visited.items c.loop-first.marks.items s (sym read ∙ w.if-not-index.false)))
    ]

pub returns : goal.returns
returns c =
    let places = c.args.places.now in
    let all : c.loop-first.first ≡ length places = omega (arith, c.loop-first-test.false, c.loop-first.auto.first-end) in
    swept_all places c.requires.places c.args.stride c.loop-first.visited.items c.loop-first.marks.items
    (subst (λ k. IsSwept places c.args.stride k c.loop-first.visited.items c.loop-first.marks.items) all c.loop-first.invariant)
