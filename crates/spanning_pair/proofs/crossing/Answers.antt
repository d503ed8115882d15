use Rattle.std.proofs.Common.{◌≡◌, ℕ, ◌+◌, List, Bool, length, vec_len, refl, subst, sym, ◌∙◌, arith}
use Rattle.spanning_pair.specs.Tours.{number_at, flag_at}
use Rattle.spanning_pair.proofs.OtherDart.{same_reverse}
use Rattle.spanning_pair.proofs.Open.{AreOpen, open_tree, open_first, open_second, open_crossed, some_open}
use Rattle.spanning_pair.proofs.crossing.Goals as goal
use Rattle.spanning_pair.proofs.crossing.Goals.{then-not-tree-place+then-first-place+in_ok-push, then-not-tree-place+else-first-place+in-Some+else-darts-top, then-not-tree-place+else-first-place+in_default, else-not-tree-place}

pub returns-then-darts-top : goal.returns-then-darts-top
returns-then-darts-top c =
    let a = subst (AreOpen (number_at c.args.darts.now) (flag_at c.args.tree.now) c.loop-place.place) c.in-Some.ensures.items c.loop-place.invariant in
    open_crossed (number_at c.args.darts.now) (flag_at c.args.tree.now) (flag_at c.args.first.now) (length c.args.darts.now) c.requires.pairs
    c.loop-place.place c.loop-place-test.true c.if-not-tree-place.true c.if-first-place.false c.pop.new.self.items c.in-Some.top a
    (λ e. c.if-darts-top.true (e ∙ same_reverse (number_at c.args.darts.now c.loop-place.place) ∙ sym c.reversed.ensures)) (number_at c.args.darts.now c.loop-place.place) refl

pub loop-place-preserved : goal.loop-place-preserved
loop-place-preserved c =
    let D : ℕ → ℕ = number_at c.args.darts.now in
    let T : ℕ → Bool = flag_at c.args.tree.now in
    let F : ℕ → Bool = flag_at c.args.first.now in
    let n : ℕ = length c.args.darts.now in
    let P : List ℕ → Type 0 = λ v. AreOpen (number_at c.args.darts.now) (flag_at c.args.tree.now) (c.loop-place.place + 1) v in
    elim c.if-not-tree-place.branch [
      | then-not-tree-place+then-first-place+in_ok-push w ↦ rw w.open-is
          (rw w.in_ok-push.ensures.items (open_first D T F n c.requires.pairs c.loop-place.place c.loop-place-test.true c.loop-place.open.items c.loop-place.invariant
          w.if-not-tree-place.true w.if-first-place.true))
      | then-not-tree-place+else-first-place+in-Some+else-darts-top w ↦ rw w.open-is
          (let a = subst (AreOpen (number_at c.args.darts.now) (flag_at c.args.tree.now) c.loop-place.place) w.in-Some.ensures.items c.loop-place.invariant in
          open_second D T F n c.requires.pairs c.loop-place.place c.loop-place-test.true w.if-not-tree-place.true w.if-first-place.false
          w.pop.new.self.items w.in-Some.top a (w.if-darts-top.false ∙ w.reversed.ensures ∙ sym (same_reverse (number_at c.args.darts.now c.loop-place.place))))
      | then-not-tree-place+else-first-place+in_default w ↦
          let k = some_open D T F n c.requires.pairs c.loop-place.place c.loop-place-test.true w.if-not-tree-place.true w.if-first-place.false
          c.loop-place.open.items c.loop-place.invariant in
          let o : vec_len c.loop-place.open ≡ length c.loop-place.open.items = c.loop-place.open.ok.0 in
          absurd (omega (arith, k, o, w.in_default.ensures.cases))
      | else-not-tree-place w ↦ rw w.open-is
          (open_tree D T F n c.requires.pairs c.loop-place.place c.loop-place-test.true c.loop-place.open.items c.loop-place.invariant w.if-not-tree-place.false)
    ]
