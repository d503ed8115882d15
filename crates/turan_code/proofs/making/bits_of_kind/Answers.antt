use Rattle.std.proofs.Common.{◌≤◌, ◌∙◌, ◌++◌, List, Bool, sym, ap, arith, length, length-append, append_assoc}
use Rattle.std.proofs.lemmas.List.{append-nil}
use Rattle.turan_code.proofs.Picked.{length_picked, picked_kept, picked_passed, picked_end}
use Rattle.turan_code.proofs.making.bits_of_kind.Goals as goal
use Rattle.turan_code.proofs.making.bits_of_kind.Goals.{then-tree-p+in_ok-push, else-tree-p}

pub push-requires : goal.push-requires
push-requires c = grind (arith, length_picked, picked_kept, length-append, ap length c.loop-p.invariant)

pub loop-p-preserved : goal.loop-p-preserved
loop-p-preserved c =
    let more = λ (rest : List Bool). c.loop-p.maker ++ rest in
    elim c.if-tree-p.branch [
      | then-tree-p+in_ok-push w ↦
          rw (w.maker-is, w.in_ok-push.ensures.ok, append_assoc)
          (ap more (sym (picked_kept _ _ _ _ c.loop-p-test.true c.requires.same w.if-tree-p.true)) ∙ c.loop-p.invariant)
      | else-tree-p w ↦
          rw (w.maker-is)
          (ap more (sym (picked_passed _ _ _ _ c.loop-p-test.true c.requires.same w.if-tree-p.false)) ∙ c.loop-p.invariant)
    ]

pub returns : goal.returns
returns c =
    let past : length c.args.tree.now ≤ c.loop-p.p = omega arith in
    let more = λ (rest : List Bool). c.loop-p.maker ++ rest in
    sym (append-nil _) ∙ (ap more (sym (picked_end _ _ _ _ past)) ∙ c.loop-p.invariant)
