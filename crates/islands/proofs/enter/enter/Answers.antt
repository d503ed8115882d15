use Rattle.std.proofs.Common.{rules, ◌≡◌, ◌<◌, ℕ, Bool, List, [], length, take, subst, sym, ap, ◌∙◌, false, true, arith}
use Rattle.std.specs.Prelude.{slice_index, slice_index_or}
use Rattle.std.proofs.lemmas.List.{take_more}
use Rattle.std.proofs.Math.Seq.{take-length}
use Rattle.islands.specs.Lists.{listed}
use Rattle.islands.specs.Rounds.{AreEntered, AreAllEntered, IsBeside}
use Rattle.islands.proofs.Collected.{has_index}
use Rattle.islands.proofs.Opening.{read_on, set_length}
use Rattle.islands.proofs.Entering.{marked_push, marked_skip, beside_push, beside_skip, next_faces}
use Rattle.islands.proofs.enter.enter.Goals as goal
use Rattle.islands.proofs.enter.enter.Goals.{then-not-index+in_ok-open, else-not-index}

pub loop-s-preserved : goal.loop-s-preserved
loop-s-preserved c =
    let F : List ℕ = c.args.faces.now in
    let C : List ℕ = c.args.components.now in
    let now : List ℕ = c.args.now.now in
    let i : ℕ = c.loop-s.s-index in
    let s : ℕ = slice_index now i in
    let within : i < length now = search rules in
    let old : List Bool = c.args.reached.now.items in
    let reached : List Bool = c.loop-s.reached.items in
    let entered : List Bool = c.loop-s.entered.items in
    let next : List ℕ = c.loop-s.next.items in
    let inv = c.loop-s.invariant in
    let list : ℕ → List ℕ = listed c.args.in_component.now.last.items c.args.in_component.now.before.items in
    let key_below : slice_index C s < length old = search rules in
    let key_now : slice_index C s < length reached = subst (λ n. slice_index C s < n) (sym inv.reached_many) key_below in
    let more = take_more now i 0 within in
    elim c.if-not-index.branch [
      | then-not-index+in_ok-open w ↦
          let q : AreAllEntered F (list (slice_index C s)) entered w.open.new.entered.items next w.open.new.next.items = w.in_ok-open.ensures in
          rw (more, w.reached-is, w.entered-is, w.next-is) (record {
            marked = marked_push (slice_index C) (take i now) old reached s inv.marked key_now;
            opens = beside_push F C list (take i now) s c.args.entered.now.items entered w.open.new.entered.items next w.open.new.next.items c.requires.same c.requires.lists inv.opens q;
            reached_many = set_length reached (slice_index C s) ∙ inv.reached_many;
            entered_many = q.same ∙ inv.entered_many;
          })
      | else-not-index w ↦
          let on : slice_index_or reached (slice_index C s) false ≡ true = read_on reached (slice_index C s) c.index.result.now key_now c.index.ensures w.if-not-index.false in
          let was = inv.marked.only (slice_index C s) on (c.requires.fresh s (has_index now i within)) in
          rw (more, w.reached-is, w.entered-is, w.next-is) (record {
            marked = marked_skip (slice_index C) (take i now) old reached s inv.marked on;
            opens = beside_skip F C (take i now) s c.args.entered.now.items entered next was.0 was.1 was.2 inv.opens;
            reached_many = inv.reached_many;
            entered_many = inv.entered_many;
          })
    ]

pub returns-clause-next : goal.returns-clause-next
returns-clause-next c =
    let F : List ℕ = c.args.faces.now in
    let C : List ℕ = c.args.components.now in
    let now : List ℕ = c.args.now.now in
    let is : c.loop-s.s-index ≡ length now = omega arith in
    let all : take c.loop-s.s-index now ≡ now = ap (λ k. take k now) is ∙ take-length now in
    next_faces F C now c.args.entered.now.items c.loop-s.entered.items c.loop-s.next.items (subst (λ (xs : List ℕ). AreEntered F (IsBeside F C xs) c.args.entered.now.items c.loop-s.entered.items [] c.loop-s.next.items) all c.loop-s.invariant.opens)
