use Rattle.std.proofs.Common.{◌≡◌, ◌≤◌, ◌+◌, ◌*◌, Bool, if◌then◌else◌, length, subst, ap, sym, ◌∙◌, arith}
use Rattle.bit_words.specs.Digits.{digits}
use Rattle.code_laws.specs.Code.{component_of, mate}
use Rattle.turan_code.specs.TuranView.{code_of_view}
use Rattle.turan_code.proofs.Views.{first_found, mate_component, mate_within, shell_small}
use Rattle.turan_code.proofs.view.TuranView.ring_stop.Goals as goal
use Rattle.turan_code.proofs.view.TuranView.ring_stop.Goals.{then-seen, else-seen}

pub ring_of_pair-requires-clause-small : goal.ring_of_pair-requires-clause-small
ring_of_pair-requires-clause-small g c =
    let v = c.args.self.now in
    let code = code_of_view v in
    shell_small code v.sound (mate code c.args.p) c.pair_across_seen-pair.result (mate_within code v.sound c.args.p c.requires) c.pair_across_seen-pair.ensures.pair

pub returns-clause-across : goal.returns-clause-across
returns-clause-across g c =
    let v = c.args.self.now in
    let code = code_of_view v in
    c.ring_of_pair.ensures.ring (mate code c.args.p) c.pair_across_seen-pair.ensures.pair (mate_component code v.sound c.args.p c.requires)

pub returns-clause-first : goal.returns-clause-first
returns-clause-first g c =
    let v = c.args.self.now in
    let seen = c.see-seen.ensures.seen in
    seen.first ∙ first_found (code_of_view v) v.sound c.see-seen.result.tree c.args.p c.see-seen.result.place (sym seen.tree) seen.place

pub returns-clause-component : goal.returns-clause-component
returns-clause-component g c =
    let v = c.args.self.now in
    let code = code_of_view v in
    let same : component_of code c.if-seen.over ≡ component_of code c.args.p = elim c.if-seen.branch [
      | then-seen w ↦ ap (component_of code) w.over-is
      | else-seen w ↦ ap (component_of code) (w.over-is ∙ w.mate_of_seen-over.ensures.mate) ∙ mate_component code v.sound c.args.p c.requires
    ] in
    c.after-next.ensures.component ∙ same

pub returns-clause-cost : goal.returns-clause-cost
returns-clause-cost g c =
    let d = digits (length (code_of_view c.args.self.now).a + 2) in
    let paid : Bool → Type 0 = λ tree. c.pair_across_seen-pair.new.steps ≤ c.after-next.new.steps + (if tree then 9 * d + 86 else 2 * d + 35) in
    elim c.if-seen.branch [
      | then-seen w ↦ let p = subst paid w.if-seen.true c.pair_across_seen-pair.ensures.cost in omega (arith, p, w.steps-is)
      | else-seen w ↦ let p = subst paid w.if-seen.false c.pair_across_seen-pair.ensures.cost in omega (arith, p, w.steps-is)
    ]
