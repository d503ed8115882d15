use Rattle.std.proofs.Common.{◌≡◌, ◌∙◌, ◌+◌, [], ◌∷◌, add-one, ap, arith, drop, flat_map, length, length-drop, refl, subst, sym, take}
use Rattle.std.proofs.lemmas.List.{take_rest}
use Rattle.plane_model.specs.Answers.{answer}
use Rattle.query_text.specs.Lines.{line_of}
use Rattle.pemb_file.specs.OpenFile.{contents_of_file}
use Rattle.navigate.specs.Bound.{map_with, served_map}
use Rattle.topo_serve.specs.Ahead.{AreNext, texts}
use Rattle.topo_serve.specs.Pieces.{ended_behind}
use Rattle.topo_serve.specs.Serving.{found_by_reads, over_lines}
use Rattle.topo_serve.specs.Unknown.{IsUnknown}
use Rattle.topo_serve.proofs.Answering.{same_bytes}
use Rattle.topo_serve.proofs.Ending.{all_open, first_ended, none_ended, open_after}
use Rattle.topo_serve.proofs.NextLines.{as_many_texts, behind_shorter, behind_within, ended_ahead, open_ahead}
use Rattle.topo_serve.proofs.Piecing.{answered_none, answered_more, answered_one, answered_one_part, answered_part, paid_ahead, paid_one_part, paid_part, answered_all, least_all, most_all}
use Rattle.topo_serve.proofs.Unknowns.{unknown_answer, unknown_asks, unknown_found}
use Rattle.topo_serve.proofs.piece.answer_lines.Goals as goal

pub loop-first-init : goal.loop-first-init
loop-first-init g c = record {
  answered = answered_none _ _ _ _ _;
  opens = refl;
  contents = refl;
  room = refl;
  empty = c.requires.empty;
  grows = omega arith;
  within = omega arith;
}

pub returns-in_default-clause-writes : goal.returns-in_default-clause-writes
returns-in_default-clause-writes g c = answered_all _ _ _ _ _ _ _ _ _ c.loop-first.invariant.answered (none_ended [] c.loop-first.rest.now c.in_default.ensures)

pub returns-in_default-clause-open : goal.returns-in_default-clause-open
returns-in_default-clause-open g c = sym (c.loop-first.invariant.opens ∙ all_open [] c.loop-first.rest.now c.in_default.ensures)

pub returns-in_default-clause-least : goal.returns-in_default-clause-least
returns-in_default-clause-least g c = least_all _ _ _ _ _ _ _ _ c.loop-first.invariant.answered (none_ended [] c.loop-first.rest.now c.in_default.ensures)

pub returns-in_default-clause-paid : goal.returns-in_default-clause-paid
returns-in_default-clause-paid g c = most_all _ _ _ _ _ _ _ _ c.loop-first.invariant.answered (none_ended [] c.loop-first.rest.now c.in_default.ensures)

pub answer_unknown-requires : goal.answer_unknown-requires
answer_unknown-requires g c = rw (← c.in-Some.ensures.3) (unknown_asks _ _ (c.if-is_unknown.ensures refl))

pub returns-in_err-answer_unknown-clause-writes : goal.returns-in_err-answer_unknown-clause-writes
returns-in_err-answer_unknown-clause-writes g c =
    let rest = c.loop-first.rest.now in
    let end = c.in-Some.first.end in
    let first = c.in-Some.ensures in
    let one : ended_behind [] rest ≡ take end rest ∷ ended_behind [] (drop (end + 1) rest) = rw (add-one end) (first_ended [] rest end first.0 first.1 first.2) in
    let same : served_map c.of.result ≡ map_with (contents_of_file c.args.file.now) = ap map_with (c.of.ensures ∙ c.loop-first.invariant.contents) in
    let lacks = subst (λ m. IsUnknown m (line_of c.in-Some.first.query)) same (c.if-is_unknown.ensures refl) in
    answered_one_part _ _ _ _ _ _ _ _ _ _ _ _ _ _ c.loop-first.invariant.answered one c.from_residual.ensures.1
    (same_bytes _ _ _ _ _ (unknown_answer _ _ (take end rest) first.3 lacks) c.in_err-answer_unknown.ensures)

pub returns-in_err-answer_unknown-clause-paid : goal.returns-in_err-answer_unknown-clause-paid
returns-in_err-answer_unknown-clause-paid g c =
    let rest = c.loop-first.rest.now in
    let end = c.in-Some.first.end in
    let first = c.in-Some.ensures in
    let one : ended_behind [] rest ≡ take end rest ∷ ended_behind [] (drop (end + 1) rest) = rw (add-one end) (first_ended [] rest end first.0 first.1 first.2) in
    paid_one_part _ _ _ _ _ _ _ _ _ _ _ c.loop-first.invariant.answered one (omega arith)

pub overflow_add-rest : goal.overflow_add-rest
overflow_add-rest g c = omega (arith, c.in-Some.ensures.0, c.loop-first.invariant.within)

pub loop-first-preserved-then-is_unknown : goal.loop-first-preserved-then-is_unknown
loop-first-preserved-then-is_unknown g c =
    let rest = c.loop-first.rest.now in
    let end = c.in-Some.first.end in
    let first = c.in-Some.ensures in
    let one : ended_behind [] rest ≡ take end rest ∷ ended_behind [] (drop (end + 1) rest) = rw (add-one end) (first_ended [] rest end first.0 first.1 first.2) in
    let same : served_map c.of.result ≡ map_with (contents_of_file c.args.file.now) = ap map_with (c.of.ensures ∙ c.loop-first.invariant.contents) in
    let lacks = subst (λ m. IsUnknown m (line_of c.in-Some.first.query)) same (c.if-is_unknown.ensures refl) in
    record {
      answered = rw take_rest (answered_one _ _ _ _ _ _ _ _ _ _ _ _ _ c.loop-first.invariant.answered one
          (same_bytes _ _ _ _ _ (unknown_answer _ _ (take end rest) first.3 lacks) c.in_ok-answer_unknown.ensures)
          (omega (arith, unknown_found _ _ (take end rest) first.3 lacks))
          (omega arith));
      opens = c.loop-first.invariant.opens ∙ rw (take_rest, add-one end) (open_after [] rest end first.0 first.1 first.2);
      contents = c.loop-first.invariant.contents;
      room = c.loop-first.invariant.room;
      empty = c.loop-first.invariant.empty;
      grows = c.loop-first.invariant.grows;
      within = rw take_rest (omega (arith, length-drop (end + 1) rest, c.loop-first.invariant.within));
    }

pub returns-in_err-rest-clause-writes : goal.returns-in_err-rest-clause-writes
returns-in_err-rest-clause-writes g c =
    let same = ap map_with (c.of-served.ensures ∙ c.look_up.ensures.contents ∙ c.loop-first.invariant.contents) in
    let lines = c.as_slice.result.now in
    let rest = c.loop-first.rest.now in
    let next : AreNext lines rest = rw c.as_slice.ensures.value c.lines_from-lines.ensures.next in
    answered_part _ _ _ _ _ _ _ (texts lines rest) _ _ _ _ _ _ c.loop-first.invariant.answered (ended_ahead lines rest next) c.from_residual-in_err-rest.ensures.1
    (same_bytes _ _ _ _ _ (ap (λ m. flat_map (answer m) (texts lines rest)) same) c.in_err-rest.ensures.writes)

pub returns-in_err-rest-clause-paid : goal.returns-in_err-rest-clause-paid
returns-in_err-rest-clause-paid g c =
    let same = ap map_with (c.of-served.ensures ∙ c.look_up.ensures.contents ∙ c.loop-first.invariant.contents) in
    let lines = c.as_slice.result.now in
    let rest = c.loop-first.rest.now in
    let next : AreNext lines rest = rw c.as_slice.ensures.value c.lines_from-lines.ensures.next in
    paid_part _ _ _ _ (texts lines rest) _ _ _ _ _ _ c.loop-first.invariant.answered (ended_ahead lines rest next)
    (paid_ahead _ _ _ (texts lines rest) _ _ _ _ (as_many_texts lines rest ∙ ap length c.as_slice.ensures.value) (ap map_with c.loop-first.invariant.contents) same c.look_up.ensures.paid c.in_err-rest.ensures.paid)

pub loop-first-smaller : goal.loop-first-smaller
loop-first-smaller g c =
    let lines = c.as_slice.result.now in
    let rest = c.loop-first.rest.now in
    let next : AreNext lines rest = rw c.as_slice.ensures.value c.lines_from-lines.ensures.next in
    let some : length lines ≡ 0 → ⊥ = (λ none. omega (arith, none, ap length c.as_slice.ensures.value, c.lines_from-lines.ensures.some)) in
    omega (arith, ap length c.in_ok-rest.ensures.rest, behind_shorter lines rest next some)

pub loop-first-preserved : goal.loop-first-preserved
loop-first-preserved g c =
    let same = ap map_with (c.of-served.ensures ∙ c.look_up.ensures.contents ∙ c.loop-first.invariant.contents) in
    let lines = c.as_slice.result.now in
    let rest = c.loop-first.rest.now in
    let next : AreNext lines rest = rw c.as_slice.ensures.value c.lines_from-lines.ensures.next in
    record {
      answered = rw c.in_ok-rest.ensures.rest (answered_more _ _ _ _ _ (texts lines rest) _ _ _ _ _ _ _ c.loop-first.invariant.answered (ended_ahead lines rest next)
          (same_bytes _ _ _ _ _ (ap (λ m. flat_map (answer m) (texts lines rest)) same) c.in_ok-rest.ensures.writes)
          (omega (arith, ap (λ m. over_lines (found_by_reads m) (texts lines rest)) same, c.look_up.ensures.grows, c.in_ok-rest.ensures.least))
          (paid_ahead _ _ _ (texts lines rest) _ _ _ _ (as_many_texts lines rest ∙ ap length c.as_slice.ensures.value) (ap map_with c.loop-first.invariant.contents) same c.look_up.ensures.paid c.in_ok-rest.ensures.paid));
      opens = c.loop-first.invariant.opens ∙ open_ahead lines rest next ∙ rw c.in_ok-rest.ensures.rest refl;
      contents = c.look_up.ensures.contents ∙ c.loop-first.invariant.contents;
      room = c.in_ok-rest.ensures.room ∙ c.loop-first.invariant.room;
      empty = c.in_ok-rest.ensures.empty;
      grows = omega (arith, c.loop-first.invariant.grows, c.look_up.ensures.grows, c.in_ok-rest.ensures.grows);
      within = omega (arith, ap length c.in_ok-rest.ensures.rest, behind_within lines rest, c.loop-first.invariant.within);
    }
