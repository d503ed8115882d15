use Rattle.std.proofs.Common.{[], ap, append-nil, arith, flat_map, refl, sym}
use Rattle.plane_model.specs.Answers.{answer}
use Rattle.ports.proofs.Results.{on_ok_always}
use Rattle.pemb_file.specs.OpenFile.{contents_of_file}
use Rattle.navigate.specs.Bound.{map_with}
use Rattle.topo_serve.specs.Gathering.{out_at}
use Rattle.topo_serve.specs.Pieces.{ended_behind, front_ended}
use Rattle.topo_serve.specs.Serving.{over_lines, words_of_line}
use Rattle.topo_serve.proofs.Answering.{same_bytes}
use Rattle.topo_serve.proofs.Fronts.{front_first}
use Rattle.topo_serve.proofs.Piecing.{answered_first, answered_last, answered_none, answered_part, answered_put, least_all, most_all, over_more, paid_part}
use Rattle.topo_serve.proofs.piece.answer_piece.Goals as goal

pub returns-in_err-rest-clause-writes : goal.returns-in_err-rest-clause-writes
returns-in_err-rest-clause-writes g c =
    let same = ap map_with c.of-served.ensures in
    let first = front_ended c.args.line.now.items c.args.piece.now in
    let split = front_first c.args.line.now.items c.args.piece.now in
    answered_part _ _ _ (map_with (contents_of_file c.args.file.now)) (words_of_line (map_with (contents_of_file c.args.file.now))) _ _ first split.0 c.args.steps.now _ _ _ _ (answered_none _ _ _ _ _) split.1 c.from_residual.ensures.1
    (same_bytes _ _ _ _ _ (ap (λ m. flat_map (answer m) first) same) c.in_err-rest.ensures.writes)

pub returns-in_err-rest-clause-paid : goal.returns-in_err-rest-clause-paid
returns-in_err-rest-clause-paid g c =
    let m = map_with (contents_of_file c.args.file.now) in
    let same = ap map_with c.of-served.ensures in
    let first = front_ended c.args.line.now.items c.args.piece.now in
    let split = front_first c.args.line.now.items c.args.piece.now in
    omega (arith, ap (over_lines (words_of_line m)) split.1, over_more (words_of_line m) first split.0, ap (λ x. over_lines (words_of_line x) first) same, c.in_err-rest.ensures.paid)

pub returns-in_err-open-clause-writes : goal.returns-in_err-open-clause-writes
returns-in_err-open-clause-writes g c =
    let m = map_with (contents_of_file c.args.file.now) in
    let ended = ended_behind c.args.line.now.items c.args.piece.now in
    let others = ended_behind [] c.in_ok-rest.rest.now in
    let before = out_at (g.K.Sink.held c.args.out.now) (g.K.Sink.faults c.args.out.now) c.args.text.now.items in
    let between = out_at (g.K.Sink.held c.answer_front.new.out) (g.K.Sink.faults c.answer_front.new.out) c.answer_front.new.text.items in
    let answered = answered_first c.in_ok-rest.rest m _ ended _ others c.args.steps.now c.answer_front.new.steps before between (ap map_with c.of-served.ensures)
    c.in_ok-rest.ensures.lines c.in_ok-rest.ensures.writes c.in_ok-rest.ensures.least c.in_ok-rest.ensures.paid in
    answered_part _ _ _ m (words_of_line m) ended others others [] c.args.steps.now c.answer_front.new.steps before between _ answered (sym (append-nil others)) c.from_residual-in_err-open.ensures.1 c.in_err-open.ensures.writes

pub returns-in_err-open-clause-paid : goal.returns-in_err-open-clause-paid
returns-in_err-open-clause-paid g c =
    let m = map_with (contents_of_file c.args.file.now) in
    let ended = ended_behind c.args.line.now.items c.args.piece.now in
    let others = ended_behind [] c.in_ok-rest.rest.now in
    let before = out_at (g.K.Sink.held c.args.out.now) (g.K.Sink.faults c.args.out.now) c.args.text.now.items in
    let between = out_at (g.K.Sink.held c.answer_front.new.out) (g.K.Sink.faults c.answer_front.new.out) c.answer_front.new.text.items in
    let answered = answered_first c.in_ok-rest.rest m _ ended _ others c.args.steps.now c.answer_front.new.steps before between (ap map_with c.of-served.ensures)
    c.in_ok-rest.ensures.lines c.in_ok-rest.ensures.writes c.in_ok-rest.ensures.least c.in_ok-rest.ensures.paid in
    paid_part m (words_of_line m) ended others others [] c.args.steps.now c.answer_front.new.steps _ before between answered (sym (append-nil others)) c.in_err-open.ensures.paid

pub returns-clause-writes : goal.returns-clause-writes
returns-clause-writes g c =
    let m = map_with (contents_of_file c.args.file.now) in
    let ended = ended_behind c.args.line.now.items c.args.piece.now in
    let others = ended_behind [] c.in_ok-rest.rest.now in
    let before = out_at (g.K.Sink.held c.args.out.now) (g.K.Sink.faults c.args.out.now) c.args.text.now.items in
    let between = out_at (g.K.Sink.held c.answer_front.new.out) (g.K.Sink.faults c.answer_front.new.out) c.answer_front.new.text.items in
    let answered = answered_first c.in_ok-rest.rest m _ ended _ others c.args.steps.now c.answer_front.new.steps before between (ap map_with c.of-served.ensures)
    c.in_ok-rest.ensures.lines c.in_ok-rest.ensures.writes c.in_ok-rest.ensures.least c.in_ok-rest.ensures.paid in
    let after = out_at (g.K.Sink.held c.answer_lines.new.out) (g.K.Sink.faults c.answer_lines.new.out) c.answer_lines.new.text.items in
    let all = answered_last c.in_ok-open.open m (words_of_line m) ended others c.args.steps.now c.answer_front.new.steps c.answer_lines.new.steps before between after answered
    c.in_ok-open.ensures.writes c.in_ok-open.ensures.least c.in_ok-open.ensures.paid in
    answered_put c.put_out.result m (words_of_line m) ended c.args.steps.now c.answer_lines.new.steps before after _ all c.put_out.ensures.writes

pub returns-clause-least : goal.returns-clause-least
returns-clause-least g c =
    let m = map_with (contents_of_file c.args.file.now) in
    let ended = ended_behind c.args.line.now.items c.args.piece.now in
    let others = ended_behind [] c.in_ok-rest.rest.now in
    let before = out_at (g.K.Sink.held c.args.out.now) (g.K.Sink.faults c.args.out.now) c.args.text.now.items in
    let between = out_at (g.K.Sink.held c.answer_front.new.out) (g.K.Sink.faults c.answer_front.new.out) c.answer_front.new.text.items in
    let answered = answered_first c.in_ok-rest.rest m _ ended _ others c.args.steps.now c.answer_front.new.steps before between (ap map_with c.of-served.ensures)
    c.in_ok-rest.ensures.lines c.in_ok-rest.ensures.writes c.in_ok-rest.ensures.least c.in_ok-rest.ensures.paid in
    let after = out_at (g.K.Sink.held c.answer_lines.new.out) (g.K.Sink.faults c.answer_lines.new.out) c.answer_lines.new.text.items in
    let all = answered_last c.in_ok-open.open m (words_of_line m) ended others c.args.steps.now c.answer_front.new.steps c.answer_lines.new.steps before between after answered
    c.in_ok-open.ensures.writes c.in_ok-open.ensures.least c.in_ok-open.ensures.paid in
    on_ok_always c.put_out.result (least_all m (words_of_line m) ended [] c.args.steps.now c.answer_lines.new.steps before after all refl)

pub returns-clause-paid : goal.returns-clause-paid
returns-clause-paid g c =
    let m = map_with (contents_of_file c.args.file.now) in
    let ended = ended_behind c.args.line.now.items c.args.piece.now in
    let others = ended_behind [] c.in_ok-rest.rest.now in
    let before = out_at (g.K.Sink.held c.args.out.now) (g.K.Sink.faults c.args.out.now) c.args.text.now.items in
    let between = out_at (g.K.Sink.held c.answer_front.new.out) (g.K.Sink.faults c.answer_front.new.out) c.answer_front.new.text.items in
    let answered = answered_first c.in_ok-rest.rest m _ ended _ others c.args.steps.now c.answer_front.new.steps before between (ap map_with c.of-served.ensures)
    c.in_ok-rest.ensures.lines c.in_ok-rest.ensures.writes c.in_ok-rest.ensures.least c.in_ok-rest.ensures.paid in
    let after = out_at (g.K.Sink.held c.answer_lines.new.out) (g.K.Sink.faults c.answer_lines.new.out) c.answer_lines.new.text.items in
    let all = answered_last c.in_ok-open.open m (words_of_line m) ended others c.args.steps.now c.answer_front.new.steps c.answer_lines.new.steps before between after answered
    c.in_ok-open.ensures.writes c.in_ok-open.ensures.least c.in_ok-open.ensures.paid in
    most_all m (words_of_line m) ended [] c.args.steps.now c.answer_lines.new.steps before after all refl
