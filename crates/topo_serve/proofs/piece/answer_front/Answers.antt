use Rattle.std.proofs.Common.{[], ◌++◌, add-one, arith, rules, take}
use Rattle.std.proofs.lemmas.List.{take_rest}
use Rattle.navigate.specs.Bound.{served_map}
use Rattle.topo_serve.specs.Serving.{found_by_reads, words_of_line}
use Rattle.topo_serve.proofs.Ending.{first_ended, open_after}
use Rattle.topo_serve.proofs.Fronts.{front_none, front_open, ended_open, open_open, front_line, ended_line}
use Rattle.topo_serve.proofs.Piecing.{answers_single, over_nothing, over_single, words_in_line}
use Rattle.topo_serve.proofs.Writing.{writes_failed, writes_nothing, writes_ok}
use Rattle.topo_serve.proofs.piece.answer_front.Goals as goal

pub returns-then-is_empty-clause-least : goal.returns-then-is_empty-clause-least
returns-then-is_empty-clause-least g c =
    omega (arith, over_nothing (found_by_reads (served_map c.args.served.now)) _ (front_none c.args.line.now.items c.args.piece.now (search rules)))

pub returns-in_default-clause-writes : goal.returns-in_default-clause-writes
returns-in_default-clause-writes g c = rw (front_open c.args.line.now.items c.args.piece.now c.in_default.ensures) (writes_nothing _ _)

pub returns-in_default-clause-lines : goal.returns-in_default-clause-lines
returns-in_default-clause-lines g c = ended_open c.args.line.now.items c.args.piece.now c.in_default.ensures

pub returns-in_default-clause-open : goal.returns-in_default-clause-open
returns-in_default-clause-open g c = open_open c.args.line.now.items c.args.piece.now c.in_default.ensures

pub returns-in_default-clause-least : goal.returns-in_default-clause-least
returns-in_default-clause-least g c =
    omega (arith, over_nothing (found_by_reads (served_map c.args.served.now)) _ (front_open c.args.line.now.items c.args.piece.now c.in_default.ensures))

pub returns-in_err-answer_ended-clause-writes : goal.returns-in_err-answer_ended-clause-writes
returns-in_err-answer_ended-clause-writes g c =
    let ended = first_ended c.args.line.now.items c.args.piece.now c.in-Some.end c.in-Some.ensures.0 c.in-Some.ensures.1 c.in-Some.ensures.2 in
    let one = front_line c.args.line.now.items c.args.piece.now _ _ (search rules) ended in
    rw one (writes_failed _ _ _ _ _ _ [] c.from_residual.ensures.1 c.in_err-answer_ended.ensures.writes)

pub returns-in_err-answer_ended-clause-paid : goal.returns-in_err-answer_ended-clause-paid
returns-in_err-answer_ended-clause-paid g c =
    let m = served_map c.args.served.now in
    let line = c.args.line.now.items ++ take c.in-Some.end c.args.piece.now in
    let ended = first_ended c.args.line.now.items c.args.piece.now c.in-Some.end c.in-Some.ensures.0 c.in-Some.ensures.1 c.in-Some.ensures.2 in
    let one = front_line c.args.line.now.items c.args.piece.now line _ (search rules) ended in
    omega (arith, c.in_err-answer_ended.ensures.paid, words_in_line m line, over_single (words_of_line m) _ line one)

pub returns-clause-writes : goal.returns-clause-writes
returns-clause-writes g c =
    let m = served_map c.args.served.now in
    let line = c.args.line.now.items ++ take c.in-Some.end c.args.piece.now in
    let ended = first_ended c.args.line.now.items c.args.piece.now c.in-Some.end c.in-Some.ensures.0 c.in-Some.ensures.1 c.in-Some.ensures.2 in
    let one = front_line c.args.line.now.items c.args.piece.now line _ (search rules) ended in
    rw (answers_single m _ line one) (writes_ok _ _ _ _ _ c.in_ok-answer_ended.ensures.writes)

pub returns-clause-lines : goal.returns-clause-lines
returns-clause-lines g c =
    let ended = first_ended c.args.line.now.items c.args.piece.now c.in-Some.end c.in-Some.ensures.0 c.in-Some.ensures.1 c.in-Some.ensures.2 in
    rw (take_rest, add-one c.in-Some.end) (ended_line c.args.line.now.items c.args.piece.now _ _ (search rules) ended)

pub returns-clause-open : goal.returns-clause-open
returns-clause-open g c =
    rw (c.in_ok-answer_ended.ensures.forgotten, take_rest, add-one c.in-Some.end)
    (open_after c.args.line.now.items c.args.piece.now c.in-Some.end c.in-Some.ensures.0 c.in-Some.ensures.1 c.in-Some.ensures.2)

pub returns-clause-least : goal.returns-clause-least
returns-clause-least g c =
    let m = served_map c.args.served.now in
    let line = c.args.line.now.items ++ take c.in-Some.end c.args.piece.now in
    let ended = first_ended c.args.line.now.items c.args.piece.now c.in-Some.end c.in-Some.ensures.0 c.in-Some.ensures.1 c.in-Some.ensures.2 in
    let one = front_line c.args.line.now.items c.args.piece.now line _ (search rules) ended in
    omega (arith, c.in_ok-answer_ended.ensures.least, over_single (found_by_reads m) _ line one)

pub returns-clause-paid : goal.returns-clause-paid
returns-clause-paid g c =
    let m = served_map c.args.served.now in
    let line = c.args.line.now.items ++ take c.in-Some.end c.args.piece.now in
    let ended = first_ended c.args.line.now.items c.args.piece.now c.in-Some.end c.in-Some.ensures.0 c.in-Some.ensures.1 c.in-Some.ensures.2 in
    let one = front_line c.args.line.now.items c.args.piece.now line _ (search rules) ended in
    omega (arith, c.in_ok-answer_ended.ensures.paid, words_in_line m line, over_single (words_of_line m) _ line one)
