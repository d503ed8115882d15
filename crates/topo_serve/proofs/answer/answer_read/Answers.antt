use Rattle.std.proofs.Common.{◌≡◌, ◌+◌, ◌≤◌, OnOk, ap, rules, subst}
use Rattle.topo_base.specs.Script.{Line, line}
use Rattle.plane_model.specs.Answers.{answer_to, line_walked, items_listed}
use Rattle.query_text.specs.Lines.{IsAsk, line_of}
use Rattle.navigate.specs.Bound.{most_words, served_map}
use Rattle.topo_serve.specs.Serving.{found_in}
use Rattle.topo_serve.proofs.Answering.{found_asked, same_bytes, words_asked}
use Rattle.topo_serve.proofs.Writing.{writes_nothing}
use Rattle.topo_serve.proofs.answer.answer_read.Goals as goal

pub returns-in-Blank-clause-writes : goal.returns-in-Blank-clause-writes
returns-in-Blank-clause-writes g c = same_bytes _ _ _ _ _ (ap (answer_to (served_map c.args.served.now)) (rw c.in-Blank.is at c.requires.said)) (writes_nothing tt _)

pub returns-in-Bad-clause-writes : goal.returns-in-Bad-clause-writes
returns-in-Bad-clause-writes g c = same_bytes _ _ _ _ _ (ap (answer_to (served_map c.args.served.now)) (rw c.in-Bad.is at c.requires.said)) c.gather.ensures

pub returns-in-Long-clause-writes : goal.returns-in-Long-clause-writes
returns-in-Long-clause-writes g c = same_bytes _ _ _ _ _ (ap (answer_to (served_map c.args.served.now)) (rw c.in-Long.is at c.requires.said)) c.gather-in-Long.ensures

pub returns-in_default : goal.returns-in_default
returns-in_default g c =
    let said : line_of c.args.query.now ≡ line c.args.line.now = c.requires.said in
    let asks : IsAsk (line_of c.args.query.now) = search rules in
    let Found : Line → Type 0 = λ l. OnOk c.answer_query.result (c.args.steps.now + found_in (served_map c.args.served.now) l ≤ c.answer_query.new.steps) in
    let Paid : Line → Type 0 = λ l. c.answer_query.new.steps ≤ c.args.steps.now + most_words (served_map c.args.served.now) (line_walked (served_map c.args.served.now) l) (items_listed (served_map c.args.served.now) l) in
    record {
      room = c.answer_query.ensures.room;
      empty = c.answer_query.ensures.empty;
      writes = same_bytes _ _ _ _ _ (ap (answer_to (served_map c.args.served.now)) said) c.answer_query.ensures.writes;
      least = subst Found said (found_asked c.answer_query.result (served_map c.args.served.now) (line_of c.args.query.now) c.args.steps.now c.answer_query.new.steps asks c.answer_query.ensures.least);
      grows = c.answer_query.ensures.grows;
      paid = subst Paid said (words_asked (served_map c.args.served.now) (line_of c.args.query.now) c.args.steps.now c.answer_query.new.steps asks c.answer_query.ensures.paid);
    }
