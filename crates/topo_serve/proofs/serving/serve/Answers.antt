use Rattle.std.proofs.Common.{◌≡◌, ℕ, ◌∙◌, ◌<◌, [], ap, arith, flat_map, length, refl, rules, subst, sym, take}
use Rattle.std.specs.Io.KnownBytes.{Consumes}
use Rattle.ports.specs.Outside.{IsEndAt}
use Rattle.topo_serve.specs.Gathering.{out_at}
use Rattle.std.proofs.lemmas.List.{length-take-le}
use Rattle.plane_model.specs.Answers.{answer}
use Rattle.scratch_region.specs.Marks.{room_of}
use Rattle.file_laws.specs.Contents.{Contents}
use Rattle.pemb_file.specs.Served.{contents_of_view}
use Rattle.navigate.specs.Bound.{map_with, served_map}
use Rattle.topo_serve.specs.Pieces.{ended_behind}
use Rattle.topo_serve.specs.Serving.{over_lines, words_of_line, found_by_reads}
use Rattle.topo_serve.proofs.Answering.{same_bytes}
use Rattle.topo_serve.proofs.Writing.{from_nothing, rose_later, to_nothing}
use Rattle.topo_serve.proofs.Served.{serving_none, serving_more, read_failed, too_long, piece_failed, ended_well, end_failed}
use Rattle.topo_serve.proofs.serving.serve.Goals as goal

pub loop-count-init : goal.loop-count-init
loop-count-init g c = (rw c.new-line.ensures (serving_none _ _ _ _), c.new-text.ensures, refl, c.requires.empty, refl, refl, c.file.ensures)

pub returns-in-Err-clause-serves : goal.returns-in-Err-clause-serves
returns-in-Err-clause-serves g c =
    read_failed (served_map c.args.served) _ c.loop-count.taken c.loop-count.line.items (rw c.in-Err.ensures.kept c.loop-count.invariant.0)
    (rose_later _ _ _ (omega (arith, c.loop-count.invariant.4)) c.in-Err.ensures.failed) (omega (arith, c.loop-count.invariant.4, c.in-Err.ensures.never_falls))

pub returns-in-Ok-answer_rest-clause-serves : goal.returns-in-Ok-answer_rest-clause-serves
returns-in-Ok-answer_rest-clause-serves g c =
    let none : c.in-Ok.count ≡ 0 = c.if-count-eq0.true in
    let IsEnd : ℕ → Type 0 = λ k. IsEndAt (g.S.Source.left c.loop-count.script) 1 k in
    let Takes : ℕ → Type 0 = λ k. Consumes (g.S.Source.left c.loop-count.script) (g.S.Source.left c.next_piece.new.script) (take k c.next_piece.new.buffer) in
    ended_well _ (served_map c.args.served) _ (g.S.Source.left c.loop-count.script) c.loop-count.taken c.as_slice.result.now c.loop-count.steps
    (out_at (g.K.Sink.held c.loop-count.out) (g.K.Sink.faults c.loop-count.out) []) c.answer_rest.new.text.items
    (rw c.as_slice.ensures.value c.loop-count.invariant.0) (subst IsEnd none c.in-Ok.ensures.end) (subst Takes none c.in-Ok.ensures.moved)
    (from_nothing _ _ _ _ _ _ c.loop-count.invariant.1 c.in-Ok-answer_rest.ensures.writes)
    (c.in-Ok-answer_rest.ensures.written c.loop-count.invariant.1)
    c.in-Ok-answer_rest.ensures.least c.in-Ok-answer_rest.ensures.paid
    (c.in-Ok.ensures.no_fault ∙ c.loop-count.invariant.4)

pub returns-in-Err-answer_rest-clause-serves : goal.returns-in-Err-answer_rest-clause-serves
returns-in-Err-answer_rest-clause-serves g c =
    let none : c.in-Ok.count ≡ 0 = c.if-count-eq0.true in
    let Takes : ℕ → Type 0 = λ k. Consumes (g.S.Source.left c.loop-count.script) (g.S.Source.left c.next_piece.new.script) (take k c.next_piece.new.buffer) in
    end_failed _ (served_map c.args.served) _ (g.S.Source.left c.loop-count.script) c.loop-count.taken c.as_slice.result.now c.loop-count.steps
    (out_at (g.K.Sink.held c.loop-count.out) (g.K.Sink.faults c.loop-count.out) []) c.answer_rest.new.text.items
    (rw c.as_slice.ensures.value c.loop-count.invariant.0) (subst Takes none c.in-Ok.ensures.moved)
    (from_nothing _ _ _ _ _ _ c.loop-count.invariant.1 c.in-Err-answer_rest.ensures.writes)
    c.in-Err-answer_rest.ensures.grows c.in-Err-answer_rest.ensures.paid
    (c.in-Ok.ensures.no_fault ∙ c.loop-count.invariant.4)

pub returns-then-taken-eq-MOST_BYTES-clause-serves : goal.returns-then-taken-eq-MOST_BYTES-clause-serves
returns-then-taken-eq-MOST_BYTES-clause-serves g c =
    let many : length (take c.in-Ok.count c.next_piece.new.buffer) ≡ c.in-Ok.count = length-take-le c.in-Ok.count c.next_piece.new.buffer c.in-Ok.ensures.within in
    let some : 0 < c.in-Ok.count = search rules in
    too_long (served_map c.args.served) _ (g.S.Source.left c.loop-count.script) c.loop-count.taken c.loop-count.line.items (take c.in-Ok.count c.next_piece.new.buffer)
    c.loop-count.invariant.0 c.if-taken-eq-MOST_BYTES.true (omega (arith, many, some, c.in-Ok.ensures.single c.if-taken-eq-MOST_BYTES.true)) c.in-Ok.ensures.moved (c.in-Ok.ensures.no_fault ∙ c.loop-count.invariant.4)

pub answer_piece-requires-clause-room : goal.answer_piece-requires-clause-room
answer_piece-requires-clause-room g c =
    subst (λ (m : Contents). length m.faces < room_of c.loop-count.marks) (sym c.loop-count.invariant.6)
    (subst (λ n. length (contents_of_view c.args.served).faces < n) (sym c.loop-count.invariant.2) c.requires.room)

pub loop-count-preserved : goal.loop-count-preserved
loop-count-preserved g c =
    let piece = take c.in-Ok.count c.next_piece.new.buffer in
    let ended = ended_behind c.loop-count.line.items piece in
    let same = ap map_with c.loop-count.invariant.6 in
    let many : length (take c.in-Ok.count c.next_piece.new.buffer) ≡ c.in-Ok.count = length-take-le c.in-Ok.count c.next_piece.new.buffer c.in-Ok.ensures.within in
    let fits : c.loop-count.taken < 1073741824 = search (rules, c.loop-count.invariant.0.few) in (
      rw (← many) (serving_more _ (served_map c.args.served) _ _ _ c.loop-count.taken c.loop-count.line.items (take c.in-Ok.count c.next_piece.new.buffer) c.answer_piece.new.line.items _ _ _ _ _ _
          c.loop-count.invariant.0 c.in-Ok.ensures.moved (omega (arith, many, c.in-Ok.ensures.limit fits))
          (to_nothing _ _ _ _ _ _ c.in-Ok-answer_piece.ensures.written (from_nothing _ _ _ _ _ _ c.loop-count.invariant.1 (same_bytes _ _ _ _ _ (ap (λ m. flat_map (answer m) ended) same) c.in-Ok-answer_piece.ensures.writes)))
          c.in-Ok-answer_piece.ensures.open (omega (arith, ap (λ m. over_lines (found_by_reads m) ended) same, c.in-Ok-answer_piece.ensures.least))
          (omega (arith, ap (λ m. over_lines (words_of_line m) ended) same, c.in-Ok-answer_piece.ensures.paid))),
      c.in-Ok-answer_piece.ensures.written,
      c.in-Ok-answer_piece.ensures.room ∙ c.loop-count.invariant.2,
      c.in-Ok-answer_piece.ensures.empty,
      c.in-Ok.ensures.no_fault ∙ c.loop-count.invariant.4,
      search (rules, c.loop-count.invariant.5),
      c.in-Ok-answer_piece.ensures.contents ∙ c.loop-count.invariant.6,
    )

pub returns-in-Err-answer_piece-clause-serves : goal.returns-in-Err-answer_piece-clause-serves
returns-in-Err-answer_piece-clause-serves g c =
    let ended = ended_behind c.loop-count.line.items (take c.in-Ok.count c.next_piece.new.buffer) in
    let same = ap map_with c.loop-count.invariant.6 in
    let many : length (take c.in-Ok.count c.next_piece.new.buffer) ≡ c.in-Ok.count = length-take-le c.in-Ok.count c.next_piece.new.buffer c.in-Ok.ensures.within in
    let fits : c.loop-count.taken < 1073741824 = search (rules, c.loop-count.invariant.0.few) in
    piece_failed _ (served_map c.args.served) _ (g.S.Source.left c.loop-count.script) c.loop-count.taken c.loop-count.line.items (take c.in-Ok.count c.next_piece.new.buffer) c.loop-count.steps _ c.answer_piece.new.text.items
    c.loop-count.invariant.0 c.in-Ok.ensures.moved (omega (arith, many, c.in-Ok.ensures.limit fits))
    (from_nothing _ _ _ _ _ _ c.loop-count.invariant.1 (same_bytes _ _ _ _ _ (ap (λ m. flat_map (answer m) ended) same) c.in-Err-answer_piece.ensures.writes))
    c.in-Err-answer_piece.ensures.grows (omega (arith, ap (λ m. over_lines (words_of_line m) ended) same, c.in-Err-answer_piece.ensures.paid)) (c.in-Ok.ensures.no_fault ∙ c.loop-count.invariant.4)
