use Rattle.std.proofs.Common.{◌++◌, ◌∙◌, ap, flat_map, map}
use Rattle.topo_base.specs.Script.{Item, item_text}
use Rattle.navigate.specs.AdjacentWalk as across
use Rattle.topo_serve.proofs.Answering.{written_known, written_unknown}
use Rattle.topo_serve.proofs.answer.answer_adjacent.Goals as goal

pub list_and_close-requires-clause-marks : goal.list_and_close-requires-clause-marks
list_and_close-requires-clause-marks g c = c.in-Some.ensures.marks

pub returns-in-Some-clause-writes : goal.returns-in-Some-clause-writes
returns-in-Some-clause-writes g c =
    let rest = across.rest c.in-Some.walk in
    written_known _ _ _ _ _ _ c.in-Some.ensures.known
    (ap (λ xs. flat_map item_text (map Item.Number xs)) (ap (λ xs. xs ++ rest) c.as_slice.ensures.value ∙ c.in-Some.ensures.list)) c.list_and_close.ensures.writes

pub returns-in-None-clause-writes : goal.returns-in-None-clause-writes
returns-in-None-clause-writes g c = written_unknown _ _ _ _ _ c.in-None.ensures.known c.gather.ensures
