use Rattle.std.proofs.Common.{ap, flat_map, map, option_to_list, sym}
use Rattle.topo_base.specs.Script.{Item, item_text}
use Rattle.topo_serve.proofs.Answering.{written_known, written_unknown}
use Rattle.topo_serve.proofs.answer.answer_contains.Goals as goal

pub returns-in-Some-clause-writes : goal.returns-in-Some-clause-writes
returns-in-Some-clause-writes g c =
    written_known _ _ _ _ _ _ c.in-Some.ensures.known (sym (ap (λ o. flat_map item_text (map Item.Number (option_to_list o))) c.in-Some.ensures.face)) c.list_numbers.ensures

pub returns-in-None-clause-writes : goal.returns-in-None-clause-writes
returns-in-None-clause-writes g c = written_unknown _ _ _ _ _ c.in-None.ensures.known c.gather.ensures
