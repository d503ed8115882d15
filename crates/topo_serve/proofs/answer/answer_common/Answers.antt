use Rattle.std.proofs.Common.{◌∙◌, ap, flat_map, map, option_map, option_to_list, sym}
use Rattle.topo_base.specs.Script.{Item, item_text}
use Rattle.topo_serve.proofs.Answering.{written_known, written_unknown}
use Rattle.topo_serve.proofs.Writing.{writes_nothing}
use Rattle.topo_serve.proofs.answer.answer_common.Goals as goal

pub returns-in-Some-Some-clause-writes : goal.returns-in-Some-Some-clause-writes
returns-in-Some-Some-clause-writes g c =
    written_known _ _ _ _ _ _ c.in-Some-Some.ensures.known (ap (λ o. flat_map item_text (map Item.Number (option_to_list (option_map (λ r. r.0) o)))) (sym c.in-Some-Some.field-0-is) ∙ ap (λ o. flat_map item_text (map Item.Number (option_to_list o))) c.in-Some-Some.ensures.region) c.list_numbers.ensures

pub returns-in-Some-None-clause-writes : goal.returns-in-Some-None-clause-writes
returns-in-Some-None-clause-writes g c =
    written_known _ _ _ _ _ _ c.in-Some-None.ensures.known (ap (λ o. flat_map item_text (map Item.Number (option_to_list (option_map (λ r. r.0) o)))) (sym c.in-Some-None.field-0-is) ∙ ap (λ o. flat_map item_text (map Item.Number (option_to_list o))) c.in-Some-None.ensures.region) (writes_nothing _ _)

pub returns-in-None-clause-writes : goal.returns-in-None-clause-writes
returns-in-None-clause-writes g c = written_unknown _ _ _ _ _ c.in-None.ensures.known c.gather.ensures
