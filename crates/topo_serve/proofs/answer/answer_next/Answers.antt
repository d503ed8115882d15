use Rattle.std.proofs.Common.{◌∙◌, ap, append-nil, sym}
use Rattle.topo_base.specs.Script.{Item, item_text}
use Rattle.topo_serve.proofs.Answering.{written_known, written_unknown}
use Rattle.topo_serve.proofs.answer.answer_next.Goals as goal

pub returns-in-Some-clause-writes : goal.returns-in-Some-clause-writes
returns-in-Some-clause-writes g c =
    written_known _ _ _ _ _ _ c.in-Some.ensures.known
    (ap (λ d. item_text (Item.Signed_edge d)) c.in-Some.ensures.next ∙ sym (append-nil _)) c.gather_item.ensures

pub returns-in-None-clause-writes : goal.returns-in-None-clause-writes
returns-in-None-clause-writes g c = written_unknown _ _ _ _ _ c.in-None.ensures.known c.gather.ensures
