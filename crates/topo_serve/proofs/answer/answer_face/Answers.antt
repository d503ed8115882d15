use Rattle.std.proofs.Common.{◌++◌, ◌∙◌, ap, flat_map, true}
use Rattle.topo_base.specs.Script.{Item, item_text}
use Rattle.navigate.specs.Bound.{served_map}
use Rattle.navigate.specs.FirstEdges.{edges_in}
use Rattle.navigate.specs.FaceWalk as walks
use Rattle.topo_serve.proofs.Answering.{written_known, written_unknown}
use Rattle.topo_serve.proofs.Walked.{begun_items, least_begun, paid_begun, paid_unknown}
use Rattle.topo_serve.proofs.answer.answer_face.Goals as goal

pub returns-in-Some-clause-writes : goal.returns-in-Some-clause-writes
returns-in-Some-clause-writes g c =
    let rest = walks.rest c.in-Some.walk in
    written_known _ _ _ _ _ _ c.in-Some.ensures.known
    (ap (flat_map item_text) (begun_items Item.Signed_edge true c.as_slice.result.now rest _ (ap (λ xs. xs ++ rest) c.as_slice.ensures ∙ c.in-Some.ensures.list))) c.list_behind.ensures.writes

pub returns-in-Some-clause-least : goal.returns-in-Some-clause-least
returns-in-Some-clause-least g c =
    least_begun Item.Signed_edge _ (edges_in c.face_walk_begun.new.edges) (walks.rest c.in-Some.walk) _ c.in-Some.ensures.list _ _ _ _ c.in-Some.ensures.known c.in-Some.ensures.least c.list_behind.ensures.least

pub returns-in-Some-clause-paid : goal.returns-in-Some-clause-paid
returns-in-Some-clause-paid g c =
    paid_begun Item.Signed_edge _ (edges_in c.face_walk_begun.new.edges) (walks.rest c.in-Some.walk) _ c.in-Some.ensures.list (served_map c.args.served.now) _ _ _ _ c.in-Some.ensures.known c.in-Some.ensures.paid c.list_behind.ensures.paid

pub returns-in-None-clause-writes : goal.returns-in-None-clause-writes
returns-in-None-clause-writes g c = written_unknown _ _ _ _ _ c.in-None.ensures.known c.gather.ensures

pub returns-in-None-clause-paid : goal.returns-in-None-clause-paid
returns-in-None-clause-paid g c = paid_unknown (served_map c.args.served.now) Item.Signed_edge _ _ _ _ c.in-None.ensures.known c.in-None.ensures.paid
