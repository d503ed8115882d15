use Rattle.std.proofs.Common.{◌++◌, ap, codes, take}
use Rattle.topo_base.proofs.Spelled.{positive_text, positive_within, signed_text, signed_within}
use Rattle.query_text.proofs.first.plain_query.Goals as goal

pub returns-in_ok-len-in-Node-clause-text : goal.returns-in_ok-len-in-Node-clause-text
returns-in_ok-len-in-Node-clause-text c =
    let found = c.in_ok-len-in-Node.field-0 in
    let spelled = c.in_ok-len-in-Node.ensures.number in
    let text = take found.len c.args.rest.now in
    rw c.in-Node.is (positive_within text found.number spelled, ap (λ t. codes "node " ++ t) (positive_text text found.number spelled))

pub returns-in_ok-len-in-Ring-clause-text : goal.returns-in_ok-len-in-Ring-clause-text
returns-in_ok-len-in-Ring-clause-text c =
    let found = c.in_ok-len-in-Ring.field-0 in
    let spelled = c.in_ok-len-in-Ring.ensures.edge in
    let text = take found.len c.args.rest.now in
    rw c.in-Ring.is (signed_within text found.edge spelled, ap (λ t. codes "ring " ++ t) (signed_text text found.edge spelled))

pub returns-in_ok-len-in-Next-clause-text : goal.returns-in_ok-len-in-Next-clause-text
returns-in_ok-len-in-Next-clause-text c =
    let found = c.in_ok-len-in-Next.field-0 in
    let spelled = c.in_ok-len-in-Next.ensures.edge in
    let text = take found.len c.args.rest.now in
    rw c.in-Next.is (signed_within text found.edge spelled, ap (λ t. codes "next " ++ t) (signed_text text found.edge spelled))

pub returns-in_ok-len-in-Ends-clause-text : goal.returns-in_ok-len-in-Ends-clause-text
returns-in_ok-len-in-Ends-clause-text c =
    let found = c.in_ok-len-in-Ends.field-0 in
    let spelled = c.in_ok-len-in-Ends.ensures.edge in
    let text = take found.len c.args.rest.now in
    rw c.in-Ends.is (signed_within text found.edge spelled, ap (λ t. codes "ends " ++ t) (signed_text text found.edge spelled))

pub returns-in_ok-len-in-Sides-clause-text : goal.returns-in_ok-len-in-Sides-clause-text
returns-in_ok-len-in-Sides-clause-text c =
    let found = c.in_ok-len-in-Sides.field-0 in
    let spelled = c.in_ok-len-in-Sides.ensures.edge in
    let text = take found.len c.args.rest.now in
    rw c.in-Sides.is (signed_within text found.edge spelled, ap (λ t. codes "sides " ++ t) (signed_text text found.edge spelled))

pub returns-in_ok-len-in-Face-clause-text : goal.returns-in_ok-len-in-Face-clause-text
returns-in_ok-len-in-Face-clause-text c =
    let found = c.in_ok-len-in-Face.field-0 in
    let spelled = c.in_ok-len-in-Face.ensures.number in
    let text = take found.len c.args.rest.now in
    rw c.in-Face.is ((positive_within text found.number spelled).1, ap (λ t. codes "face " ++ t) (positive_text text found.number spelled))

pub returns-in_ok-len-in-Adjacent-clause-text : goal.returns-in_ok-len-in-Adjacent-clause-text
returns-in_ok-len-in-Adjacent-clause-text c =
    let found = c.in_ok-len-in-Adjacent.field-0 in
    let spelled = c.in_ok-len-in-Adjacent.ensures.number in
    let text = take found.len c.args.rest.now in
    rw c.in-Adjacent.is ((positive_within text found.number spelled).1, ap (λ t. codes "adjacent " ++ t) (positive_text text found.number spelled))

pub returns-in_ok-len-in-Contains-clause-text : goal.returns-in_ok-len-in-Contains-clause-text
returns-in_ok-len-in-Contains-clause-text c =
    let found = c.in_ok-len-in-Contains.field-0 in
    let spelled = c.in_ok-len-in-Contains.ensures.number in
    let text = take found.len c.args.rest.now in
    rw c.in-Contains.is (positive_within text found.number spelled, ap (λ t. codes "contains " ++ t) (positive_text text found.number spelled))

pub returns-in_ok-len-in-Islands-clause-text : goal.returns-in_ok-len-in-Islands-clause-text
returns-in_ok-len-in-Islands-clause-text c =
    let found = c.in_ok-len-in-Islands.field-0 in
    let spelled = c.in_ok-len-in-Islands.ensures.number in
    let text = take found.len c.args.rest.now in
    rw c.in-Islands.is ((positive_within text found.number spelled).1, ap (λ t. codes "islands " ++ t) (positive_text text found.number spelled))
