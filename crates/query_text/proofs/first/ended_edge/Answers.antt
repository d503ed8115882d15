use Rattle.std.proofs.Common.{◌≡◌, Some, ap, sym, ◌∙◌, arith, take, drop, length, ◌-◌}
use Rattle.std.specs.Prelude.{slice_index}
use Rattle.topo_base.proofs.Spelled.{positive_within}
use Rattle.query_text.proofs.Ended.{feed_behind, lead_kept, negated, same_number}
use Rattle.query_text.proofs.first.ended_edge.Goals as goal

pub returns-in_ok-edge-in-45-clause-feed : goal.returns-in_ok-edge-in-45-clause-feed
returns-in_ok-edge-in-45-clause-feed c =
    feed_behind c.args.bytes.now c.in_ok-found-in-45.found.len c.in-45.len_at_least c.in_ok-found-in-45.ensures.feed

pub returns-in_ok-edge-in-45-clause-edge : goal.returns-in_ok-edge-in-45-clause-edge
returns-in_ok-edge-in-45-clause-edge c =
    let bytes = c.args.bytes.now in
    let found = c.in_ok-found-in-45.found in
    let spelled = c.in_ok-found-in-45.ensures.number in
    let sign : slice_index bytes 0 ≡ 45 = omega arith in
    let number = same_number c.try_from.result _ _ c.in_ok-ok-in-45.field-0 c.try_from.ensures c.in_ok-ok-in-45.ensures.value in
    let high = (positive_within (take found.len (take (length bytes - 1) (drop 1 bytes))) found.number spelled).1 in
    lead_kept bytes found.len found.number c.in-45.len_at_least sign spelled
    ∙ ap Some (sym (c.in_ok-edge-in-45.ensures.some ∙ negated found.number c.in_ok-ok-in-45.field-0 high number))
