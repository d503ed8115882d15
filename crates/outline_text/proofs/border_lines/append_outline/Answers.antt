use Rattle.region_border.specs.BorderWalk.{rest}
use Rattle.outline_text.proofs.BorderText.{all_lines, on_ok_more}
use Rattle.outline_text.proofs.border_lines.append_outline.Goals as goal

pub returns-clause-text : goal.returns-clause-text
returns-clause-text g c =
    let rings = c.in_ok-counts.ensures in
    on_ok_more c.append_counts.result _ _ c.append_counts.ensures
    (λ is. all_lines c.args.region.0 c.in_ok-counts.counts.rings c.in_ok-counts.counts.edges (rest c.args.walk.now) c.args.text.now.items c.append_rings.new.text.items c.append_counts.new.text.items rings.text rings.rings rings.edges is)
