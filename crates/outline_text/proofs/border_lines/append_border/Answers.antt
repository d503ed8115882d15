use Rattle.std.proofs.Common.{arith, ap, sym, ◌∙◌, List, ℤ}
use Rattle.std.specs.Prelude.{map}
use Rattle.plane_model.specs.Sets.{has}
use Rattle.navigate.specs.Bound.{served_map}
use Rattle.region_border.specs.BorderWalk.{contents_in}
use Rattle.region_border.specs.Numbered.{mark_of}
use Rattle.outline_text.proofs.BorderText.{known_least, known_text, on_ok_more, unknown_most, unknown_text}
use Rattle.outline_text.proofs.border_lines.append_border.Goals as goal

pub append_outline-requires-clause-marks : goal.append_outline-requires-clause-marks
append_outline-requires-clause-marks g c = λ j. c.requires.empty j ∙ ap (λ (ds : List ℤ). has (map (mark_of (contents_in c.in-Some.walk)) ds) j) (sym c.in-Some.ensures.given)

pub returns-in-Some-clause-text : goal.returns-in-Some-clause-text
returns-in-Some-clause-text g c =
    on_ok_more c.append_outline.result _ _ c.append_outline.ensures.text (λ is. known_text (served_map c.args.served) c.args.region.0 _ _ _ c.in-Some.ensures.known c.in-Some.ensures.list is)

pub returns-in-Some-clause-least : goal.returns-in-Some-clause-least
returns-in-Some-clause-least g c =
    let begun = c.in-Some.ensures.grows in
    on_ok_more c.append_outline.result _ _ c.append_outline.ensures.least (λ least. known_least (served_map c.args.served) c.args.region.0 _ _ _ c.in-Some.ensures.known c.in-Some.ensures.list (omega (arith, begun, least)))

pub returns-in-None-clause-text : goal.returns-in-None-clause-text
returns-in-None-clause-text g c =
    on_ok_more c.append_unknown.result _ _ c.append_unknown.ensures (λ is. unknown_text (served_map c.args.served) c.args.region.0 _ _ c.in-None.ensures.known is)

pub returns-in-None-clause-most : goal.returns-in-None-clause-most
returns-in-None-clause-most g c = unknown_most (served_map c.args.served) _ _ c.in-None.ensures.paid
