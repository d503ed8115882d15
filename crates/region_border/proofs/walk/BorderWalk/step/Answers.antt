use Rattle.std.specs.Prelude.{MatchOption, option_to_list, length}
use Rattle.std.proofs.Common.{arith, ap, ◌∙◌, ◌≡◌, ◌≤◌, ◌*◌, ◌∷◌, ◌++◌, [], ℤ, List, subst, sym}
use Rattle.file_laws.specs.Contents.{Contents}
use Rattle.scratch_region.specs.Marks.{room_of}
use Rattle.region_border.specs.BorderWalk.{contents_in, rest}
use Rattle.region_border.specs.Items.{edges_in}
use Rattle.region_border.specs.declared.item.BorderItem.{BorderItem}
use Rattle.region_border.proofs.Stepping.{given_same, held_same, least_more}
use Rattle.region_border.proofs.walk.BorderWalk.step.Goals as goal

pub give-requires-clause-room : goal.give-requires-clause-room
give-requires-clause-room g c = subst (λ (k : Contents). 2 * length k.edges ≤ room_of c.args.marks.now) (sym c.settle.ensures.contents) c.requires.room

pub give-requires-clause-marks : goal.give-requires-clause-marks
give-requires-clause-marks g c = held_same c.args.self.now c.settle.new.self c.args.marks.now c.settle.ensures.contents c.settle.ensures.region c.settle.ensures.rest c.requires.marks

pub returns-clause-next : goal.returns-clause-next
returns-clause-next g c = subst (λ (items : List BorderItem). MatchOption c.give.result (items ≡ []) (λ item. items ≡ item ∷ rest c.give.new.self)) c.settle.ensures.rest c.give.ensures.next

pub returns-clause-given : goal.returns-clause-given
returns-clause-given g c =
    c.give.ensures.given ∙ ap (λ (ds : List ℤ). ds ++ edges_in (option_to_list c.give.result)) (given_same c.args.self.now c.settle.new.self c.settle.ensures.contents c.settle.ensures.region c.settle.ensures.rest)

pub returns-clause-least : goal.returns-clause-least
returns-clause-least g c = least_more c.give.result c.args.steps.now c.settle.new.steps c.give.new.steps c.settle.ensures.grows c.give.ensures.least
