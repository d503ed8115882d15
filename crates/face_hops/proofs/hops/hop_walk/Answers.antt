use Rattle.std.proofs.Common.{arith, refl, ap, ◌<◌, ◌+◌, ◌*◌, length}
use Rattle.std.proofs.lemmas.Bool.{both_ways}
use Rattle.scratch_region.specs.Region.{words_left}
use Rattle.pemb_file.specs.Served.{contents_of_view}
use Rattle.navigate.specs.Bound.{served_map}
use Rattle.face_hops.specs.Found.{is_short}
use Rattle.face_hops.proofs.MapFacts.{as_many}
use Rattle.face_hops.proofs.hops.hop_walk.Goals as goal

pub returns-then-left-count-clause-need : goal.returns-then-left-count-clause-need
returns-then-left-count-clause-need g c =
    let many = as_many (contents_of_view c.args.served) c.args.served.whole in
    omega (arith, many, c.count-count.ensures.count, ap length c.faces.ensures)

pub returns-then-left-count-clause-short : goal.returns-then-left-count-clause-short
returns-then-left-count-clause-short g c =
    let many = as_many (contents_of_view c.args.served) c.args.served.whole in
    let few : words_left c.args.room < 2 * (length (served_map c.args.served).faces + 1) = omega (arith, many, c.count-count.ensures.count, ap length c.faces.ensures, c.left-left.ensures, c.if-left-count.true) in
    (λ _. few, λ _. refl)

pub returns-clause-short : goal.returns-clause-short
returns-clause-short g c =
    let many = as_many (contents_of_view c.args.served) c.args.served.whole in (
      λ t. absurd (both_ways (is_short c.walk_over.result) c.walk_over.ensures.room t),
      λ l. absurd (omega (arith, many, c.count-count.ensures.count, ap length c.faces.ensures, c.left-left.ensures, c.if-left-count.false, l)),
    )
