use Rattle.std.proofs.Common.{arith, ap, ◌∙◌, length, ℕ, Option}
use Rattle.std.specs.Prelude.{option_map, slice_index, unwrap_or, ◌+◌}
use Rattle.pemb_file.specs.Served.{contents_of_view}
use Rattle.pemb_file.proofs.MadeCounts.{many}
use Rattle.region_tree.specs.RegionView.{Regions, regions_of}
use Rattle.file_parts.proofs.MemberNumbers.{member_back}
use Rattle.file_parts.proofs.Taken.{taken_more, taken_all}
use Rattle.file_parts.proofs.regions.members.Goals as goal

pub of_face-region-requires : goal.of_face-region-requires
of_face-region-requires g c =
    let m = many (contents_of_view c.args.served) c.args.served.whole in
    let each = m.members in
    let faces = m.faces in
    let same = ap (λ (r : Regions). length r.members) c.regions-regions.ensures in
    omega (arith, c.loop-place-test.true, same, each, faces, c.counts-faces.ensures.faces)

pub loop-place-preserved : goal.loop-place-preserved
loop-place-preserved g c =
    let all = contents_of_view c.args.served in
    let m = many all c.args.served.whole in
    let each = m.members in
    let faces = m.faces in
    let place = c.loop-place.place in
    let is =
    c.member_number-number.ensures ∙ ap (λ (o : Option ℕ). unwrap_or (option_map (λ r. r + 1) o) 0) c.of_face-region.ensures.region
    ∙ member_back (regions_of c.regions-regions.result).members place ∙ ap (λ (r : Regions). slice_index r.members place) c.regions-regions.ensures in
    record {
      members = taken_more all.members place 0 c.loop-place.members.items _ c.member_number-number.result (omega (arith, c.loop-place-test.true, each, faces, c.counts-faces.ensures.faces)) c.loop-place.invariant.members c.in_ok-push.ensures.items is;
      grows = omega (arith, c.loop-place.invariant.grows, c.of_face-region.ensures.some_steps);
    }

pub returns-clause-members : goal.returns-clause-members
returns-clause-members g c =
    let all = contents_of_view c.args.served in
    let m = many all c.args.served.whole in
    let each = m.members in
    let faces = m.faces in
    taken_all all.members c.loop-place.members.items c.loop-place.place c.loop-place.invariant.members (omega (arith, c.loop-place-test.false, each, faces, c.counts-faces.ensures.faces))
