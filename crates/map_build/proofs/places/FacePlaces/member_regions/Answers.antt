use Rattle.std.proofs.Common.{rules, length, ◌<◌, ◌+◌, ◌∷◌, ◌∙◌, ap, refl}
use Rattle.std.proofs.lemmas.List.{length-map}
use Rattle.region_tree.specs.declared.parts.MemberPlace.{MemberPlace}
use Rattle.std.specs.Prelude.{take}
use Rattle.map_build.specs.Placed.{member_region}
use Rattle.map_build.proofs.MemberRegions.{member_written, no_members_yet, place_within}
use Rattle.map_build.proofs.places.FacePlaces.member_regions.Goals as goal

abbrev nothing : MemberPlace
nothing = record { face = 0; region = 0 }

pub loop-member-init : goal.loop-member-init
loop-member-init c = no_members_yet c.args.self.now.faces.now c.in_ok-regions.regions.items (length c.args.self.now.faces.now + 1) refl (search rules)

pub index_mut-requires : goal.index_mut-requires
index_mut-requires c =
    let faces = c.args.self.now.faces.now in
    let many = ap length c.loop-member.invariant ∙ length-map (0 ∷ faces) (member_region (take c.loop-member.member-index c.args.members.now)) in
    let inside : c.place.result < length c.loop-member.regions.items = place_within faces _ c.place.result _ (c.requires.known c.loop-member.member-index nothing c.loop-member-test.true) c.place.ensures many in
    search rules

pub loop-member-preserved : goal.loop-member-preserved
loop-member-preserved c =
    let places = c.args.self.now in
    let i = c.loop-member.member-index in
    member_written places.faces.now c.args.members.now i nothing c.place.result c.loop-member.regions.items places.names c.requires.apart c.loop-member-test.true (c.requires.known i nothing c.loop-member-test.true) c.place.ensures c.loop-member.invariant
