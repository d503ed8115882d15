-- What the parts of a check say of the tables.
use Rattle.std.specs.Prelude.{map, nat_le}
use Rattle.std.specs.List.{list_all}
use Rattle.std.proofs.Common.{◌≡◌, ℕ, Bool, ◌&&◌, List, length, true, refl, sym, ap, ◌∙◌, subst, Option, None, Some}
use Rattle.std.proofs.lemmas.Bool.{and_parts}
use Rattle.orbits.specs.Walks as walks
use Rattle.topo_base.specs.declared.refusal.Refusal.{Refusal}
use Rattle.plane_model.specs.Rows.{Rows}
use Rattle.plane_model.specs.InRange.{is_edge_in_range, is_face_id, is_id, is_in_range, is_none_or}
use Rattle.plane_model.specs.Reading.{most_rows}
use Rattle.topo_base.specs.declared.refusal.Table.TheVariants as table
use Rattle.plane_model.specs.PlaneMap.{map_of, side, signed_edges}
use Rattle.plane_model.specs.Faces.{outer_rings}
use Rattle.plane_model.specs.declared.rows.FaceRow.{FaceRow}
use Rattle.plane_model.specs.declared.rows.RegionRow.{RegionRow}
use Rattle.plane_model.specs.declared.rows.MemberRow.{MemberRow}
use Rattle.plane_model.specs.Rotation.{is_rotation_system}
use Rattle.plane_model.specs.Consistent.{is_consistent}
use Rattle.plane_model.specs.Faults.{euler_fault, first_fault, placement_fault, region_fault, rotation_fault}
use Rattle.plane_model.proofs.AllFaults.{none-first_fault, true_from, None_from}
use Rattle.plane_model.proofs.Alone.{euler-alone, plane-alone, first-euler, first-placement, first-region}
use Rattle.plane_model.proofs.RotationFaults.{none-rotation_fault}
use Rattle.rotation_check.specs.Checked.{Names}
use Rattle.rotation_check.specs.declared.checking.CheckFault.{CheckFault}
use Rattle.rotation_check.specs.declared.checking.CheckFault.TheVariants as check
use Rattle.rotation_check.specs.Darts.{RotationRows, map_of_rotation, rotation_rows}
use Rattle.euler_check.specs.Parts.{parts_fault}
use Rattle.islands.specs.Darts.{AreDartsOf}
use Rattle.islands.specs.Placed.{map_with_faces}
use Rattle.islands.proofs.Regardless.{same_fault, same_outer}
use Rattle.plane_model.specs.Sets.{or_else, rising}
use Rattle.region_tree.specs.Parts.{member_places, region_bits, region_ids}
use Rattle.region_tree.specs.Tables.{region_map, region_tables}
use Rattle.region_tree.proofs.Built.{fault-tables}
use Rattle.plane_model.specs.Component.{is_plane}
use Rattle.spanning_pair.specs.Rotations.{AreComponentStarts}
use Rattle.map_build.specs.Starts.{without_regions, AreOuterDarts}
use Rattle.map_build.proofs.Facts.{good}
use Rattle.map_build.proofs.OfMap.{starts_right}

pub same_rotation : (r : RotationRows) (t : Rows) → r.nodes ≡ t.nodes → r.edges ≡ t.edges → r ≡ rotation_rows t
same_rotation r t n e = λ i. record { nodes = n i; edges = e i }

-- the rotation and the faces of tables are the tables without regions
same_places : (r : RotationRows) (t : Rows) → r.nodes ≡ t.nodes → r.edges ≡ t.edges → placement_fault (map_with_faces r t.faces) ≡ placement_fault (map_of (without_regions t))
same_places r t n e = ap (λ q. placement_fault (map_with_faces q t.faces)) (same_rotation r t n e)

same_system : (t : Rows) → is_rotation_system (without_regions t) ≡ is_rotation_system t
unfolding signed_edges walks.until_return
same_system t = refl

no_region_fault : (t : Rows) → region_fault (without_regions t) ≡ None
unfolding rising
no_region_fault t = refl

kept : (rows regions members nodes_few edges_few faces_few regions_few members_few : Bool) → (rows && regions && members && nodes_few && edges_few && faces_few && regions_few && members_few) ≡ true
    → (rows && true && true && nodes_few && edges_few && faces_few && true && true) ≡ true
kept rows regions members nodes_few edges_few faces_few regions_few members_few h =
    let a = and_parts (rows && regions && members && nodes_few && edges_few && faces_few && regions_few) members_few h in
    let b = and_parts (rows && regions && members && nodes_few && edges_few && faces_few) regions_few a.0 in
    let c = and_parts (rows && regions && members && nodes_few && edges_few) faces_few b.0 in
    let d = and_parts (rows && regions && members && nodes_few) edges_few c.0 in
    let e = and_parts (rows && regions && members) nodes_few d.0 in
    let f = and_parts (rows && regions) members e.0 in
    let k = and_parts rows regions f.0 in
    rw (k.0, e.1, d.1, c.1) refl

range_without : (t : Rows) → is_in_range t ≡ true → is_in_range (without_regions t) ≡ true
range_without t h =
    kept (list_all (λ r. is_id r.id && is_none_or is_face_id r.face) t.nodes && list_all is_edge_in_range t.edges && list_all (λ r. is_face_id r.id) t.faces)
    (list_all (λ r. is_id r.id && is_none_or is_id r.parent) t.regions) (list_all (λ r. is_id r.region && is_face_id r.face) t.members)
    (nat_le (length t.nodes) (most_rows table.Node)) (nat_le (length t.edges) (most_rows table.Edge)) (nat_le (length t.faces) (most_rows table.Face)) (nat_le (length t.regions) (most_rows table.Region)) (nat_le (length t.members) (most_rows table.Member)) h

pub rotation_none : (t : Rows) → is_in_range t ≡ true → is_rotation_system t ≡ true → rotation_fault t ≡ None
rotation_none t range system = None_from _ _ (none-rotation_fault t range) system

-- the fault of the parts is that of the tables
parts_are : (r : RotationRows) (t : Rows) → r.nodes ≡ t.nodes → r.edges ≡ t.edges → parts_fault r ≡ euler_fault t
parts_are r t n e =
    let whole : parts_fault r ≡ parts_fault (record { nodes = t.nodes; edges = t.edges }) = rw (sym n, sym e) refl in
    whole ∙ euler-alone t

pub names_parts : (r : RotationRows) (t : Rows) (e : CheckFault) → r.nodes ≡ t.nodes → r.edges ≡ t.edges → rotation_fault t ≡ None → Names e (parts_fault r) → Names e (first_fault t)
names_parts r t (check.Refused why) n k none is = first-euler t why none (sym (parts_are r t n k) ∙ is)
names_parts r t check.Memory n k none is = tt

pub names_places : (r : RotationRows) (t : Rows) (e : CheckFault) → r.nodes ≡ t.nodes → r.edges ≡ t.edges → rotation_fault t ≡ None → parts_fault r ≡ None → Names e (placement_fault (map_with_faces r t.faces)) → Names e (first_fault t)
names_places r t (check.Refused why) n k none fine is = first-placement t why none (sym (parts_are r t n k) ∙ fine) (sym (same_places r t n k ∙ same_fault t) ∙ is)
names_places r t check.Memory n k none fine is = tt

-- no part has a fault
pub no_fault : (r : RotationRows) (t : Rows) → r.nodes ≡ t.nodes → r.edges ≡ t.edges → is_in_range t ≡ true → is_rotation_system t ≡ true → parts_fault r ≡ None
    → placement_fault (map_with_faces r t.faces) ≡ None → is_consistent (without_regions t) ≡ true
no_fault r t n k range system fine placed =
    let bare = without_regions t in
    let none : rotation_fault bare ≡ None = rotation_none bare (range_without t range) (same_system t ∙ system) in
    let parts : euler_fault bare ≡ None = sym (parts_are r bare n k) ∙ fine in
    let places : placement_fault (map_of bare) ≡ None = sym (same_places r t n k) ∙ placed in
    let rest : region_fault bare ≡ None = no_region_fault t in
    let all : first_fault bare ≡ None = rw (none, parts, places, rest) refl in
    true_from _ _ (none-first_fault bare (range_without t range)) all

-- what is not wrong with tables that are consistent without their regions
or_else-none : (a b : Option Refusal) → or_else a b ≡ None → (a ≡ None) × (b ≡ None)
or_else-none None b h = (refl, h)
or_else-none (Some e) b h = cc

record HasNoOther (t : Rows) : Type 0 where
  pub rotation : rotation_fault t ≡ None
  pub euler : euler_fault t ≡ None
  pub placement : placement_fault (map_of t) ≡ None

no_other : (t : Rows) → is_in_range t ≡ true → is_consistent (without_regions t) ≡ true → HasNoOther t
no_other t range ok =
    let bare = without_regions t in
    let none : first_fault bare ≡ None = None_from _ _ (none-first_fault bare (range_without t range)) ok in
    let a = or_else-none (rotation_fault bare) _ none in
    let b = or_else-none (euler_fault bare) _ a.1 in
    let c = or_else-none (placement_fault (map_of bare)) _ b.1 in
    record {
      rotation = rotation_none t range (sym (same_system t) ∙ (good bare (range_without t range) ok).system);
      euler = sym (euler-alone t) ∙ euler-alone bare ∙ b.0;
      placement = sym (same_fault t) ∙ c.0;
    }

-- the fault of regions is then the first, and where there is none the tables are consistent
pub names_regions : (t : Rows) (e : CheckFault) → is_in_range t ≡ true → is_consistent (without_regions t) ≡ true → Names e (region_fault (region_tables t.regions t.members t.faces)) → Names e (first_fault t)
names_regions t (check.Refused why) range ok is = let none = no_other t range ok in first-region t why none.rotation none.euler none.placement (sym (fault-tables t) ∙ is)
names_regions t check.Memory range ok is = tt

pub consistent_whole : (t : Rows) → is_in_range t ≡ true → is_consistent (without_regions t) ≡ true → region_fault (region_tables t.regions t.members t.faces) ≡ None → is_consistent t ≡ true
consistent_whole t range ok fine =
    let none = no_other t range ok in
    let regions : region_fault t ≡ None = sym (fault-tables t) ∙ fine in
    let all : first_fault t ≡ None = rw (none.rotation, none.euler, none.placement, regions) refl in
    true_from _ _ (none-first_fault t range) all

-- the outer rings of the rotation and the faces of tables are those of the tables
pub outer_darts_are : (r : RotationRows) (t : Rows) (faces : List FaceRow) (starts : List ℕ) → r.nodes ≡ t.nodes → r.edges ≡ t.edges → faces ≡ t.faces → AreDartsOf r.edges (outer_rings (map_with_faces r faces)) starts → AreOuterDarts t starts
outer_darts_are r t faces starts n e f given =
    let P : RotationRows → List FaceRow → Type 0 = λ q fs. AreDartsOf q.edges (outer_rings (map_with_faces q fs)) starts in
    let own : P (rotation_rows t) t.faces = subst (λ fs. P (rotation_rows t) fs) f (subst (λ q. P q faces) (same_rotation r t n e) given) in
    record { within = own.within; are = own.are ∙ same_outer t }

pub outer_faces_are : (r : RotationRows) (t : Rows) (faces : List FaceRow) → r.nodes ≡ t.nodes → r.edges ≡ t.edges → faces ≡ t.faces
    → map (side (map_with_faces r faces)) (outer_rings (map_with_faces r faces)) ≡ map (side (map_of t)) (outer_rings (map_of t))
outer_faces_are r t faces n e f =
    let sides : RotationRows → List FaceRow → List ℕ = λ q fs. map (side (map_with_faces q fs)) (outer_rings (map_with_faces q fs)) in
    ap (λ q. sides q faces) (same_rotation r t n e) ∙ ap (sides (rotation_rows t)) f ∙ ap (map (side (map_of t))) (same_outer t)

-- tables of the same regions, members and faces
pub same_tables : (t : Rows) (regions : List RegionRow) (members : List MemberRow) (faces : List FaceRow) → regions ≡ t.regions → members ≡ t.members → faces ≡ t.faces → region_tables regions members faces ≡ region_tables t.regions t.members t.faces
same_tables t regions members faces r m f = λ i. region_tables (r i) (m i) (f i)

-- other tables make no difference to regions by number
pub same_bits : (t : Rows) → region_bits (region_map t.regions t.members t.faces) ≡ region_bits (map_of t)
unfolding region_bits
same_bits t = refl

pub same_ids : (t : Rows) → region_ids (region_map t.regions t.members t.faces) ≡ region_ids (map_of t)
unfolding region_ids
same_ids t = refl

pub same_members : (t : Rows) → member_places (region_map t.regions t.members t.faces) ≡ member_places (map_of t)
unfolding member_places region_ids
same_members t = refl

-- the components of a rotation of tables that are consistent so are plane, and outer darts are one for each
pub plane_rotation : (r : RotationRows) (t : Rows) → r.nodes ≡ t.nodes → r.edges ≡ t.edges → is_in_range t ≡ true → is_consistent (without_regions t) ≡ true → is_plane (map_of_rotation r) ≡ true
plane_rotation r t n e range ok = ap (λ q. is_plane (map_of_rotation q)) (same_rotation r t n e) ∙ plane-alone (without_regions t) ∙ (good (without_regions t) (range_without t range) ok).plane

pub starts_of_rotation : (r : RotationRows) (t : Rows) (starts held : List ℕ) → r.nodes ≡ t.nodes → r.edges ≡ t.edges → is_in_range t ≡ true → is_consistent (without_regions t) ≡ true → AreOuterDarts t held → starts ≡ held → AreComponentStarts r starts
starts_of_rotation r t starts held n e range ok o same =
    let P : RotationRows → List ℕ → Type 0 = λ q xs. AreComponentStarts q xs in
    let outer : AreOuterDarts (without_regions t) held = record { within = o.within; are = o.are ∙ sym (same_outer t) } in
    subst (λ q. P q starts) (sym (same_rotation r t n e)) (subst (λ xs. P (rotation_rows t) xs) (sym same) (starts_right (without_regions t) (range_without t range) ok held outer))
