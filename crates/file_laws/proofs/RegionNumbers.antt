-- The regions of whole contents by number, and the regions that faces are in.
use Rattle.std.specs.Prelude.{find, slice_index, unwrap_or, option_map}
use Rattle.std.proofs.Common.{◌≡◌, ℕ, zero, suc, ◌+◌, ◌-◌, ◌<◌, ◌≤◌, inl, inr, true, false, ◌∷◌, length, refl, ap, sym, ◌∙◌, arith, subst, ◌==◌, IsTrue}
use Rattle.std.proofs.lemmas.Bool.{cases_Bool, or_right, eq-eqb, eqb-true, ne_eqb, false_from_ne_true}
use Rattle.plane_model.specs.declared.rows.MemberRow.{MemberRow}
use Rattle.plane_model.specs.Sets.{rising, has}
use Rattle.plane_model.specs.PlaneMap.{PlaneMap, map_of}
use Rattle.plane_model.proofs.Sorting.{rising-has}
use Rattle.bit_words.specs.Bits.{rank}
use Rattle.code_laws.proofs.Edges.{half}
use Rattle.id_names.proofs.NumberLaws.{number_of-at}
use Rattle.region_tree.specs.Nesting.{region_at}
use Rattle.region_tree.specs.Numbering.{RegionsAreNumbered}
use Rattle.region_tree.proofs.Stacks.{balanced_all}
use Rattle.file_laws.specs.Contents.{Contents}
use Rattle.file_laws.specs.MapOfFile.{face_at_place, place_of_face, member_row, rows_of_contents}
use Rattle.file_laws.specs.Lawful.{is_whole}
use Rattle.file_laws.proofs.Lists.{has-index}
use Rattle.file_laws.proofs.Bridge.{has-rising}
use Rattle.file_laws.proofs.Whole.{WholeParts, whole_parts}
use Rattle.file_laws.proofs.Regions.{flat_find, region_ids, parent_at, of_face, one_row, faces_apart}
use Rattle.file_laws.proofs.Sizes.{regions_many}

-- as many open as there are regions
pub region_opens : (c : Contents) → WholeParts c → rank true c.region_bits (length c.region_bits) ≡ length c.regions
region_opens c w = let h = half c.region_bits w.regions_nest in let b = w.sizes.region_bits in omega (arith, h, b)

module _ (c : Contents) (w : WholeParts c) where
  abbrev m : PlaneMap
  m = map_of (rows_of_contents c)

  pub numbered : RegionsAreNumbered m c.region_bits c.regions
  numbered =
      record {
        balanced = balanced_all c.region_bits w.regions_nest;
        places = w.sizes.region_bits;
        opens = region_opens c w;
        names = w.region_names;
        many = sym (regions_many c w);
        regions = λ r. sym (ap (λ ids. has (rising ids) r) (region_ids c w) ∙ rising-has (rising c.regions) r ∙ rising-has c.regions r);
        parents = parent_at c w;
      }

  -- a face other than 0 has a number, and no other
  some_face : (s : ℕ) → s < length c.faces → (slice_index c.faces s == 0) ≡ false
  some_face s l = false_from_ne_true _ (λ is. let low = (w.face_names.in_range s l).0 in let e = eqb-true _ _ is in absurd (omega (arith, low, e)))

  face_next : (s : ℕ) → face_at_place c (suc s) ≡ slice_index c.faces s
  face_next s =
      let some : (suc s == 0) ≡ false = ne_eqb (suc s) 0 (λ e. omega (arith, e)) in
      let one : suc s - 1 ≡ s = omega arith in
      rw some (ap (slice_index c.faces) one)

  place_back : (place : ℕ) → place ≤ length c.faces → place_of_face c (face_at_place c place) ≡ place
  place_back zero l = refl
  place_back (suc s) l =
      let l' : s < length c.faces = omega (arith, l) in
      let none = some_face s l' in
      ap (place_of_face c) (face_next s) ∙ rw none (ap (λ o. unwrap_or o 0 + 1) (number_of-at c.faces s (slice_index c.faces s) w.face_names.distinct l' refl) ∙ omega arith)

  listed : (place : ℕ) → place ≤ length c.faces → has (0 ∷ rising c.faces) (face_at_place c place) ≡ true
  listed zero l = refl
  listed (suc s) l = subst (λ f. has (0 ∷ rising c.faces) f ≡ true) (sym (face_next s)) (or_right _ _ (has-rising (slice_index c.faces s) c.faces (has-index c.faces s (omega (arith, l)))))

  -- the row of a face, if it is in a region
  one_at : (face place : ℕ) → option_map (λ (r : MemberRow). r.region) (find (λ (r : MemberRow). r.face == face) (member_row c face place)) ≡ option_map (slice_index c.regions) (region_at c.members place)
  unfolding region_at
  one_at face place =
      elim (cases_Bool (slice_index c.members place == 0)) [
        | inl e ↦ rw e refl
        | inr e ↦ let same = eq-eqb face face refl in rw (e, same) refl
      ]

  pub member_at_place : (place : ℕ) → place ≤ length c.faces → m.members.at (face_at_place c place) ≡ option_map (slice_index c.regions) (region_at c.members place)
  member_at_place place l =
      let face = face_at_place c place in
      ap (option_map (λ (r : MemberRow). r.region)) (flat_find (λ (r : MemberRow). r.face) (of_face c w) (one_row c w) (0 ∷ rising c.faces) face (faces_apart c w) (listed place l))
      ∙ ap (λ p. option_map (λ (r : MemberRow). r.region) (find (λ (r : MemberRow). r.face == face) (member_row c face p))) (place_back place l)
      ∙ one_at face place

pub numbered_of : (c : Contents) → IsTrue (is_whole c) → RegionsAreNumbered (map_of (rows_of_contents c)) c.region_bits c.regions
numbered_of c h = numbered c (whole_parts c h)

pub member_of : (c : Contents) → IsTrue (is_whole c) → (place : ℕ) → place ≤ length c.faces → (map_of (rows_of_contents c)).members.at (face_at_place c place) ≡ option_map (slice_index c.regions) (region_at c.members place)
member_of c h = member_at_place c (whole_parts c h)
