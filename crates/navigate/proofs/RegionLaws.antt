-- Regions by number: going up gives the chains of the map, and what it costs.
use Rattle.std.specs.Prelude.{find, slice_index, option_map, IfSome}
use Rattle.std.proofs.Common.{◌≡◌, ℕ, zero, suc, ◌+◌, ◌*◌, ◌<◌, ◌≤◌, Bool, true, List, [], ◌∷◌, map, length, refl, ap, sym, ◌∙◌, arith, subst, Option, Some, None}
use Rattle.std.proofs.Math.Nat.{mul-le-mul_left}
use Rattle.bit_words.specs.Digits.{digits}
use Rattle.bit_words.proofs.DigitLaws.{digits-mono}
use Rattle.parens.proofs.Balances.{IsBalanced}
use Rattle.plane_model.specs.Sets.{has}
use Rattle.plane_model.specs.PlaneMap.{PlaneMap}
use Rattle.plane_model.specs.Regions as regions
use Rattle.region_tree.specs.Nesting.{region_count, parent_number, upward, chain, common_number, region_at}
use Rattle.region_tree.specs.Numbering.{RegionsAreNumbered}
use Rattle.region_tree.specs.RegionView.{Regions}
use Rattle.region_tree.proofs.ByNumber.{parent-lower, chain-number, common-regions}
use Rattle.file_laws.specs.Contents.{Contents}
use Rattle.file_laws.specs.MapOfFile.{face_at_place}
use Rattle.file_laws.specs.Lawful.{is_whole}
use Rattle.pemb_file.specs.Served.{regions_in}
use Rattle.file_laws.proofs.RegionNumbers.{numbered_of, member_of}
use Rattle.navigate.specs.Bound.{map_with, line_digits, line_words}
use Rattle.navigate.specs.RegionWalk.{contents_in, ids_up, rest, price, allowance}
use Rattle.navigate.specs.declared.upward.RegionWalk.{RegionWalk}
use Rattle.navigate.proofs.Facts.{w, members_many}
use Rattle.navigate.proofs.OrbitLengths.{some_digits}
use Rattle.navigate.proofs.PriceLaws.{items_fit}

upward-none : (n : ℕ) (bits : List Bool) → upward n bits None ≡ []
unfolding upward
upward-none zero bits = refl
upward-none (suc n) bits = refl

upward-both : (bits : List Bool) (n k : ℕ) (o : Option ℕ) → ((x : ℕ) → o ≡ Some x → upward n bits (Some x) ≡ upward k bits (Some x)) → upward n bits o ≡ upward k bits o
upward-both bits n k None same = upward-none n bits ∙ sym (upward-none k bits)
upward-both bits n k (Some x) same = same x refl

-- with fuel for each lower number a chain goes on from the parent
upward-on : (bits : List Bool) → IsBalanced bits → (n x : ℕ) → x < n → x < region_count bits → upward n bits (Some x) ≡ x ∷ upward n bits (parent_number bits x)
unfolding upward
upward-on bits b zero x l within = absurd (omega (arith, l))
upward-on bits b (suc n) x l within =
    ap (λ xs. x ∷ xs)
    (upward-both bits n (suc n) (parent_number bits x)
    (λ y e. let low = parent-lower bits b x y within e in upward-on bits b n y (omega (arith, low, l)) (omega (arith, low, within))))

ids_are : (c : Contents) (o : Option ℕ) → ids_up c o ≡ map (slice_index c.regions) (upward (region_count c.region_bits) c.region_bits o)
unfolding chain
ids_are c None = sym (ap (map (slice_index c.regions)) (upward-none (region_count c.region_bits) c.region_bits))
ids_are c (Some x) = refl

pub ended : (v : RegionWalk) → v.next ≡ None → rest v ≡ []
unfolding rest
ended v e = ap (ids_up (contents_in v)) e

chain-none : (n : ℕ) (m : PlaneMap) → regions.upward n m None ≡ []
unfolding regions.upward
chain-none zero m = refl
chain-none (suc n) m = refl

find-none : (xs : List ℕ) → find (has []) xs ≡ None
find-none [] = refl
find-none (x ∷ xs) = find-none xs

module _ (c : Contents) (h : is_whole c ≡ true) where
  are : RegionsAreNumbered (map_with c) c.region_bits c.regions
  are = numbered_of c h

  many : region_count c.region_bits ≡ length c.regions
  many = are.opens

  -- a region's id, and then those of its parents
  ids_some : (x : ℕ) → x < length c.regions → ids_up c (Some x) ≡ slice_index c.regions x ∷ ids_up c (parent_number c.region_bits x)
  ids_some x l =
      let n = many in
      let within : x < region_count c.region_bits = omega (arith, l, n) in
      ids_are c (Some x) ∙ ap (map (slice_index c.regions)) (upward-on c.region_bits (w c h).regions_nest (region_count c.region_bits) x within within)
      ∙ ap (λ ids. slice_index c.regions x ∷ ids) (sym (ids_are c (parent_number c.region_bits x)))

  pub ids_next : (v : Regions) (o p : Option ℕ) (x id : ℕ) → v ≡ regions_in c → o ≡ Some x → x < length c.regions → id ≡ slice_index v.ids x → p ≡ parent_number v.bits x → ids_up c o ≡ id ∷ ids_up c p
  ids_next v o p x id same e l named up =
      let id_is : id ≡ slice_index c.regions x = named ∙ ap (λ (r : Regions). slice_index r.ids x) same in
      let up_is : p ≡ parent_number c.region_bits x = up ∙ ap (λ (r : Regions). parent_number r.bits x) same in
      ap (ids_up c) e ∙ ids_some x l ∙ ap (λ y. y ∷ ids_up c (parent_number c.region_bits x)) (sym id_is) ∙ ap (λ q. id ∷ ids_up c q) (sym up_is)

  pub digits_tree : (v : Regions) → v ≡ regions_in c → digits (length v.bits + 2) ≤ line_digits c
  digits_tree v same =
      let s = (w c h).sizes.region_bits in
      let b : length v.bits ≡ length c.region_bits = ap (λ (r : Regions). length r.bits) same in
      digits-mono _ _ (omega (arith, s, b))

  pub digits_ids : (v : Regions) → v ≡ regions_in c → digits (length v.ids + 2) ≤ line_digits c
  digits_ids v same =
      let long : length v.ids ≡ length c.regions = ap (λ (r : Regions). length r.ids) same in
      digits-mono _ _ (omega (arith, long))

  -- a face has its entry among the members
  pub place_in : (v : Regions) (place : ℕ) → v ≡ regions_in c → place ≤ length c.faces → place < length v.members
  place_in v place same l =
      let all = members_many c h in
      let long : length v.members ≡ length c.members = ap (λ (r : Regions). length r.members) same in
      omega (arith, all, long, l)

  pub region_in : (v : Regions) (o : Option ℕ) → v ≡ regions_in c → IfSome o (λ x. x < length v.ids) → (x : ℕ) → o ≡ Some x → x < length c.regions
  region_in v o same l x e =
      let long : length v.ids ≡ length c.regions = ap (λ (r : Regions). length r.ids) same in
      let within : x < length v.ids = subst (λ (q : Option ℕ). IfSome q (λ y. y < length v.ids)) e l in
      omega (arith, long, within)

  -- the region of the face at a place
  member_is : (v : Regions) (o : Option ℕ) (place : ℕ) → v ≡ regions_in c → o ≡ region_at v.members place → place ≤ length c.faces → (map_with c).members.at (face_at_place c place) ≡ option_map (slice_index c.regions) o
  member_is v o place same e l = member_of c h place l ∙ ap (option_map (slice_index c.regions)) (sym (e ∙ ap (λ (r : Regions). region_at r.members place) same))

  up_is : (o : Option ℕ) → ((x : ℕ) → o ≡ Some x → x < length c.regions) → regions.upward (length (map_with c).regions.keys) (map_with c) (option_map (slice_index c.regions) o) ≡ ids_up c o
  up_is None l = chain-none (length (map_with c).regions.keys) (map_with c)
  up_is (Some x) l = chain-number (map_with c) c.region_bits c.regions are x (l x refl)

  -- from the region of a face
  pub chain_is : (v : Regions) (o : Option ℕ) (place face : ℕ) → v ≡ regions_in c → o ≡ region_at v.members place → ((x : ℕ) → o ≡ Some x → x < length c.regions) → place ≤ length c.faces → face_at_place c place ≡ face → ids_up c o ≡ regions.chain (map_with c) face
  chain_is v o place face same e l within named =
      let m = map_with c in
      sym (up_is o l) ∙ ap (λ r. regions.upward (length m.regions.keys) m r) (sym (member_is v o place same e within)) ∙ ap (λ f. regions.chain m f) named

  -- two faces one of which is in no region share none
  pub none_first : (v : Regions) (o : Option ℕ) (first second : ℕ) → v ≡ regions_in c → o ≡ region_at v.members first → o ≡ None → first ≤ length c.faces → regions.common (map_with c) (face_at_place c first) (face_at_place c second) ≡ None
  none_first v o first second same e none within =
      let m = map_with c in
      let n = length m.regions.keys in
      let at : m.members.at (face_at_place c first) ≡ None = member_is v o first same e within ∙ ap (option_map (slice_index c.regions)) none in
      ap (λ xs. find (has (regions.chain m (face_at_place c second))) xs) (ap (λ r. regions.upward n m r) at ∙ chain-none n m)

  pub none_second : (v : Regions) (o : Option ℕ) (first second : ℕ) → v ≡ regions_in c → o ≡ region_at v.members second → o ≡ None → second ≤ length c.faces → regions.common (map_with c) (face_at_place c first) (face_at_place c second) ≡ None
  none_second v o first second same e none within =
      let m = map_with c in
      let n = length m.regions.keys in
      let f = face_at_place c first in
      let at : m.members.at (face_at_place c second) ≡ None = member_is v o second same e within ∙ ap (option_map (slice_index c.regions)) none in
      ap (λ xs. find (has xs) (regions.chain m f)) (ap (λ r. regions.upward n m r) at ∙ chain-none n m) ∙ find-none (regions.chain m f)

  -- and two that are in regions
  pub shared : (v : Regions) (x y first second : ℕ) (p : Option ℕ) → v ≡ regions_in c → Some x ≡ region_at v.members first → Some y ≡ region_at v.members second → x < length v.ids → y < length v.ids
      → first ≤ length c.faces → second ≤ length c.faces → p ≡ common_number v.bits x y → option_map (slice_index v.ids) p ≡ regions.common (map_with c) (face_at_place c first) (face_at_place c second)
  shared v x y first second p same one two lx ly within_first within_second is =
      let m = map_with c in
      let n = length m.regions.keys in
      let long : length v.ids ≡ length c.regions = ap (λ (r : Regions). length r.ids) same in
      let f = face_at_place c first in
      let g = face_at_place c second in
      ap (λ o. option_map (slice_index v.ids) o) is
      ∙ ap (λ (r : Regions). option_map (slice_index r.ids) (common_number r.bits x y)) same
      ∙ sym (common-regions m c.region_bits c.regions are x y (omega (arith, lx, long)) (omega (arith, ly, long)))
      ∙ sym (ap (λ o. find (has (regions.upward n m (m.members.at g))) (regions.upward n m o)) (member_is v (Some x) first same one within_first)
      ∙ ap (λ o. find (has (regions.upward n m o)) (regions.upward n m (Some (slice_index c.regions x)))) (member_is v (Some y) second same two within_second))

-- reading a region's id and finding its parent is paid for
pub up_paid : (c : Contents) (xs ys : List ℕ) (id first last : ℕ) → xs ≡ id ∷ ys → last ≤ first + (10 * line_digits c + 81) → last + price c * length ys ≤ first + price c * length xs
up_paid c xs ys id first last e h =
    let more : price c * suc (length ys) ≡ price c * length ys + price c = omega arith in
    let all : price c * length xs ≡ price c * length ys + price c = ap (λ zs. price c * length zs) e ∙ more in
    omega (arith, all, h)

-- and so is a walk up
pub walk_fits : (c : Contents) (v : RegionWalk) (first last : ℕ) → contents_in v ≡ c → last ≤ first + (12 * line_digits c + 62) → last + allowance v ≤ first + line_words c 0 (length (rest v))
unfolding allowance
walk_fits c v first last same h =
    let each : price (contents_in v) ≡ price c = ap (λ x. price x) same in
    let two = some_digits c in
    items_fit c (price (contents_in v)) (length (rest v)) first last (omega (arith, each, two)) (omega (arith, two, h))

-- what two faces share is paid for
pub shared_fits : (c : Contents) (n first last : ℕ) → last ≤ first + (45 * line_digits c + 274) → last ≤ first + line_words c 0 n
shared_fits c n first last h =
    let d = line_digits c in
    let two = some_digits c in
    let each : n * 2 ≤ n * d = mul-le-mul_left n two in
    omega (arith, each, two, h)
