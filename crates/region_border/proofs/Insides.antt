-- Whether a face is inside a region, by numbers: exactly where the region is the innermost that is or encloses both it and the face's own.
use Rattle.std.specs.Prelude.{slice_index, option_map, find, unwrap_or, is_some, IfSome, MatchOption}
use Rattle.std.proofs.Common.{◌≡◌, ℕ, zero, suc, ◌+◌, ◌<◌, ◌≤◌, ◌==◌, inl, inr, Bool, true, false, List, [], ◌∷◌, map, length, refl, ap, sym, ◌∙◌, arith, subst, Option, Some, None}
use Rattle.std.proofs.lemmas.Bool.{cases_Bool, eqb-true, eq-eqb, or_cases, or_left, or_right, both_ways, false_from_ne_true}
use Rattle.orbits.proofs.Lists.{same_tests}
use Rattle.orbits.proofs.Numbers.{same_numbers}
use Rattle.orbits.proofs.Carried.{has_carried}
use Rattle.plane_model.specs.Sets.{has}
use Rattle.plane_model.specs.PlaneMap.{PlaneMap}
use Rattle.plane_model.specs.Regions as regions
use Rattle.plane_model.specs.Border.{is_inside}
use Rattle.region_tree.specs.Nesting.{region_count, parent_number, upward, chain, common_number, region_at}
use Rattle.region_tree.specs.Numbering.{RegionsAreNumbered}
use Rattle.region_tree.specs.RegionView.{Regions}
use Rattle.file_laws.specs.Contents.{Contents}
use Rattle.file_laws.specs.MapOfFile.{face_at_place}
use Rattle.file_laws.specs.Lawful.{is_whole}
use Rattle.pemb_file.specs.Served.{regions_in}
use Rattle.file_laws.proofs.RegionNumbers.{numbered_of}
use Rattle.navigate.specs.Bound.{map_with}
use Rattle.navigate.specs.RegionWalk.{ids_up}
use Rattle.navigate.proofs.RegionLaws.{chain_is}
use Rattle.navigate.proofs.Facts.{w}
use Rattle.parens.proofs.Balances.{IsBalanced}
use Rattle.region_tree.proofs.ByNumber.{parent-lower}

-- whether an option is this number
abbrev pub is_number : Option ℕ → ℕ → Bool
is_number None x = false
is_number (Some z) x = z == x

one_some : {a b : ℕ} → Some a ≡ Some b → a ≡ b
one_some e = ap (λ o. unwrap_or o 0) e

-- what a search finds passes, and is there
found_there : (p : ℕ → Bool) (xs : List ℕ) (x : ℕ) → find p xs ≡ Some x → (p x ≡ true) × (has xs x ≡ true)
found_there p [] x e = cc
found_there p (y ∷ ys) x e = elim (cases_Bool (p y)) [
  | inl t ↦
      let here : Some y ≡ Some x = rw t at e in
      let same : y ≡ x = one_some here in
      (ap p (sym same) ∙ t, or_left _ _ (eq-eqb x y (sym same)))
  | inr f ↦
      let later : find p ys ≡ Some x = rw f at e in
      let more = found_there p ys x later in
      (more.0, or_right _ _ more.1)
]

found_first : (p : ℕ → Bool) (x : ℕ) (xs : List ℕ) → p x ≡ true → find p (x ∷ xs) ≡ Some x
found_first p x xs t = rw t refl

module _ (bits : List Bool) where
  chain-head : (x : ℕ) → x < region_count bits → (ys : List ℕ) × (chain bits x ≡ x ∷ ys)
  unfolding chain upward
  chain-head x l = let f = some_fuel (region_count bits) l in (upward f.0 bits (parent_number bits x), ap (λ k. upward k bits (Some x)) f.1)
    where
      some_fuel : (n : ℕ) → x < n → (k : ℕ) × (n ≡ suc k)
      some_fuel zero l = absurd (omega (arith, l))
      some_fuel (suc k) l = (k, refl)

  -- the common region of x and y is x exactly where x is on the chain of y
  common-test : (x y : ℕ) → x < region_count bits → (o : Option ℕ) → o ≡ common_number bits x y → is_number o x ≡ has (chain bits y) x
  unfolding common_number
  common-test x y l o e = same_tests (is_number o x) (has (chain bits y) x) (λ t. into o e t) (λ t. back t)
    where
      into : (o : Option ℕ) → o ≡ find (has (chain bits y)) (chain bits x) → is_number o x ≡ true → has (chain bits y) x ≡ true
      into None e t = absurd (both_ways false refl t)
      into (Some z) e t = let f = found_there (has (chain bits y)) (chain bits x) z (sym e) in subst (λ k. has (chain bits y) k ≡ true) (eqb-true z x t) f.0

      back : has (chain bits y) x ≡ true → is_number o x ≡ true
      back t =
          let head = chain-head x l in
          let is : o ≡ Some x = e ∙ ap (find (has (chain bits y))) head.1 ∙ found_first (has (chain bits y)) x head.0 t in
          subst (λ q. is_number q x ≡ true) (sym is) (eq-eqb x x refl)

  -- all on a chain are regions
  chain_low : IsBalanced bits → (n : ℕ) (o : Option ℕ) → ((x : ℕ) → o ≡ Some x → x < region_count bits) → (z : ℕ) → has (upward n bits o) z ≡ true → z < region_count bits
  unfolding upward
  chain_low b zero o within z h = absurd (both_ways false refl h)
  chain_low b (suc n) None within z h = absurd (both_ways false refl h)
  chain_low b (suc n) (Some x) within z h = elim (or_cases (z == x) (has (upward n bits (parent_number bits x)) z) h) [
    | inl e ↦ let same = eqb-true z x e in let low = within x refl in omega (arith, same, low)
    | inr more ↦ chain_low b n (parent_number bits x) (λ y e. let low = parent-lower bits b x y (within x refl) e in let top = within x refl in omega (arith, low, top)) z more
  ]

module _ (c : Contents) (h : is_whole c ≡ true) where
  many : region_count c.region_bits ≡ length c.regions
  many = (numbered_of c h).opens

  -- a region is on a chain by its id exactly where it is by its number
  id-on : (x y : ℕ) → x < length c.regions → y < length c.regions → has (map (slice_index c.regions) (chain c.region_bits y)) (slice_index c.regions x) ≡ has (chain c.region_bits y) x
  unfolding chain
  id-on x y lx ly =
      let n = many in
      has_carried same_numbers same_numbers (slice_index c.regions) (chain c.region_bits y) x (λ z on e.
      let low = chain_low c.region_bits (w c h).regions_nest (region_count c.region_bits) (Some y) (λ k same. let is = one_some same in omega (arith, n, ly, is)) z on in
      (numbered_of c h).names.distinct x z lx (omega (arith, low, n)) e)

  abbrev m : PlaneMap
  m = map_with c

  -- a face in no region is inside none
  pub inside_none : (v : Regions) (o : Option ℕ) (region place face : ℕ) → v ≡ regions_in c → o ≡ region_at v.members place → o ≡ None → place ≤ length c.faces → face_at_place c place ≡ face → is_inside m (slice_index c.regions region) face ≡ false
  inside_none v o region place face same e none within named =
      let is = chain_is c h v o place face same e (λ x some. absurd (both_ways false refl (ap is_some (sym none ∙ some)))) within named in
      ap (λ xs. has xs (slice_index c.regions region)) (sym is ∙ ap (ids_up c) none)

  -- and one in a region by the common region of both
  pub inside_some : (v : Regions) (region own place face : ℕ) (o : Option ℕ) → v ≡ regions_in c → Some own ≡ region_at v.members place → own < length v.ids → region < length c.regions → place ≤ length c.faces → face_at_place c place ≡ face
      → o ≡ common_number v.bits region own → is_inside m (slice_index c.regions region) face ≡ is_number o region
  inside_some v region own place face o same e low l within named is =
      let n = many in
      let long : length v.ids ≡ length c.regions = ap (λ (r : Regions). length r.ids) same in
      let own_in : own < length c.regions = omega (arith, low, long) in
      let common : o ≡ common_number c.region_bits region own = is ∙ ap (λ (r : Regions). common_number r.bits region own) same in
      let up = chain_is c h v (Some own) place face same e (λ x some. let is = one_some some in omega (arith, own_in, is)) within named in
      ap (λ xs. has xs (slice_index c.regions region)) (sym up) ∙ id-on region own l own_in ∙ sym (common-test c.region_bits region own (omega (arith, n, l)) o common)
