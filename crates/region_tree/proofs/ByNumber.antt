-- Chains by number are the chains of the map.
use Rattle.std.specs.Prelude.{find, slice_index, option_map, IsTrue}
use Rattle.std.proofs.Common.{◌≡◌, ◌≢◌, ℕ, zero, suc, ◌+◌, ◌<◌, ◌≤◌, inl, inr, Bool, true, false, ◌==◌, List, [], ◌∷◌, map, length, refl, ap, sym, ◌∙◌, subst, arith, Option, Some, None, eq-eqb}
use Rattle.std.proofs.lemmas.Bool.{cases_Bool, both_ways, eqb-true, ne_eqb, or_left, or_right}
use Rattle.bit_words.specs.Bits.{rank, select}
use Rattle.code_laws.proofs.Apart.{fewer}
use Rattle.parens.specs.Matching.{is_open, is_enclosing, innermost}
use Rattle.parens.proofs.Balances.{IsBalanced, balanced}
use Rattle.parens.proofs.Greatest.{greatest-find}
use Rattle.plane_model.specs.Sets.{has}
use Rattle.plane_model.specs.PlaneMap.{PlaneMap}
use Rattle.plane_model.specs.Regions as regions
use Rattle.rank_select.proofs.Selects.{select-placed}
use Rattle.region_tree.specs.Nesting.{region_count, parent_number, upward, chain, common_number}
use Rattle.region_tree.specs.Numbering.{RegionsAreNumbered}
use Rattle.region_tree.proofs.Opened.{parent-rank, round_open}

-- a parent has a lower number
lower_at : (bits : List Bool) → IsBalanced bits → (i y : ℕ) → i ≤ length bits → (o : Option ℕ) → innermost bits i ≡ o → option_map (rank true bits) o ≡ Some y → y < rank true bits i
unfolding innermost
lower_at bits b i y l None e h = cc
lower_at bits b i y l (Some k) e h =
    let g = greatest-find (is_enclosing bits i) i k e in
    let less = fewer bits b k i g.below l (round_open bits i k g.passes) in
    let same : rank true bits k ≡ y = cc in
    omega (arith, less, same)

pub parent-lower : (bits : List Bool) → IsBalanced bits → (x y : ℕ) → x < region_count bits → parent_number bits x ≡ Some y → y < x
parent-lower bits b x y l h =
    let p = select-placed true bits x l in
    let at = parent-rank bits p.0 p.2.kind in
    let from : option_map (rank true bits) (innermost bits p.0) ≡ Some y = sym at ∙ ap (parent_number bits) p.2.rank ∙ h in
    let low = lower_at bits b p.0 y (let w = p.2.within in omega (arith, w)) (innermost bits p.0) refl from in
    let r = p.2.rank in
    omega (arith, low, r)

find-renamed : (f : ℕ → ℕ) (n : ℕ) → ((j k : ℕ) → j < n → k < n → f j ≡ f k → j ≡ k) → (xs ys : List ℕ) → ((x : ℕ) → has xs x ≡ true → x < n) → ((y : ℕ) → has ys y ≡ true → y < n) → find (has (map f ys)) (map f xs) ≡ option_map f (find (has ys) xs)
find-renamed f n apart [] ys wx wy = refl
find-renamed f n apart (x ∷ xs) ys wx wy =
    let here = wx x (or_left _ _ (eq-eqb x x refl)) in
    let same = same_has ys x here wy in
    elim (cases_Bool (has ys x)) [
      | inl e ↦ rw (same, e) refl
      | inr e ↦ rw (same, e) (find-renamed f n apart xs ys (λ z h. wx z (or_right _ _ h)) wy)
    ]
  where
    same_has : (ys : List ℕ) (x : ℕ) → x < n → ((y : ℕ) → has ys y ≡ true → y < n) → has (map f ys) (f x) ≡ has ys x
    same_has [] x l w = refl
    same_has (y ∷ ys) x l w =
        let more = same_has ys x l (λ z h. w z (or_right _ _ h)) in
        elim (cases_Bool (x == y)) [
          | inl e ↦ let g = eq-eqb (f x) (f y) (ap f (eqb-true x y e)) in rw (e, g) refl
          | inr e ↦ let g = ne_eqb (f x) (f y) (λ s. both_ways _ e (eq-eqb x y (apart x y l (w y (or_left _ _ (eq-eqb y y refl))) s))) in rw (e, g) more
        ]

module _ (m : PlaneMap) (bits : List Bool) (ids : List ℕ) (are : RegionsAreNumbered m bits ids) where
  count_is : region_count bits ≡ length ids
  count_is = are.opens

  b : IsBalanced bits
  b = balanced bits are.balanced

  Within : Option ℕ → Type 0
  Within o = (x : ℕ) → o ≡ Some x → x < length ids

  parent_within : (x : ℕ) → x < length ids → Within (parent_number bits x)
  unfolding Within
  parent_within x l y e = let c = count_is in let low = parent-lower bits b x y (omega (arith, l, c)) e in omega (arith, low, l)

  upward-number : (k : ℕ) (o : Option ℕ) → Within o → regions.upward k m (option_map (slice_index ids) o) ≡ map (slice_index ids) (upward k bits o)
  unfolding regions.upward upward Within
  upward-number zero o w = refl
  upward-number (suc k) None w = refl
  upward-number (suc k) (Some x) w =
      let l = w x refl in
      ap (λ o. slice_index ids x ∷ regions.upward k m o) (are.parents x l) ∙ ap (λ xs. slice_index ids x ∷ xs) (upward-number k (parent_number bits x) (parent_within x l))

  in_upward : (k : ℕ) (o : Option ℕ) → Within o → (x : ℕ) → has (upward k bits o) x ≡ true → x < length ids
  unfolding upward Within
  in_upward zero o w x h = absurd (both_ways false refl h)
  in_upward (suc k) None w x h = absurd (both_ways false refl h)
  in_upward (suc k) (Some r) w x h = elim (cases_Bool (x == r)) [
    | inl is ↦ let e = eqb-true x r is in let l = w r refl in omega (arith, e, l)
    | inr not ↦ in_upward k (parent_number bits r) (parent_within r (w r refl)) x (rw not at h)
  ]

  one : (x : ℕ) → x < length ids → Within (Some x)
  unfolding Within
  one x l y e = let s : x ≡ y = cc in omega (arith, s, l)

  -- the chain of a region
  pub chain-number : (x : ℕ) → x < length ids → regions.upward (length m.regions.keys) m (Some (slice_index ids x)) ≡ map (slice_index ids) (chain bits x)
  unfolding chain
  chain-number x l =
      let c = count_is in
      let many = are.many in
      let fuel : length m.regions.keys ≡ region_count bits = omega (arith, c, many) in
      ap (λ k. regions.upward k m (Some (slice_index ids x))) fuel ∙ upward-number (region_count bits) (Some x) (one x l)

  in_chain : (x y : ℕ) → x < length ids → has (chain bits x) y ≡ true → y < length ids
  unfolding chain
  in_chain x y l h = in_upward (region_count bits) (Some x) (one x l) y h

  -- the first region of the one chain that is in the other
  pub common-regions : (x y : ℕ) → x < length ids → y < length ids
      → find (has (regions.upward (length m.regions.keys) m (Some (slice_index ids y)))) (regions.upward (length m.regions.keys) m (Some (slice_index ids x))) ≡ option_map (slice_index ids) (common_number bits x y)
  unfolding common_number
  common-regions x y lx ly =
      ap (λ xs. find (has xs) (regions.upward (length m.regions.keys) m (Some (slice_index ids x)))) (chain-number y ly) ∙ ap (find (has (map (slice_index ids) (chain bits y)))) (chain-number x lx)
      ∙ find-renamed (slice_index ids) (length ids) (λ j k lj lk e. are.names.distinct j k lj lk e) (chain bits x) (chain bits y) (λ z h. in_chain x z lx h) (λ z h. in_chain y z ly h)
