-- The regions of a forest by number: each once, and nested as their parents say.
use Rattle.std.specs.Prelude.{filter, flat_map, slice_index, unwrap_or, option_map, is_none, find}
use Rattle.std.proofs.Common.{◌≡◌, ◌≢◌, ℕ, zero, suc, ◌+◌, ◌-◌, ◌*◌, ◌<◌, ◌≤◌, inl, inr, Bool, true, false, not, ◌&&◌, ◌⊎◌, ◌==◌, List, [], ◌∷◌, ◌++◌, map, length, get_or, refl, ap, sym, ◌∙◌, subst, arith, Option, Some, None, eq-eqb}
use Rattle.std.specs.List.{range_with_len, list_all}
use Rattle.std.proofs.lemmas.Bool.{cases_Bool, cases_lt, both_ways, eqb-true, or_cases, or_left, or_right, and_parts, and_from, not-true, false_from_ne_true}
use Rattle.std.proofs.lemmas.List.{append-nil, length-map, map-append, get_or-map}
use Rattle.std.proofs.lemmas.List.FromFn.{fill_by_all, get_or-map-range_with_len, length-map-range_with_len}
use Rattle.bit_words.specs.Lists.{is_at}
use Rattle.bit_words.specs.Bits.{rank}
use Rattle.bit_words.proofs.Ranks.{rank_both}
use Rattle.code_laws.proofs.Edges.{closed}
use Rattle.orbits.proofs.Lists.{pigeon, apart_kept, same_length, same_tests}
use Rattle.orbits.proofs.Numbers.{same_numbers, place_in}
use Rattle.parens.proofs.Balances.{IsBalanced}
use Rattle.plane_model.specs.Rows.{Rows}
use Rattle.plane_model.specs.Sets.{has, is_distinct, rising}
use Rattle.plane_model.specs.PlaneMap.{PlaneMap, map_of}
use Rattle.plane_model.specs.Rotation.{is_face}
use Rattle.plane_model.specs.Regions.{parent, parents, upward, is_region, is_region_or_none, is_region_forest}
use Rattle.plane_model.proofs.FaultParts.{all_keys, has_key_at, none_is}
use Rattle.plane_model.proofs.Lookups.{find_key}
use Rattle.plane_model.proofs.SetLaws.{in_joined, joined_left, joined_right}
use Rattle.plane_model.proofs.Sorting.{among}
use Rattle.region_tree.proofs.SortedRows.{rising_apart}
use Rattle.plane_model.proofs.Chains.{chain-whole}
use Rattle.region_tree.specs.Ancestors.{ancestor}
use Rattle.region_tree.specs.Nesting.{parent_number}
use Rattle.region_tree.specs.Preorder.{nested, preorder, brackets}
use Rattle.region_tree.specs.Parts.{roots, children, region_ids, region_bits}
use Rattle.region_tree.proofs.Steps.{ancestor-none, ancestor-zero, ancestor-suc, ancestor-one, ancestor-add, ancestor-past, ancestor-again}
use Rattle.region_tree.proofs.PlacesOf.{steps-upward, apart_places}
use Rattle.region_tree.proofs.Reading.{ends, ones, first, ends-brackets, ones-brackets, uppers-brackets, uppers-map, insides, uppers}
use Rattle.region_tree.proofs.Stacks.{uppers-parents, balanced-ends, ones-rank}
use Rattle.region_tree.proofs.Walking.{filter_passes}
use Rattle.region_tree.proofs.OnCycles.{is_some_at, at_is}

-- ---- chains of parents end
upward_long : (m : PlaneMap) (n : ℕ) (o : Option ℕ) (x : ℕ) → ancestor (parent m) n o ≡ Some x → length (upward (suc n) m o) ≡ suc n
unfolding upward ancestor
upward_long m zero None x h = cc
upward_long m zero (Some r) x h = refl
upward_long m (suc n) None x h = let none = ancestor-none (parent m) n in absurd (cc)
upward_long m (suc n) (Some r) x h = ap suc (upward_long m n (parent m r) x h)

upward_short : (m : PlaneMap) (n : ℕ) (o : Option ℕ) → length (upward n m o) ≤ n
unfolding upward
upward_short m zero o = omega arith
upward_short m (suc n) None = omega arith
upward_short m (suc n) (Some r) = let more = upward_short m n (parent m r) in omega (arith, more)

pub chains_end : (t : Rows) → is_region_forest t ≡ true → (r : ℕ) → has (map_of t).regions.keys r ≡ true → ancestor (parent (map_of t)) (length (map_of t).regions.keys) (Some r) ≡ None
chains_end t h r there = at (ancestor (parent m) n (Some r)) refl
  where
    m : PlaneMap
    m = map_of t

    n : ℕ
    n = length (map_of t).regions.keys

    at : (o : Option ℕ) → ancestor (parent (map_of t)) (length (map_of t).regions.keys) (Some r) ≡ o → ancestor (parent (map_of t)) (length (map_of t).regions.keys) (Some r) ≡ None
    at None e = e
    at (Some x) e =
        let long = upward_long (map_of t) (length (map_of t).regions.keys) (Some r) x e in
        let same = ap length (chain-whole t h r (suc (length (map_of t).regions.keys)) there (omega arith)) in
        let short = upward_short (map_of t) (length (map_of t).regions.keys) (Some r) in
        absurd (omega (arith, long, same, short))

-- what a map whose regions are a forest has
pub record IsRegionForest (m : PlaneMap) : Type 0 where
  pub apart : is_distinct m.regions.keys ≡ true
  pub inside : (r p : ℕ) → has m.regions.keys r ≡ true → parent m r ≡ Some p → has m.regions.keys p ≡ true
  pub ends : (r : ℕ) → has m.regions.keys r ≡ true → ancestor (parent m) (length m.regions.keys) (Some r) ≡ None

pub region_forest : (t : Rows) → is_region_forest t ≡ true → IsRegionForest (map_of t)
region_forest t h =
    let a = and_parts _ (is_distinct (map (λ x. x.face) t.members)) h in
    let b = and_parts _ (list_all (λ x. is_region (map_of t) x.region && is_face (map_of t) x.face) t.members) a.0 in
    let c = and_parts _ (list_all (λ r. not (has (parents (map_of t) r.id) r.id)) t.regions) b.0 in
    let d = and_parts (is_distinct (map (λ r. r.id) t.regions)) (list_all (λ r. is_region_or_none (map_of t) r.parent) t.regions) c.0 in
    let ups : list_all (λ r. is_region_or_none (map_of t) (parent (map_of t) r)) (map_of t).regions.keys ≡ true =
    all_keys (λ r. r.id) (λ r. is_region_or_none (map_of t) (parent (map_of t) r)) (λ r. is_region_or_none (map_of t) r.parent) t.regions (λ k r there. rw (find_key (λ r. r.id) t.regions k r d.0 there) refl) ∙ d.1 in
    record {
      apart = rising_apart (map (λ r. r.id) t.regions) d.0;
      inside = λ r p r_in is.
          has_key_at (λ r. r.id) (λ r. r.parent) t.regions p
          ∙ subst (λ o. is_region_or_none (map_of t) o ≡ true) is (among (λ r. is_region_or_none (map_of t) (parent (map_of t) r)) (map_of t).regions.keys r ups r_in);
      ends = chains_end t h;
    }

-- ---- what flattened lists have, and when nothing stands twice in them
in_flat : (f : ℕ → List ℕ) (rs : List ℕ) (r x : ℕ) → has rs r ≡ true → has (f r) x ≡ true → has (flat_map f rs) x ≡ true
in_flat f [] r x h k = absurd (both_ways false refl h)
in_flat f (s ∷ rs) r x h k = elim (or_cases (r == s) (has rs r) h) [
  | inl is ↦ joined_left (f s) (flat_map f rs) x (subst (λ z. has (f z) x ≡ true) (eqb-true r s is) k)
  | inr more ↦ joined_right (f s) (flat_map f rs) x (in_flat f rs r x more k)
]

pub of_flat : (f : ℕ → List ℕ) (rs : List ℕ) (x : ℕ) → has (flat_map f rs) x ≡ true → (r : ℕ) × (has rs r ≡ true) × (has (f r) x ≡ true)
of_flat f [] x h = absurd (both_ways false refl h)
of_flat f (s ∷ rs) x h = elim (in_joined (f s) (flat_map f rs) x h) [
  | inl here ↦ (s, or_left _ _ (eq-eqb s s refl), here)
  | inr more ↦ let r = of_flat f rs x more in (r.0, or_right _ _ r.1, r.2)
]

apart-append : (xs ys : List ℕ) → is_distinct xs ≡ true → is_distinct ys ≡ true → ((x : ℕ) → has xs x ≡ true → has ys x ≡ true → ⊥) → is_distinct (xs ++ ys) ≡ true
apart-append [] ys a b differ = b
apart-append (x ∷ xs) ys a b differ =
    let parts = and_parts (not (has xs x)) (is_distinct xs) a in
    let none : has (xs ++ ys) x ≡ false = false_from_ne_true _ (λ h. elim (in_joined xs ys x h) [
      | inl l ↦ both_ways _ (not-true _ parts.0) l
      | inr r ↦ differ x (or_left _ _ (eq-eqb x x refl)) r
    ]) in
    and_from _ _ (rw none refl) (apart-append xs ys parts.1 b (λ y h k. differ y (or_right _ _ h) k))

apart-flat : (f : ℕ → List ℕ) (rs : List ℕ) → is_distinct rs ≡ true → ((r : ℕ) → has rs r ≡ true → is_distinct (f r) ≡ true) → ((r s x : ℕ) → has rs r ≡ true → has rs s ≡ true → has (f r) x ≡ true → has (f s) x ≡ true → r ≡ s) → is_distinct (flat_map f rs) ≡ true
apart-flat f [] a each one = refl
apart-flat f (r ∷ rs) a each one =
    let parts = and_parts (not (has rs r)) (is_distinct rs) a in
    let self = or_left (r == r) (has rs r) (eq-eqb r r refl) in
    apart-append (f r) (flat_map f rs) (each r self) (apart-flat f rs parts.1 (λ s h. each s (or_right _ _ h)) (λ s q x hs hq. one s q x (or_right _ _ hs) (or_right _ _ hq)))
    (λ x here there. let s = of_flat f rs x there in
    let same = one r s.0 x self (or_right _ _ s.1) here s.2 in
    both_ways _ (not-true _ parts.0) (subst (λ z. has rs z ≡ true) (sym same) s.1))

module _ (m : PlaneMap) (forest : IsRegionForest m) where
  abbrev keys : List ℕ
  keys = m.regions.keys

  abbrev n : ℕ
  n = length m.regions.keys

  abbrev put : ℕ → List ℕ → List ℕ
  put r within = r ∷ within

  -- no steps up lead back
  no_cycle : (r d : ℕ) → has keys r ≡ true → ancestor (parent m) (suc d) (Some r) ≡ Some r → ⊥
  no_cycle r d there back =
      let again = ancestor-again (parent m) (suc d) n r back in
      let far : n ≤ suc d * n = grind arith in
      let none = ancestor-past (parent m) n (suc d * n) (Some r) far (forest.ends r there) in
      cc

  child_in : (p c : ℕ) → has (children m p) c ≡ true → (parent m c ≡ Some p) × (has keys c ≡ true)
  child_in p c h = let f = filter_passes (λ r. is_at (parent m r) p) keys c h in (is_some_at (parent m c) p f.0, f.1)

  root_in : (r : ℕ) → has (roots m) r ≡ true → (parent m r ≡ None) × (has keys r ≡ true)
  root_in r h = let f = filter_passes (λ r. is_none (parent m r)) keys r h in (none_is (parent m r) f.0, f.1)

  in_filter : (t : ℕ → Bool) (xs : List ℕ) (x : ℕ) → has xs x ≡ true → t x ≡ true → has (filter t xs) x ≡ true
  in_filter t [] x h k = h
  in_filter t (y ∷ ys) x h k = elim (or_cases (x == y) (has ys x) h) [
    | inl is ↦ let ty : t y ≡ true = subst (λ z. t z ≡ true) (eqb-true x y is) k in rw ty (or_left _ _ is)
    | inr more ↦ elim (cases_Bool (t y)) [ inl e ↦ rw e (or_right _ _ (in_filter t ys x more k)) | inr e ↦ rw e (in_filter t ys x more k) ]
  ]

  -- ---- each that comes descends from one of those that it was begun with
  descends : (k : ℕ) (rs : List ℕ) (x : ℕ) → ((r : ℕ) → has rs r ≡ true → has keys r ≡ true) → has (preorder k (children m) rs) x ≡ true
      → (r : ℕ) × (j : ℕ) × (has rs r ≡ true) × (ancestor (parent m) j (Some x) ≡ Some r) × (has keys x ≡ true)
  unfolding nested
  descends zero rs x within h = absurd (both_ways false refl h)
  descends (suc k) rs x within h =
      let f = of_flat (λ r. put r (preorder k (children m) (children m r))) rs x h in
      let r = f.0 in
      elim (or_cases (x == r) (has (preorder k (children m) (children m r)) x) f.2) [
        | inl is ↦
            let e = eqb-true x r is in
            (r, 0, f.1, ancestor-zero (parent m) (Some x) ∙ ap Some e, subst (λ z. has keys z ≡ true) (sym e) (within r f.1))
        | inr more ↦
            let d = descends k (children m r) x (λ c inside. (child_in r c inside).1) more in
            let c = child_in r d.0 d.2 in
            (r, d.1 + 1, f.1, ancestor-add (parent m) d.1 1 (Some x) ∙ ap (ancestor (parent m) 1) d.3 ∙ ancestor-one (parent m) d.0 ∙ c.0, d.4)
      ]

  -- two that one descends from, with one parent, are one
  same_one : (up : Option ℕ) (r s x i j : ℕ) → has keys r ≡ true → parent m r ≡ up → parent m s ≡ up → ancestor (parent m) i (Some x) ≡ Some r → ancestor (parent m) j (Some x) ≡ Some s → i < j → ⊥
  same_one None r s x i j there pr ps ei ej l =
      let d = j - i in
      let e : i + d ≡ j = omega arith in
      let from : ancestor (parent m) d (Some r) ≡ Some s = ap (ancestor (parent m) d) (sym ei) ∙ sym (ancestor-add (parent m) i d (Some x)) ∙ subst (λ q. ancestor (parent m) q (Some x) ≡ Some s) (sym e) ej in
      let one = d - 1 in
      let f : suc one ≡ d = omega arith in
      let none = ap (λ q. ancestor (parent m) q (Some r)) (sym f) ∙ ancestor-suc (parent m) one r ∙ ap (ancestor (parent m) one) pr ∙ ancestor-none (parent m) one in
      cc
  same_one (Some p) r s x i j there pr ps ei ej l =
      let d = j - i in
      let e : i + d ≡ j = omega arith in
      let from : ancestor (parent m) d (Some r) ≡ Some s = ap (ancestor (parent m) d) (sym ei) ∙ sym (ancestor-add (parent m) i d (Some x)) ∙ subst (λ q. ancestor (parent m) q (Some x) ≡ Some s) (sym e) ej in
      let one = d - 1 in
      let f : suc one ≡ d = omega arith in
      let to : ancestor (parent m) one (Some p) ≡ Some s = ap (ancestor (parent m) one) (sym pr) ∙ sym (ancestor-suc (parent m) one r) ∙ ap (λ q. ancestor (parent m) q (Some r)) f ∙ from in
      let back : ancestor (parent m) (suc one) (Some p) ≡ Some p =
      (let g : one + 1 ≡ suc one = omega arith in ap (λ q. ancestor (parent m) q (Some p)) (sym g)) ∙ ancestor-add (parent m) one 1 (Some p) ∙ ap (ancestor (parent m) 1) to ∙ ancestor-one (parent m) s ∙ ps in
      no_cycle p one (forest.inside r p there pr) back

  -- nothing comes twice
  once : (k : ℕ) (up : Option ℕ) (rs : List ℕ) → is_distinct rs ≡ true → ((r : ℕ) → has rs r ≡ true → (parent m r ≡ up) × (has keys r ≡ true)) → is_distinct (preorder k (children m) rs) ≡ true
  unfolding nested
  once zero up rs a within = refl
  once (suc k) up rs a within =
      let inner = λ (r : ℕ). preorder k (children m) (children m r) in
      apart-flat (λ r. put r (inner r)) rs a
      (λ r there. let here = within r there in
      let more = once k (Some r) (children m r) (apart_kept same_numbers (λ c. is_at (parent m c) r) keys forest.apart) (λ c inside. child_in r c inside) in
      let none : has (inner r) r ≡ false = false_from_ne_true _ (λ h.
      let d = descends k (children m r) r (λ c inside. (child_in r c inside).1) h in
      let c = child_in r d.0 d.2 in
      no_cycle r d.1 here.1 ((let g : d.1 + 1 ≡ suc d.1 = omega arith in ap (λ q. ancestor (parent m) q (Some r)) (sym g)) ∙ ancestor-add (parent m) d.1 1 (Some r) ∙ ap (ancestor (parent m) 1) d.3 ∙ ancestor-one (parent m) d.0 ∙ c.0)) in
      and_from _ _ (rw none refl) more)
      (λ r s x hr hs fr fs.
      let below = λ (q : ℕ) (hq : has rs q ≡ true) (fq : has (put q (inner q)) x ≡ true). steps_to k q x (within q hq).1 fq in
      let dr = below r hr fr in
      let ds = below s hs fs in
      elim (cases_lt dr.0 ds.0) [
        | inl l ↦ absurd (same_one up r s x dr.0 ds.0 (within r hr).1 (within r hr).0 (within s hs).0 dr.1 ds.1 l)
        | inr g ↦ elim (cases_lt ds.0 dr.0) [
          | inl l ↦ absurd (same_one up s r x ds.0 dr.0 (within s hs).1 (within s hs).0 (within r hr).0 ds.1 dr.1 l)
          | inr h ↦
              let e : dr.0 ≡ ds.0 = omega arith in
              let f : Some r ≡ Some s = sym dr.1 ∙ ap (λ q. ancestor (parent m) q (Some x)) e ∙ ds.1 in
              cc
        ]
      ])
    where
      steps_to : (k q x : ℕ) → has keys q ≡ true → has (put q (preorder k (children m) (children m q))) x ≡ true → (j : ℕ) × (ancestor (parent m) j (Some x) ≡ Some q)
      steps_to k q x there h = elim (or_cases (x == q) (has (preorder k (children m) (children m q)) x) h) [
        | inl is ↦ (0, ancestor-zero (parent m) (Some x) ∙ ap Some (eqb-true x q is))
        | inr more ↦
            let d = descends k (children m q) x (λ c inside. (child_in q c inside).1) more in
            let c = child_in q d.0 d.2 in
            (d.1 + 1, ancestor-add (parent m) d.1 1 (Some x) ∙ ap (ancestor (parent m) 1) d.3 ∙ ancestor-one (parent m) d.0 ∙ c.0)
      ]

  -- ---- each region comes
  deeper : (k : ℕ) (rs : List ℕ) (x : ℕ) → has (preorder k (children m) rs) x ≡ true → has (preorder (suc k) (children m) rs) x ≡ true
  unfolding nested
  deeper zero rs x h = absurd (both_ways false refl h)
  deeper (suc k) rs x h =
      let f = of_flat (λ r. put r (preorder k (children m) (children m r))) rs x h in
      in_flat (λ r. put r (preorder (suc k) (children m) (children m r))) rs f.0 x f.1
      (elim (or_cases (x == f.0) (has (preorder k (children m) (children m f.0)) x) f.2) [ inl is ↦ or_left _ _ is | inr more ↦ or_right _ _ (deeper k (children m f.0) x more) ])

  much_deeper : (j k : ℕ) (rs : List ℕ) (x : ℕ) → has (preorder k (children m) rs) x ≡ true → has (preorder (j + k) (children m) rs) x ≡ true
  much_deeper zero k rs x h = let e : zero + k ≡ k = omega arith in subst (λ q. has (preorder q (children m) rs) x ≡ true) (sym e) h
  much_deeper (suc j) k rs x h = let e : suc j + k ≡ suc (j + k) = omega arith in subst (λ q. has (preorder q (children m) rs) x ≡ true) (sym e) (deeper (j + k) rs x (much_deeper j k rs x h))

  among_more : (k : ℕ) (rs : List ℕ) (r x : ℕ) → has rs r ≡ true → has (preorder k (children m) (r ∷ [])) x ≡ true → has (preorder k (children m) rs) x ≡ true
  unfolding nested
  among_more zero rs r x there h = h
  among_more (suc k) rs r x there h =
      let f = of_flat (λ r. put r (preorder k (children m) (children m r))) (r ∷ []) x h in
      let e : f.0 ≡ r = elim (or_cases (f.0 == r) false f.1) [ inl is ↦ eqb-true f.0 r is | inr no_way ↦ absurd (both_ways false refl no_way) ] in
      in_flat (λ r. put r (preorder k (children m) (children m r))) rs r x there (subst (λ z. has (put z (preorder k (children m) (children m z))) x ≡ true) e f.2)

  one_deeper : (k : ℕ) (p x : ℕ) → has (preorder k (children m) (children m p)) x ≡ true → has (preorder (suc k) (children m) (p ∷ [])) x ≡ true
  unfolding nested
  one_deeper k p x h = joined_left (put p (preorder k (children m) (children m p))) [] x (or_right (x == p) _ h)

  reached : (j k r x : ℕ) → has keys r ≡ true → (o : Option ℕ) → parent m r ≡ o → ancestor (parent m) j o ≡ None → has (preorder k (children m) (r ∷ [])) x ≡ true → has (preorder (j + k) (children m) (roots m)) x ≡ true
  reached j k r x there None e end h =
      much_deeper j k (roots m) x (among_more k (roots m) r x (in_filter (λ q. is_none (parent m q)) keys r there (ap is_none e)) h)
  reached zero k r x there (Some p) e end h = let some = ancestor-zero (parent m) (Some p) in absurd (cc)
  reached (suc j) k r x there (Some p) e end h =
      let fuel : j + suc k ≡ suc j + k = omega arith in
      let inside = among_more k (children m p) r x (in_filter (λ q. is_at (parent m q) p) keys r there (at_is (parent m r) p e)) h in
      subst (λ q. has (preorder q (children m) (roots m)) x ≡ true) fuel (reached j (suc k) p x (forest.inside r p there e) (parent m p) refl (sym (ancestor-suc (parent m) j p) ∙ end) (one_deeper k p x inside))

  alone : (r : ℕ) → has (preorder 1 (children m) (r ∷ [])) r ≡ true
  unfolding nested
  alone r = or_left _ _ (eq-eqb r r refl)

  pub ids_apart : is_distinct (region_ids m) ≡ true
  unfolding region_ids
  ids_apart = once n None (roots m) (apart_kept same_numbers (λ r. is_none (parent m r)) keys forest.apart) root_in

  ids_in : (r : ℕ) → has (region_ids m) r ≡ true → has keys r ≡ true
  unfolding region_ids
  ids_in r h = (descends n (roots m) r (λ q there. (root_in q there).1) h).4

  in_ids : (r : ℕ) → has keys r ≡ true → has (region_ids m) r ≡ true
  unfolding region_ids
  in_ids r there =
      let some = (place_in keys r there).1 in
      let e : n - 1 + 1 ≡ n = omega (arith, some) in
      let f : suc (n - 1) ≡ n = omega (arith, some) in
      let end = sym (ancestor-suc (parent m) (n - 1) r) ∙ ap (λ q. ancestor (parent m) q (Some r)) f ∙ forest.ends r there in
      subst (λ q. has (preorder q (children m) (roots m)) r ≡ true) e (reached (n - 1) 1 r r there (parent m r) refl end (alone r))

  -- the ids of all regions, each once
  pub ids_are : (r : ℕ) → has (region_ids m) r ≡ has keys r
  ids_are r = same_tests _ _ (ids_in r) (in_ids r)

  pub ids_many : length (region_ids m) ≡ n
  ids_many = same_length same_numbers (region_ids m) keys ids_apart forest.apart ids_in in_ids

  -- ---- their parents
  insides-parents : (k : ℕ) (up : Option ℕ) (rs : List ℕ) → ((r : ℕ) → has rs r ≡ true → parent m r ≡ up) → insides k (children m) up rs ≡ map (parent m) (preorder k (children m) rs)
  unfolding insides nested
  insides-parents zero up rs within = refl
  insides-parents (suc k) up [] within = refl
  insides-parents (suc k) up (r ∷ rs) within =
      let here = sym (within r (or_left _ _ (eq-eqb r r refl))) in
      let inner = insides-parents k (Some r) (children m r) (λ c inside. (child_in r c inside).0) in
      let more = insides-parents (suc k) up rs (λ q there. within q (or_right _ _ there)) in
      ap (λ w. (w ∷ insides k (children m) (Some r) (children m r)) ++ insides (suc k) (children m) up rs) here
      ∙ ap (λ w. (parent m r ∷ w) ++ insides (suc k) (children m) up rs) inner
      ∙ ap (λ w. (parent m r ∷ map (parent m) (preorder k (children m) (children m r))) ++ w) more
      ∙ sym (map-append (parent m) (r ∷ preorder k (children m) (children m r)) (preorder (suc k) (children m) rs))

  bits_end : ends 0 (region_bits m) ≡ Some 0
  unfolding region_bits ends
  bits_end = ap (ends 0) (sym (append-nil (brackets n (children m) (roots m)))) ∙ ends-brackets (children m) n (roots m) 0 []

  pub bits_balanced : IsBalanced (region_bits m)
  bits_balanced = balanced-ends (region_bits m) bits_end

  bits_ones : ones (region_bits m) ≡ length (region_ids m)
  unfolding region_bits region_ids ones
  bits_ones =
      let e = ones-brackets (children m) n (roots m) [] in
      ap ones (sym (append-nil (brackets n (children m) (roots m)))) ∙ e ∙ (let z : length (preorder n (children m) (roots m)) + 0 ≡ length (preorder n (children m) (roots m)) = omega arith in z)

  pub bits_open : rank true (region_bits m) (length (region_bits m)) ≡ length (region_ids m)
  bits_open = ones-rank (region_bits m) ∙ bits_ones

  pub bits_long : length (region_bits m) ≡ 2 * length (region_ids m)
  bits_long =
      let both = rank_both (region_bits m) (length (region_bits m)) (omega arith) in
      let even = closed (region_bits m) bits_balanced in
      let opens = bits_open in
      omega (arith, both, even, opens)

  uppers-all : uppers (region_bits m) (region_ids m) [] ≡ map (parent m) (region_ids m)
  unfolding region_bits region_ids uppers first
  uppers-all =
      ap (λ w. uppers w (preorder n (children m) (roots m)) []) (sym (append-nil (brackets n (children m) (roots m))))
      ∙ ap (λ w. uppers (brackets n (children m) (roots m) ++ []) w []) (sym (append-nil (preorder n (children m) (roots m))))
      ∙ uppers-brackets (children m) n (roots m) [] [] []
      ∙ append-nil (insides n (children m) None (roots m))
      ∙ insides-parents n None (roots m) (λ r there. (root_in r there).0)

  -- the parent of a region is that of the innermost pair round it
  pub parent_back : (x : ℕ) → x < length (region_ids m) → parent m (slice_index (region_ids m) x) ≡ option_map (slice_index (region_ids m)) (parent_number (region_bits m) x)
  parent_back x l =
      let ids = region_ids m in
      let bits = region_bits m in
      let f = slice_index ids in
      let whole : ids ≡ map f (range_with_len 0 (length ids)) = fill_by_all f ids (length ids) 0 refl (λ k lk. refl) in
      let opens = bits_open in
      let all : map (parent m) ids ≡ map (option_map f) (map (parent_number bits) (range_with_len 0 (length ids))) =
      sym uppers-all ∙ ap (λ w. uppers bits w []) whole ∙ uppers-map f bits (range_with_len 0 (length ids)) []
      ∙ ap (map (option_map f)) (subst (λ k. uppers bits (range_with_len 0 k) [] ≡ map (parent_number bits) (range_with_len 0 k)) opens (uppers-parents bits bits_balanced)) in
      let long = length-map-range_with_len (parent_number bits) 0 (length ids) in
      sym (get_or-map (parent m) ids x 0 None l) ∙ ap (λ w. get_or w x None) all
      ∙ get_or-map (option_map f) (map (parent_number bits) (range_with_len 0 (length ids))) x None None (omega (arith, l, long))
      ∙ ap (option_map f) (get_or-map-range_with_len (parent_number bits) 0 (length ids) x x None l (omega arith))
