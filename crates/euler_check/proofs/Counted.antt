-- As many numbers as parts.
use Rattle.std.proofs.Common.{◌≡◌, ℕ, zero, suc, ◌*◌, ◌<◌, ◌≤◌, inl, inr, ℤ, Bool, true, false, not, List, [], ◌∷◌, map, filter, length, get_or, refl, sym, ap, ◌∙◌, subst, arith}
use Rattle.std.specs.Prelude.{if◌then◌else◌}
use Rattle.std.proofs.lemmas.Bool.{and_from, cases_Bool, cases_lt, or_cases, or_left, or_right, both_ways}
use Rattle.topo_base.specs.SignedEdge.{same_edge}
use Rattle.orbits.proofs.Lists.{from_filter, in_filter, in_map, pigeon, same_tests, apart_kept}
use Rattle.plane_model.specs.declared.rows.EdgeRow.{EdgeRow}
use Rattle.plane_model.specs.Sets.{has_edge, is_distinct_edges}
use Rattle.plane_model.specs.PlaneMap.{map_of, signed_edges, smallest, ring, rings}
use Rattle.plane_model.specs.Component.{component, components}
use Rattle.plane_model.specs.Orders.{IsNamed}
use Rattle.plane_model.proofs.SetLaws.{same_is, same_self, same_edges}
use Rattle.plane_model.proofs.RotationOrbits.{named, names_counted, ring_named, ring_parts, rings_counted, signed_apart}
use Rattle.plane_model.proofs.ComponentParts.{component_named, components_counted}
use Rattle.rotation_check.specs.Darts.{RotationRows, IsRotation, map_of_rotation, signed_edge}
use Rattle.rotation_check.proofs.DartLists.{dart_edges, dart_place, dart_to_signed, signed_to_dart, signed_there}
use Rattle.euler_check.specs.Counts.{count_below}
use Rattle.euler_check.specs.Numbers.{Numbers, ArePartNumbers}
use Rattle.euler_check.proofs.Walking.{own_rows}

image_back : (f : ℤ → ℤ) (ds : List ℤ) (x : ℤ) → has_edge (map f ds) x ≡ true → (d : ℤ) × (has_edge ds d ≡ true) × (x ≡ f d)
image_back f [] x h = absurd (both_ways false refl h)
image_back f (d ∷ ds) x h = elim (or_cases (same_edge x (f d)) (has_edge (map f ds) x) h) [
  | inl here ↦ (d, or_left _ _ (same_self d), same_is x (f d) here)
  | inr more ↦ let e = image_back f ds x more in (e.0, or_right _ _ e.1, e.2)
]

-- the names of the parts whose numbers are below n
record NamesBelow (edges : List EdgeRow) (part : ℤ → List ℤ) (of_darts : List ℕ) (n : ℕ) : Type 0 where
  names : List ℤ
  size : length names ≡ n
  once : is_distinct_edges names ≡ true
  from : (x : ℤ) → has_edge names x ≡ true → (d : ℕ) × (d < 2 * length edges) × (get_or of_darts d 0 < n) × (x ≡ smallest (signed_edge edges d) (part (signed_edge edges d)))
  into : (d : ℕ) → d < 2 * length edges → get_or of_darts d 0 < n → has_edge names (smallest (signed_edge edges d) (part (signed_edge edges d))) ≡ true
  passing : (p : ℤ → Bool) (q : ℕ → Bool) → ((d : ℕ) → d < 2 * length edges → p (smallest (signed_edge edges d) (part (signed_edge edges d))) ≡ q (get_or of_darts d 0)) → length (filter p names) ≡ count_below n q

module _ (edges : List EdgeRow) (us : List ℤ) (part : ℤ → List ℤ) (named : IsNamed us part) (there : (d : ℕ) → d < 2 * length edges → has_edge us (signed_edge edges d) ≡ true) (numbers : Numbers) (are : ArePartNumbers edges part numbers) where
  names_below : (n : ℕ) → n ≤ numbers.count → NamesBelow edges part numbers.of_darts n
  unfolding count_below
  names_below zero h = record { names = []; size = refl; once = refl; from = λ x on. absurd (both_ways false refl on); into = λ d q lt. absurd (omega arith); passing = λ p q same. refl }
  names_below (suc n) h =
      let before = names_below n (omega arith) in
      let first = are.first n (omega arith) in
      let within : first.0 < 2 * length edges = (let a = first.1.within in let b = are.size in omega arith) in
      let has : get_or numbers.of_darts first.0 0 ≡ n = first.1.has in
      let name = smallest (signed_edge edges first.0) (part (signed_edge edges first.0)) in
      record {
        names = name ∷ before.names;
        size = ap suc before.size;
        once = and_from (not (has_edge before.names name)) (is_distinct_edges before.names)
            (elim (cases_Bool (has_edge before.names name)) [
              | inl again ↦
                  let d = before.from name again in
                  let d1 : d.0 < 2 * length edges = d.1 in
                  let d2 : get_or numbers.of_darts d.0 0 < n = d.2 in
                  let on = named.apart (signed_edge edges d.0) (signed_edge edges first.0) (there d.0 d.1) (there first.0 within) d.3 in
                  let same : get_or numbers.of_darts d.0 0 ≡ get_or numbers.of_darts first.0 0 = (are.same d.0 first.0 d.1 within).1 on in
                  absurd (omega arith)
              | inr none ↦ rw none refl
            ])
            before.once;
        from = λ x on. elim (or_cases (same_edge x name) (has_edge before.names x) on) [
          | inl here ↦ (first.0, within, omega arith, same_is x name here)
          | inr more ↦ let d = before.from x more in let d2 : get_or numbers.of_darts d.0 0 < n = d.2 in (d.0, d.1, omega arith, d.3)
        ];
        into = λ d q lt. elim (cases_lt (get_or numbers.of_darts d 0) n) [
          | inl low ↦ or_right (same_edge (smallest (signed_edge edges d) (part (signed_edge edges d))) name) _ (before.into d q low)
          | inr ge ↦
              let same : get_or numbers.of_darts first.0 0 ≡ get_or numbers.of_darts d 0 = omega arith in
              let on = (are.same first.0 d within q).0 same in
              let one = named.same (signed_edge edges first.0) (signed_edge edges d) (there first.0 within) on in
              or_left _ _ (subst (λ z. same_edge z name ≡ true) (sym one) (same_self name))
        ];
        passing = λ p q same.
            let more = before.passing p q same in
            let here : p name ≡ q n = same first.0 within ∙ ap q has in
            one_more p name before.names (q n) (count_below n q) here more;
      }
    where
      one_more : (p : ℤ → Bool) (x : ℤ) (xs : List ℤ) (b : Bool) (k : ℕ) → p x ≡ b → length (filter p xs) ≡ k → length (filter p (x ∷ xs)) ≡ (if b then suc k else k)
      one_more p x xs true k e more = rw e (ap suc more)
      one_more p x xs false k e more = rw e more

module _ (r : RotationRows) (is : IsRotation r) where
  darts_all : (d : ℤ) → has_edge (dart_edges r.edges) d ≡ has_edge (signed_edges (map_of (own_rows r))) d
  darts_all d = same_tests (has_edge (dart_edges r.edges) d) (has_edge (signed_edges (map_of (own_rows r))) d) (dart_to_signed (own_rows r) d) (signed_to_dart (own_rows r) d)

  names_are : (part : ℤ → List ℤ) (numbers : Numbers) → ArePartNumbers r.edges part numbers → (all : NamesBelow r.edges part numbers.of_darts numbers.count)
      → (x : ℤ) → has_edge all.names x ≡ has_edge (map (λ d. smallest d (part d)) (dart_edges r.edges)) x
  names_are part numbers are all x =
      same_tests (has_edge all.names x) (has_edge (map (λ d. smallest d (part d)) (dart_edges r.edges)) x)
      (λ on.
      let d = all.from x on in
      subst (λ z. has_edge (map (λ d. smallest d (part d)) (dart_edges r.edges)) z ≡ true) (sym d.3)
      (in_map same_edges (λ d. smallest d (part d)) (dart_edges r.edges) (signed_edge r.edges d.0) (signed_to_dart (own_rows r) (signed_edge r.edges d.0) (signed_there (own_rows r) d.0 d.1))))
      (λ on.
      let e = image_back (λ d. smallest d (part d)) (dart_edges r.edges) x on in
      let d = dart_place (own_rows r) e.0 (dart_to_signed (own_rows r) e.0 e.1) in
      subst (λ z. has_edge all.names z ≡ true) (ap (λ z. smallest z (part z)) d.2 ∙ sym e.2) (all.into d.0 d.1 (are.below d.0 d.1)))

  -- as many rings pass as numbers of rings
  pub rings_passing : (numbers : Numbers) → ArePartNumbers r.edges (ring (map_of_rotation r)) numbers → (p : ℤ → Bool) (q : ℕ → Bool)
      → ((d : ℕ) → d < 2 * length r.edges → p (smallest (signed_edge r.edges d) (ring (map_of_rotation r) (signed_edge r.edges d))) ≡ q (get_or numbers.of_darts d 0)) → length (filter p (rings (map_of_rotation r))) ≡ count_below numbers.count q
  unfolding named
  rings_passing numbers are p q same =
      let us = signed_edges (map_of_rotation r) in
      let part = ring (map_of_rotation r) in
      let all = names_below r.edges us part (ring_named (own_rows r) is.rotation) (signed_there (own_rows r)) numbers are numbers.count (omega arith) in
      let apart = apart_kept same_edges (λ d. same_edge d (smallest d (part d))) us (signed_apart (map_of_rotation r) is.rotation) in
      let members = (names_counted us part (ring_parts (own_rows r) is.rotation) apart (dart_edges r.edges) all.names darts_all all.once (names_are part numbers are all)).0 in
      as_many_pass p (rings (map_of_rotation r)) all.names apart all.once (λ x. sym (members x)) ∙ all.passing p q same
    where
      half : (p : ℤ → Bool) (xs ys : List ℤ) → is_distinct_edges xs ≡ true → ((x : ℤ) → has_edge xs x ≡ has_edge ys x) → length (filter p xs) ≤ length (filter p ys)
      half p xs ys apart members = pigeon same_edges (filter p xs) (filter p ys) (apart_kept same_edges p xs apart) (λ x on. let a = from_filter same_edges p xs x on in in_filter same_edges p ys x a.0 (sym (members x) ∙ a.1))

      as_many_pass : (p : ℤ → Bool) (xs ys : List ℤ) → is_distinct_edges xs ≡ true → is_distinct_edges ys ≡ true → ((x : ℤ) → has_edge xs x ≡ has_edge ys x) → length (filter p xs) ≡ length (filter p ys)
      as_many_pass p xs ys xs_apart ys_apart members = let a = half p xs ys xs_apart members in let b = half p ys xs ys_apart (λ x. sym (members x)) in omega arith

  pub as_many_rings : (numbers : Numbers) → ArePartNumbers r.edges (ring (map_of_rotation r)) numbers → numbers.count ≡ length (rings (map_of_rotation r))
  as_many_rings numbers are =
      let all = names_below r.edges (signed_edges (map_of_rotation r)) (ring (map_of_rotation r)) (ring_named (own_rows r) is.rotation) (signed_there (own_rows r)) numbers are numbers.count (omega arith) in
      sym all.size ∙ rings_counted (own_rows r) is.rotation (dart_edges r.edges) all.names darts_all all.once (names_are (ring (map_of_rotation r)) numbers are all)

  pub as_many_components : (numbers : Numbers) → ArePartNumbers r.edges (component (map_of_rotation r)) numbers → numbers.count ≡ length (components (map_of_rotation r))
  as_many_components numbers are =
      let all = names_below r.edges (signed_edges (map_of_rotation r)) (component (map_of_rotation r)) (component_named (own_rows r) is.rotation) (signed_there (own_rows r)) numbers are numbers.count (omega arith) in
      sym all.size ∙ components_counted (own_rows r) is.rotation (dart_edges r.edges) all.names darts_all all.once (names_are (component (map_of_rotation r)) numbers are all)
