-- Components and isolated nodes in the order of their places.
use Rattle.std.specs.Prelude.{ℤ, not, find, nat_lt, slice_index, option_map, ◌&&◌, if◌then◌else◌}
use Rattle.std.specs.List.{range_with_len}
use Rattle.std.proofs.Common.{◌≡◌, ℕ, zero, suc, ◌+◌, ◌-◌, ◌/◌, ◌<◌, ◌≤◌, ◌⊎◌, inl, inr, Bool, true, false, length, ap, sym, ◌∙◌, arith, subst, None, ◌==◌}
use Rattle.std.proofs.lemmas.Bool.{cases_eq, and_parts, or_cases, eqb-true, ne_eqb, ltb-true, not-false}
use Rattle.bit_words.specs.Digits.{digits}
use Rattle.bit_words.proofs.DigitLaws.{digits-halved}
use Rattle.bit_words.proofs.Finds.{none-find, first_none}
use Rattle.topo_base.specs.SignedEdge.{comes_before}
use Rattle.plane_model.proofs.SortedEdges.{before_rank, before_from}
use Rattle.code_laws.specs.Code.{start_of}
use Rattle.file_laws.specs.Contents.{Contents, component_count}
use Rattle.file_laws.specs.MapOfFile.{signed_at}
use Rattle.file_laws.specs.Faults.{place_fault, order_fault, isolated_fault, places_fault, is_ordered, is_isolated, precedes, isolated_precedes, isolated_id, is_place}
use Rattle.file_laws.specs.Lawful.{is_whole, whole_tests}
use Rattle.file_laws.specs.declared.fault.FileFault.TheVariants as fault
use Rattle.file_laws.proofs.Lengths.{none-is_none}
use Rattle.file_laws.proofs.Agreement.{test_at}
use Rattle.file_laws.proofs.Whole.{option_none, whole_parts}
use Rattle.pemb_file.specs.Milestones.{place_at}

passes : (test : ℕ → Bool) (n : ℕ) → find (λ j. not (test j)) (range_with_len 0 n) ≡ None → (j : ℕ) → j < n → test j ≡ true
passes test n h j l = not-false _ (none-find (λ j. not (test j)) 0 n h j (omega arith) (omega arith))

not_zero : (j : ℕ) → (suc j == 0) ≡ false
not_zero j = ne_eqb (suc j) 0 (λ e. absurd (omega (arith, e)))

-- what one entry says of the one before it
abbrev start_edge : Contents → ℕ → ℤ
start_edge c j = signed_at c (start_of c.code j)

before_parts : (c : Contents) (i j : ℕ) → precedes c i j ≡ true → (slice_index c.places i < slice_index c.places j)
    ⊎ ((slice_index c.places i ≡ slice_index c.places j) × (comes_before (start_edge c i) (start_edge c j) ≡ true))
before_parts c i j h =
    let p = slice_index c.places i in
    let q = slice_index c.places j in
    elim (or_cases (nat_lt p q) ((p == q) && comes_before (start_edge c i) (start_edge c j)) h) [
      | inl l ↦ inl (ltb-true p q l)
      | inr m ↦ let a = and_parts (p == q) (comes_before (start_edge c i) (start_edge c j)) m in inr (eqb-true p q a.0, a.1)
    ]

isolated_parts : (c : Contents) (i j : ℕ) → isolated_precedes c i j ≡ true → (slice_index c.isolated i < slice_index c.isolated j)
    ⊎ ((slice_index c.isolated i ≡ slice_index c.isolated j) × (isolated_id c i < isolated_id c j))
isolated_parts c i j h =
    let p = slice_index c.isolated i in
    let q = slice_index c.isolated j in
    elim (or_cases (nat_lt p q) ((p == q) && nat_lt (isolated_id c i) (isolated_id c j)) h) [
      | inl l ↦ inl (ltb-true p q l)
      | inr m ↦ let a = and_parts (p == q) (nat_lt (isolated_id c i) (isolated_id c j)) m in inr (eqb-true p q a.0, ltb-true (isolated_id c i) (isolated_id c j) a.1)
    ]

module _ (c : Contents) (h : is_whole c ≡ true) where
  parts : (order_fault c ≡ None) × (isolated_fault c ≡ None)
  unfolding is_whole places_fault
  parts =
      let none = none-is_none (places_fault c) (test_at (whole_tests c) 6 h) in
      let a = first_none (option_map (fault.Place 17) (place_fault c)) _ none in
      let b = first_none (option_map (fault.Place 18) (order_fault c)) _ a.1 in
      let d = first_none (option_map (fault.Place 19) (isolated_fault c)) _ b.1 in
      (option_none (fault.Place 18) (order_fault c) b.0, option_none (fault.Place 19) (isolated_fault c) d.0)

  pub many : length c.place_order ≡ component_count c
  many = (whole_parts c h).sizes.orders

  pub component_at : (j : ℕ) → j < length c.place_order → slice_index c.place_order j < component_count c
  component_at j l = let n = many in (whole_parts c h).order j (omega (arith, l, n))

  follows : (j : ℕ) → suc j < length c.place_order → precedes c (slice_index c.place_order j) (slice_index c.place_order (suc j)) ≡ true
  unfolding order_fault
  follows j l =
      let n = many in
      let t = passes (is_ordered c) (component_count c) parts.0 (suc j) (omega (arith, l, n)) in
      let back : suc j - 1 ≡ j = omega arith in
      let p : precedes c (slice_index c.place_order (suc j - 1)) (slice_index c.place_order (suc j)) ≡ true
      = rw (not_zero j) at (and_parts (nat_lt (slice_index c.place_order (suc j)) (component_count c)) (if suc j == 0 then true else precedes c (slice_index c.place_order (suc j - 1)) (slice_index c.place_order (suc j))) t).1 in
      subst (λ x. precedes c (slice_index c.place_order x) (slice_index c.place_order (suc j)) ≡ true) back p

  -- places rise, and at one place signed edges do
  pub rises_by : (i d : ℕ) → i + suc d < length c.place_order
      → (place_at c i < place_at c (i + suc d)) ⊎ ((place_at c i ≡ place_at c (i + suc d)) × (comes_before (start_edge c (slice_index c.place_order i)) (start_edge c (slice_index c.place_order (i + suc d))) ≡ true))
  rises_by i zero l =
      let e : i + suc zero ≡ suc i = omega arith in
      rw e (before_parts c (slice_index c.place_order i) (slice_index c.place_order (suc i)) (follows i (omega (arith, l))))
  rises_by i (suc d) l =
      let e : i + suc (suc d) ≡ suc (i + suc d) = omega arith in
      let one = before_parts c (slice_index c.place_order (i + suc d)) (slice_index c.place_order (suc (i + suc d))) (follows (i + suc d) (omega (arith, l))) in
      let more = rises_by i d (omega (arith, l)) in
      rw e (join more one)
    where
      join : (place_at c i < place_at c (i + suc d)) ⊎ ((place_at c i ≡ place_at c (i + suc d)) × (comes_before (start_edge c (slice_index c.place_order i)) (start_edge c (slice_index c.place_order (i + suc d))) ≡ true))
          → (place_at c (i + suc d) < place_at c (suc (i + suc d))) ⊎ ((place_at c (i + suc d) ≡ place_at c (suc (i + suc d))) × (comes_before (start_edge c (slice_index c.place_order (i + suc d))) (start_edge c (slice_index c.place_order (suc (i + suc d)))) ≡ true))
          → (place_at c i < place_at c (suc (i + suc d))) ⊎ ((place_at c i ≡ place_at c (suc (i + suc d))) × (comes_before (start_edge c (slice_index c.place_order i)) (start_edge c (slice_index c.place_order (suc (i + suc d)))) ≡ true))
      join (inl a) (inl b) = inl (omega (arith, a, b))
      join (inl a) (inr b) = inl (omega (arith, a, b.0))
      join (inr a) (inl b) = inl (omega (arith, a.0, b))
      join (inr a) (inr b) =
          let first = start_edge c (slice_index c.place_order i) in
          let mid = start_edge c (slice_index c.place_order (i + suc d)) in
          let last = start_edge c (slice_index c.place_order (suc (i + suc d))) in
          let x = before_rank first mid a.1 in
          let y = before_rank mid last b.1 in
          inr (a.0 ∙ b.0, before_from first last (omega (arith, x, y)))

  pub places_rise : (i j : ℕ) → i ≤ j → j < length c.place_order → place_at c i ≤ place_at c j
  places_rise i j l below =
      elim (cases_eq i j) [
        | inl e ↦ rw e (omega arith)
        | inr n ↦
            let d = j - i - 1 in
            let at : i + suc d ≡ j = omega (arith, l, n) in
            let r = rises_by i d (omega (arith, at, below)) in
            subst (λ x. place_at c i ≤ place_at c x) at (elim r [ inl a ↦ omega (arith, a) | inr b ↦ omega (arith, b.0) ])
      ]

  pub edges_rise : (i j : ℕ) → i < j → j < length c.place_order → place_at c i ≡ place_at c j → comes_before (start_edge c (slice_index c.place_order i)) (start_edge c (slice_index c.place_order j)) ≡ true
  edges_rise i j l below same =
      let d = j - i - 1 in
      let at : i + suc d ≡ j = omega (arith, l) in
      let r = rises_by i d (omega (arith, at, below)) in
      let same' : place_at c i ≡ place_at c (i + suc d) = same ∙ ap (place_at c) (sym at) in
      subst (λ x. comes_before (start_edge c (slice_index c.place_order i)) (start_edge c (slice_index c.place_order x)) ≡ true) at
      (elim r [ inl a ↦ absurd (omega (arith, a, same')) | inr b ↦ b.1 ])

  -- isolated nodes in the same way
  node_follows : (j : ℕ) → suc j < length c.isolated → isolated_precedes c j (suc j) ≡ true
  unfolding isolated_fault
  node_follows j l =
      let t = passes (is_isolated c) (length c.isolated) parts.1 (suc j) l in
      let back : suc j - 1 ≡ j = omega arith in
      let p : isolated_precedes c (suc j - 1) (suc j) ≡ true = rw (not_zero j) at (and_parts (is_place c (slice_index c.isolated (suc j))) (if suc j == 0 then true else isolated_precedes c (suc j - 1) (suc j)) t).1 in
      subst (λ x. isolated_precedes c x (suc j) ≡ true) back p

  nodes_by : (i d : ℕ) → i + suc d < length c.isolated
      → (slice_index c.isolated i < slice_index c.isolated (i + suc d)) ⊎ ((slice_index c.isolated i ≡ slice_index c.isolated (i + suc d)) × (isolated_id c i < isolated_id c (i + suc d)))
  nodes_by i zero l =
      let e : i + suc zero ≡ suc i = omega arith in
      rw e (isolated_parts c i (suc i) (node_follows i (omega (arith, l))))
  nodes_by i (suc d) l =
      let e : i + suc (suc d) ≡ suc (i + suc d) = omega arith in
      let one = isolated_parts c (i + suc d) (suc (i + suc d)) (node_follows (i + suc d) (omega (arith, l))) in
      let more = nodes_by i d (omega (arith, l)) in
      rw e (join more one)
    where
      join : (slice_index c.isolated i < slice_index c.isolated (i + suc d)) ⊎ ((slice_index c.isolated i ≡ slice_index c.isolated (i + suc d)) × (isolated_id c i < isolated_id c (i + suc d)))
          → (slice_index c.isolated (i + suc d) < slice_index c.isolated (suc (i + suc d))) ⊎ ((slice_index c.isolated (i + suc d) ≡ slice_index c.isolated (suc (i + suc d))) × (isolated_id c (i + suc d) < isolated_id c (suc (i + suc d))))
          → (slice_index c.isolated i < slice_index c.isolated (suc (i + suc d))) ⊎ ((slice_index c.isolated i ≡ slice_index c.isolated (suc (i + suc d))) × (isolated_id c i < isolated_id c (suc (i + suc d))))
      join (inl a) (inl b) = inl (omega (arith, a, b))
      join (inl a) (inr b) = inl (omega (arith, a, b.0))
      join (inr a) (inl b) = inl (omega (arith, a.0, b))
      join (inr a) (inr b) = inr (a.0 ∙ b.0, omega (arith, a.1, b.1))

  pub nodes_rise : (i j : ℕ) → i ≤ j → j < length c.isolated → slice_index c.isolated i ≤ slice_index c.isolated j
  nodes_rise i j l below =
      elim (cases_eq i j) [
        | inl e ↦ rw e (omega arith)
        | inr n ↦
            let d = j - i - 1 in
            let at : i + suc d ≡ j = omega (arith, l, n) in
            let r = nodes_by i d (omega (arith, at, below)) in
            subst (λ x. slice_index c.isolated i ≤ slice_index c.isolated x) at (elim r [ inl a ↦ omega (arith, a) | inr b ↦ omega (arith, b.0) ])
      ]

  pub ids_rise : (i j : ℕ) → i < j → j < length c.isolated → slice_index c.isolated i ≡ slice_index c.isolated j → isolated_id c i < isolated_id c j
  ids_rise i j l below same =
      let d = j - i - 1 in
      let at : i + suc d ≡ j = omega (arith, l) in
      let r = nodes_by i d (omega (arith, at, below)) in
      let same' : slice_index c.isolated i ≡ slice_index c.isolated (i + suc d) = same ∙ ap (slice_index c.isolated) (sym at) in
      subst (λ x. isolated_id c i < isolated_id c x) at
      (elim r [ inl a ↦ absurd (omega (arith, a, same')) | inr b ↦ b.1 ])

pub lower_half : (low high : ℕ) → low < high → digits (low + (high - low) / 2 - low) + 1 ≤ digits (high - low)
lower_half low high l = digits-halved (low + (high - low) / 2 - low) (high - low) (omega arith) (omega arith)

pub upper_half : (low high : ℕ) → low < high → digits (high - (low + (high - low) / 2 + 1)) + 1 ≤ digits (high - low)
upper_half low high l = digits-halved (high - (low + (high - low) / 2 + 1)) (high - low) (omega arith) (omega arith)
