-- What is made of ids gives the ids back, and has no fault.
use Rattle.std.specs.Prelude.{not}
use Rattle.std.proofs.Common.{◌≡◌, ℕ, ◌-◌, ◌%◌, ◌^◌, ◌<◌, ◌==◌, Bool, true, List, length, get_or, refl, ap, sym, subst, ◌∙◌, arith, eq-eqb, Some, None}
use Rattle.std.proofs.lemmas.List.{get_or-map, same_lists, get_or_default}
use Rattle.std.proofs.lemmas.List.FromFn.{length-map-range_with_len, get_or-map-range_with_len}
use Rattle.bit_words.specs.Bits.{rank}
use Rattle.bit_words.specs.Lists.{tabulate, first_some}
use Rattle.bit_words.proofs.Finds.{find-none}
use Rattle.rank_select.specs.Counts.{counts_of}
use Rattle.id_names.specs.Cycles.{marked, back_pointers}
use Rattle.id_names.specs.Faults.{wrong_count, other_ones, is_rising, is_ordered, first_failing, name_fault}
use Rattle.id_names.specs.Making.{made, rising, low_parts, high_bits, places_of, spacing}
use Rattle.id_names.specs.Names.{AreDistinctIds}
use Rattle.id_names.specs.RisingNames.{bound_of, id_at, number_at, ids_by_number}
use Rattle.id_names.specs.declared.sorted.Named.{Named}
use Rattle.id_names.proofs.ComesBack.{comes_back}
use Rattle.id_names.proofs.FaultLaws.{failing_none, rising_test, ordered_test}
use Rattle.id_names.proofs.HighLaws.{Fit, ones_high, id_at_place}
use Rattle.id_names.proofs.MadeSizes.{as_many_marks}
use Rattle.id_names.proofs.SortedIds.{AreRising, id_in, number_in, are_places, number_at_place, length-places_of, length-rising, rising_at_place}

module _ (low : ℕ) (ids : List ℕ) (names : AreDistinctIds (bound_of (length ids) low) ids) (entries : List Named) (r : AreRising ids entries) where
  fit : Fit low ids
  fit k h = (names.in_range k h).1

  -- the id at each place
  id_made : (j : ℕ) → j < length ids → id_at (made low ids) j ≡ id_in entries j
  id_made j h =
      let l : j < length (rising ids) = omega (arith, length-rising ids entries r) in
      id_at_place low ids fit entries r j h
      (get_or-map (λ id. id % 2 ^ low) (rising ids) j 0 0 l ∙ ap (λ id. id % 2 ^ low) (rising_at_place ids entries r j h))

  pub ids_back : ids_by_number (made low ids) ≡ ids
  unfolding ids_by_number tabulate
  ids_back =
      let many = length-places_of ids entries r in
      let id_of : ℕ → ℕ = λ k. id_at (made low ids) (get_or (places_of ids) k 0) in
      let size = length-map-range_with_len id_of 0 (length (places_of ids)) in
      same_lists (ids_by_number (made low ids)) ids (size ∙ many) (λ k d h.
      let l : k < length ids = omega arith in
      let n = number_at_place ids entries r k l in
      get_or-map-range_with_len id_of 0 (length (places_of ids)) k k d (omega arith) (omega arith)
      ∙ id_made (get_or (places_of ids) k 0) n.0
      ∙ sym (r.own_id (get_or (places_of ids) k 0) n.0)
      ∙ ap (λ z. get_or ids z 0) n.1
      ∙ get_or_default ids k 0 d l)

  no_wrong_count : (bits : List Bool) → wrong_count bits (counts_of bits) ≡ None
  no_wrong_count bits = find-none (λ j. not (get_or (counts_of bits) j 0 == get_or (counts_of bits) j 0)) 0 (length (counts_of bits)) (λ j a b. ap not (eq-eqb (get_or (counts_of bits) j 0) (get_or (counts_of bits) j 0) refl))

  no_other_ones : (bits : List Bool) (n : ℕ) → rank true bits (length bits) ≡ n → other_ones bits n ≡ None
  no_other_ones bits n e = rw (eq-eqb (rank true bits (length bits)) n e) refl

  all_rising : first_failing (is_rising (bound_of (length (places_of ids)) low) (id_at (made low ids))) (length (places_of ids)) ≡ None
  all_rising =
      let many = length-places_of ids entries r in
      failing_none (is_rising (bound_of (length (places_of ids)) low) (id_at (made low ids))) (length (places_of ids)) (λ j h.
      let l : j < length ids = omega arith in
      let range = names.in_range (number_in entries j) (r.number j l) in
      let own = r.own_id j l in
      let is = id_made j l in
      rising_test (bound_of (length (places_of ids)) low) (id_at (made low ids)) j (record {
        least = omega (arith, range.0);
        within = (let same : bound_of (length (places_of ids)) low ≡ bound_of (length ids) low = ap (λ n. bound_of n low) many in omega (arith, range.1, same));
        above = λ some. (let before = id_made (j - 1) (omega arith) in let up = r.up (j - 1) j (omega arith) l in omega arith);
      }))

  all_ordered : first_failing (is_ordered (places_of ids) (number_at (made low ids))) (length (places_of ids)) ≡ None
  all_ordered =
      let many = length-places_of ids entries r in
      let are = are_places ids entries r in
      failing_none (is_ordered (places_of ids) (number_at (made low ids))) (length (places_of ids)) (λ k h.
      ordered_test (places_of ids) (number_at (made low ids)) k (record {
        within = are.below k h;
        found = subst (λ n. number_at (record { high = high_bits low ids; lows = low_parts low ids; low = low; places = places_of ids; marks = marked (places_of ids) (spacing n); back = back_pointers (places_of ids) (spacing n) }) (get_or (places_of ids) k 0) ≡ Some k) many (comes_back (places_of ids) are k h);
      }))

  pub no_fault : name_fault (made low ids) (counts_of (made low ids).high) (counts_of (made low ids).marks) ≡ None
  unfolding name_fault first_some
  no_fault =
      let ones = no_other_ones (high_bits low ids) (length (places_of ids)) (ones_high low ids fit ∙ sym (length-places_of ids entries r)) in
      rw (no_wrong_count (made low ids).high, ones, all_rising, no_wrong_count (made low ids).marks, no_other_ones (made low ids).marks (length (made low ids).back) (as_many_marks low ids), all_ordered) refl
