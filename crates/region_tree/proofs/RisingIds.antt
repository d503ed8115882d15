-- The ids of names in rising order are those of their places.
use Rattle.std.specs.Cmp.{both_ways}
use Rattle.std.proofs.Common.{◌≡◌, ℕ, ◌+◌, ◌<◌, ◌≤◌, true, List, length, get_or, ap, sym, subst, ◌∙◌, arith, None}
use Rattle.bit_words.specs.Lists.{tabulate}
use Rattle.bit_words.proofs.BitLists.{length-tabulate, get_or-tabulate}
use Rattle.orbits.proofs.Numbers.{apart_at, has_place, place_in}
use Rattle.plane_model.specs.Sets.{has, is_distinct, rising}
use Rattle.plane_model.specs.Orders.{is_strictly_rising}
use Rattle.plane_model.proofs.Sorting.{strictly_from_increasing, strictly_rising_of}
use Rattle.id_names.specs.Names.{AreDistinctIds}
use Rattle.id_names.specs.Faults.{name_fault}
use Rattle.id_names.specs.RisingNames.{RisingNames, count, id_at, ids_by_number}
use Rattle.id_names.proofs.NameLaws.{length-ids, get_or-ids, ordered, rises, number_there, right_names}

-- ids below a bound are below a greater one
pub wider : (bound more : ℕ) (ids : List ℕ) → bound ≤ more → AreDistinctIds bound ids → AreDistinctIds more ids
wider bound more ids h names = record { in_range = λ k l. let r = names.in_range k l in (r.0, omega (arith, r.1)); distinct = names.distinct }

module _ (p : RisingNames) (high_counts mark_counts : List ℕ) (right : name_fault p high_counts mark_counts ≡ None) where
  abbrev ids : List ℕ
  ids = ids_by_number p

  abbrev by_place : List ℕ
  by_place = tabulate (count p) (id_at p)

  long : length by_place ≡ count p
  long = length-tabulate (count p) (id_at p)

  at_place : (j : ℕ) → j < count p → get_or by_place j 0 ≡ id_at p j
  at_place j h = get_or-tabulate (count p) (id_at p) j 0 h

  strictly : is_strictly_rising by_place ≡ true
  strictly = strictly_from_increasing by_place (λ k l.
      let h : k + 1 < count p = omega (arith, l, long) in
      let r = rises p high_counts mark_counts right k (k + 1) (omega arith) h in
      omega (arith, r, at_place k (omega arith), at_place (k + 1) h))

  apart : is_distinct ids ≡ true
  apart = apart_at ids (λ j k h l e. let same = (right_names p high_counts mark_counts right).distinct j k (omega arith) l e in omega (arith, same))

  members : (x : ℕ) → has by_place x ≡ has ids x
  members x =
      both_ways _ _
      (λ there.
      let j = place_in by_place x there in
      let h : j.0 < count p = omega (arith, j.1, long) in
      let k = number_there p high_counts mark_counts right j.0 h in
      let e : get_or ids k.0 0 ≡ x = get_or-ids p k.0 k.1 ∙ ap (id_at p) k.2 ∙ sym (at_place j.0 h) ∙ j.2 in
      subst (λ y. has ids y ≡ true) e (has_place ids k.0 (omega (arith, k.1, length-ids p))))
      (λ there.
      let k = place_in ids x there in
      let h : k.0 < count p = omega (arith, k.1, length-ids p) in
      let within = (ordered p high_counts mark_counts right k.0 h).within in
      let e : get_or by_place (get_or p.places k.0 0) 0 ≡ x = at_place (get_or p.places k.0 0) within ∙ sym (get_or-ids p k.0 h) ∙ k.2 in
      subst (λ y. has by_place y ≡ true) e (has_place by_place (get_or p.places k.0 0) (omega (arith, within, long))))

  -- the id at a place is that of the rising ids
  pub rising_at : (j : ℕ) → j < count p → get_or (rising ids) j 0 ≡ id_at p j
  rising_at j h = ap (λ xs. get_or xs j 0) (sym (strictly_rising_of ids by_place apart strictly members)) ∙ at_place j h
