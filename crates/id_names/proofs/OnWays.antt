-- What lies on the ways from marks, and on short cycles, and that it is nowhere counted twice.
use Rattle.std.specs.Option.{is_some}
use Rattle.std.proofs.Common.{◌≡◌, ℕ, zero, suc, ◌+◌, ◌-◌, ◌<◌, ◌≤◌, inl, inr, Bool, true, false, List, length, get_or, refl, ap, sym, subst, ◌∙◌, arith, None}
use Rattle.std.proofs.lemmas.Bool.{cases_lt, cases_order, both_ways}
use Rattle.id_names.specs.Faults.{is_ordered, first_failing}
use Rattle.id_names.specs.Inverse.{walk, back_from, stride, number_at}
use Rattle.id_names.specs.Ways.{after, is_marked, IsWay, IsShortCycle, IsOnWay, IsOnCycle, AreMany}
use Rattle.id_names.proofs.FoundAlong.{after_after, found_along, found_jump, IsFound, none_fails}
use Rattle.id_names.proofs.Many.{none_yet, carried, joined}

module _ (places : List ℕ) (marks : List Bool) (back : List ℕ) where
  -- the first mark from a number on stands at one distance
  one_first : (y far other : ℕ) → ((k : ℕ) → k < far → is_marked places marks k y ≡ false) → is_marked places marks far y ≡ true → ((k : ℕ) → k < other → is_marked places marks k y ≡ false) → is_marked places marks other y ≡ true → far ≡ other
  one_first y far other free marked free' marked' = elim (cases_order far other) [
    | inl same ↦ same
    | inr (inl less) ↦ absurd (both_ways _ (free' far less) marked)
    | inr (inr more) ↦ absurd (both_ways _ (free other more) marked')
  ]

  -- a place on the way from a mark
  abbrev IsFrom : ℕ → ℕ → Type 0
  IsFrom mark y = (on : IsOnWay places marks back (mark + 1) y) × (back_from marks back (after places on.far y) ≡ mark)

  module _ (mark count : ℕ) (way : IsWay places marks back mark count) where
    shift : (i k : ℕ) → after places k (after places (i + 1) mark) ≡ after places (k + (i + 1)) mark
    shift i k = after_after places k (i + 1) mark

    far_is : (i : ℕ) → i < count → after places (count - (i + 1)) (after places (i + 1) mark) ≡ after places count mark
    far_is i h = let e : count - (i + 1) + (i + 1) ≡ count = omega arith in shift i (count - (i + 1)) ∙ ap (λ n. after places n mark) e

    points_back : (i : ℕ) → i < count → back_from marks back (after places (count - (i + 1)) (after places (i + 1) mark)) ≡ mark
    points_back i h = ap (back_from marks back) (far_is i h) ∙ way.points

    free_on : (i : ℕ) → i < count → (k : ℕ) → k < count - (i + 1) → is_marked places marks k (after places (i + 1) mark) ≡ false
    free_on i h k l = ap (λ y. get_or marks y false) (shift i k) ∙ way.free (k + (i + 1)) (omega arith) (omega arith)

    marked_on : (i : ℕ) → i < count → is_marked places marks (count - (i + 1)) (after places (i + 1) mark) ≡ true
    marked_on i h = ap (λ y. get_or marks y false) (far_is i h) ∙ way.marked

    found_on : (i : ℕ) → i < count → is_some (number_at places marks back (after places (i + 1) mark)) ≡ true
    found_on i h =
        let y = after places (i + 1) mark in
        let far = count - (i + 1) in
        let tests = stride (length places) + 1 in
        let few = way.few in
        found_jump places marks back y far tests y (omega arith)
        (λ k l. subst (λ y. y < length places) (sym (shift i k)) (way.within (k + (i + 1)) (omega arith)))
        (free_on i h)
        (marked_on i h)
        (ap (λ x. is_some (walk places marks back y (tests - far - 1) false x)) (points_back i h)
        ∙ found_along places marks back y i (tests - far - 1) mark false (omega arith) (λ k l. way.within k (omega arith)) (λ k l. refl) refl)

    way_place : (i : ℕ) → i < count → IsFrom mark (after places (i + 1) mark)
    way_place i h = (
      record {
        within = way.within (i + 1) (omega arith);
        found = found_on i h;
        far = count - (i + 1);
        free = free_on i h;
        marked = marked_on i h;
        before = omega (arith, points_back i h);
      },
      points_back i h,
    )

    way_many : AreMany (IsFrom mark) count
    way_many = record {
      item = λ i. after places (i + 1) mark;
      each = way_place;
      once = λ i j h l e.
          let marked_there : is_marked places marks (count - (j + 1)) (after places (i + 1) mark) ≡ true = subst (λ y. is_marked places marks (count - (j + 1)) y ≡ true) (sym e) (marked_on j l) in
          let free_there : (k : ℕ) → k < count - (j + 1) → is_marked places marks k (after places (i + 1) mark) ≡ false = subst (λ y. (k : ℕ) → k < count - (j + 1) → is_marked places marks k y ≡ false) (sym e) (free_on j l) in
          let same = one_first (after places (i + 1) mark) (count - (i + 1)) (count - (j + 1)) (free_on i h) (marked_on i h) free_there marked_there in
          omega arith;
    }

  from_apart : (mark y : ℕ) → IsOnWay places marks back mark y → IsFrom mark y → ⊥
  from_apart mark y on from =
      let same = one_first y on.far from.0.far on.free on.marked from.0.free from.0.marked in
      let pointer : back_from marks back (after places on.far y) ≡ mark = ap (λ n. back_from marks back (after places n y)) same ∙ from.1 in
      omega (arith, on.before, pointer)

  way_wider : (bound wider y : ℕ) → bound ≤ wider → IsOnWay places marks back bound y → IsOnWay places marks back wider y
  way_wider bound wider y h on = record {
    within = on.within;
    found = on.found;
    far = on.far;
    free = on.free;
    marked = on.marked;
    before = omega (arith, on.before, h);
  }

  -- the ways from the marks below a bound are those below a wider one, where no more are counted
  pub ways_kept : (bound wider sum : ℕ) → bound ≤ wider → AreMany (IsOnWay places marks back bound) sum → AreMany (IsOnWay places marks back wider) sum
  ways_kept bound wider sum h before = carried (IsOnWay places marks back bound) (IsOnWay places marks back wider) sum (λ y. way_wider bound wider y h) before

  -- the ways from the marks below one, and from that one
  pub ways_more : (mark bound sum count : ℕ) → mark < bound → AreMany (IsOnWay places marks back mark) sum → IsWay places marks back mark count → AreMany (IsOnWay places marks back bound) (sum + count)
  ways_more mark bound sum count h before way =
      joined (IsOnWay places marks back mark) (IsFrom mark) (IsOnWay places marks back bound) sum count before (way_many mark count way) (from_apart mark)
      (λ y. way_wider mark bound y (omega arith)) (λ y from. way_wider (mark + 1) bound y (omega arith) from.0)

  -- a place in the cycle of its least number
  abbrev IsIn : ℕ → ℕ → Type 0
  IsIn least y = (on : IsOnCycle places marks back (least + 1) y) × (after places on.far y ≡ least)

  module _ (least count : ℕ) (cycle : IsShortCycle places marks least count) where
    -- whatever steps lead to is in the cycle
    around : (k : ℕ) → (i : ℕ) × (i < count) × (after places k least ≡ after places i least)
    around zero = (0, cycle.some, refl)
    around (suc k) =
        let r = around k in
        let l : r.0 < count = r.1 in
        elim (cases_lt (suc r.0) count) [
          | inl more ↦ (suc r.0, more, ap (λ y. get_or places y 0) r.2)
          | inr last ↦
              let e : suc r.0 ≡ count = omega arith in
              (0, cycle.some, ap (λ y. get_or places y 0) r.2 ∙ ap (λ n. after places n least) e ∙ cycle.ends)
        ]

    turn : (i k : ℕ) → (r : ℕ) × (r < count) × (after places k (after places i least) ≡ after places r least)
    turn i k = let r = around (k + i) in (r.0, r.1, after_after places k i least ∙ r.2)

    comes_back : (i : ℕ) → i < count → after places (count - i) (after places i least) ≡ least
    comes_back i h = let e : count - i + i ≡ count = omega arith in after_after places (count - i) i least ∙ ap (λ n. after places n least) e ∙ cycle.ends

    all_round : (i : ℕ) → after places count (after places i least) ≡ after places i least
    all_round i =
        let e : count + i ≡ i + count = omega arith in
        after_after places count i least ∙ ap (λ n. after places n least) e ∙ sym (after_after places i count least) ∙ ap (after places i) cycle.ends

    free_in : (i k : ℕ) → is_marked places marks k (after places i least) ≡ false
    free_in i k = let r = turn i k in ap (λ y. get_or marks y false) r.2 ∙ cycle.free r.0 r.1

    within_in : (i k : ℕ) → after places k (after places i least) < length places
    within_in i k = let r = turn i k in subst (λ y. y < length places) (sym r.2) (cycle.within r.0 r.1)

    least_at : (r : ℕ) → r < count → least ≤ after places r least
    least_at zero h = omega arith
    least_at (suc r) h = let l = cycle.above (suc r) (omega arith) h in omega arith

    least_in : (i k : ℕ) → least ≤ after places k (after places i least)
    least_in i k = let r = turn i k in subst (λ y. least ≤ y) (sym r.2) (least_at r.0 r.1)

    found_in : (i : ℕ) → i < count → is_some (number_at places marks back (after places i least)) ≡ true
    found_in i h =
        let y = after places i least in
        let few = cycle.few in
        let e : count - 1 + 1 ≡ count = omega arith in
        found_along places marks back y (count - 1) (stride (length places) + 1) y true (omega arith) (λ k l. within_in i k) (λ k l. free_in i k) (ap (λ n. after places n y) e ∙ all_round i)

    cycle_place : (i : ℕ) → i < count → IsIn least (after places i least)
    cycle_place i h = (
      record {
        within = within_in i 0;
        found = found_in i h;
        free = free_in i;
        far = count - i;
        least = λ k. omega (arith, comes_back i h, least_in i k);
        before = omega (arith, comes_back i h);
      },
      comes_back i h,
    )

    no_return : (i j : ℕ) → i < j → j < count → after places i least ≡ after places j least → ⊥
    no_return i j l h e =
        let back_at : after places (count - j + i) least ≡ least = sym (after_after places (count - j) i least) ∙ ap (after places (count - j)) e ∙ comes_back j h in
        let above = cycle.above (count - j + i) (omega arith) (omega arith) in
        omega (arith, back_at, above)

    cycle_many : AreMany (IsIn least) count
    cycle_many = record {
      item = λ i. after places i least;
      each = cycle_place;
      once = λ i j h l e. elim (cases_order i j) [
        | inl same ↦ same
        | inr (inl less) ↦ absurd (no_return i j less l e)
        | inr (inr more) ↦ absurd (no_return j i more h (sym e))
      ];
    }

  in_apart : (least y : ℕ) → IsOnCycle places marks back least y → IsIn least y → ⊥
  in_apart least y on own = omega (arith, on.before, own.0.least on.far, own.1)

  cycle_wider : (least y : ℕ) → IsOnCycle places marks back least y → IsOnCycle places marks back (least + 1) y
  cycle_wider least y on = record {
    within = on.within;
    found = on.found;
    free = on.free;
    far = on.far;
    least = on.least;
    before = omega (arith, on.before);
  }

  cycle_or_none : (least count : ℕ) → (1 ≤ count → IsShortCycle places marks least count) → AreMany (IsIn least) count
  cycle_or_none least count cycle = elim (cases_lt 0 count) [
    | inl some ↦ cycle_many least count (cycle some)
    | inr none ↦ let e : 0 ≡ count = omega arith in subst (AreMany (IsIn least)) e (none_yet (IsIn least))
  ]

  -- the cycles whose least number is below one, and that of this one
  pub cycles_more : (least sum count : ℕ) → AreMany (IsOnCycle places marks back least) sum → (1 ≤ count → IsShortCycle places marks least count) → AreMany (IsOnCycle places marks back (least + 1)) (sum + count)
  cycles_more least sum count before cycle =
      joined (IsOnCycle places marks back least) (IsIn least) (IsOnCycle places marks back (least + 1)) sum count before (cycle_or_none least count cycle) (in_apart least) (cycle_wider least) (λ y own. own.0)

  -- where both make all places, no number fails
  pub all_counted : (ways cycles : ℕ) → AreMany (IsOnWay places marks back (length places)) ways → AreMany (IsOnCycle places marks back (length places)) cycles → ways + cycles ≡ length places → first_failing (is_ordered places (number_at places marks back)) (length places) ≡ None
  all_counted ways cycles on_ways on_cycles e =
      let n = length places in
      none_fails places marks back (subst (AreMany (IsFound places marks back)) e
      (joined (IsOnWay places marks back n) (IsOnCycle places marks back n) (IsFound places marks back) ways cycles on_ways on_cycles
      (λ y way cycle. both_ways _ (cycle.free way.far) way.marked) (λ y way. (way.within, way.found)) (λ y cycle. (cycle.within, cycle.found))))
