-- Where regions open, and the parentheses that open there.
use Rattle.std.specs.Prelude.{ℤ, pos, ◌+ℤ◌, ◌-ℤ◌, ◌<ℤ◌, ◌≤ℤ◌, option_map, slice_index, nat_lt, replicate, unwrap_or}
use Rattle.std.specs.List.{range_with_len}
use Rattle.std.proofs.Common.{◌≡◌, ◌≢◌, ℕ, zero, suc, ◌+◌, ◌*◌, ◌<◌, ◌≤◌, ◌⊎◌, inl, inr, Bool, true, false, ◌&&◌, ◌==◌, List, [], ◌∷◌, ◌++◌, length, map, set, get_or, refl, ap, sym, ◌∙◌, arith, subst, Option, Some, None}
use Rattle.std.proofs.lemmas.Bool.{cases_lt, cases_Bool, lt-ltb, le-ltb, both_ways, and_from, eq-eqb, eqb-true}
use Rattle.std.proofs.lemmas.Int.{ints}
use Rattle.std.proofs.lemmas.List.{ext_get_or, get_or-set_same, get_or-set_other, length-set, length-replicate}
use Rattle.std.proofs.lemmas.List.FromFn.{get_or-map-range_with_len}
use Rattle.bit_words.specs.Bits.{rank, excess}
use Rattle.bit_words.proofs.Ranks.{rank_both, rank_more_yes, rank-le-rank}
use Rattle.rank_select.proofs.Selects.{select-placed}
use Rattle.min_max_tree.proofs.Falls.{excess-ranks}
use Rattle.parens.specs.Matching.{is_open, innermost}
use Rattle.parens.proofs.Balances.{IsBalanced}
use Rattle.parens.proofs.Arcs.{IsLastAt, last_at, excess-zero, open_where_up}
use Rattle.parens.proofs.Enclosing.{last-innermost}
use Rattle.code_laws.proofs.Apart.{fewer}
use Rattle.code_laws.proofs.Edges.{closed}
use Rattle.region_tree.specs.Nesting.{opening, parent_number}
use Rattle.region_tree.proofs.Opened.{opening-rank, parent-rank}
use Rattle.file_parts.specs.Opened.{opened_by}
use Rattle.file_parts.proofs.Taken.{mapped_more}

-- where a region opens
pub record OpensAt (bits : List Bool) (x i : ℕ) : Type 0 where
  pub is : opening bits x ≡ i
  pub within : i < length bits
  pub opens : is_open bits i ≡ true
  pub rank : rank true bits i ≡ x

pub opens_at : (bits : List Bool) (x : ℕ) → x < rank true bits (length bits) → (i : ℕ) × OpensAt bits x i
opens_at bits x l =
    let q = select-placed true bits x l in
    (q.0, record { is = ap (λ o. unwrap_or o 0) q.1; within = q.2.within; opens = q.2.kind; rank = q.2.rank })

-- the innermost pair round a gap is one lower than the gap
pub record IsUnder (bits : List Bool) (gap j : ℕ) : Type 0 where
  pub is : innermost bits gap ≡ Some j
  pub opens : is_open bits j ≡ true
  pub within : j < gap
  pub level : excess bits j +ℤ pos 1 ≡ excess bits gap

last_from : (bits : List Bool) (t : ℤ) (gap : ℕ) → gap ≤ length bits → excess bits 0 ≤ℤ t → t <ℤ excess bits gap → (p : ℕ) × IsLastAt bits t 0 gap p
last_from bits t gap within low high =
    let e : gap ≡ 0 + gap = omega arith in
    subst (λ n. (p : ℕ) × IsLastAt bits t 0 n p) (sym e) (last_at bits t 0 gap (omega (arith, within)) low (subst (λ n. t <ℤ excess bits n) e high))

module _ (bits : List Bool) (b : IsBalanced bits) where
  -- no pair is round a gap of excess 0, and one is round any other
  pub levels : (gap : ℕ) → gap ≤ length bits → ((innermost bits gap ≡ None) × (excess bits gap ≡ pos 0)) ⊎ ((j : ℕ) × IsUnder bits gap j)
  levels gap within =
      let ranks = excess-ranks bits gap within in
      let low = b.low gap within in
      elim (cases_lt gap (2 * rank true bits gap)) [
        | inl up ↦
            let zero = excess-zero bits in
            let l = last_from bits (excess bits gap -ℤ pos 1) gap within (omega (arith, ints, zero, ranks, up)) (omega (arith, ints)) in
            let is : Some l.0 ≡ innermost bits gap =
            last-innermost bits gap b within (Some l.0) (omega arith, l.1.before, l.1.here, λ q a h e. let v = l.1.above q a (omega (arith, h)) in absurd (omega (arith, ints, v, e))) in
            let next = l.1.above (l.0 + 1) (omega arith) (let d = l.1.before in omega (arith, d)) in
            let here = l.1.here in
            inr (
              l.0,
              record {
                is = sym is;
                opens = open_where_up bits l.0 (let d = l.1.before in omega (arith, d, within)) (omega (arith, ints, next, here));
                within = l.1.before;
                level = omega (arith, ints, here);
              },
            )
        | inr flat ↦
            let e : excess bits gap ≡ pos 0 = omega (arith, ints, ranks, low, flat) in
            inl (
              sym (last-innermost bits gap b within None (λ q a h s. let v = b.low q (omega (arith, h, within)) in absurd (omega (arith, ints, v, s, e)))),
              e,
            )
      ]

  -- a region opens where its parent and its number say
  pub opening_is : (openings : List ℕ) (x : ℕ) → x < rank true bits (length bits) → ((y : ℕ) → y < x → slice_index openings y ≡ opening bits y) → opening bits x ≡ opened_by openings x (parent_number bits x)
  opening_is openings x l known =
      let o = opens_at bits x l in
      let i = o.0 in
      let within = o.1.within in
      let ranks = excess-ranks bits i (omega (arith, within)) in
      let number = o.1.rank in
      let parent : parent_number bits x ≡ option_map (rank true bits) (innermost bits i) = ap (parent_number bits) (sym number) ∙ parent-rank bits i o.1.opens in
      elim (levels i (omega (arith, within))) [
        | inl root ↦
            let none : parent_number bits x ≡ None = parent ∙ ap (option_map (rank true bits)) root.0 in
            let flat = root.1 in
            rw none (o.1.is ∙ omega (arith, ints, ranks, number, flat))
        | inr under ↦
            let j = under.0 in
            let some : parent_number bits x ≡ Some (rank true bits j) = parent ∙ ap (option_map (rank true bits)) under.1.is in
            let before = under.1.within in
            let there = excess-ranks bits j (omega (arith, within, before)) in
            let less = fewer bits b j i before (omega (arith, within)) under.1.opens in
            let at : slice_index openings (rank true bits j) ≡ j = known (rank true bits j) (omega (arith, less, number)) ∙ opening-rank bits j under.1.opens in
            let level = under.1.level in
            rw some (o.1.is ∙ omega (arith, ints, ranks, number, at, there, level, less))
      ]

  -- two parentheses for each region
  pub two_each : length bits ≡ 2 * rank true bits (length bits)
  two_each = let r = rank_both bits (length bits) (omega arith) in let e = closed bits b in omega (arith, r, e)

  pub opening_within : (x : ℕ) → x < rank true bits (length bits) → opening bits x < length bits
  opening_within x l = let o = opens_at bits x l in let is = o.1.is in let within = o.1.within in omega (arith, is, within)

  -- where the next region opens, from where those before it open
  pub opening_next : (x : ℕ) (openings : List ℕ) → x < rank true bits (length bits) → openings ≡ map (opening bits) (range_with_len 0 x) → opened_by openings x (parent_number bits x) ≡ opening bits x
  opening_next x openings l e =
      sym (opening_is openings x l (λ y h. ap (λ xs. slice_index xs y) e ∙ get_or-map-range_with_len (opening bits) 0 x y y 0 h (omega arith)))

  pub openings_more : (x : ℕ) (openings next : List ℕ) (parent : Option ℕ) (place : ℕ) → x < rank true bits (length bits) → openings ≡ map (opening bits) (range_with_len 0 x)
      → parent ≡ parent_number bits x → place ≡ opened_by openings x parent → next ≡ openings ++ place ∷ [] → next ≡ map (opening bits) (range_with_len 0 (x + 1))
  openings_more x openings next parent place l e p is grown = mapped_more (opening bits) x openings next place e grown (is ∙ ap (opened_by openings x) p ∙ opening_next x openings l e)

-- ---- the parentheses, once the first k regions have opened
pub record HaveOpened (all : List Bool) (k : ℕ) (bits : List Bool) : Type 0 where
  pub many : length bits ≡ length all
  pub bit : (i : ℕ) → get_or bits i false ≡ (get_or all i false && nat_lt (rank true all i) k)

none_set : (n i : ℕ) → get_or (replicate n false) i false ≡ false
none_set zero i = refl
none_set (suc n) zero = refl
none_set (suc n) (suc i) = none_set n i

pub none_opened : (all : List Bool) → HaveOpened all 0 (replicate (length all) false)
none_opened all =
    record {
      many = length-replicate (length all) false;
      bit = λ i. elim (cases_Bool (get_or all i false)) [
        | inl e ↦ none_set (length all) i ∙ rw e (sym (le-ltb (rank true all i) 0 (omega arith)))
        | inr e ↦ none_set (length all) i ∙ rw e refl
      ];
    }

pub one_opened : (all bits : List Bool) (k p : ℕ) → HaveOpened all k bits → OpensAt all k p → HaveOpened all (k + 1) (set bits p true)
one_opened all bits k p h o =
    record {
      many = length-set bits p true ∙ h.many;
      bit = λ i. elim (cases_Bool (i == p)) [
        | inl e ↦ here i (eqb-true i p e)
        | inr e ↦ there i (λ s. both_ways (i == p) e (eq-eqb i p s))
      ];
    }
  where
    here : (i : ℕ) → i ≡ p → get_or (set bits p true) i false ≡ (get_or all i false && nat_lt (rank true all i) (k + 1))
    here i e =
        let set_there : get_or (set bits p true) p false ≡ true = get_or-set_same bits p true false (let m = h.many in let w = o.within in omega (arith, m, w)) in
        let first : nat_lt (rank true all p) (k + 1) ≡ true = lt-ltb (rank true all p) (k + 1) (let r = o.rank in omega (arith, r)) in
        subst (λ j. get_or (set bits p true) j false ≡ (get_or all j false && nat_lt (rank true all j) (k + 1))) (sym e) (set_there ∙ sym (and_from _ _ o.opens first))

    apart : (i : ℕ) → i ≢ p → get_or all i false ≡ true → rank true all i ≢ k
    apart i other opens same = other (sym (opening-rank all i opens) ∙ ap (opening all) same ∙ o.is)

    tests : (i : ℕ) → i ≢ p → get_or all i false ≡ true → nat_lt (rank true all i) k ≡ nat_lt (rank true all i) (k + 1)
    tests i other opens = elim (cases_lt (rank true all i) k) [
      | inl l ↦ lt-ltb (rank true all i) k l ∙ sym (lt-ltb (rank true all i) (k + 1) (omega (arith, l)))
      | inr g ↦ let a = apart i other opens in le-ltb (rank true all i) k g ∙ sym (le-ltb (rank true all i) (k + 1) (omega (arith, g, a)))
    ]

    there : (i : ℕ) → i ≢ p → get_or (set bits p true) i false ≡ (get_or all i false && nat_lt (rank true all i) (k + 1))
    there i other =
        get_or-set_other bits p i true false other ∙ h.bit i ∙ elim (cases_Bool (get_or all i false)) [
          | inl e ↦ rw e (tests i other e)
          | inr e ↦ rw e refl
        ]

pub all_opened : (all bits : List Bool) (k : ℕ) → HaveOpened all k bits → rank true all (length all) ≤ k → bits ≡ all
all_opened all bits k h l =
    ext_get_or false bits all h.many (λ i w. h.bit i ∙ elim (cases_Bool (get_or all i false)) [
      | inl e ↦
          let within : i < length all = let m = h.many in omega (arith, m, w) in
          let up = rank_more_yes true all i false within e in
          let top = rank-le-rank true all (i + 1) (length all) (omega (arith, within)) in
          rw e (lt-ltb (rank true all i) k (omega (arith, up, top, l)))
      | inr e ↦ rw e refl
    ])

-- the place that is listed for a region
pub opens_listed : (all : List Bool) (openings : List ℕ) (n k : ℕ) → openings ≡ map (opening all) (range_with_len 0 n) → n ≤ rank true all (length all) → k < n → OpensAt all k (get_or openings k 0)
opens_listed all openings n k e few l =
    let o = opens_at all k (omega (arith, few, l)) in
    let at : get_or openings k 0 ≡ o.0 = ap (λ xs. get_or xs k 0) e ∙ get_or-map-range_with_len (opening all) 0 n k k 0 l (omega arith) ∙ o.1.is in
    subst (OpensAt all k) (sym at) o.1
