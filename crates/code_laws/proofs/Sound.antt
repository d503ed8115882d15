-- What a sound code has.
use Rattle.std.specs.Prelude.{pos, ◌≤ℤ◌, not, find, filter, option_map, drop, slice_index, if◌then◌else◌, nat_lt, nat_le, is_none}
use Rattle.std.proofs.Common.{◌≡◌, ℕ, zero, suc, ◌+◌, ◌-◌, ◌<◌, ◌≤◌, inl, inr, Bool, true, false, ◌&&◌, List, [], ◌∷◌, length, refl, ap, sym, ◌∙◌, arith, subst, Option, Some, None, ◌==◌, add-one, IsTrue}
use Rattle.std.specs.List.{range_with_len}
use Rattle.std.proofs.lemmas.Bool.{cases_lt, cases_Bool, and_parts, eqb-true, eq-eqb, ne_eqb, ltb-true, ltb-false, le-leb, lt-leb, not-false}
use Rattle.std.proofs.lemmas.Int.{ints}
use Rattle.bit_words.specs.Bits.{rank, excess}
use Rattle.bit_words.proofs.Ranks.{rank-zero, rank_both}
use Rattle.bit_words.proofs.Finds.{none-find, first_none}
use Rattle.parens.proofs.Balances.{IsBalanced, end-parts}
use Rattle.parens.specs.Matching.{is_open, close_of, open_of, mate_of, closes_more, balance_fault}
use Rattle.parens.proofs.Arcs.{arc-close, some_close, excess-zero}
use Rattle.code_laws.specs.Code.{Code, is_tree, parens, place, component_of, component_count, start_of, end_of}
use Rattle.code_laws.specs.SeqFault.{is_start, starts_fault, is_balanced_in, balance_fault_of, ones_fault, seq_fault, is_sound}
use Rattle.code_laws.specs.Orbits.{beside, orbit}
use Rattle.code_laws.specs.declared.seq_fault.SeqFault.TheVariants.{Starts, Ones, Tree, Dual}
use Rattle.code_laws.proofs.Places.{mate_placed, place_before, place_next, place_after}
use Rattle.code_laws.proofs.Closers.{some_open}
use Rattle.code_laws.proofs.Steps.{IsIn, HasMate, Opens, Closes, IsWell, numbers_are_orbits}

map_none : {X Y : Type 0} (f : X → Y) (o : Option X) → option_map f o ≡ None → o ≡ None
map_none f None h = refl
map_none f (Some x) h = cc

none-is_none : {X : Type 0} (o : Option X) → is_none o ≡ true → o ≡ None
none-is_none None h = refl
none-is_none (Some x) h = cc

-- the starts rise from 0 to the number of positions, and there is a parenthesis for each position
pub record IsLaidOut (c : Code) : Type 0 where
  pub some : 0 < length c.starts
  pub sizes : length c.tree + length c.dual ≡ length c.a
  pub starts : (j : ℕ) → j < length c.starts → is_start c j ≡ true
  pub ones : rank true c.a (length c.a) ≡ length c.tree

pub record SoundParts (c : Code) : Type 0 where
  pub laid : IsLaidOut c
  pub part : (kind : Bool) (j : ℕ) → j < component_count c → balance_fault (parens c kind) (place c kind (start_of c j)) (place c kind (end_of c j)) ≡ None

ones_none : (c : Code) → ones_fault c ≡ None → rank true c.a (length c.a) ≡ length c.tree
ones_none c h =
    elim (cases_Bool (rank true c.a (length c.a) == length c.tree)) [
      | inl w ↦ eqb-true _ _ w
      | inr f ↦ let no_way : ◌≡◌ {A = Option ℕ} (Some (rank true c.a (length c.a))) None = rw f at h in cc
    ]

part_none : (c : Code) (kind : Bool) → balance_fault_of c kind ≡ None → (j : ℕ) → j < component_count c → balance_fault (parens c kind) (place c kind (start_of c j)) (place c kind (end_of c j)) ≡ None
part_none c kind h j l = none-is_none _ (not-false _ (none-find (λ j. not (is_balanced_in c kind j)) 0 (component_count c) h j (omega arith) (omega (arith, l))))

pub laid_out : (c : Code) → 0 < length c.starts → length c.tree + length c.dual ≡ length c.a → starts_fault c ≡ None → ones_fault c ≡ None → IsLaidOut c
laid_out c some sizes starts ones =
    record {
      some = some;
      sizes = sizes;
      starts = λ j l. not-false _ (none-find (λ j. not (is_start c j)) 0 (length c.starts) starts j (omega arith) (omega (arith, l)));
      ones = ones_none c ones;
    }

pub sound_parts : (c : Code) → is_sound c ≡ true → SoundParts c
unfolding seq_fault
sound_parts c h =
    let b = and_parts (nat_lt 0 (length c.starts) && (length c.tree + length c.dual == length c.a)) (is_none (seq_fault c)) h in
    let a = and_parts (nat_lt 0 (length c.starts)) (length c.tree + length c.dual == length c.a) b.0 in
    let none = none-is_none (seq_fault c) b.1 in
    let f0 = first_none (option_map Starts (starts_fault c)) (option_map Ones (ones_fault c) ∷ option_map Tree (balance_fault_of c true) ∷ option_map Dual (balance_fault_of c false) ∷ []) none in
    let f1 = first_none (option_map Ones (ones_fault c)) (option_map Tree (balance_fault_of c true) ∷ option_map Dual (balance_fault_of c false) ∷ []) f0.1 in
    let f2 = first_none (option_map Tree (balance_fault_of c true)) (option_map Dual (balance_fault_of c false) ∷ []) f1.1 in
    let f3 = first_none (option_map Dual (balance_fault_of c false)) [] f2.1 in
    let starts_none = map_none Starts (starts_fault c) f0.0 in
    let tree_none = map_none Tree (balance_fault_of c true) f2.0 in
    let dual_none = map_none Dual (balance_fault_of c false) f3.0 in
    let part : (kind : Bool) → balance_fault_of c kind ≡ None = λ kind. elim kind as (λ k. balance_fault_of c k ≡ None) [ true ↦ tree_none | false ↦ dual_none ] in
    record {
      laid = laid_out c (ltb-true _ _ a.0) (eqb-true _ _ a.1) starts_none (map_none Ones (ones_fault c) f1.0);
      part = λ kind j l. part_none c kind (part kind) j l;
    }

module _ (c : Code) (s : IsLaidOut c) where
  pub first_start : start_of c 0 ≡ 0
  first_start = let p = and_parts (if 0 == 0 then start_of c 0 == 0 else nat_lt (start_of c (0 - 1)) (start_of c 0)) (if 0 + 1 == length c.starts then start_of c 0 == length c.a else true) (s.starts 0 s.some) in eqb-true _ _ p.0

  pub rises : (j : ℕ) → j < component_count c → start_of c j < end_of c j
  rises j l =
      let p = and_parts (if j + 1 == 0 then start_of c (j + 1) == 0 else nat_lt (start_of c (j + 1 - 1)) (start_of c (j + 1))) (if j + 1 + 1 == length c.starts then start_of c (j + 1) == length c.a else true) (s.starts (j + 1) (omega arith)) in
      let other : (j + 1 == 0) ≡ false = ne_eqb _ _ (λ e. omega (arith, e)) in
      let less : nat_lt (start_of c (j + 1 - 1)) (start_of c (j + 1)) ≡ true = rw other at p.0 in
      let e : j + 1 - 1 ≡ j = omega arith in
      ltb-true _ _ (subst (λ x. nat_lt (start_of c x) (start_of c (j + 1)) ≡ true) e less)

  pub last_start : start_of c (component_count c) ≡ length c.a
  last_start =
      let k = component_count c in
      let p = and_parts (if k == 0 then start_of c k == 0 else nat_lt (start_of c (k - 1)) (start_of c k)) (if k + 1 == length c.starts then start_of c k == length c.a else true) (s.starts k (let x = s.some in omega arith)) in
      let e : (k + 1 == length c.starts) ≡ true = eq-eqb _ _ (let x = s.some in omega arith) in
      eqb-true _ _ (rw e at p.1)

  -- starts rise
  rises_by : (i d : ℕ) → i + d ≤ component_count c → start_of c i ≤ start_of c (i + d)
  rises_by i zero h = let e : i ≡ i + 0 = omega arith in let f : start_of c i ≡ start_of c (i + 0) = ap (start_of c) e in omega (arith, f)
  rises_by i (suc d) h =
      let r = rises_by i d (omega arith) in
      let m = rises (i + d) (omega arith) in
      let e : i + d + 1 ≡ i + suc d = omega arith in
      let f : start_of c (i + d + 1) ≡ start_of c (i + suc d) = ap (start_of c) e in
      omega (arith, r, m, f)

  pub rises_to : (i j : ℕ) → i ≤ j → j ≤ component_count c → start_of c i ≤ start_of c j
  rises_to i j h l = let e : i + (j - i) ≡ j = omega arith in subst (λ x. start_of c i ≤ start_of c x) e (rises_by i (j - i) (omega arith))

  pub start_within : (j : ℕ) → j ≤ component_count c → start_of c j ≤ length c.a
  start_within j h = let r = rises_to j (component_count c) h (omega arith) in let e = last_start in omega (arith, r, e)

  -- all positions together are all parentheses
  pub all_places : (kind : Bool) → place c kind (length c.a) ≡ length (parens c kind)
  all_places true = s.ones
  all_places false = let b = rank_both c.a (length c.a) (omega arith) in omega (arith, b, s.ones, s.sizes)

  pub places_within : (kind : Bool) (p : ℕ) → p ≤ length c.a → place c kind p ≤ length (parens c kind)
  places_within kind p h = let r = place_before c kind p (length c.a) h in let e = all_places kind in omega (arith, r, e)

module _ (c : Code) (s : SoundParts c) where
  -- the excess in a part is not below that at its start, and the same at its end
  part_level : (kind : Bool) (j : ℕ) → j < component_count c → excess (parens c kind) (place c kind (end_of c j)) ≡ excess (parens c kind) (place c kind (start_of c j))
  unfolding balance_fault excess
  part_level kind j l =
      let lo = place c kind (start_of c j) in
      let hi = place c kind (end_of c j) in
      let p = end-parts (find (closes_more (parens c kind) lo) (range_with_len lo (hi - lo)))
      (rank true (parens c kind) hi + rank false (parens c kind) lo == rank false (parens c kind) hi + rank true (parens c kind) lo) hi (s.part kind j l) in
      let e = eqb-true _ _ p.1 in
      omega (arith, ints, e)

  part_low : (kind : Bool) (j q : ℕ) → j < component_count c → place c kind (start_of c j) ≤ q → q ≤ place c kind (end_of c j)
      → excess (parens c kind) (place c kind (start_of c j)) ≤ℤ excess (parens c kind) q
  unfolding balance_fault excess
  part_low kind j q l from to =
      let lo = place c kind (start_of c j) in
      let hi = place c kind (end_of c j) in
      let p = end-parts (find (closes_more (parens c kind) lo) (range_with_len lo (hi - lo)))
      (rank true (parens c kind) hi + rank false (parens c kind) lo == rank false (parens c kind) hi + rank true (parens c kind) lo) hi (s.part kind j l) in
      elim (cases_lt lo q) [
        | inl m ↦
            let f = ltb-false _ _ (none-find (closes_more (parens c kind) lo) lo (hi - lo) p.0 (q - 1) (omega arith) (omega arith)) in
            let e : q - 1 + 1 ≡ q = omega arith in
            let g : rank false (parens c kind) q + rank true (parens c kind) lo ≤ rank true (parens c kind) q + rank false (parens c kind) lo = rw e at f in
            omega (arith, ints, g)
        | inr m ↦
            let e : q ≡ lo = omega arith in
            let t : rank true (parens c kind) q ≡ rank true (parens c kind) lo = ap (rank true (parens c kind)) e in
            let z : rank false (parens c kind) q ≡ rank false (parens c kind) lo = ap (rank false (parens c kind)) e in
            omega (arith, ints, t, z)
      ]

  pub flat : (kind : Bool) (j : ℕ) → j ≤ component_count c → excess (parens c kind) (place c kind (start_of c j)) ≡ pos 0
  flat kind zero h =
      let e : place c kind (start_of c 0) ≡ 0 = ap (place c kind) (first_start c s.laid) ∙ rank-zero kind c.a in
      ap (excess (parens c kind)) e ∙ excess-zero (parens c kind)
  flat kind (suc j) h =
      let goal : excess (parens c kind) (place c kind (start_of c (j + 1))) ≡ pos 0 = part_level kind j (omega arith) ∙ flat kind j (omega arith) in
      rw add-one at goal

  low_to : (kind : Bool) (j q : ℕ) → j ≤ component_count c → q ≤ place c kind (start_of c j) → pos 0 ≤ℤ excess (parens c kind) q
  low_to kind zero q h l =
      let e : place c kind (start_of c 0) ≡ 0 = ap (place c kind) (first_start c s.laid) ∙ rank-zero kind c.a in
      let z : q ≡ 0 = omega (arith, l, e) in
      let x : excess (parens c kind) q ≡ pos 0 = ap (excess (parens c kind)) z ∙ excess-zero (parens c kind) in
      omega (arith, ints, x)
  low_to kind (suc j) q h l =
      let e : start_of c (suc j) ≡ start_of c (j + 1) = ap (start_of c) (omega arith) in
      let f : place c kind (start_of c (suc j)) ≡ place c kind (start_of c (j + 1)) = ap (place c kind) e in
      elim (cases_lt (place c kind (start_of c j)) q) [
        | inl m ↦ let v = part_low kind j q (omega arith) (omega arith) (omega (arith, l, f)) in let z = flat kind j (omega arith) in omega (arith, ints, v, z)
        | inr m ↦ low_to kind j q (omega arith) m
      ]

  pub whole : (kind : Bool) → IsBalanced (parens c kind)
  whole kind =
      let k = component_count c in
      let at_end : place c kind (start_of c k) ≡ length (parens c kind) = ap (place c kind) (last_start c s.laid) ∙ all_places c s.laid kind in
      let z : excess (parens c kind) (length (parens c kind)) ≡ pos 0 = ap (excess (parens c kind)) (sym at_end) ∙ flat kind k (omega arith) in
      record {
        low = λ p h. low_to kind k p (omega arith) (omega (arith, h, at_end));
        end = z;
      }

  -- each position is in one component
  in_below : (p j : ℕ) → p < start_of c j → j ≤ component_count c → (m : ℕ) × (m < j) × (start_of c m ≤ p) × (p < end_of c m)
  in_below p zero l h = let e = first_start c s.laid in absurd (omega (arith, l, e))
  in_below p (suc j) l h =
      let e : start_of c (suc j) ≡ start_of c (j + 1) = ap (start_of c) (omega arith) in
      elim (cases_lt p (start_of c j)) [
        | inl m ↦ let r = in_below p j m (omega arith) in (r.0, omega (arith, r.1), r.2, r.3)
        | inr m ↦ (j, omega arith, m, omega (arith, l, e))
      ]

  -- as many starts after the first are at most p as the component's number says
  count_at : (xs : List ℕ) (p m : ℕ) → m ≤ length xs → ((i : ℕ) → i < m → slice_index xs i ≤ p) → ((i : ℕ) → m ≤ i → i < length xs → p < slice_index xs i)
      → length (filter (λ s. nat_le s p) xs) ≡ m
  count_at [] p m h low high = omega (arith, h)
  count_at (x ∷ xs) p zero h low high =
      rw (lt-leb x p (high 0 (omega arith) (omega arith)))
      (count_at xs p 0 (omega arith) (λ i l. absurd (omega arith)) (λ i l n. let v : p < slice_index (x ∷ xs) (suc i) = high (suc i) (omega arith) (omega arith) in v))
  count_at (x ∷ xs) p (suc m) h low high =
      rw (le-leb x p (low 0 (omega arith)))
      (ap suc (count_at xs p m (omega arith) (λ i l. let v : slice_index (x ∷ xs) (suc i) ≤ p = low (suc i) (omega arith) in v) (λ i l n. let v : p < slice_index (x ∷ xs) (suc i) = high (suc i) (omega arith) (omega arith) in v)))

  tail_index : (xs : List ℕ) (i : ℕ) → slice_index (drop 1 xs) i ≡ slice_index xs (i + 1)
  tail_index [] i = refl
  tail_index (x ∷ xs) i = rw add-one refl

  tail_length : (xs : List ℕ) → length (drop 1 xs) ≡ length xs - 1
  tail_length [] = refl
  tail_length (x ∷ xs) = omega arith

  pub is_component : (p m : ℕ) → m < component_count c → start_of c m ≤ p → p < end_of c m → component_of c p ≡ m
  unfolding component_of
  is_component p m l from to =
      let t = tail_length c.starts in
      count_at (drop 1 c.starts) p m (omega (arith, t, l))
      (λ i h. let e = tail_index c.starts i in let r = rises_to c s.laid (i + 1) m (omega arith) (omega (arith, l)) in omega (arith, e, r, from))
      (λ i h n. let e = tail_index c.starts i in let r = rises_to c s.laid (m + 1) (i + 1) (omega arith) (omega (arith, n, t)) in omega (arith, e, r, to))

  pub in_one : (p : ℕ) → p < length c.a → (m : ℕ) × IsIn c p m
  in_one p h =
      let e = last_start c s.laid in
      let r = in_below p (component_count c) (omega (arith, h, e)) (omega arith) in
      (r.0, record { count = r.1; from = r.2; to = r.3; within = start_within c s.laid (r.0 + 1) (omega (arith, r.1)); is = is_component p r.0 r.1 r.2 r.3 })

  pub mate_is : (kind : Bool) (i j : ℕ) → is_open (parens c kind) i ≡ true → close_of (parens c kind) i ≡ Some j → mate_of (parens c kind) i ≡ j
  unfolding mate_of
  mate_is kind i j opens e = rw opens (rw e refl)

  pub mate_back : (kind : Bool) (i j : ℕ) → is_open (parens c kind) i ≡ false → open_of (parens c kind) i ≡ Some j → mate_of (parens c kind) i ≡ j
  unfolding mate_of
  mate_back kind i j closes e = rw closes (rw e refl)

  mates_at : (kind : Bool) (p m : ℕ) → IsIn c p m → is_tree c p ≡ kind → (o : Option ℕ) → close_of (parens c kind) (place c kind p) ≡ o → is_open (parens c kind) (place c kind p) ≡ true → HasMate c kind p m
  mates_at kind p m i is None e opens =
      let n = place_next c kind p (omega (arith, i.to, i.within)) is in
      let w = places_within c s.laid kind (p + 1) (omega (arith, i.to, i.within)) in
      absurd (some_close (parens c kind) (place c kind p) (whole kind) opens e)
  mates_at kind p m i is (Some j) e opens =
      let p_in : p < length c.a = omega (arith, i.to, i.within) in
      let n = place_next c kind p p_in is in
      let w = places_within c s.laid kind (p + 1) (omega (arith, p_in)) in
      let arc = arc-close (parens c kind) (place c kind p) j opens (omega (arith, n, w)) e in
      let all = all_places c s.laid kind in
      let mp = mate_placed c kind p (place c kind p) j is refl (mate_is kind (place c kind p) j opens e) (omega (arith, arc.within, all)) in
      let q = mp.0 in
      let k = mp.1 in
      let order : p < q = elim (cases_lt p q) [ inl l ↦ l | inr g ↦ let v = place_before c kind q p g in absurd (omega (arith, v, k.at_place, arc.order)) ] in
      let inside : q < end_of c m =
      elim (cases_lt q (end_of c m)) [
        | inl l ↦ l
        | inr g ↦
            let v = place_before c kind (end_of c m) q g in
            let u = place_after c kind p (end_of c m) p_in is i.to in
            let above = arc.above (place c kind (end_of c m)) (omega (arith, u)) (omega (arith, v, k.at_place)) in
            let z = flat kind (m + 1) (omega (arith, i.count)) in
            let low = (whole kind).low (place c kind p) (omega (arith, n, w)) in
            absurd (omega (arith, ints, above, z, low))
      ] in
      Opens q j arc k order inside

  pub mates : (kind : Bool) (p m : ℕ) → IsIn c p m → is_tree c p ≡ kind → HasMate c kind p m
  mates kind p m i is =
      elim (cases_Bool (is_open (parens c kind) (place c kind p))) [
        | inl opens ↦ mates_at kind p m i is (close_of (parens c kind) (place c kind p)) refl opens
        | inr closes ↦
            let p_in : p < length c.a = omega (arith, i.to, i.within) in
            let n = place_next c kind p p_in is in
            let w = places_within c s.laid kind (p + 1) (omega (arith, p_in)) in
            let o = some_open (parens c kind) (whole kind) (place c kind p) (omega (arith, n, w)) closes in
            let arc = o.2 in
            let all = all_places c s.laid kind in
            let mp = mate_placed c kind p (place c kind p) o.0 is refl (mate_back kind (place c kind p) o.0 closes o.1) (omega (arith, arc.order, n, w, all)) in
            let q = mp.0 in
            let k = mp.1 in
            let order : q < p = elim (cases_lt q p) [ inl l ↦ l | inr g ↦ let v = place_before c kind p q g in absurd (omega (arith, v, k.at_place, arc.order)) ] in
            let from : start_of c m ≤ q =
            elim (cases_lt q (start_of c m)) [
              | inl l ↦
                  let v = place_after c kind q (start_of c m) k.within k.is_kind l in
                  let u = place_before c kind (start_of c m) p i.from in
                  let above = arc.above (place c kind (start_of c m)) (omega (arith, v, k.at_place)) (omega (arith, u)) in
                  let z = flat kind m (omega (arith, i.count)) in
                  let low = (whole kind).low o.0 (omega (arith, arc.order, n, w)) in
                  absurd (omega (arith, ints, above, z, low))
              | inr g ↦ g
            ] in
            Closes q o.0 arc k order from
      ]

  pub is_well : IsWell c
  is_well =
      record {
        balanced = whole;
        places = places_within c s.laid;
        flat_start = λ kind p m i. flat kind m (omega (arith, i.count));
        flat_end = λ kind p m i. flat kind (m + 1) (omega (arith, i.count));
        in_one = in_one;
        same_one = λ p m q i l r. is_component q m i.count l r;
        other_one = λ p m q i h e. let o = in_one q h in let same : o.0 ≡ m = sym o.1.is ∙ e in subst (λ x. (start_of c x ≤ q) × (q < end_of c x)) same (o.1.from, o.1.to);
        mates = mates;
      }

-- On a sound code numbers are orbits.
pub sound_orbits : (c : Code) → IsTrue (is_sound c) → (kind : Bool) (p : ℕ) (ps : List ℕ) → beside c kind p ≡ p ∷ ps → orbit c kind p ≡ p ∷ ps
sound_orbits c h = numbers_are_orbits c (is_well c (sound_parts c h))
