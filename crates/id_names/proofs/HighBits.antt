-- The high parts of sorted ids, bucket by bucket.
use Rattle.std.specs.Prelude.{count_by, flat_map, replicate}
use Rattle.std.proofs.Common.{◌≡◌, ◌≢◌, ℕ, zero, suc, ◌+◌, ◌-◌, ◌*◌, ◌/◌, ◌%◌, ◌^◌, ◌<◌, ◌≤◌, ◌==◌, Bool, true, false, inl, inr, List, [], ◌∷◌, ◌++◌, length, get_or, refl, ap, sym, subst, ◌∙◌, arith, eq-eqb, append_assoc, append-nil, length-append}
use Rattle.std.specs.List.{range_with_len}
use Rattle.std.proofs.lemmas.Bool.{cases_lt, cases_order, cases_eq, ne_eqb}
use Rattle.std.proofs.lemmas.List.{get_or-map, length-replicate, replicate-append-replicate}
use Rattle.std.proofs.lemmas.Grind.{flat_map-append}
use Rattle.std.proofs.lemmas.Nat.{pow_pos, one_shl, le-div}
use Rattle.std.proofs.Math.Nat.{div-mul-le_self}
use Rattle.bit_words.specs.Digits.{digits}
use Rattle.id_names.specs.Making.{bucket, high_bits}
use Rattle.id_names.specs.Numbered.{entry_ids, ArePushed}
use Rattle.id_names.specs.declared.sorted.Named.{Named}
use Rattle.id_names.proofs.Counting.{range_pass}
use Rattle.id_names.proofs.SortedIds.{nobody, id_in, AreRising, entry_id, length-entry_ids, counts}

-- a one for each entry from `from` to before `at`, which have the high part
pub record IsPushing (low high : ℕ) (entries : List Named) (from at : ℕ) (old new : List Bool) : Type 0 where
  pub order : from ≤ at
  pub within : at ≤ length entries
  pub bits : new ≡ old ++ replicate (at - from) true
  pub same : (j : ℕ) → from ≤ j → j < at → get_or (entry_ids entries) j 0 / 2 ^ low ≡ high

module _ (low high : ℕ) (entries : List Named) (from : ℕ) (old : List Bool) where
  entry_at : (j : ℕ) → j < length entries → get_or (entry_ids entries) j 0 ≡ id_in entries j
  entry_at j h = get_or-map (λ (n : Named). n.id) entries j nobody 0 h

  pub pushing_first : from ≤ length entries → IsPushing low high entries from from old old
  pushing_first h =
      let z : from - from ≡ 0 = omega arith in
      record {
        order = omega arith;
        within = h;
        bits = sym (ap (λ n. old ++ replicate n true) z ∙ append-nil old);
        same = λ j a b. absurd (omega arith);
      }

  pub pushing_next : (at : ℕ) (new : List Bool) → IsPushing low high entries from at old new → at < length entries → id_in entries at / 2 ^ low ≡ high → IsPushing low high entries from (at + 1) old (new ++ (true ∷ []))
  pushing_next at new p h is =
      let more : at + 1 - from ≡ at - from + 1 = omega (arith, p.order) in
      record {
        order = omega (arith, p.order);
        within = omega arith;
        bits = ap (λ xs. xs ++ (true ∷ [])) p.bits ∙ append_assoc old (replicate (at - from) true) (true ∷ []) ∙ ap (λ xs. old ++ xs) (replicate-append-replicate (at - from) 1 true) ∙ ap (λ n. old ++ replicate n true) (sym more);
        same = λ j a b. elim (cases_eq j at) [
          | inl e ↦ subst (λ z. get_or (entry_ids entries) z 0 / 2 ^ low ≡ high) (sym e) (ap (λ z. z / 2 ^ low) (entry_at at h) ∙ is)
          | inr ne ↦ p.same j a (omega arith)
        ];
      }

  pub length-pushing : (at : ℕ) (new : List Bool) → IsPushing low high entries from at old new → length new ≡ length old + (at - from)
  length-pushing at new p = ap length p.bits ∙ length-append old (replicate (at - from) true) ∙ ap (λ n. length old + n) (length-replicate (at - from) true)

  pub are_pushed : (at : ℕ) (new : List Bool) → IsPushing low high entries from at old new → (at < length entries → id_in entries at / 2 ^ low ≢ high) → ArePushed low high entries from at old new
  are_pushed at new p other = record {
    order = p.order;
    within = p.within;
    bits = p.bits;
    same = p.same;
    other = λ h e. other h (ap (λ z. z / 2 ^ low) (sym (entry_at at h)) ∙ e);
  }

-- one number more of a range
pub range_more : (a n : ℕ) → range_with_len a (n + 1) ≡ range_with_len a n ++ ((a + n) ∷ [])
range_more a zero = let e : a ≡ a + 0 = omega arith in rw (sym e) refl
range_more a (suc n) =
    let e : suc n + 1 ≡ suc (n + 1) = omega arith in
    let f : a + 1 + n ≡ a + suc n = omega arith in
    rw e (ap (λ xs. a ∷ xs) (range_more (a + 1) n ∙ ap (λ z. range_with_len (a + 1) n ++ (z ∷ [])) f))

-- a quotient does not fall
pub quotient_rises : (m n low : ℕ) → m ≤ n → m / 2 ^ low ≤ n / 2 ^ low
quotient_rises m n low h = le-div (m / 2 ^ low) n (2 ^ low) (pow_pos low) (omega (arith, div-mul-le_self m (2 ^ low)))

-- the buckets of the high parts below h, and the entries that stand in them
pub record AreBuckets (low : ℕ) (ids : List ℕ) (entries : List Named) (h place : ℕ) (so_far : List Bool) : Type 0 where
  pub most : place ≤ length ids
  pub bits : so_far ≡ flat_map (bucket low ids) (range_with_len 0 h)
  pub size : length so_far ≡ place + h
  pub before : (j : ℕ) → j < place → id_in entries j / 2 ^ low < h
  pub after : (j : ℕ) → place ≤ j → j < length ids → h ≤ id_in entries j / 2 ^ low

module _ (low : ℕ) (ids : List ℕ) (entries : List Named) (r : AreRising ids entries) where
  pub buckets_none : AreBuckets low ids entries 0 0 []
  buckets_none = record {
    most = omega arith;
    bits = refl;
    size = refl;
    before = λ j h. absurd (omega arith);
    after = λ j a h. omega arith;
  }

  rises : (i j : ℕ) → i ≤ j → j < length ids → id_in entries i / 2 ^ low ≤ id_in entries j / 2 ^ low
  rises i j l h = elim (cases_eq i j) [
    | inl is ↦ (let e = ap (λ z. id_in entries z / 2 ^ low) is in omega arith)
    | inr ne ↦ (let u = r.up i j (omega arith) h in quotient_rises (id_in entries i) (id_in entries j) low (omega arith))
  ]

  pub buckets_next : (h from to : ℕ) (bits new : List Bool) → AreBuckets low ids entries h from bits → ArePushed low h entries from to bits new → AreBuckets low ids entries (h + 1) to (new ++ (false ∷ []))
  buckets_next h from to bits new b p =
      let size = r.size in
      let order = p.order in
      let within = p.within in
      let at : (j : ℕ) → j < length ids → get_or (entry_ids entries) j 0 ≡ id_in entries j = λ j l. entry_id ids entries r j 0 l in
      let part : (j : ℕ) → from ≤ j → j < to → id_in entries j / 2 ^ low ≡ h = λ j a l. ap (λ z. z / 2 ^ low) (sym (at j (omega arith))) ∙ p.same j a l in
      let later : (j : ℕ) → to ≤ j → j < length ids → h + 1 ≤ id_in entries j / 2 ^ low =
      λ j a l. (let to_in : to < length ids = omega arith in
      let above = b.after to (omega arith) to_in in
      let differ = p.other (omega arith) in
      let not_h : id_in entries to / 2 ^ low ≢ h = λ e. differ (ap (λ z. z / 2 ^ low) (at to to_in) ∙ e) in
      elim (cases_order (id_in entries to / 2 ^ low) h) [
        | inl is ↦ absurd (not_h is)
        | inr other ↦ elim other [ inl less ↦ absurd (omega arith) | inr more ↦ (let up = rises to j a l in omega arith) ]
      ]) in
      let test = λ (id : ℕ). id / 2 ^ low == h in
      let many = length-entry_ids ids entries r in
      let c = range_pass test (entry_ids entries) from to 0 order (omega arith)
      (λ j l. ap test (at j (omega arith)) ∙ ne_eqb (id_in entries j / 2 ^ low) h (λ e. (let less = b.before j l in absurd (omega arith))))
      (λ j a l. ap test (at j (omega arith)) ∙ eq-eqb (id_in entries j / 2 ^ low) h (part j a l))
      (λ j a l. ap test (at j (omega arith)) ∙ ne_eqb (id_in entries j / 2 ^ low) h (λ e. (let more = later j a (omega arith) in absurd (omega arith)))) in
      let count : to - from ≡ count_by test ids = (let moved = counts ids entries r test in omega arith) in
      let ones : new ++ (false ∷ []) ≡ bits ++ bucket low ids h =
      ap (λ xs. xs ++ (false ∷ [])) p.bits ∙ append_assoc bits (replicate (to - from) true) (false ∷ []) ∙ ap (λ n. bits ++ (replicate n true ++ (false ∷ []))) count in
      let zero_h : 0 + h ≡ h = omega arith in
      record {
        most = omega arith;
        bits = ones ∙ ap (λ xs. xs ++ bucket low ids h) b.bits ∙ one_more h ∙ ap (flat_map (bucket low ids)) (sym (range_more 0 h ∙ ap (λ z. range_with_len 0 h ++ (z ∷ [])) zero_h));
        size = (let l = length-append new (false ∷ []) in let m = ap length p.bits ∙ length-append bits (replicate (to - from) true) ∙ ap (λ n. length bits + n) (length-replicate (to - from) true) in let s = b.size in omega arith);
        before = λ j l. elim (cases_lt j from) [
          | inl less ↦ (let e = b.before j less in omega arith)
          | inr more ↦ (let e = part j more l in omega arith)
        ];
        after = later;
      }
    where
      one_more : (h : ℕ) → flat_map (bucket low ids) (range_with_len 0 h) ++ bucket low ids h ≡ flat_map (bucket low ids) (range_with_len 0 h ++ (h ∷ []))
      one_more h = sym (flat_map-append (bucket low ids) (range_with_len 0 h) (h ∷ []) ∙ ap (λ xs. flat_map (bucket low ids) (range_with_len 0 h) ++ xs) (append-nil (bucket low ids h)))

  pub are_high_bits : (h place : ℕ) (bits : List Bool) → AreBuckets low ids entries h place bits → h ≡ 2 ^ digits (length ids) → bits ≡ high_bits low ids
  unfolding high_bits
  are_high_bits h place bits b e = b.bits ∙ ap (λ n. flat_map (bucket low ids) (range_with_len 0 n)) e

pub length-pushed : (low high : ℕ) (entries : List Named) (from to : ℕ) (old new : List Bool) → ArePushed low high entries from to old new → length new ≡ length old + (to - from)
length-pushed low high entries from to old new p = ap length p.bits ∙ length-append old (replicate (to - from) true) ∙ ap (λ n. length old + n) (length-replicate (to - from) true)

-- how many high parts there are, where they are counted in 64 bits
pub high_count : (c low d : ℕ) → d ≡ digits c → digits c + low ≤ 63 → (1 * 2 ^ d) % 2 ^ 64 ≡ 2 ^ digits c
high_count c low d e h = one_shl d 64 (omega arith) ∙ ap (λ n. 2 ^ n) e
