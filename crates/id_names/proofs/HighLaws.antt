-- The high parts of ids as bits: how many there are, and where the one of each place stands.
use Rattle.std.specs.Prelude.{nat_lt, count_by, flat_map, replicate, cond}
use Rattle.std.proofs.Common.{◌≡◌, ℕ, zero, suc, ◌+◌, ◌-◌, ◌*◌, ◌/◌, ◌%◌, ◌^◌, ◌<◌, ◌≤◌, ◌==◌, Bool, true, false, inl, inr, List, [], ◌∷◌, ◌++◌, take, length, get_or, refl, ap, sym, subst, ◌∙◌, arith, eq-eqb, append_assoc, append-nil, length-append, Some}
use Rattle.std.specs.List.{range_with_len}
use Rattle.std.proofs.Math.Seq.{take-append-add}
use Rattle.std.proofs.lemmas.Bool.{cases_order, cases_eq, cases_Bool, ne_eqb, lt-ltb, le-ltb}
use Rattle.std.proofs.lemmas.List.{length-replicate, get_or-replicate, get_or-append-add, get_or_append_left, take-append-le}
use Rattle.std.proofs.lemmas.List.Sums.{count_by-le-length, sum_by-append}
use Rattle.std.proofs.lemmas.Grind.{flat_map-append}
use Rattle.std.proofs.lemmas.Nat.{shr_split, shr_below}
use Rattle.bit_words.specs.Bits.{rank, select, same}
use Rattle.bit_words.specs.Digits.{digits}
use Rattle.rank_select.proofs.Selects.{selected}
use Rattle.id_names.specs.Making.{bucket, high_bits, low_parts}
use Rattle.id_names.specs.Rising.{high_part, rising_at, zeros_at}
use Rattle.id_names.proofs.Counting.{count_yes, count_no}
use Rattle.id_names.proofs.DigitBounds.{power_few}
use Rattle.id_names.proofs.HighBits.{range_more, quotient_rises}
use Rattle.id_names.proofs.SortedIds.{id_in, AreRising, entry_id, length-entry_ids, counts}
use Rattle.id_names.specs.Numbered.{entry_ids}
use Rattle.id_names.specs.declared.sorted.Named.{Named}

-- ids with a high part below one
abbrev pub lower : ℕ → List ℕ → ℕ → ℕ
lower low ids h = count_by (λ id. nat_lt (id / 2 ^ low) h) ids

abbrev pub equal : ℕ → List ℕ → ℕ → ℕ
equal low ids h = count_by (λ id. id / 2 ^ low == h) ids

lower_zero : (low : ℕ) (ids : List ℕ) → lower low ids 0 ≡ 0
lower_zero low [] = refl
lower_zero low (id ∷ ids) = count_no (λ id. nat_lt (id / 2 ^ low) 0) id ids (le-ltb (id / 2 ^ low) 0 (omega arith)) ∙ lower_zero low ids

lower_more : (low : ℕ) (ids : List ℕ) (h : ℕ) → lower low ids (h + 1) ≡ lower low ids h + equal low ids h
lower_more low [] h = refl
lower_more low (id ∷ ids) h =
    let q = id / 2 ^ low in
    let more = lower_more low ids h in
    elim (cases_order q h) [
      | inl is ↦
          let a = count_yes (λ id. nat_lt (id / 2 ^ low) (h + 1)) id ids (lt-ltb q (h + 1) (omega arith)) in
          let b = count_no (λ id. nat_lt (id / 2 ^ low) h) id ids (le-ltb q h (omega arith)) in
          let c = count_yes (λ id. id / 2 ^ low == h) id ids (eq-eqb q h is) in
          omega arith
      | inr other ↦ elim other [
        | inl less ↦
            let a = count_yes (λ id. nat_lt (id / 2 ^ low) (h + 1)) id ids (lt-ltb q (h + 1) (omega arith)) in
            let b = count_yes (λ id. nat_lt (id / 2 ^ low) h) id ids (lt-ltb q h less) in
            let c = count_no (λ id. id / 2 ^ low == h) id ids (ne_eqb q h (λ e. omega arith)) in
            omega arith
        | inr greater ↦
            let a = count_no (λ id. nat_lt (id / 2 ^ low) (h + 1)) id ids (le-ltb q (h + 1) (omega arith)) in
            let b = count_no (λ id. nat_lt (id / 2 ^ low) h) id ids (le-ltb q h (omega arith)) in
            let c = count_no (λ id. id / 2 ^ low == h) id ids (ne_eqb q h (λ e. omega arith)) in
            omega arith
      ]
    ]

lower_all : (low : ℕ) (ids : List ℕ) (h : ℕ) → ((k : ℕ) → k < length ids → get_or ids k 0 / 2 ^ low < h) → lower low ids h ≡ length ids
lower_all low [] h all = refl
lower_all low (id ∷ ids) h all =
    let a = count_yes (λ id. nat_lt (id / 2 ^ low) h) id ids (lt-ltb (id / 2 ^ low) h (all 0 (omega arith))) in
    let more = lower_all low ids h (λ k l. all (suc k) (omega arith)) in
    omega arith

ones_all : (n : ℕ) → count_by (same true) (replicate n true) ≡ n
ones_all zero = refl
ones_all (suc n) = let c = count_yes (same true) true (replicate n true) refl in let more = ones_all n in omega arith

ones_append : (xs ys : List Bool) → count_by (same true) (xs ++ ys) ≡ count_by (same true) xs + count_by (same true) ys
ones_append xs ys = sum_by-append (λ b. cond (same true b) 1 0) xs ys

ones_bucket : (low : ℕ) (ids : List ℕ) (h : ℕ) → count_by (same true) (bucket low ids h) ≡ equal low ids h
ones_bucket low ids h =
    let z : count_by (same true) (false ∷ []) ≡ 0 = refl in
    omega (arith, ones_append (replicate (equal low ids h) true) (false ∷ []), ones_all (equal low ids h))

length-bucket : (low : ℕ) (ids : List ℕ) (h : ℕ) → length (bucket low ids h) ≡ equal low ids h + 1
length-bucket low ids h = length-append (replicate (equal low ids h) true) (false ∷ []) ∙ ap (λ n. n + 1) (length-replicate (equal low ids h) true)

-- the buckets of the high parts below h
abbrev pub buckets : ℕ → List ℕ → ℕ → List Bool
buckets low ids h = flat_map (bucket low ids) (range_with_len 0 h)

buckets_more : (low : ℕ) (ids : List ℕ) (h : ℕ) → buckets low ids (h + 1) ≡ buckets low ids h ++ bucket low ids h
buckets_more low ids h =
    let z : 0 + h ≡ h = omega arith in
    ap (flat_map (bucket low ids)) (range_more 0 h ∙ ap (λ x. range_with_len 0 h ++ (x ∷ [])) z)
    ∙ flat_map-append (bucket low ids) (range_with_len 0 h) (h ∷ [])
    ∙ ap (λ xs. buckets low ids h ++ xs) (append-nil (bucket low ids h))

pub length-buckets : (low : ℕ) (ids : List ℕ) (h : ℕ) → length (buckets low ids h) ≡ lower low ids h + h
length-buckets low ids zero = let z = lower_zero low ids in omega arith
length-buckets low ids (suc h) =
    let more = length-buckets low ids h in
    let e : suc h ≡ h + 1 = omega arith in
    let l = ap (λ n. length (buckets low ids n)) e ∙ ap length (buckets_more low ids h) ∙ length-append (buckets low ids h) (bucket low ids h) in
    let m = ap (lower low ids) e ∙ lower_more low ids h in
    omega (arith, length-bucket low ids h)

pub ones_buckets : (low : ℕ) (ids : List ℕ) (h : ℕ) → count_by (same true) (buckets low ids h) ≡ lower low ids h
ones_buckets low ids zero = sym (lower_zero low ids)
ones_buckets low ids (suc h) =
    let more = ones_buckets low ids h in
    let e : suc h ≡ h + 1 = omega arith in
    let l = ap (λ n. count_by (same true) (buckets low ids n)) e ∙ ap (count_by (same true)) (buckets_more low ids h) ∙ ones_append (buckets low ids h) (bucket low ids h) in
    let m = ap (lower low ids) e ∙ lower_more low ids h in
    omega (arith, ones_bucket low ids h)

-- a range in two parts
range_parts : (a m n : ℕ) → range_with_len a (m + n) ≡ range_with_len a m ++ range_with_len (a + m) n
range_parts a zero n = let e : 0 + n ≡ n = omega arith in let f : a + 0 ≡ a = omega arith in rw (e, f) refl
range_parts a (suc m) n =
    let e : suc m + n ≡ suc (m + n) = omega arith in
    let f : a + 1 + m ≡ a + suc m = omega arith in
    rw e (ap (λ xs. a ∷ xs) (range_parts (a + 1) m n ∙ ap (λ z. range_with_len (a + 1) m ++ range_with_len z n) f))

buckets_parts : (low : ℕ) (ids : List ℕ) (h n : ℕ) → h < n → (rest : List Bool) × (buckets low ids n ≡ buckets low ids h ++ (bucket low ids h ++ rest))
buckets_parts low ids h n l =
    let e : n ≡ h + 1 + (n - (h + 1)) = omega arith in
    let rest = flat_map (bucket low ids) (range_with_len (0 + (h + 1)) (n - (h + 1))) in (
      rest,
      ap (buckets low ids) e
          ∙ ap (flat_map (bucket low ids)) (range_parts 0 (h + 1) (n - (h + 1)))
          ∙ flat_map-append (bucket low ids) (range_with_len 0 (h + 1)) (range_with_len (0 + (h + 1)) (n - (h + 1)))
          ∙ ap (λ xs. xs ++ rest) (buckets_more low ids h)
          ∙ append_assoc (buckets low ids h) (bucket low ids h) rest,
    )

-- how many bits there are at most
pub high_few : (low : ℕ) (ids : List ℕ) → length (high_bits low ids) ≤ 3 * length ids + 1
unfolding high_bits
high_few low ids =
    let l = length-buckets low ids (2 ^ digits (length ids)) in
    omega (arith, count_by-le-length (λ id. nat_lt (id / 2 ^ low) (2 ^ digits (length ids))) ids, power_few (length ids))

-- ids of so many high parts
abbrev pub Fit : ℕ → List ℕ → Type 0
Fit low ids = (k : ℕ) → k < length ids → get_or ids k 0 < 2 ^ (digits (length ids) + low)

module _ (low : ℕ) (ids : List ℕ) (fit : Fit low ids) where
  all_lower : lower low ids (2 ^ digits (length ids)) ≡ length ids
  all_lower = lower_all low ids (2 ^ digits (length ids)) (λ k l. shr_below (get_or ids k 0) (digits (length ids)) low (fit k l))

  pub length-high : length (high_bits low ids) ≡ length ids + 2 ^ digits (length ids)
  unfolding high_bits
  length-high = length-buckets low ids (2 ^ digits (length ids)) ∙ ap (λ n. n + 2 ^ digits (length ids)) all_lower

  take_all : {X : Type 0} (xs : List X) → take (length xs) xs ≡ xs
  take_all [] = refl
  take_all (x ∷ xs) = ap (λ ys. x ∷ ys) (take_all xs)

  pub ones_high : rank true (high_bits low ids) (length (high_bits low ids)) ≡ length ids
  unfolding rank high_bits
  ones_high = ap (count_by (same true)) (take_all (buckets low ids (2 ^ digits (length ids)))) ∙ ones_buckets low ids (2 ^ digits (length ids)) ∙ all_lower

  module _ (entries : List Named) (r : AreRising ids entries) where
    rises : (i j : ℕ) → i ≤ j → j < length ids → id_in entries i / 2 ^ low ≤ id_in entries j / 2 ^ low
    rises i j l h = elim (cases_eq i j) [
      | inl is ↦ (let e = ap (λ z. id_in entries z / 2 ^ low) is in omega arith)
      | inr ne ↦ (let u = r.up i j (omega arith) h in quotient_rises (id_in entries i) (id_in entries j) low (omega arith))
    ]

    -- the place of an id is behind those of lower high part, and among those of its own
    passes : (p : ℕ → Bool) (n : ℕ) → n ≤ length ids → ((i : ℕ) → i < n → p (id_in entries i) ≡ true) → n ≤ count_by p ids
    passes p n h all = omega (arith, counts ids entries r p, prefix_passes p (entry_ids entries) n (omega (arith, length-entry_ids ids entries r)) (λ i l. ap p (entry_id ids entries r i 0 (omega arith)) ∙ all i l))
      where
        prefix_passes : (p : ℕ → Bool) (xs : List ℕ) (n : ℕ) → n ≤ length xs → ((i : ℕ) → i < n → p (get_or xs i 0) ≡ true) → n ≤ count_by p xs
        prefix_passes p xs zero h all = omega arith
        prefix_passes p [] (suc n) h all = absurd (omega arith)
        prefix_passes p (x ∷ xs) (suc n) h all = let more = prefix_passes p xs n (omega arith) (λ i l. all (suc i) (omega arith)) in omega (arith, count_yes p x xs (all 0 (omega arith)))

    fails : (p : ℕ → Bool) (n : ℕ) → n ≤ length ids → ((i : ℕ) → n ≤ i → i < length ids → p (id_in entries i) ≡ false) → count_by p ids ≤ n
    fails p n h none = omega (arith, counts ids entries r p, suffix_fails p (entry_ids entries) n (λ i a l. ap p (entry_id ids entries r i 0 (omega (arith, length-entry_ids ids entries r))) ∙ none i a (omega (arith, length-entry_ids ids entries r))))
      where
        suffix_fails : (p : ℕ → Bool) (xs : List ℕ) (n : ℕ) → ((i : ℕ) → n ≤ i → i < length xs → p (get_or xs i 0) ≡ false) → count_by p xs ≤ n
        suffix_fails p [] n none = omega arith
        suffix_fails p (x ∷ xs) zero none = let more = suffix_fails p xs 0 (λ i a l. none (suc i) (omega arith) (omega arith)) in omega (arith, count_no p x xs (none 0 (omega arith) (omega arith)))
        suffix_fails p (x ∷ xs) (suc n) none =
            let more = suffix_fails p xs n (λ i a l. none (suc i) (omega arith) (omega arith)) in
            elim (cases_Bool (p x)) [ inl e ↦ omega (arith, count_yes p x xs e) | inr e ↦ omega (arith, count_no p x xs e) ]

    from_lower : (j : ℕ) → j < length ids → lower low ids (id_in entries j / 2 ^ low) ≤ j
    from_lower j h = fails (λ id. nat_lt (id / 2 ^ low) (id_in entries j / 2 ^ low)) j (omega arith) (λ i a l. le-ltb (id_in entries i / 2 ^ low) (id_in entries j / 2 ^ low) (rises j i a l))

    to_lower : (j : ℕ) → j < length ids → j < lower low ids (id_in entries j / 2 ^ low + 1)
    to_lower j h =
        let n = passes (λ id. nat_lt (id / 2 ^ low) (id_in entries j / 2 ^ low + 1)) (j + 1) (omega arith) (λ i l. lt-ltb (id_in entries i / 2 ^ low) (id_in entries j / 2 ^ low + 1) (let up = rises i j (omega arith) h in omega arith)) in
        omega arith

    id_fits : (j : ℕ) → j < length ids → id_in entries j / 2 ^ low < 2 ^ digits (length ids)
    id_fits j h = shr_below (id_in entries j) (digits (length ids)) low (subst (λ x. x < 2 ^ (digits (length ids) + low)) (r.own_id j h) (fit _ (r.number j h)))

    -- the bit at the place and its high part is the one of the place
    pub select_high : (j : ℕ) → j < length ids → select true (high_bits low ids) j ≡ Some (j + id_in entries j / 2 ^ low)
    unfolding high_bits rank
    select_high j h =
        let q = id_in entries j / 2 ^ low in
        let parts = buckets_parts low ids q (2 ^ digits (length ids)) (id_fits j h) in
        let before = buckets low ids q in
        let n = equal low ids q in
        let rest = parts.0 in
        let length_is = length-buckets low ids q in
        let ones_is = ones_buckets low ids q in
        let from = from_lower j h in
        let to = to_lower j h in
        let more = lower_more low ids q in
        let i = j - lower low ids q in
        let few : i < n = omega arith in
        let at : j + q ≡ length before + i = omega arith in
        let tail : bucket low ids q ++ rest ≡ replicate n true ++ ((false ∷ []) ++ rest) = append_assoc (replicate n true) (false ∷ []) rest in
        let all : buckets low ids (2 ^ digits (length ids)) ≡ before ++ (replicate n true ++ ((false ∷ []) ++ rest)) = parts.1 ∙ ap (λ xs. before ++ xs) tail in
        let within : j + q < length (buckets low ids (2 ^ digits (length ids))) =
        (let a = ap length all ∙ length-append before (replicate n true ++ ((false ∷ []) ++ rest)) in
        let b = length-append (replicate n true) ((false ∷ []) ++ rest) in
        let c = length-replicate n true in
        omega arith) in
        let one : get_or (buckets low ids (2 ^ digits (length ids))) (j + q) false ≡ true =
        ap (λ xs. get_or xs (j + q) false) all
        ∙ ap (λ k. get_or (before ++ (replicate n true ++ ((false ∷ []) ++ rest))) k false) at
        ∙ get_or-append-add before (replicate n true ++ ((false ∷ []) ++ rest)) i false
        ∙ get_or_append_left (replicate n true) ((false ∷ []) ++ rest) false i (let c = length-replicate n true in omega arith)
        ∙ get_or-replicate n i true false few in
        let counted : count_by (same true) (take (j + q) (buckets low ids (2 ^ digits (length ids)))) ≡ j =
        (let a = ap (λ xs. count_by (same true) (take (j + q) xs)) all
        ∙ ap (λ k. count_by (same true) (take k (before ++ (replicate n true ++ ((false ∷ []) ++ rest))))) at
        ∙ ap (count_by (same true)) (take-append-add before (replicate n true ++ ((false ∷ []) ++ rest)) i)
        ∙ ones_append before (take i (replicate n true ++ ((false ∷ []) ++ rest))) in
        let b = ap (count_by (same true)) (take-append-le i (replicate n true) ((false ∷ []) ++ rest) (let c = length-replicate n true in omega arith) ∙ take_same i n (omega arith)) ∙ ones_all i in
        omega arith) in
        sym (selected true (buckets low ids (2 ^ digits (length ids))) j (Some (j + q)) (within, one, counted))
      where
        take_same : (i n : ℕ) → i ≤ n → take i (replicate n true) ≡ replicate i true
        take_same zero n h = refl
        take_same (suc i) zero h = absurd (omega arith)
        take_same (suc i) (suc n) h = ap (λ xs. true ∷ xs) (take_same i n (omega arith))

    -- the id at a place is the one that is made into it
    pub id_at_place : (j : ℕ) → j < length ids → get_or (low_parts low ids) j 0 ≡ id_in entries j % 2 ^ low → rising_at (high_bits low ids) (low_parts low ids) low j ≡ id_in entries j
    unfolding rising_at high_part
    id_at_place j h low_is =
        let e : zeros_at j (select true (high_bits low ids) j) ≡ id_in entries j / 2 ^ low = ap (zeros_at j) (select_high j h) ∙ omega arith in
        ap (λ z. z * 2 ^ low + get_or (low_parts low ids) j 0) e ∙ ap (λ z. id_in entries j / 2 ^ low * 2 ^ low + z) low_is ∙ shr_split (id_in entries j) low
