-- laws of counts, and of the bits of a chunk
use Rattle.std.proofs.Common.{◌≡◌, ℕ, zero, suc, ◌+◌, ◌-◌, ◌*◌, ◌/◌, ◌%◌, ◌<◌, ◌≤◌, Bool, true, false, List, [], ◌∷◌, length, get_or, refl, ap, sym, inl, inr, ◌∙◌, arith, ⊎_elim, min, max, cond, ◌++◌, add-zero, not, eqb, ◌^◌}
use Rattle.std.proofs.lemmas.Bool.{cases_lt}
use Rattle.std.proofs.lemmas.List.{take_all, get_or_past, get_or_default}
use Rattle.std.specs.Int.{bit_at, w64, div_ceil}
use Rattle.std.proofs.lemmas.Nat.{mul-le, le-div, pow_pos}
use Rattle.std.proofs.Math.Nat.{mul-div-le, div-mul-le_self}
use Rattle.std.proofs.lemmas.Nat.Bits.{bit_at_not, bit_at-lt}
use Rattle.bit_words.specs.Lists.{tabulate}
use Rattle.bit_words.specs.Bits.{rank, word_bits, is_set, same}
use Rattle.bit_words.proofs.Ranks.{rank-zero, rank-le, rank_more_yes, rank_more_no, rank_both, rank-le-rank}
use Rattle.bit_words.proofs.BitLists.{length-tabulate, get_or-tabulate, tabulate_more, length-word_bits, get_or-word_bits}
use Rattle.bit_words.proofs.DigitLaws.{digits-half, digits-halved, digits-mono}
use Rattle.bit_words.specs.Digits.{digits}
use Rattle.rank_select.proofs.Selects.{same-true, cases_kind}
use Rattle.rank_select.specs.Counts.{blocks, counts_of, KindChunk}

pub length-counts_of : (bits : List Bool) → length (counts_of bits) ≡ blocks (length bits) + 1
unfolding counts_of
length-counts_of bits = length-tabulate (blocks (length bits) + 1) _

pub get_or-counts_of : (bits : List Bool) (j d : ℕ) → j < blocks (length bits) + 1 → get_or (counts_of bits) j d ≡ rank true bits (512 * j)
unfolding counts_of
get_or-counts_of bits j d h = get_or-tabulate (blocks (length bits) + 1) (λ j. rank true bits (512 * j)) j d h

-- past the end nothing is counted
pub rank_past : (bit : Bool) (bits : List Bool) (i : ℕ) → length bits ≤ i → rank bit bits i ≡ rank bit bits (length bits)
unfolding rank
rank_past bit bits i h = rw (take_all i bits h, take_all (length bits) bits (omega arith)) refl

-- one bit more, within the list or past its end
pub one_more : (xs : List Bool) (i : ℕ) → rank true xs (i + 1) ≡ rank true xs i + cond (get_or xs i false) 1 0
one_more xs i =
    ⊎_elim
    (λ (h : i < length xs).
    let P : Bool → Type 0 = λ b. get_or xs i false ≡ b → rank true xs (i + 1) ≡ rank true xs i + cond b 1 0 in
    let at : (b : Bool) → P b = λ b. elim b as P [
      | true ↦ λ e. rank_more_yes true xs i false h e
      | false ↦ λ e. rank_more_no true xs i false h e ∙ omega arith
    ] in
    at (get_or xs i false) refl)
    (λ (h : length xs ≤ i).
    rw (get_or_past xs i false h) (rank_past true xs (i + 1) (omega arith) ∙ sym (rank_past true xs i h) ∙ omega arith))
    (cases_lt i (length xs))

-- ones in two lists that agree from a place on
pub ones_shift : (xs ys : List Bool) (from m : ℕ) → ((k : ℕ) → k < m → get_or xs (from + k) false ≡ get_or ys k false) → rank true xs (from + m) ≡ rank true xs from + rank true ys m
ones_shift xs ys from zero h = omega (arith, rank-zero true ys, ap (rank true xs) (add-zero from))
ones_shift xs ys from (suc m) h =
    let r : rank true xs (from + m) ≡ rank true xs from + rank true ys m = ones_shift xs ys from m (λ k l. h k (omega arith)) in
    let e : from + suc m ≡ from + m + 1 = omega arith in
    let e' : suc m ≡ m + 1 = omega arith in
    let F : Bool → ℕ = λ x. cond x 1 0 in
    let a : rank true xs (from + suc m) ≡ rank true xs (from + m) + F (get_or xs (from + m) false) = ap (rank true xs) e ∙ one_more xs (from + m) in
    let b : rank true ys (suc m) ≡ rank true ys m + F (get_or ys m false) = ap (rank true ys) e' ∙ one_more ys m in
    let c : F (get_or xs (from + m) false) ≡ F (get_or ys m false) = ap F (h m (omega arith)) in
    omega arith

-- the ones below place m of a chunk
pub ones_of_chunk : (bits : List Bool) (word j m : ℕ) → ((k : ℕ) → k < 64 → is_set word k ≡ get_or bits (64 * j + k) false) → m ≤ 64 → rank true bits (64 * j) + rank true (word_bits word) m ≡ rank true bits (64 * j + m)
ones_of_chunk bits word j m h l = sym (ones_shift bits (word_bits word) (64 * j) m (λ k p. sym (h k (omega arith)) ∙ sym (get_or-word_bits word k false (omega arith))))

-- and by a word of which only the bits in the list are known
pub ones_of_front : (bits : List Bool) (word j m : ℕ) → ((k : ℕ) → 64 * j + k < length bits → k < 64 → is_set word k ≡ get_or bits (64 * j + k) false) → m ≤ 64 → 64 * j + m ≤ length bits → rank true bits (64 * j) + rank true (word_bits word) m ≡ rank true bits (64 * j + m)
ones_of_front bits word j m h l within = sym (ones_shift bits (word_bits word) (64 * j) m (λ k p. sym (h k (omega arith) (omega arith)) ∙ sym (get_or-word_bits word k false (omega arith))))

-- a field of 32 bits stands in one word
pub one_word : (i w : ℕ) → w ≡ 32 → i * w % 64 + w ≤ 64
one_word i w e = rw e (omega arith)

-- the ones in the words before a block
pub rank_block : (bits : List Bool) (at word words : ℕ) → words ≡ (length bits + 63) / 64 → word ≡ min (8 * at) words → rank true bits (64 * word) ≡ rank true bits (512 * at)
rank_block bits at word words e f =
    ⊎_elim
    (λ (h : 8 * at < words).
    let a : 64 * word ≡ 512 * at = omega arith in
    ap (rank true bits) a)
    (λ (h : words ≤ 8 * at).
    rank_past true bits (64 * word) (omega arith) ∙ sym (rank_past true bits (512 * at) (omega arith)))
    (cases_lt (8 * at) words)

-- the zeros before a place are what the ones leave
pub zeros_before : (bits : List Bool) (i : ℕ) → rank false bits i ≡ min (length bits) i - rank true bits i
zeros_before bits i =
    ⊎_elim
    (λ (h : i < length bits). omega (arith, rank_both bits i (omega arith)))
    (λ (h : length bits ≤ i). omega (arith, rank_past true bits i h, rank_past false bits i h, rank_both bits (length bits) (omega arith)))
    (cases_lt i (length bits))

-- the bits of a kind before the end of the last block are all
pub rank_blocks : (kind : Bool) (bits : List Bool) (high : ℕ) → high ≡ blocks (length bits) → rank kind bits (512 * high) ≡ rank kind bits (length bits)
rank_blocks kind bits high e = rank_past kind bits (512 * high) (omega arith)

-- where some bit is of a kind, there is a block
pub some_block : (kind : Bool) (bits : List Bool) (j : ℕ) → j < rank kind bits (length bits) → 0 < length bits
some_block kind bits j h = omega (arith, rank-le kind bits (length bits))

pub ruleset chunks = (length-counts_of, get_or-counts_of, rank-le, rank_both, ones_of_chunk, one_word, rank_block)

pub ruleset fronts = (length-counts_of, get_or-counts_of, rank-le, rank_both, ones_of_front)

pub ruleset kinds = (length-counts_of, get_or-counts_of, rank-le, zeros_before, rank_blocks, some_block, rank-zero)

pub ruleset searches = (rank_blocks, some_block, rank-zero, digits-halved, digits-mono)

-- no count is above that of all
pub rank-le-all : (kind : Bool) (bits : List Bool) (i : ℕ) → rank kind bits i ≤ rank kind bits (length bits)
rank-le-all kind bits i =
    ⊎_elim
    (λ (h : i < length bits). rank-le-rank kind bits i (length bits) (omega arith))
    (λ (h : length bits ≤ i). let e = rank_past kind bits i h in omega arith)
    (cases_lt i (length bits))

-- twice a number has one digit more
pub digits-double : (n : ℕ) → 1 ≤ n → digits (n * 2) ≡ digits n + 1
digits-double n h =
    let e : n * 2 / 2 ≡ n = omega arith in
    omega (arith, ap digits e, digits-half (n * 2) (omega arith))

-- before a block with some bit of a kind before it there is a block
pub some_in : (kind : Bool) (bits : List Bool) (j block : ℕ) → j < rank kind bits (512 * block) → 0 < block
some_in kind bits j block h =
    ⊎_elim
    (λ (p : 0 < block). p)
    (λ (p : block ≤ 0).
    let e : 512 * block ≡ 0 = omega arith in
    absurd (omega (arith, ap (rank kind bits) e, rank-zero kind bits)))
    (cases_lt 0 block)

-- after the doublings up to a stride below a number, one probe more costs at most its digits
pub stride_cost : (start steps first stride end : ℕ) → 1 ≤ first → steps + digits first ≡ start + digits stride → stride < end → steps + 1 ≤ start + digits end
stride_cost start steps first stride end some doubled below = omega (arith, digits-half first (omega arith), digits-mono stride end (omega arith))

pub ruleset strides = (rank_blocks, rank-zero, digits-double, some_block)

-- the share of some bits is no more than that of all
pub share_fits : (parts count all coarse share : ℕ) → count ≤ all → share ≡ parts / max (all / 2 ^ coarse) 1 → count / 2 ^ coarse * share ≤ parts
share_fits parts count all coarse share h e =
    let k = max (all / 2 ^ coarse) 1 in
    let few : count / 2 ^ coarse ≤ all / 2 ^ coarse = le-div (count / 2 ^ coarse) all (2 ^ coarse) (pow_pos coarse) (omega (arith, div-mul-le_self count (2 ^ coarse))) in
    let more : count / 2 ^ coarse * share ≤ k * share = mul-le (count / 2 ^ coarse) share k share (omega arith) (omega arith) in
    let whole : k * (parts / k) ≤ parts = mul-div-le parts k in
    let whole' : k * share ≤ parts = rw e whole in
    omega arith

-- the blocks have a digit less than the bits and two
pub block_digits : (n : ℕ) → digits (blocks n) + 1 ≤ digits (n + 2)
block_digits n = digits-halved (blocks n) (n + 2) (omega arith) (omega arith)

-- and two less where a block is whole
pub whole_block_digits : (n : ℕ) → 512 ≤ n → digits (blocks n) + 2 ≤ digits (n + 2)
whole_block_digits n h = omega (arith, digits-half (n + 2) (omega arith), digits-halved (blocks n) ((n + 2) / 2) (omega arith) (omega arith))

-- each bit is of a kind or of the other
rank_kinds : (kind : Bool) (bits : List Bool) (i : ℕ) → i ≤ length bits → rank kind bits i + rank (not kind) bits i ≡ i
rank_kinds true bits i h = rank_both bits i h
rank_kinds false bits i h = omega (arith, rank_both bits i h)

-- before each place of a run of a kind there are as many of it as there are bits
rank_run : (kind : Bool) (bits : List Bool) (n i : ℕ) → n ≤ length bits → rank kind bits n ≡ n → i ≤ n → rank kind bits i ≡ i
rank_run kind bits n i l e h = omega (arith, rank_kinds kind bits n l, rank_kinds kind bits i (omega arith), rank-le-rank (not kind) bits i n h)

-- in a run of a kind from the start on, the place of each bit is its number
pub run_selected : (kind : Bool) (bits : List Bool) (n j : ℕ) → n ≤ length bits → rank kind bits n ≡ n → j < n → (j < length bits) × (get_or bits j (not kind) ≡ kind) × (rank kind bits j ≡ j)
run_selected kind bits n j l e h =
    let within : j < length bits = omega arith in
    let before = rank_run kind bits n j l e (omega arith) in
    let after = rank_run kind bits n (j + 1) l e (omega arith) in
    let own : get_or bits j (not kind) ≡ kind =
    elim (cases_kind kind (get_or bits j (not kind))) [
      | inl is ↦ is
      | inr other ↦ absurd (omega (arith, before, after, rank_more_no kind bits j (not kind) within other))
    ] in (within, own, before)

pub ruleset select_costs = (block_digits, whole_block_digits)

pub ruleset nearer = (rank-le, rank-le-all, some_block)

same_false_is : (kind b : Bool) → same kind b ≡ false → b ≡ not kind
same_false_is true b e = e
same_false_is false true e = refl
same_false_is false false e = sym e

module _ (kind : Bool) (bits : List Bool) (word chunk : ℕ) (agrees : KindChunk kind bits word chunk) where
  pub kind_of_chunk : (m : ℕ) → m ≤ 64 → 64 * word + m ≤ length bits → rank kind bits (64 * word + m) ≡ rank kind bits (64 * word) + rank true (word_bits chunk) m
  kind_of_chunk zero h l = omega (arith, rank-zero true (word_bits chunk), ap (rank kind bits) (add-zero (64 * word)))
  kind_of_chunk (suc m) h l =
      let r : rank kind bits (64 * word + m) ≡ rank kind bits (64 * word) + rank true (word_bits chunk) m = kind_of_chunk m (omega arith) (omega arith) in
      let i = 64 * word + m in
      let e : 64 * word + suc m ≡ i + 1 = omega arith in
      let e' : suc m ≡ m + 1 = omega arith in
      let within : i < length bits = omega arith in
      let within' : m < length (word_bits chunk) = rw length-word_bits (omega arith) in
      let b = get_or bits i false in
      let s : get_or (word_bits chunk) m false ≡ same kind b = get_or-word_bits chunk m false (omega arith) ∙ agrees.agree m (omega arith) within in
      let P : Bool → Type 0 = λ v. same kind b ≡ v → rank kind bits (i + 1) ≡ rank kind bits (64 * word) + rank true (word_bits chunk) (m + 1) in
      let at : (v : Bool) → P v = λ v. elim v as P [
        | true ↦ λ t. omega (arith, r, rank_more_yes kind bits i false within (same-true kind b t), rank_more_yes true (word_bits chunk) m false within' (s ∙ t))
        | false ↦ λ t. omega (arith, r, rank_more_no kind bits i false within (same_false_is kind b t), rank_more_no true (word_bits chunk) m false within' (s ∙ t))
      ] in
      rw (e, e') (at (same kind b) refl)

  module _ (j left : ℕ) (below : rank kind bits (64 * word) + left ≡ j) (some : j < rank kind bits (length bits)) where
    within_list : (p : ℕ) → p ≤ 64 → rank true (word_bits chunk) p ≤ left → 64 * word + p < length bits
    within_list p h e =
        ⊎_elim
        (λ (q : 64 * word + p < length bits). q)
        (λ (q : length bits ≤ 64 * word + p).
        ⊎_elim
        (λ (z : length bits < 64 * word). absurd (omega (arith, rank_past kind bits (64 * word) (omega arith))))
        (λ (z : 64 * word ≤ length bits).
        let m = length bits - 64 * word in
        let f : 64 * word + m ≡ length bits = omega arith in
        let r = kind_of_chunk m (omega arith) (omega arith) in
        let r' : rank kind bits (length bits) ≡ rank kind bits (64 * word) + rank true (word_bits chunk) m = rw f at r in
        let g = rank-le-rank true (word_bits chunk) m p (omega arith) in
        absurd (omega arith))
        (cases_lt (length bits) (64 * word)))
        (cases_lt (64 * word + p) (length bits))

    -- the place that the chunk gives is the place
    pub found : (p : ℕ) → p < 64 → get_or (word_bits chunk) p false ≡ true → rank true (word_bits chunk) p ≡ left → (64 * word + p < length bits) × (get_or bits (64 * word + p) (not kind) ≡ kind) × (rank kind bits (64 * word + p) ≡ j)
    found p h t e =
        let within = within_list p (omega arith) (omega arith) in
        let s : get_or (word_bits chunk) p false ≡ same kind (get_or bits (64 * word + p) false) = get_or-word_bits chunk p false h ∙ agrees.agree p h within in (
          within,
          get_or_default bits (64 * word + p) (not kind) false within ∙ same-true kind (get_or bits (64 * word + p) false) (sym s ∙ t),
          omega (arith, kind_of_chunk p (omega arith) (omega arith)),
        )

    -- and else it is further on
    pub not_here : rank true (word_bits chunk) 64 ≤ left → rank kind bits (64 * (word + 1)) + (left - rank true (word_bits chunk) 64) ≡ j
    not_here h =
        let within = within_list 64 (omega arith) h in
        let e : 64 * (word + 1) ≡ 64 * word + 64 = omega arith in
        let r = kind_of_chunk 64 (omega arith) (omega arith) in
        rw e (omega arith)

pub ruleset selects = (found, not_here)

pub chunk_true : (bits : List Bool) (word chunk : ℕ) → ((k : ℕ) → 64 * word + k < length bits → k < 64 → is_set chunk k ≡ get_or bits (64 * word + k) false) → KindChunk true bits word chunk
chunk_true bits word chunk h = record { agree = λ k p within. h k within p }

pub chunk_false : (bits : List Bool) (word chunk : ℕ) → chunk < 2 ^ 64 → ((k : ℕ) → 64 * word + k < length bits → k < 64 → is_set chunk k ≡ get_or bits (64 * word + k) false) → KindChunk false bits word (2 ^ 64 - 1 - chunk)
unfolding is_set
chunk_false bits word chunk small h = record {
  agree = λ k p within.
      let e : bit_at (2 ^ 64 - 1 - chunk) k ≡ 1 - bit_at chunk k = bit_at_not w64 chunk k small p in
      ap (λ x. eqb x 1) e ∙ flipped (bit_at chunk k) (bit_at-lt chunk k) ∙ ap not (h k within p);
}
  where
    flipped : (x : ℕ) → x < 2 → eqb (1 - x) 1 ≡ not (eqb x 1)
    flipped zero h = refl
    flipped (suc zero) h = refl
    flipped (suc (suc x)) h = absurd (omega arith)

-- after the last word of a block, the block is counted
pub block_end : (kind : Bool) (bits : List Bool) (block word : ℕ) → min (div_ceil (length bits) 64) (8 * block + 8) ≤ word → word ≤ 8 * block + 8 → rank kind bits (512 * (block + 1)) ≤ rank kind bits (64 * word)
block_end kind bits block word h l =
    ⊎_elim
    (λ (p : word < 8 * block + 8).
    let q : length bits ≤ 64 * word = omega arith in
    let e = rank_past kind bits (64 * word) q in
    let m = rank-le-all kind bits (512 * (block + 1)) in
    omega arith)
    (λ (p : 8 * block + 8 ≤ word).
    let e : 64 * word ≡ 512 * (block + 1) = omega arith in
    rw e (omega arith))
    (cases_lt word (8 * block + 8))

pub all_in_word : (word : ℕ) → rank true (word_bits word) (length (word_bits word)) ≡ rank true (word_bits word) 64
all_in_word word = ap (rank true (word_bits word)) (length-word_bits word)

pub ruleset words = (rank-le, all_in_word)

-- the counts of the first n blocks
unfoldable pub counts_to : List Bool → ℕ → List ℕ
counts_to bits n = tabulate n (λ j. rank true bits (512 * j))

pub counts_to-zero : (bits : List Bool) → counts_to bits 0 ≡ []
unfolding counts_to tabulate
counts_to-zero bits = refl

pub length-counts_to : (bits : List Bool) (n : ℕ) → length (counts_to bits n) ≡ n
unfolding counts_to
length-counts_to bits n = length-tabulate n _

pub counts_to-more : (bits : List Bool) (n ones : ℕ) → ones ≡ rank true bits (512 * n) → counts_to bits n ++ ones ∷ [] ≡ counts_to bits (n + 1)
unfolding counts_to
counts_to-more bits n ones e = rw (e, tabulate_more n (λ j. rank true bits (512 * j))) refl

pub counts_to-all : (bits : List Bool) (n : ℕ) → n ≡ blocks (length bits) + 1 → counts_to bits n ≡ counts_of bits
unfolding counts_to counts_of
counts_to-all bits n e = rw e refl

pub ruleset makes = (rank-le, rank-zero, counts_to-zero, length-counts_to, counts_to-more, counts_to-all)
