-- runs of the first bits of a word, and of bits of a list that a word has
use Rattle.std.specs.Prelude.{pos, ◌+ℤ◌, ◌-ℤ◌}
use Rattle.std.specs.Int.{int_min}
use Rattle.std.proofs.Common.{◌≡◌, ◌≢◌, ℕ, zero, suc, ◌+◌, ◌-◌, ◌*◌, ◌/◌, ◌^◌, ◌<◌, ◌≤◌, Bool, true, false, List, length, get_or, min, ap, sym, ◌∙◌, arith, subst, refl, add-zero}
use Rattle.std.proofs.lemmas.Int.{ints, clamps}
use Rattle.bit_words.specs.Bits.{is_set, word_bits, rank, excess}
use Rattle.bit_words.specs.Bytes.{least_front}
use Rattle.bit_words.proofs.Ranks.{rank_both, rank-le-rank}
use Rattle.bit_words.proofs.BitLists.{length-word_bits, get_or-word_bits}
use Rattle.bit_words.proofs.ByteLaws.{excess-zero, least_front-zero, least_front-suc, same_excess, set_shifted}
use Rattle.min_max_tree.specs.Tree.{least}
use Rattle.min_max_tree.specs.Node.{IsRun, AreJoinable, joined}
use Rattle.min_max_tree.specs.declared.node.Node.{Node}
use Rattle.min_max_tree.proofs.Combine.{least-suc, least-zero}
use Rattle.min_max_tree.proofs.Falls.{excess-ranks}
use Rattle.min_max_tree.proofs.Runs.{runs-joinable, run-joined}

-- what so many ones, and a fall, make of the first bits of a word
pub run-front : (word count ones fall : ℕ) → count ≤ 64 → ones ≡ rank true (word_bits word) count → least_front (word_bits word) count +ℤ pos fall ≡ pos 0 → fall ≤ count
    → IsRun (word_bits word) 0 count (record { total = 2147483648 + 2 * ones - count; least = 2147483648 - fall })
run-front word count ones fall c o f l =
    let bits = word_bits word in
    let z = excess-zero bits in
    let b = rank_both bits count (rw length-word_bits c) in
    let e = excess-ranks bits count (rw length-word_bits c) in
    let n : count - 0 ≡ count = omega arith in
    let m : least (excess bits) 0 (count - 0) ≡ least_front bits count = rw n (front-least bits count) in
    record {
      total = omega (arith, ints, z, b, e, o);
      least = omega (arith, ints, z, m, f, l);
    }
  where
    front-least : (bits : List Bool) (n : ℕ) → least (excess bits) 0 n ≡ least_front bits n
    front-least bits zero = least-zero (excess bits) 0 ∙ excess-zero bits ∙ sym (least_front-zero bits)
    front-least bits (suc n) =
        let r = front-least bits n in
        let e : 0 + suc n ≡ suc n = omega arith in
        let s : least (excess bits) 0 (suc n) ≡ int_min (least (excess bits) 0 n) (excess bits (suc n)) = rw e at (least-suc (excess bits) 0 n) in
        omega (arith, ints, clamps, r, s, least_front-suc bits n)

module _ (bits : List Bool) (word from count : ℕ) (few : count ≤ 64) (within : from + count ≤ length bits) (agree : (k : ℕ) → k < count → is_set word k ≡ get_or bits (from + k) false) where
  excess-shift : (k : ℕ) → k ≤ count → excess bits (from + k) ≡ excess bits from +ℤ excess (word_bits word) k
  excess-shift zero h = rw add-zero (omega (arith, ints, excess-zero (word_bits word)))
  excess-shift (suc k) h =
      let r = excess-shift k (omega arith) in
      let e : from + suc k ≡ from + k + 1 = omega arith in
      let e' : suc k ≡ k + 1 = omega arith in
      let b = sym (agree k (omega arith)) ∙ sym (get_or-word_bits word k false (omega arith)) in
      let s = same_excess bits (word_bits word) (from + k) k (omega arith) (rw length-word_bits (omega arith)) b in
      rw (e, e') (omega (arith, ints, r, s))

  least-shift : (n : ℕ) → n ≤ count → least (excess bits) from n ≡ excess bits from +ℤ (least (excess (word_bits word)) 0 n -ℤ excess (word_bits word) 0)
  least-shift zero h = omega (arith, ints, least-zero (excess bits) from, least-zero (excess (word_bits word)) 0)
  least-shift (suc n) h =
      let r = least-shift n (omega arith) in
      let x = excess-shift (suc n) h in
      let e : 0 + suc n ≡ suc n = omega arith in
      let s : least (excess (word_bits word)) 0 (suc n) ≡ int_min (least (excess (word_bits word)) 0 n) (excess (word_bits word) (suc n)) = rw e at (least-suc (excess (word_bits word)) 0 n) in
      omega (arith, ints, clamps, r, x, s, least-suc (excess bits) from n, excess-zero (word_bits word))

  -- a run of the word's first bits is one of the list's
  pub run-shifted : (to : ℕ) (run : Node) → to ≡ from + count → IsRun (word_bits word) 0 count run → IsRun bits from to run
  run-shifted to run e r =
      let x = excess-shift count (omega arith) in
      let y = least-shift count (omega arith) in
      let n : from + count - from ≡ count = omega arith in
      let m : count - 0 ≡ count = omega arith in
      let l : pos run.least ≡ (least (excess (word_bits word)) 0 count -ℤ excess (word_bits word) 0) +ℤ pos 2147483648 = rw m at r.least in
      let y' : least (excess bits) from (from + count - from) ≡ excess bits from +ℤ (least (excess (word_bits word)) 0 count -ℤ excess (word_bits word) 0) = rw n y in
      rw e
      (record {
        total = omega (arith, ints, x, r.total, excess-zero (word_bits word));
        least = omega (arith, ints, y', l);
      })

-- the bits of a word from some place on are those of the list
pub chunk-front : (bits : List Bool) (word chunk from count : ℕ) → ((k : ℕ) → k < 64 → is_set chunk k ≡ get_or bits (64 * word + k) false) → 64 * word ≤ from → from + count ≤ 64 * (word + 1) → (k : ℕ) → k < count → is_set (chunk / 2 ^ (from - 64 * word)) k ≡ get_or bits (from + k) false
chunk-front bits word chunk from count agree low high k h =
    let at = from - 64 * word in
    let e : 64 * word + (at + k) ≡ from + k = omega arith in
    set_shifted chunk at k ∙ agree (at + k) (omega arith) ∙ ap (λ p. get_or bits p false) e

-- a block's run to a word, and that word
pub block-front : (bits : List Bool) (block word chunk count : ℕ) (run next : Node) → length bits ≤ 2147483647 → 8 * block ≤ word → 64 * word < length bits → ((k : ℕ) → k < 64 → is_set chunk k ≡ get_or bits (64 * word + k) false) → count ≡ min (length bits - 64 * word) 64
    → IsRun bits (512 * block) (min (length bits) (64 * word)) run → IsRun (word_bits chunk) 0 count next
    → AreJoinable run next × IsRun bits (512 * block) (min (length bits) (64 * (word + 1))) (joined run next)
block-front bits block word chunk count run next few low within agree e r s =
    let a : min (length bits) (64 * word) ≡ 64 * word = omega arith in
    let b : min (length bits) (64 * (word + 1)) ≡ 64 * word + count = omega arith in
    let r' : IsRun bits (512 * block) (64 * word) run = subst (λ n. IsRun bits (512 * block) n run) a r in
    let t = run-shifted bits chunk (64 * word) count (omega arith) (omega arith) (λ k h. agree k (omega arith)) (64 * word + count) next refl s in
    rw b (
      runs-joinable bits (512 * block) (64 * word) (64 * word + count) run next (omega arith) (omega arith) r' t few (omega arith),
      run-joined bits (512 * block) (64 * word) (64 * word + count) run next (omega arith) (omega arith) r' t few (omega arith),
    )

-- an excess can fall by no more than there are zeros, and rise by no more than there are ones
pub too_few_zeros : (word low high ones drop : ℕ) → high ≤ 64 → ones ≡ rank true (word_bits word) high - rank true (word_bits word) low → high - low < drop + ones → (p : ℕ) → low < p → p ≤ high → excess (word_bits word) p ≢ excess (word_bits word) low -ℤ pos drop
unfolding excess
too_few_zeros word low high ones drop h o l p a b e =
    let bits = word_bits word in
    let m = rank-le-rank true bits p high b in
    let m' = rank-le-rank true bits low p (omega arith) in
    let n = rank-le-rank false bits p high b in
    let x = rank_both bits low (rw length-word_bits (omega arith)) in
    let y = rank_both bits p (rw length-word_bits (omega arith)) in
    let z = rank_both bits high (rw length-word_bits h) in
    absurd (omega (arith, ints, e, m, m', n, x, y, z, o, l))

pub too_few_ones : (word low high ones drop : ℕ) → high ≤ 64 → ones ≡ rank true (word_bits word) high - rank true (word_bits word) low → ones < drop → (p : ℕ) → low ≤ p → p < high → excess (word_bits word) p ≢ excess (word_bits word) high -ℤ pos drop
unfolding excess
too_few_ones word low high ones drop h o l p a b e =
    let bits = word_bits word in
    let m = rank-le-rank true bits low p a in
    let m' = rank-le-rank true bits p high (omega arith) in
    let n = rank-le-rank false bits p high (omega arith) in
    absurd (omega (arith, ints, e, m, m', n, o, l))
