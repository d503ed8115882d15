use Rattle.std.specs.Prelude.{pos, ◌-ℤ◌}
use Rattle.std.proofs.Common.{◌≡◌, ◌+◌, ◌-◌, ◌*◌, ◌/◌, arith, ℕ, subst, true, refl}
use Rattle.bit_words.specs.Bits.{excess, rank, word_bits}
use Rattle.bit_words.specs.BitView.{bits_of}
use Rattle.bit_words.proofs.Ranks.{rank-le-rank}
use Rattle.min_max_tree.specs.Search.{Reaches, Rests}
use Rattle.min_max_tree.proofs.Falls.{found_in_list, rests_in_list, big_enough}
use Rattle.min_max_tree.proofs.scan.scan_part.Goals as goal

pub returns-in-Some-clause-scanned : goal.returns-in-Some-clause-scanned
returns-in-Some-clause-scanned g c =
    let bits = bits_of c.args.bits.now in
    let w = c.args.from / 64 in
    let low = c.args.from - 64 * w in
    let high = c.args.to - 64 * w in
    let a : 64 * w + low ≡ c.args.from = omega arith in
    let b : 64 * w + high ≡ c.args.to = omega arith in
    let p = c.in-Some.place in
    let e = c.in-Some.ensures in
    let r = found_in_list bits w c.chunk-chunk.result c.chunk-chunk.ensures.bits low high c.args.need c.min-drop.result (omega arith) (omega arith) (omega arith) c.requires.need c.min-drop.ensures p e.0 e.1 e.2 e.3 in
    let F : ℕ → ℕ → Type 0 = λ x y. Reaches bits (excess bits x -ℤ pos c.args.need) x y (64 * w + p) in
    subst (λ y. F c.args.from y) b (subst (λ x. F x (64 * w + high)) a r)

pub overflow_sub-ones : goal.overflow_sub-ones
overflow_sub-ones g c =
    let w = c.args.from / 64 in
    rw (c.ones_below-in-None.ensures, c.ones_below.ensures) (rank-le-rank true (word_bits c.chunk-chunk.result) (c.args.from - 64 * w) (c.args.to - 64 * w) (omega arith))

pub overflow_sub-result-in-None : goal.overflow_sub-result-in-None
overflow_sub-result-in-None g c =
    let bits = bits_of c.args.bits.now in
    let w = c.args.from / 64 in
    let low = c.args.from - 64 * w in
    let high = c.args.to - 64 * w in
    rw (c.ones_below-in-None.ensures, c.ones_below.ensures)
    (big_enough bits w c.chunk-chunk.result c.chunk-chunk.ensures.bits low high c.args.need c.min-drop.result (omega arith) (omega arith) (omega arith) c.requires.need c.min-drop.ensures c.in-None.ensures (omega arith))

pub returns-in-None-clause-scanned : goal.returns-in-None-clause-scanned
returns-in-None-clause-scanned g c =
    let bits = bits_of c.args.bits.now in
    let w = c.args.from / 64 in
    let low = c.args.from - 64 * w in
    let high = c.args.to - 64 * w in
    let a : 64 * w + low ≡ c.args.from = omega arith in
    let b : 64 * w + high ≡ c.args.to = omega arith in
    let left : ℕ = c.args.need + 2 * (c.ones_below.result - c.ones_below-in-None.result) - (high - low) in
    let e : left ≡ c.args.need + 2 * (rank true (word_bits c.chunk-chunk.result) high - rank true (word_bits c.chunk-chunk.result) low) - (high - low) = rw (c.ones_below-in-None.ensures, c.ones_below.ensures) refl in
    let r = rests_in_list bits w c.chunk-chunk.result c.chunk-chunk.ensures.bits low high c.args.need c.min-drop.result (omega arith) (omega arith) (omega arith) c.requires.need c.min-drop.ensures c.in-None.ensures (omega arith) left e in
    let F : ℕ → ℕ → Type 0 = λ x y. Rests bits (excess bits x -ℤ pos c.args.need) x y c.args.need left in
    subst (λ y. F c.args.from y) b (subst (λ x. F x (64 * w + high)) a r)
