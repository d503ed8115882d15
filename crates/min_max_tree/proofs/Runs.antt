-- nodes of bits that follow one another, and the words of the tree
use Rattle.std.specs.Prelude.{ℤ, pos, negsuc, ◌+ℤ◌, ◌-ℤ◌, ◌<ℤ◌, ◌≤ℤ◌}
use Rattle.std.specs.Int.{w32, cast_unsigned, int_min}
use Rattle.std.proofs.Common.{◌≡◌, ℕ, ◌+◌, ◌-◌, ◌%◌, ◌<◌, ◌≤◌, Bool, List, length, refl, ap, ◌∙◌, arith, subst, add-zero}
use Rattle.std.proofs.lemmas.Int.{ints, clamps}
use Rattle.bit_words.specs.Bits.{excess}
use Rattle.min_max_tree.specs.Tree.{size_at, node_from, node_to, least, total_of, least_of, node}
use Rattle.min_max_tree.specs.Node.{IsRun, no_bits, joined, AreJoinable, of_word, word_of}
use Rattle.min_max_tree.specs.declared.node.Node.{Node}
use Rattle.min_max_tree.proofs.Falls.{slope, slope-up}
use Rattle.min_max_tree.proofs.Nodes.{least-le, least-above, small_total, small_least, word-total, word-least}
use Rattle.min_max_tree.proofs.Combine.{least-zero, least-union}

-- what the numbers of a run can be
pub record RunBounds (span : ℕ) (run : Node) : Type 0 where
  pub total_low : 2147483648 ≤ run.total + span
  pub total_high : run.total ≤ 2147483648 + span
  pub least_low : 2147483648 ≤ run.least + span
  pub least_high : run.least ≤ 2147483648

pub run-bounds : (bits : List Bool) (from to : ℕ) (run : Node) → IsRun bits from to run → from ≤ to → to ≤ length bits → RunBounds (to - from) run
run-bounds bits from to run r order within =
    let E = excess bits in
    let d = to - from in
    let e : from + d ≡ to = omega arith in
    let a : E from ≤ℤ (E to +ℤ pos d) = subst (λ n. E from ≤ℤ (E n +ℤ pos d)) e (slope bits from d (omega arith)) in
    let b : E to ≤ℤ (E from +ℤ pos d) = subst (λ n. E n ≤ℤ (E from +ℤ pos d)) e (slope-up bits from d (omega arith)) in
    let top : least E from d ≤ℤ E from = rw add-zero at (least-le E from d 0 (omega arith)) in
    let t = (E from -ℤ pos d) -ℤ pos 1 in
    let low : t <ℤ least E from d = least-above E t from d (λ k q.
    let s = slope bits from k (omega arith) in
    omega (arith, ints, s)) in
    record {
      total_low = omega (arith, ints, r.total, a);
      total_high = omega (arith, ints, r.total, b);
      least_low = omega (arith, ints, r.least, low);
      least_high = omega (arith, ints, r.least, top);
    }

pub run-none : (bits : List Bool) (from : ℕ) → IsRun bits from from no_bits
run-none bits from =
    let z : from - from ≡ 0 = omega arith in
    let e : least (excess bits) from (from - from) ≡ excess bits from = ap (least (excess bits) from) z ∙ least-zero (excess bits) from in
    record {
      total = omega (arith, ints);
      least = omega (arith, ints, e);
    }

-- a run and the one after it
module _ (bits : List Bool) (from middle to : ℕ) (run next : Node) (before : from ≤ middle) (after : middle ≤ to) (r : IsRun bits from middle run) (s : IsRun bits middle to next) where
  pub runs-joinable : length bits ≤ 2147483647 → to ≤ length bits → AreJoinable run next
  runs-joinable few within =
      let a = run-bounds bits from middle run r before (omega arith) in
      let b = run-bounds bits middle to next s after within in
      record {
        high = omega (arith, a.total_high);
        total = omega (arith, a.total_low, b.total_low);
        least = omega (arith, a.total_low, b.least_low);
        next_total = omega (arith, b.total_high);
        next_least = omega (arith, b.least_high);
      }

  run-sum : AreJoinable run next → IsRun bits from to (joined run next)
  run-sum fit =
      let E = excess bits in
      let d1 = middle - from in
      let d2 = to - middle in
      let q : to - from ≡ d1 + d2 = omega arith in
      let g : from + d1 ≡ middle = omega arith in
      let u : least E from (d1 + d2) ≡ int_min (least E from d1) (least E middle d2) = subst (λ x. least E from (d1 + d2) ≡ int_min (least E from d1) (least E x d2)) g (least-union E from d1 d2) in
      let v : least E from (to - from) ≡ int_min (least E from d1) (least E middle d2) = ap (least E from) q ∙ u in
      record {
        total = omega (arith, ints, r.total, s.total, fit.total);
        least = omega (arith, ints, clamps, r.total, r.least, s.least, v, fit.least);
      }

  pub run-joined : length bits ≤ 2147483647 → to ≤ length bits → IsRun bits from to (joined run next)
  run-joined few within = run-sum (runs-joinable few within)

-- the word of a node
unbiased : (z : ℤ) (x : ℕ) → (pos 0 -ℤ pos 2147483648) ≤ℤ z → z ≤ℤ pos 2147483647 → pos x ≡ z +ℤ pos 2147483648 → cast_unsigned w32 z ≡ (x + 2147483648) % 4294967296
unbiased (pos n) x a b e = omega (arith, ints, e)
unbiased (negsuc n) x a b e = omega (arith, ints, e)

pub run-word : (bits : List Bool) (h j : ℕ) (run : Node) → length bits ≤ 2147483647 → j < size_at (length bits) h → IsRun bits (node_from h j) (node_to (length bits) h j) run → word_of run ≡ node bits h j
unfolding node total_of least_of
run-word bits h j run few l r =
    let t = small_total bits h j few l in
    let u = small_least bits h j few l in
    let a = unbiased (total_of bits h j) run.total (omega (arith, ints, t.0)) t.1 r.total in
    let b = unbiased (least_of bits h j) run.least u.0 (omega (arith, ints, u.1)) r.least in
    rw (a, b) refl

pub word-run : (bits : List Bool) (h j word : ℕ) → length bits ≤ 2147483647 → j < size_at (length bits) h → word ≡ node bits h j → IsRun bits (node_from h j) (node_to (length bits) h j) (of_word word)
unfolding total_of least_of
word-run bits h j word few l e = record {
  total = word-total bits h j word few l e;
  least = word-least bits h j word few l e;
}
