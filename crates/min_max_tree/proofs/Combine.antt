-- a node from the two below it
use Rattle.std.specs.Prelude.{ℤ, ◌+ℤ◌, ◌-ℤ◌}
use Rattle.std.specs.Int.{int_min}
use Rattle.std.proofs.Common.{◌≡◌, ℕ, zero, suc, ◌+◌, ◌-◌, ◌*◌, ◌<◌, ◌≤◌, Bool, List, length, refl, ap, ◌∙◌, arith, subst, add-zero, add-suc}
use Rattle.std.proofs.lemmas.Int.{ints, clamps}
use Rattle.bit_words.specs.Bits.{excess}
use Rattle.min_max_tree.specs.Tree.{size_at, node_from, node_to, least, total_of, least_of}
use Rattle.min_max_tree.proofs.Nodes.{least-le, left-from, right-to, next-from, only-left, node-order}

pub least-suc : (f : ℕ → ℤ) (from n : ℕ) → least f from (suc n) ≡ int_min (least f from n) (f (from + suc n))
unfolding least
least-suc f from n = refl

pub least-zero : (f : ℕ → ℤ) (from : ℕ) → least f from zero ≡ f from
unfolding least
least-zero f from = refl

pub least-union : (f : ℕ → ℤ) (from m n : ℕ) → least f from (m + n) ≡ int_min (least f from m) (least f (from + m) n)
least-union f from m zero =
    let l = least-le f from m m (omega arith) in
    let e : least f from (m + 0) ≡ least f from m = ap (least f from) (add-zero m) in
    omega (arith, ints, clamps, l, e, least-zero f (from + m))
least-union f from m (suc n) =
    let r = least-union f from m n in
    let a : least f from (m + suc n) ≡ int_min (least f from (m + n)) (f (from + suc (m + n))) = ap (least f from) (add-suc m n) ∙ least-suc f from (m + n) in
    let b = least-suc f (from + m) n in
    let i : from + suc (m + n) ≡ from + m + suc n = omega arith in
    let c : f (from + suc (m + n)) ≡ f (from + m + suc n) = ap f i in
    omega (arith, ints, clamps, r, a, b, c)

pub min_shift : (x a b f m : ℤ) → x ≡ int_min a b → x -ℤ f ≡ int_min (a -ℤ f) ((m -ℤ f) +ℤ (b -ℤ m))
min_shift x a b f m e = omega (arith, ints, clamps, e)

module _ (bits : List Bool) (h j : ℕ) (within : j < size_at (length bits) (h + 1)) where
  pub total-up : 2 * j + 1 < size_at (length bits) h → total_of bits (h + 1) j ≡ total_of bits h (2 * j) +ℤ total_of bits h (2 * j + 1)
  unfolding total_of
  total-up there =
      let len = length bits in
      let E = excess bits in
      let a : E (node_from h (2 * j)) ≡ E (node_from (h + 1) j) = ap E (left-from h j) in
      let b : E (node_to len h (2 * j + 1)) ≡ E (node_to len (h + 1) j) = ap E (right-to len h j) in
      let c : E (node_from h (2 * j + 1)) ≡ E (node_to len h (2 * j)) = ap E (next-from len h (2 * j) there) in
      omega (arith, ints, a, b, c)

  pub least-up : 2 * j + 1 < size_at (length bits) h → least_of bits (h + 1) j ≡ int_min (least_of bits h (2 * j)) (total_of bits h (2 * j) +ℤ least_of bits h (2 * j + 1))
  unfolding total_of least_of
  least-up there =
      let len = length bits in
      let E = excess bits in
      let f = node_from h (2 * j) in
      let m = node_to len h (2 * j) in
      let e = node_to len h (2 * j + 1) in
      let o1 = node-order len h (2 * j) (omega arith) in
      let o2 = node-order len h (2 * j + 1) there in
      let n = next-from len h (2 * j) there in
      let d1 = m - f in
      let d2 = e - m in
      let b = left-from h j in
      let c = right-to len h j in
      let q : node_to len (h + 1) j - node_from (h + 1) j ≡ d1 + d2 = omega arith in
      let g : f + d1 ≡ m = omega arith in
      let u : least E f (d1 + d2) ≡ int_min (least E f d1) (least E m d2) = subst (λ x. least E f (d1 + d2) ≡ int_min (least E f d1) (least E x d2)) g (least-union E f d1 d2) in
      let F : ℕ → ℤ = λ x. least E x (e - x) -ℤ E x in
      let r : F (node_from h (2 * j + 1)) ≡ F m = ap F n in
      rw (q, ← b, r) (min_shift (least E f (d1 + d2)) (least E f d1) (least E m d2) (E f) (E m) u)

  pub least-up_only : size_at (length bits) h ≤ 2 * j + 1 → least_of bits (h + 1) j ≡ least_of bits h (2 * j)
  unfolding least_of
  least-up_only none = rw (left-from h j, only-left (length bits) h j none) refl
