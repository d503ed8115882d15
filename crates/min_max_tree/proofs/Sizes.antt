-- How many words the tree of some bits has.
use Rattle.std.specs.Prelude.{nat_le}
use Rattle.std.proofs.Common.{lit<, ◌^◌, add-zero, add-one, ◌≡◌, ℕ, zero, suc, ◌+◌, ◌-◌, ◌*◌, ◌/◌, ◌<◌, ◌≤◌, inl, inr, Bool, true, false, List, [], length, length-append, refl, ap, sym, ◌∙◌, arith}
use Rattle.std.proofs.lemmas.Bool.{cases_Bool, cases_lt, leb-false}
use Rattle.bit_words.specs.Digits.{digits}
use Rattle.bit_words.proofs.DigitLaws.{digits-halved, digits-pow}
use Rattle.std.proofs.lemmas.Nat.{pow-add}
use Rattle.std.proofs.lemmas.Bool.Decides.{nat_tests}
use Rattle.min_max_tree.proofs.Nodes.{node-there, there-node, span-up, above, start-above, height-small}
use Rattle.bit_words.specs.Lists.{tabulate}
use Rattle.bit_words.proofs.BitLists.{length-tabulate}
use Rattle.min_max_tree.specs.Tree.{span_at, size_at, start_at, node, levels, nodes_of, sizes_from, tree_size}

levels-length : (bits : List Bool) (more h : ℕ) → length (levels bits more h) ≡ sizes_from (length bits) more h
unfolding levels sizes_from
levels-length bits zero h = refl
levels-length bits (suc more) h =
    let len = length bits in
    let t : length (tabulate (size_at len h) (node bits h)) ≡ size_at len h = length-tabulate (size_at len h) (node bits h) in
    elim (cases_Bool (nat_le (size_at len h) 1)) [
      | inl w ↦ rw w (length-append (tabulate (size_at len h) (node bits h)) [] ∙ ap (λ n. n + 0) t)
      | inr f ↦ rw f (length-append (tabulate (size_at len h) (node bits h)) (levels bits more (h + 1)) ∙ ap (λ n. n + length (levels bits more (h + 1))) t ∙ ap (λ n. size_at len h + n) (levels-length bits more (h + 1)))
    ]

pub nodes-length : (bits : List Bool) → length (nodes_of bits) ≡ tree_size (length bits)
unfolding nodes_of tree_size
nodes-length bits = levels-length bits (length bits + 1) 0

-- a level has half as many nodes as the one below it, rounded up
pub size-half : (len h : ℕ) → 2 * size_at len (h + 1) ≤ size_at len h + 1
size-half len h =
    elim (cases_lt 0 (size_at len (h + 1))) [
      | inl l ↦
          let j = size_at len (h + 1) - 1 in
          let up = node-there len (h + 1) j (omega arith) in
          let e : span_at (h + 1) ≡ 2 * span_at h = span-up h in
          let f : span_at (h + 1) * j ≡ span_at h * (2 * j) = rw e (omega arith) in
          let down = there-node len h (2 * j) (omega (arith, up, f)) in
          omega (arith, down)
      | inr g ↦ omega arith
    ]

sizes-le : (len more h : ℕ) → sizes_from len more h ≤ 2 * size_at len h + digits (size_at len h - 1)
unfolding sizes_from
sizes-le len zero h = omega arith
sizes-le len (suc more) h =
    elim (cases_Bool (nat_le (size_at len h) 1)) [
      | inl w ↦ rw w (omega arith)
      | inr f ↦
          let big = leb-false _ _ f in
          let r = sizes-le len more (h + 1) in
          let s = size-half len h in
          let d = digits-halved (size_at len (h + 1) - 1) (size_at len h - 1) (omega arith) (omega arith) in
          rw f (omega (arith, r, s, d))
    ]

pub lowest : (len : ℕ) → size_at len 0 ≡ (len + 511) / 512
unfolding size_at span_at
lowest len = refl

pub tree-small : (len : ℕ) → len ≤ 33554432 → tree_size len ≤ 2 * ((len + 511) / 512) + 20
unfolding tree_size
tree-small len h =
    let e = lowest len in
    let r = sizes-le len (len + 1) 0 in
    let d = digits-pow (size_at len 0 - 1) 17 (omega (arith, e)) in
    omega (arith, e, r, d)

lt-pow : (n : ℕ) → n < 2 ^ n
lt-pow zero = lit< tt
lt-pow (suc n) =
    let r = lt-pow n in
    let e : 2 ^ (n + 1) ≡ 2 ^ n * 2 ^ 1 = pow-add 2 n 1 in
    let f : 2 ^ (n + 1) ≡ 2 ^ suc n = ap (λ k. 2 ^ k) (add-one n) in
    omega (arith, r, e, f)

-- the tree has few words beside the bits
pub tree-le : (len : ℕ) → tree_size len ≤ 3 * ((len + 511) / 512)
unfolding tree_size
tree-le len =
    let e = lowest len in
    let r = sizes-le len (len + 1) 0 in
    let n = size_at len 0 - 1 in
    let d = digits-pow n n (lt-pow n) in
    omega (arith, e, r, d)

one_or_none : (n : ℕ) → n ≤ 1 → nat_le n 1 ≡ true
one_or_none n h = grind (arith, nat_tests)

more_than_one : (n : ℕ) → 1 < n → nat_le n 1 ≡ false
more_than_one n h = grind (arith, nat_tests)

-- the words of the levels up to the first of at most one node
sizes-end : (len k h more : ℕ) → k < more → ((g : ℕ) → g < k → 1 < size_at len (h + g)) → size_at len (h + k) ≤ 1 → sizes_from len more h ≡ above len h (k + 1)
unfolding sizes_from above
sizes-end len k h zero l reached top = absurd (omega arith)
sizes-end len zero h (suc more) l reached top =
    let e : size_at len (h + 0) ≡ size_at len h = ap (size_at len) (add-zero h) in
    let w = one_or_none (size_at len h) (omega arith) in
    rw w refl
sizes-end len (suc k) h (suc more) l reached top =
    let e0 : h + 0 ≡ h = add-zero h in
    let big : 1 < size_at len h = rw e0 at (reached 0 (omega arith)) in
    let e : h + 1 + k ≡ h + suc k = omega arith in
    let r : sizes_from len more (h + 1) ≡ above len (h + 1) (k + 1) = sizes-end len k (h + 1) more (omega arith)
    (λ g q. let f : h + 1 + g ≡ h + (g + 1) = omega arith in rw f (reached (g + 1) (omega arith)))
    (rw e top) in
    let w = more_than_one (size_at len h) big in
    let s : suc k + 1 ≡ suc (k + 1) = omega arith in
    rw (w, s) (ap (λ n. size_at len h + n) r)

-- the tree ends with the first level of at most one node
pub tree-end : (len h : ℕ) → ((g : ℕ) → g < h → 1 < size_at len g) → size_at len h ≤ 1 → start_at len (h + 1) ≡ tree_size len
unfolding tree_size
tree-end len h reached top =
    let z : (g : ℕ) → 0 + g ≡ g = λ g. omega arith in
    let f : h < len + 1 = omega (arith, height-small len h reached) in
    start-above len (h + 1) ∙ sym (sizes-end len h 0 (len + 1) f (λ g q. rw z (reached g q)) (rw z top))
