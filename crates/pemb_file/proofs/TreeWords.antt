-- How many words a tree has, level by level.
use Rattle.std.proofs.Common.{◌≡◌, ℕ, ◌+◌, ◌-◌, ◌*◌, ◌/◌, ◌<◌, ◌≤◌, inl, inr, ap, sym, ◌∙◌, arith, subst}
use Rattle.std.proofs.lemmas.Bool.{cases_eq}
use Rattle.std.proofs.Math.Nat.{mul-le-mul_left}
use Rattle.min_max_tree.specs.Tree.{span_at, size_at, start_at, tree_size}
use Rattle.min_max_tree.proofs.Nodes.{node-there, there-node, span-up}
use Rattle.min_max_tree.proofs.Levels.{start-up, start-zero}
use Rattle.min_max_tree.proofs.Sizes.{size-half, lowest, tree-end}

half-size : (len h : ℕ) → 0 < size_at len h → size_at len h ≤ 2 * size_at len (h + 1)
half-size len h some =
    let j = size_at len h - 1 in
    let there = node-there len h j (omega arith) in
    let e : span_at (h + 1) ≡ 2 * span_at h = span-up h in
    let m : span_at h * (2 * (j / 2)) ≤ span_at h * j = mul-le-mul_left (span_at h) (omega arith) in
    let f : span_at (h + 1) * (j / 2) ≡ span_at h * (2 * (j / 2)) = rw e (omega arith) in
    let up = there-node len (h + 1) (j / 2) (omega (arith, there, m, f)) in
    omega (arith, up)

size-next : (len h : ℕ) → 0 < size_at len h → (size_at len h + 1) / 2 ≡ size_at len (h + 1)
size-next len h some = let a = size-half len h in let b = half-size len h some in omega (arith, a, b)

-- so many nodes have this height, and so many words are there up to it
pub record AtLevel (len nodes words h : ℕ) : Type 0 where
  pub size : nodes ≡ size_at len h
  pub start : words ≡ start_at len (h + 1)
  pub reached : (g : ℕ) → g < h → 1 < size_at len g

pub record Climbs (len nodes words : ℕ) : Type 0 where
  pub height : ℕ
  pub level : AtLevel len nodes words height
  pub few : words + 2 * nodes ≤ 3 * ((len + 511) / 512)

pub climb-begin : (len : ℕ) → Climbs len ((len + 511) / 512) ((len + 511) / 512)
climb-begin len =
    let e = lowest len in
    let z = start-zero len in
    let u : start_at len 1 ≡ start_at len 0 + size_at len 0 = start-up len 0 in
    record { height = 0; level = record { size = sym e; start = omega (arith, e, z, u); reached = λ g l. absurd (omega arith) }; few = omega arith }

pub climb-next : (len nodes words : ℕ) → 1 < nodes → Climbs len nodes words → Climbs len ((nodes + 1) / 2) (words + (nodes + 1) / 2)
climb-next len nodes words more k =
    let h = k.height in
    let l = k.level in
    let big : 1 < size_at len h = omega (arith, l.size) in
    let e = size-next len h (omega arith) in
    let f : (nodes + 1) / 2 ≡ size_at len (h + 1) = ap (λ n. (n + 1) / 2) l.size ∙ e in
    let u : start_at len (h + 1 + 1) ≡ start_at len (h + 1) + size_at len (h + 1) = start-up len (h + 1) in
    record {
      height = h + 1;
      level = record {
        size = f;
        start = omega (arith, l.start, f, u);
        reached = λ g q. elim (cases_eq g h) [ inl same ↦ let P : ℕ → Type 0 = λ x. 1 < size_at len x in subst P (sym same) big | inr other ↦ l.reached g (omega arith) ];
      };
      few = omega (arith, k.few);
    }

pub climb-end : (len nodes words : ℕ) → nodes ≤ 1 → Climbs len nodes words → words ≡ tree_size len
climb-end len nodes words one k = k.level.start ∙ tree-end len k.height k.level.reached (omega (arith, k.level.size))
