-- the nodes between two places
use Rattle.std.specs.Prelude.{pos, ◌+ℤ◌}
use Rattle.std.proofs.Common.{◌≡◌, ℕ, ◌+◌, ◌-◌, ◌*◌, ◌/◌, ◌%◌, ◌<◌, ◌≤◌, Bool, List, length, ap, ◌∙◌, arith, subst}
use Rattle.std.proofs.Math.Nat.{mul-le-mul_left}
use Rattle.min_max_tree.specs.Tree.{span_at, size_at, node_from, node_to, total_of, least_of}
use Rattle.min_max_tree.specs.Node.{IsRun, joined}
use Rattle.min_max_tree.specs.declared.node.Node.{Node}
use Rattle.min_max_tree.proofs.Levels.{span-zero}
use Rattle.min_max_tree.proofs.Nodes.{span-pos, there-node, left-from}
use Rattle.min_max_tree.proofs.Runs.{run-joined}

-- a node's numbers are those of its bits
pub node-run : (bits : List Bool) (h j : ℕ) (run : Node) → pos run.total ≡ total_of bits h j +ℤ pos 2147483648 → pos run.least ≡ least_of bits h j +ℤ pos 2147483648 → IsRun bits (node_from h j) (node_to (length bits) h j) run
unfolding total_of least_of
node-run bits h j run t l = record {
  total = t;
  least = l;
}

-- a node whose end is within the bits
pub whole-there : (len h j : ℕ) → node_from h (j + 1) ≤ len → j < size_at len h
whole-there len h j l = let p = span-pos h in there-node len h j (omega arith)

pub whole-run : (bits : List Bool) (h from to : ℕ) (run : Node) → to ≡ from + 1 → node_from h to ≤ length bits → IsRun bits (node_from h from) (node_to (length bits) h from) run → IsRun bits (node_from h from) (node_from h to) run
whole-run bits h from to run e l r =
    let m : node_from h to ≡ node_from h (from + 1) = ap (node_from h) e in
    let t : node_to (length bits) h from ≡ node_from h to = omega arith in
    subst (λ x. IsRun bits (node_from h from) x run) t r

pub from-le : (h j k : ℕ) → j ≤ k → node_from h j ≤ node_from h k
from-le h j k o = mul-le-mul_left (span_at h) o

pub block-from : (h j : ℕ) → h ≡ 0 → node_from h j ≡ 512 * j
block-from h j e = ap (λ x. span_at x * j) e ∙ ap (λ s. s * j) span-zero

-- the same place, a level up
pub up-from : (h j k : ℕ) → 2 * k ≡ j → node_from h j ≡ node_from (h + 1) k
up-from h j k e = subst (λ x. node_from h x ≡ node_from (h + 1) k) e (left-from h k)

-- a level up, from the left end and from the right
pub left-up : (bits : List Bool) (from h low above up : ℕ) (left next run : Node) → length bits ≤ 2147483647 → from ≤ node_from h low → node_from h (low + low % 2) ≤ length bits → IsRun bits from (node_from h low) left → IsRun bits (node_from h low) (node_from h (low + low % 2)) next → above ≡ h + 1 → 2 * up ≡ low + low % 2 → run ≡ joined left next → IsRun bits from (node_from above up) run
left-up bits from h low above up left next run few o w r s e f g =
    let p : node_from h (low + low % 2) ≡ node_from (h + 1) up = up-from h (low + low % 2) up f in
    let j = run-joined bits from (node_from h low) (node_from h (low + low % 2)) left next o (from-le h low (low + low % 2) (omega arith)) r s few w in
    rw (e, g) (subst (λ x. IsRun bits from x (joined left next)) p j)

pub right-up : (bits : List Bool) (to h high above : ℕ) (next right run : Node) → length bits ≤ 2147483647 → node_from h high ≤ to → to ≤ length bits → IsRun bits (node_from h (high - high % 2)) (node_from h high) next → IsRun bits (node_from h high) to right → above ≡ h + 1 → run ≡ joined next right → IsRun bits (node_from above (high / 2)) to run
right-up bits to h high above next right run few o w r s e g =
    let p : node_from h (high - high % 2) ≡ node_from (h + 1) (high / 2) = up-from h (high - high % 2) (high / 2) (omega arith) in
    let j = run-joined bits (node_from h (high - high % 2)) (node_from h high) to next right (from-le h (high - high % 2) high (omega arith)) o r s few w in
    rw (e, g) (subst (λ x. IsRun bits x to (joined next right)) p j)
