-- The words that an opening reads, by the size of the file.
use Rattle.std.proofs.Common.{◌≡◌, ℕ, ◌+◌, ◌*◌, ◌≤◌, arith, lit<, None}
use Rattle.std.proofs.Math.Nat.{mul-le-mul_left, mul-le-mul_right}
use Rattle.bit_words.specs.Digits.{digits}
use Rattle.bit_words.proofs.DigitLaws.{digits-half, digits-mono}
use Rattle.file_laws.specs.Layout.{HeaderCounts, node_count, face_count}
use Rattle.file_laws.specs.Lawful.{file_size}
use Rattle.file_laws.specs.Faults.{count_fault}
use Rattle.file_laws.proofs.Sections.{counts_fit}
use Rattle.pemb_file.specs.Costs.{names_cost, all_names_cost, placed_cost}

two_digits : 2 ≤ digits 2
two_digits = let a = digits-half 2 (lit< tt) in let b = digits-half 1 (lit< tt) in omega (arith, a, b)

pub some_digits : (c : HeaderCounts) → 2 ≤ digits (file_size c)
some_digits c = let m = digits-mono 2 (file_size c) (omega arith) in let t = two_digits in omega (arith, m, t)

pub head_cost : (c : HeaderCounts) → 11 ≤ 1024 * digits (file_size c) * (file_size c + 2)
head_cost c =
    let d = some_digits c in
    let m : 2 * 2 ≤ digits (file_size c) * 2 = mul-le-mul_right 2 d in
    let n : digits (file_size c) * 2 ≤ digits (file_size c) * (file_size c + 2) = mul-le-mul_left (digits (file_size c)) (omega arith) in
    omega (arith, m, n)

-- names of a class, by the size of the file
class_cost : (c n : ℕ) → n + 2 ≤ c → names_cost n ≤ 64 * (digits c * (n + 1))
class_cost c n h =
    let d = digits-mono (n + 2) c h in
    let m : digits (n + 2) * (n + 1) ≤ digits c * (n + 1) = mul-le-mul_right (n + 1) d in
    omega (arith, m)

pub whole_cost : (c : HeaderCounts) → count_fault c ≡ None
    → 11 + (placed_cost c + all_names_cost c + 42 * c.edges + 12 * c.regions + 209) + (2 * c.components + c.isolated + 3072) + 372 ≤ 1024 * digits (file_size c) * (file_size c + 2)
whole_cost c h =
    let k = counts_fit c h in
    let m = c.edges in
    let i = c.isolated in
    let l = digits (2 * m + 2) in
    let s = file_size c in
    let d = digits s in
    let two = some_digits c in
    let less : l ≤ d = digits-mono (2 * m + 2) s (omega arith) in
    let nodes : digits (node_count c + 2) ≤ d = digits-mono (node_count c + 2) s (omega (arith, k.tree, k.components)) in
    let a : m * l ≤ m * d = mul-le-mul_left m less in
    let b : c.components * l ≤ m * l = mul-le-mul_right l k.components in
    let e : m * 2 ≤ m * d = mul-le-mul_left m two in
    let f : i * 2 ≤ i * d = mul-le-mul_left i two in
    let g : c.regions * 2 ≤ c.regions * d = mul-le-mul_left c.regions two in
    let n : i * digits (node_count c + 2) ≤ i * d = mul-le-mul_left i nodes in
    let n1 = class_cost s (node_count c) (omega (arith, k.tree, k.components)) in
    let n2 = class_cost s c.edges (omega arith) in
    let n3 = class_cost s (face_count c) (omega arith) in
    let n4 = class_cost s c.regions (omega arith) in
    let q : d * (node_count c + 1) + d * (c.edges + 1) + d * (face_count c + 1) + d * (c.regions + 1) ≤ d * (3 * m + i + c.regions + 4) =
    (let w : node_count c + 1 + (c.edges + 1) + (face_count c + 1) + (c.regions + 1) ≤ 3 * m + i + c.regions + 4 = omega (arith, k.tree, k.components) in let v = mul-le-mul_left d w in omega (arith, v)) in
    omega (arith, a, b, e, f, g, n, n1, n2, n3, n4, q, two, k.components)
