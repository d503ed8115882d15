-- laws of a level's numbers, as code keeps them
use Rattle.std.specs.Prelude.{pos, ◌+ℤ◌, ◌-ℤ◌, ◌<ℤ◌, ◌≤ℤ◌}
use Rattle.std.proofs.Common.{◌≡◌, ℕ, zero, suc, ◌+◌, ◌-◌, ◌*◌, ◌/◌, ◌^◌, ◌<◌, ◌≤◌, Bool, List, length, refl, ap, sym, ◌∙◌, arith, ⊎_elim, subst, add-one}
use Rattle.std.proofs.lemmas.Bool.{cases_lt}
use Rattle.std.proofs.lemmas.Int.{ints}
use Rattle.std.proofs.lemmas.Nat.{pow-add}
use Rattle.std.proofs.Math.Nat.{mul-le-mul_right}
use Rattle.std.proofs.Math.Pow.{pow_mono}
use Rattle.bit_words.specs.Bits.{excess}
use Rattle.min_max_tree.specs.Search.{Rests}
use Rattle.min_max_tree.specs.Tree.{span_at, size_at, start_at, node_from, node_to, least, total_of, least_of}
use Rattle.min_max_tree.specs.Level.{IsLevel}
use Rattle.min_max_tree.proofs.Falls.{slope-up}
use Rattle.min_max_tree.specs.declared.level.Level.{Level}
use Rattle.min_max_tree.proofs.Nodes.{span-pos, span-up, node-there, there-node, height-small, size-up, least-le, node-order}

pub size-is : (len span h : ℕ) → span ≡ span_at h → (len + (span - 1)) / span ≡ size_at len h
unfolding size_at
size-is len span h e = rw e refl

-- the same by a shift
pub size-shifted : (len span h k : ℕ) → span ≡ span_at h → k ≡ 9 + h → (len + (span - 1)) / 2 ^ k ≡ size_at len h
unfolding span_at
size-shifted len span h k e f =
    let p : 2 ^ k ≡ span = ap (λ x. 2 ^ x) f ∙ pow-add 2 9 h ∙ sym e in
    ap (λ x. (len + (span - 1)) / x) p ∙ size-is len span h e

pub size-le : (len h : ℕ) → size_at len h ≤ len
size-le len h =
    ⊎_elim
    (λ (p : 0 < size_at len h).
    let a = node-there len h (size_at len h - 1) (omega arith) in
    let s = span-pos h in
    let b : 1 * (size_at len h - 1) ≤ span_at h * (size_at len h - 1) = mul-le-mul_right (size_at len h - 1) s in
    omega arith)
    (λ (p : size_at len h ≤ 0). omega arith)
    (cases_lt 0 (size_at len h))

pub start-le : (len h : ℕ) → start_at len h ≤ h * len
unfolding start_at
start-le len zero = omega arith
start-le len (suc h) =
    let r = start-le len h in
    let s = size-le len h in
    omega arith

start-suc : (len h : ℕ) → start_at len (suc h) ≡ start_at len h + size_at len h
unfolding start_at
start-suc len h = refl

pub start-up : (len h : ℕ) → start_at len (h + 1) ≡ start_at len h + size_at len h
start-up len h = ap (start_at len) (add-one h) ∙ start-suc len h

pub span-zero : span_at 0 ≡ 512
unfolding span_at
span-zero = refl

pub start-zero : (len : ℕ) → start_at len 0 ≡ 0
unfolding start_at
start-zero len = refl

pub span-bound : (len h : ℕ) → 1 < size_at len h → span_at h < len
span-bound len h l = let a = node-there len h 1 l in omega arith

pub IsLevel-lowest : (len : ℕ) (level : Level) → level.height ≡ 0 → level.span ≡ 512 → level.start ≡ 0 → IsLevel len level
IsLevel-lowest len level h s t = record {
  span = s ∙ sym (ap span_at h ∙ span-zero);
  start = t ∙ sym (ap (start_at len) h ∙ start-zero len);
  reached = λ g q. absurd (omega arith);
}

pub IsLevel-above : (len : ℕ) (level next : Level) → IsLevel len level → 1 < size_at len level.height → next.height ≡ level.height + 1 → next.span ≡ 2 * level.span → next.start ≡ level.start + size_at len level.height → IsLevel len next
IsLevel-above len level next l more h s t = record {
  span = s ∙ ap (λ x. 2 * x) l.span ∙ sym (ap span_at h ∙ span-up level.height);
  start = t ∙ ap (λ x. x + size_at len level.height) l.start ∙ sym (ap (start_at len) h ∙ start-up len level.height);
  reached = λ g q. ⊎_elim
      (λ (p : g < level.height). l.reached g p)
      (λ (p : level.height ≤ g). let e : g ≡ level.height = omega arith in rw e more)
      (cases_lt g level.height);
}

pub IsLevel-below : (len : ℕ) (level next : Level) → IsLevel len level → next.height + 1 ≡ level.height → next.span ≡ level.span / 2 → next.start ≡ level.start - size_at len next.height → IsLevel len next
IsLevel-below len level next l h s t =
    let u = span-up next.height in
    let v = start-up len next.height in
    let a : level.span ≡ span_at (next.height + 1) = l.span ∙ ap span_at (sym h) in
    let b : level.start ≡ start_at len (next.height + 1) = l.start ∙ ap (start_at len) (sym h) in
    record {
      span = omega arith;
      start = omega arith;
      reached = λ g q. l.reached g (omega arith);
    }

pub half-span : (span h k : ℕ) → span ≡ span_at h → k + 1 ≡ h → span / 2 ≡ span_at k
half-span span h k e f =
    let u = span-up k in
    let a : span ≡ span_at (k + 1) = e ∙ ap span_at (sym f) in
    omega arith

pub ruleset level_laws = (size-is, size-shifted, span-pos, start-le, span-bound, height-small, IsLevel-lowest, IsLevel-above, IsLevel-below, half-span, size-le)

pub span-le : (len h : ℕ) → ((g : ℕ) → g < h → 1 < size_at len g) → span_at h ≤ 2 * len + 512
span-le len zero reached = omega (arith, span-zero)
span-le len (suc g) reached =
    let b = span-bound len g (reached g (omega arith)) in
    let u = span-up g in
    let e : span_at (g + 1) ≡ span_at (suc g) = ap span_at (add-one g) in
    omega arith

-- levels are few, so that a shift by one's height is none too far
pub height-few : (len h : ℕ) → len ≤ 2147483647 → ((g : ℕ) → g < h → 1 < size_at len g) → h < 24
unfolding span_at
height-few len h few reached =
    ⊎_elim
    (λ (p : h < 24). p)
    (λ (p : 24 ≤ h).
    let more : 2 ^ 24 ≤ 2 ^ h = pow_mono p in
    absurd (omega (arith, span-le len h reached, more)))
    (cases_lt h 24)

pub start-falls : (len span start h : ℕ) → 0 < h → span ≡ span_at h → start ≡ start_at len h → ((len + (span / 2 - 1)) / 2 ^ (8 + h) ≡ size_at len (h - 1)) × ((len + (span / 2 - 1)) / 2 ^ (8 + h) ≤ start)
start-falls len span start h p e f =
    let k = h - 1 in
    let q : k + 1 ≡ h = omega arith in
    let a = half-span span h k e q in
    let s = size-shifted len (span / 2) k (8 + h) a (omega arith) in
    let u = start-up len k in
    let v : start ≡ start_at len (k + 1) = f ∙ ap (start_at len) (sym q) in
    (s, omega arith)

-- a node whose least stays above is passed
pub passed_by : (bits : List Bool) (h j need left : ℕ) → j < size_at (length bits) h → 1 ≤ need → (pos 0 <ℤ (least_of bits h j +ℤ pos need)) → pos left ≡ pos need +ℤ total_of bits h j → Rests bits (excess bits (node_from h j) -ℤ pos need) (node_from h j) (node_to (length bits) h j) need left
unfolding least_of total_of
passed_by bits h j need left w some up e =
    let len = length bits in
    let f = node_from h j in
    let o = node-order len h j w in
    let d = node_to len h j - f in
    let g : f + d ≡ node_to len h j = omega arith in
    let t = excess bits f -ℤ pos need in
    let at : (p : ℕ) → f < p → p ≤ node_to len h j → t <ℤ excess bits p = λ p a b.
    let k = p - f in
    let i : f + k ≡ p = omega arith in
    let l : least (excess bits) f d ≤ℤ excess bits (f + k) = least-le (excess bits) f d k (omega arith) in
    let m : t <ℤ excess bits (f + k) = omega (arith, ints, l) in
    subst (λ x. t <ℤ excess bits x) i m in
    let last = at (node_to len h j) o (omega arith) in
    let s : excess bits (node_to len h j) ≤ℤ (excess bits f +ℤ pos d) = subst (λ n. excess bits n ≤ℤ (excess bits f +ℤ pos d)) g (slope-up bits f d (omega arith)) in
    record {
      stays = record { above = at };
      level = omega (arith, ints, e);
      some = omega (arith, ints, e, last);
      few = omega (arith, ints, e, s);
    }

pub passed_some : (bits : List Bool) (h j need : ℕ) → j < size_at (length bits) h → (pos 0 <ℤ (least_of bits h j +ℤ pos need)) → pos 0 ≤ℤ (pos need +ℤ total_of bits h j)
unfolding least_of total_of
passed_some bits h j need w up =
    let len = length bits in
    let f = node_from h j in
    let o = node-order len h j w in
    let d = node_to len h j - f in
    let g : f + d ≡ node_to len h j = omega arith in
    let l : least (excess bits) f d ≤ℤ excess bits (node_to len h j) = subst (λ n. least (excess bits) f d ≤ℤ excess bits n) g (least-le (excess bits) f d d (omega arith)) in
    omega (arith, ints, l)
