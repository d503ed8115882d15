-- the places of the nodes, and the least of an excess
use Rattle.std.specs.Prelude.{ℤ, pos, negsuc, ◌+ℤ◌, ◌-ℤ◌, ◌<ℤ◌, ◌≤ℤ◌}
use Rattle.std.specs.Int.{w32, cast_unsigned}
use Rattle.std.proofs.Common.{◌≡◌, ℕ, zero, suc, ◌+◌, ◌-◌, ◌*◌, ◌/◌, ◌%◌, ◌<◌, ◌≤◌, ◌^◌, Bool, false, List, ◌++◌, length, get_or, refl, ap, sym, ◌∙◌, arith, ⊎_elim, subst, min, add-zero, add-one, ◌⊎◌, inl, inr, leb}
use borrow.Author.Differences.{up, down}
use Rattle.std.proofs.lemmas.Bool.{cases_lt}
use Rattle.std.proofs.lemmas.Int.{ints, clamps}
use Rattle.std.proofs.lemmas.Nat.{pow_pos, le-div, pow-add}
use Rattle.std.proofs.Math.Nat.{div-mul-le_self, mul-le-mul_left, mul-le-mul_right}
use Rattle.bit_words.specs.Bits.{excess}
use Rattle.std.proofs.lemmas.Bool.Decides.{nat_tests}
use Rattle.std.proofs.lemmas.List.{get_or_append_left, get_or-append-add, length-append}
use Rattle.bit_words.specs.Lists.{tabulate}
use Rattle.bit_words.proofs.BitLists.{length-tabulate, get_or-tabulate}
use Rattle.min_max_tree.specs.Tree.{span_at, size_at, start_at, node_from, node_to, least, total_of, least_of, node, levels, nodes_of}
use Rattle.min_max_tree.proofs.Falls.{slope, slope-up}

pub span-pos : (h : ℕ) → 0 < span_at h
unfolding span_at
span-pos h = let p = pow_pos h in omega arith

pub span-up : (h : ℕ) → span_at (h + 1) ≡ 2 * span_at h
unfolding span_at
span-up h = rw (pow-add 2 h 1) (omega arith)

-- a node is there exactly where its first bit is
pub node-there : (len h j : ℕ) → j < size_at len h → span_at h * j < len
unfolding size_at
node-there len h j l =
    let s = span_at h in
    let p = span-pos h in
    let y : ℕ = len + (s - 1) in
    let a : y / s * s ≤ y = div-mul-le_self y s in
    let l' : j + 1 ≤ y / s = rw add-one l in
    let b : (j + 1) * s ≤ y / s * s = mul-le-mul_right s l' in
    omega arith

pub there-node : (len h j : ℕ) → span_at h * j < len → j < size_at len h
unfolding size_at
there-node len h j l =
    let s = span_at h in
    let p = span-pos h in
    let r : j + 1 ≤ (len + (s - 1)) / s = le-div (j + 1) (len + (s - 1)) s p (omega arith) in
    omega arith

-- the height above has half as many nodes
pub size-up : (len h : ℕ) → 1 < size_at len h → size_at len (h + 1) - 1 ≤ (size_at len h - 1) / 2
size-up len h l =
    let m = size_at len (h + 1) - 1 in
    ⊎_elim
    (λ (z : 0 < size_at len (h + 1)).
    let a = node-there len (h + 1) m (omega arith) in
    let u = span-up h in
    let b : span_at h * (2 * m) < len = subst (λ x. x < len) (rw u (omega arith)) a in
    let c = there-node len h (2 * m) b in
    omega arith)
    (λ (z : size_at len (h + 1) ≤ 0). omega arith)
    (cases_lt 0 (size_at len (h + 1)))

pub parent-there : (len h j : ℕ) → j < size_at len h → j / 2 < size_at len (h + 1)
parent-there len h j l =
    let a = node-there len h j l in
    let b : span_at h * (2 * (j / 2)) ≤ span_at h * j = mul-le-mul_left (span_at h) (omega arith) in
    there-node len (h + 1) (j / 2) (rw span-up (omega arith))

-- the end of a node is the end of its parent where no sibling follows, and else the sibling's
pub parent-end_odd : (len h j : ℕ) → j % 2 ≡ 1 → node_to len (h + 1) (j / 2) ≡ node_to len h j
parent-end_odd len h j o =
    let k : 2 * (j / 2 + 1) ≡ j + 1 = omega arith in
    let e : 2 * span_at h * (j / 2 + 1) ≡ span_at h * (j + 1) = rw (← k) (omega arith) in
    rw span-up (ap (λ x. min len x) e)

pub parent-end_pair : (len h j : ℕ) → j % 2 ≡ 0 → node_to len (h + 1) (j / 2) ≡ node_to len h (j + 1)
parent-end_pair len h j o =
    let k : 2 * (j / 2 + 1) ≡ j + 1 + 1 = omega arith in
    let e : 2 * span_at h * (j / 2 + 1) ≡ span_at h * (j + 1 + 1) = rw (← k) (omega arith) in
    rw span-up (ap (λ x. min len x) e)

pub past-end : (len h j : ℕ) → size_at len h ≤ j → len ≤ span_at h * j
past-end len h j l =
    ⊎_elim
    (λ (p : span_at h * j < len). absurd (omega (arith, there-node len h j p)))
    (λ (p : len ≤ span_at h * j). p)
    (cases_lt (span_at h * j) len)

pub parent-end_last : (len h j : ℕ) → j % 2 ≡ 0 → size_at len h ≤ j + 1 → node_to len (h + 1) (j / 2) ≡ node_to len h j
parent-end_last len h j o l =
    let a = past-end len h (j + 1) l in
    let b = parent-end_pair len h j o in
    let c : span_at h * (j + 1) ≤ span_at h * (j + 1 + 1) = mul-le-mul_left (span_at h) (omega arith) in
    b ∙ omega arith

-- the next node begins where one ends
pub next-from : (len h j : ℕ) → j + 1 < size_at len h → node_from h (j + 1) ≡ node_to len h j
next-from len h j l = let a = node-there len h (j + 1) l in omega arith

-- at the top the one node ends with the bits
pub top-end : (len h j : ℕ) → size_at len h ≤ 1 → node_to len h j ≡ len
top-end len h j l =
    let a = past-end len h (j + 1) (omega arith) in
    omega arith

pub node-order : (len h j : ℕ) → j < size_at len h → node_from h j < node_to len h j
node-order len h j l =
    let a = node-there len h j l in
    let p = span-pos h in
    omega arith

-- the children of a node
pub left-from : (h j : ℕ) → node_from h (2 * j) ≡ node_from (h + 1) j
left-from h j = rw span-up (omega arith)

pub right-to : (len h j : ℕ) → node_to len h (2 * j + 1) ≡ node_to len (h + 1) j
right-to len h j =
    let e : span_at h * (2 * j + 1 + 1) ≡ 2 * span_at h * (j + 1) = omega arith in
    rw span-up (ap (λ x. min len x) e)

pub left-there : (len h j : ℕ) → j < size_at len (h + 1) → 2 * j < size_at len h
left-there len h j l =
    let a = node-there len (h + 1) j l in
    there-node len h (2 * j) (rw left-from a)

-- where there is no right child the left one ends with its parent
pub only-left : (len h j : ℕ) → size_at len h ≤ 2 * j + 1 → node_to len h (2 * j) ≡ node_to len (h + 1) j
only-left len h j l =
    let a = past-end len h (2 * j + 1) l in
    let r = right-to len h j in
    let c : span_at h * (2 * j + 1) ≤ span_at h * (2 * j + 1 + 1) = mul-le-mul_left (span_at h) (omega arith) in
    let z : node_to len h (2 * j) ≡ node_to len h (2 * j + 1) = omega arith in
    z ∙ r

-- ---- the least of an excess
pub least-le : (f : ℕ → ℤ) (from n k : ℕ) → k ≤ n → least f from n ≤ℤ f (from + k)
unfolding least
least-le f from zero k h =
    let e : k ≡ 0 = omega arith in
    rw (e, add-zero) (omega (arith, ints))
least-le f from (suc n) k h =
    ⊎_elim
    (λ (l : k < suc n). let r = least-le f from n k (omega arith) in omega (arith, ints, clamps, r))
    (λ (l : suc n ≤ k). let e : k ≡ suc n = omega arith in rw e (omega (arith, ints, clamps)))
    (cases_lt k (suc n))

-- what lies above t everywhere has a least above t
pub least-above : (f : ℕ → ℤ) (t : ℤ) (from n : ℕ) → ((k : ℕ) → k ≤ n → t <ℤ f (from + k)) → t <ℤ least f from n
unfolding least
least-above f t from zero h = rw add-zero at (h 0 (omega arith))
least-above f t from (suc n) h =
    let r = least-above f t from n (λ k l. h k (omega arith)) in
    let l = h (suc n) (omega arith) in
    omega (arith, ints, clamps, r, l)

-- and of a part
pub least-part : (f : ℕ → ℤ) (from n m : ℕ) → m ≤ n → least f from n ≤ℤ least f from m
unfolding least
least-part f from n zero h = rw add-zero at (least-le f from n 0 h)
least-part f from n (suc m) h =
    let r = least-part f from n m (omega arith) in
    let l = least-le f from n (suc m) h in
    omega (arith, ints, clamps, r, l)

cases_ℤ : (x y : ℤ) → (x ≤ℤ y) ⊎ (y <ℤ x)
cases_ℤ x y =
    ⊎_elim
    (λ (h : up y + down x < up x + down y). inr (omega (arith, ints)))
    (λ (h : up x + down y ≤ up y + down x). inl (omega (arith, ints)))
    (cases_lt (up y + down x) (up x + down y))

-- where the least is at most t and that of a front is above, that of the rest is at most t
pub least-rest : (f : ℕ → ℤ) (t : ℤ) (from m n : ℕ) → t <ℤ least f from m → least f from (m + n) ≤ℤ t → least f (from + m) n ≤ℤ t
least-rest f t from m n above low =
    ⊎_elim
    (λ (q : least f (from + m) n ≤ℤ t). q)
    (λ (q : t <ℤ least f (from + m) n).
    let all : (k : ℕ) → k ≤ m + n → t <ℤ f (from + k) = λ k l.
    ⊎_elim
    (λ (p : k < m). let a = least-le f from m k (omega arith) in omega (arith, ints, a))
    (λ (p : m ≤ k).
    let d = k - m in
    let e : from + m + d ≡ from + k = omega arith in
    let a = least-le f (from + m) n d (omega arith) in
    let b : t <ℤ f (from + m + d) = omega (arith, ints, a) in
    subst (λ x. t <ℤ f x) e b)
    (cases_lt k m) in
    let c = least-above f t from (m + n) all in
    absurd (omega (arith, ints, c)))
    (cases_ℤ (least f (from + m) n) t)

-- ---- the words of the tree
unfoldable pub above : ℕ → ℕ → ℕ → ℕ
above len h zero = 0
above len h (suc k) = size_at len h + above len (h + 1) k

above-more : (len h k : ℕ) → above len h (k + 1) ≡ above len h k + size_at len (h + k)
unfolding above
above-more len h zero =
    let e : size_at len (h + 0) ≡ size_at len h = ap (size_at len) (add-zero h) in
    omega arith
above-more len h (suc k) =
    let r = above-more len (h + 1) k in
    let e : h + 1 + k ≡ h + suc k = omega arith in
    let e' : suc k + 1 ≡ suc (k + 1) = omega arith in
    let r' : above len (h + 1) (k + 1) ≡ above len (h + 1) k + size_at len (h + suc k) = rw e at r in
    rw e' (omega arith)

pub start-above : (len h : ℕ) → start_at len h ≡ above len 0 h
unfolding start_at above
start-above len zero = refl
start-above len (suc h) =
    let r = start-above len h in
    let m = above-more len 0 h in
    let e : 0 + h ≡ h = omega arith in
    let m' : above len 0 (h + 1) ≡ above len 0 h + size_at len h = rw e at m in
    rw add-one at (the_sum r m')
  where
    the_sum : start_at len h ≡ above len 0 h → above len 0 (h + 1) ≡ above len 0 h + size_at len h → start_at len h + size_at len h ≡ above len 0 (h + 1)
    the_sum a b = omega arith

not_one : (n : ℕ) → 1 < n → leb n 1 ≡ false
not_one n h = grind (arith, nat_tests)

level-more : (bits : List Bool) (more h : ℕ) → 1 < size_at (length bits) h → levels bits (suc more) h ≡ tabulate (size_at (length bits) h) (node bits h) ++ levels bits more (h + 1)
unfolding levels
level-more bits more h l = rw (not_one (size_at (length bits) h) l) refl

level-begins : (bits : List Bool) (more h j : ℕ) → j < size_at (length bits) h → (j < length (levels bits (suc more) h)) × (get_or (levels bits (suc more) h) j 0 ≡ node bits h j)
unfolding levels
level-begins bits more h j l =
    let n = size_at (length bits) h in
    let w : j < length (tabulate n (node bits h)) = rw length-tabulate l in
    (rw length-append (omega arith), get_or_append_left (tabulate n (node bits h)) _ 0 j w ∙ get_or-tabulate n (node bits h) j 0 l)

-- a node of a level that is reached
level-at : (bits : List Bool) (k h more j : ℕ) → k < more → ((g : ℕ) → g < k → 1 < size_at (length bits) (h + g)) → j < size_at (length bits) (h + k) → (above (length bits) h k + j < length (levels bits more h)) × (get_or (levels bits more h) (above (length bits) h k + j) 0 ≡ node bits (h + k) j)
unfolding above
level-at bits k h zero j l reached w = absurd (omega arith)
level-at bits zero h (suc more) j l reached w =
    let e : h + 0 ≡ h = add-zero h in
    let z : 0 + j ≡ j = omega arith in
    rw (e, z) (level-begins bits more h j (rw e at w))
level-at bits (suc k) h (suc more) j l reached w =
    let len = length bits in
    let n = size_at len h in
    let e0 : h + 0 ≡ h = add-zero h in
    let big : 1 < n = rw e0 at (reached 0 (omega arith)) in
    let e : h + 1 + k ≡ h + suc k = omega arith in
    let r = level-at bits k (h + 1) more j (omega arith)
    (λ g q. let f : h + 1 + g ≡ h + (g + 1) = omega arith in rw f (reached (g + 1) (omega arith)))
    (rw e w) in
    let m = level-more bits more h big in
    let t : length (tabulate n (node bits h)) ≡ n = length-tabulate n (node bits h) in
    let p : n + above len (h + 1) k + j ≡ n + (above len (h + 1) k + j) = omega arith in (
      rw (m, p, length-append) (omega (arith, r.0)),
      rw (m, p) (ap (λ i. get_or (tabulate n (node bits h) ++ levels bits more (h + 1)) (i + (above len (h + 1) k + j)) 0) (sym t)
          ∙ get_or-append-add (tabulate n (node bits h)) (levels bits more (h + 1)) (above len (h + 1) k + j) 0 ∙ rw e at r.1),
    )

span-big : (g : ℕ) → g < span_at g
span-big zero = omega (arith, span-pos 0)
span-big (suc g) =
    let r = span-big g in
    let u = span-up g in
    let e : span_at (g + 1) ≡ span_at (suc g) = ap span_at (add-one g) in
    omega arith

-- heights are few
pub height-small : (len h : ℕ) → ((g : ℕ) → g < h → 1 < size_at len g) → h ≤ len
height-small len zero reached = omega arith
height-small len (suc g) reached =
    let a = node-there len g 1 (reached g (omega arith)) in
    let b = span-big g in
    omega arith

pub node-at : (bits : List Bool) (h j : ℕ) → ((g : ℕ) → g < h → 1 < size_at (length bits) g) → j < size_at (length bits) h → (start_at (length bits) h + j < length (nodes_of bits)) × (get_or (nodes_of bits) (start_at (length bits) h + j) 0 ≡ node bits h j)
unfolding nodes_of
node-at bits h j reached w =
    let len = length bits in
    let z : (g : ℕ) → 0 + g ≡ g = λ g. omega arith in
    let s = start-above len h in
    let f : h < suc len = omega (arith, height-small len h reached) in
    let e : len + 1 ≡ suc len = add-one len in
    let r = level-at bits h 0 (suc len) j f (λ g q. rw z (reached g q)) (rw z w) in
    rw (s, e) (r.0, rw z at r.1)

-- ---- a node's word
pub small_total : (bits : List Bool) (h j : ℕ) → length bits ≤ 2147483647 → j < size_at (length bits) h → ((pos 0 -ℤ pos 2147483647) ≤ℤ total_of bits h j) × (total_of bits h j ≤ℤ pos 2147483647)
unfolding total_of
small_total bits h j few l =
    let len = length bits in
    let o = node-order len h j l in
    let d = node_to len h j - node_from h j in
    let e : node_from h j + d ≡ node_to len h j = omega arith in
    let a : excess bits (node_from h j) ≤ℤ (excess bits (node_to len h j) +ℤ pos d) = subst (λ n. excess bits (node_from h j) ≤ℤ (excess bits n +ℤ pos d)) e (slope bits (node_from h j) d (omega arith)) in
    let b : excess bits (node_to len h j) ≤ℤ (excess bits (node_from h j) +ℤ pos d) = subst (λ n. excess bits n ≤ℤ (excess bits (node_from h j) +ℤ pos d)) e (slope-up bits (node_from h j) d (omega arith)) in
    let s : d ≤ 2147483647 = omega arith in
    (omega (arith, ints, a), omega (arith, ints, b))

pub small_least : (bits : List Bool) (h j : ℕ) → length bits ≤ 2147483647 → j < size_at (length bits) h → ((pos 0 -ℤ pos 2147483648) ≤ℤ least_of bits h j) × (least_of bits h j ≤ℤ pos 0)
unfolding least_of
small_least bits h j few l =
    let len = length bits in
    let o = node-order len h j l in
    let d = node_to len h j - node_from h j in
    let f = node_from h j in
    let top = least-le (excess bits) f d 0 (omega arith) in
    let top' : least (excess bits) f d ≤ℤ excess bits f = rw add-zero at top in
    let t = excess bits f -ℤ pos 2147483648 in
    let low : t <ℤ least (excess bits) f d = least-above (excess bits) t f d (λ k q.
    let a = slope bits f k (omega arith) in
    let s : k ≤ 2147483647 = omega arith in
    omega (arith, ints, a)) in
    (omega (arith, ints, low), omega (arith, ints, top'))

biased : (z : ℤ) → (pos 0 -ℤ pos 2147483648) ≤ℤ z → z ≤ℤ pos 2147483647 → (cast_unsigned w32 z < 2 ^ 32) × (pos ((cast_unsigned w32 z + 2147483648) % 4294967296) ≡ z +ℤ pos 2147483648)
biased (pos n) a b = (omega (arith, ints), omega (arith, ints))
biased (negsuc n) a b = (omega (arith, ints), omega (arith, ints))

pub word-total : (bits : List Bool) (h j word : ℕ) → length bits ≤ 2147483647 → j < size_at (length bits) h → word ≡ node bits h j → pos ((word % 4294967296 + 2147483648) % 4294967296) ≡ total_of bits h j +ℤ pos 2147483648
unfolding node
word-total bits h j word few l e =
    let t = small_total bits h j few l in
    let b = biased (total_of bits h j) (omega (arith, ints, t.0)) t.1 in
    let x : ℕ = cast_unsigned w32 (total_of bits h j) in
    let y : ℕ = cast_unsigned w32 (least_of bits h j) in
    let m : word % 4294967296 ≡ x = omega (arith, e, b.0) in
    rw m b.1

pub word-least : (bits : List Bool) (h j word : ℕ) → length bits ≤ 2147483647 → j < size_at (length bits) h → word ≡ node bits h j → pos ((word / 4294967296 + 2147483648) % 4294967296) ≡ least_of bits h j +ℤ pos 2147483648
unfolding node
word-least bits h j word few l e =
    let t = small_total bits h j few l in
    let u = small_least bits h j few l in
    let b = biased (total_of bits h j) (omega (arith, ints, t.0)) t.1 in
    let b' = biased (least_of bits h j) u.0 (omega (arith, ints, u.1)) in
    let x : ℕ = cast_unsigned w32 (total_of bits h j) in
    let y : ℕ = cast_unsigned w32 (least_of bits h j) in
    let m : word / 4294967296 ≡ y = omega (arith, e, b.0) in
    rw m b'.1
