-- the tree as it is made, word by word
use Rattle.std.proofs.Common.{◌≢◌, ◌≡◌, ℕ, ◌+◌, ◌-◌, ◌*◌, ◌/◌, ◌<◌, ◌≤◌, Bool, List, [], ◌∷◌, ◌++◌, length, get_or, refl, ap, sym, ◌∙◌, arith, ⊎_elim, subst, min}
use Rattle.std.proofs.lemmas.Bool.{cases_lt}
use Rattle.std.proofs.lemmas.List.{get_or_append_left, get_or-append-add, length-append, ext_get_or}
use Rattle.bit_words.specs.WrongEntry.{IsFirstWrong}
use Rattle.min_max_tree.specs.Built.{HoldsFirst, Built}
use Rattle.min_max_tree.specs.Tree.{span_at, size_at, start_at, node_from, node_to, node, nodes_of, tree_size}
use Rattle.min_max_tree.proofs.Runs.{run-bounds}
use Rattle.min_max_tree.specs.Node.{IsRun, joined, AreJoinable, of_word, word_of}
use Rattle.min_max_tree.specs.Level.{IsLevel}
use Rattle.min_max_tree.specs.declared.node.Node.{Node}
use Rattle.min_max_tree.specs.declared.level.Level.{Level}
use Rattle.min_max_tree.proofs.Runs.{runs-joinable, run-joined, run-word, word-run}
use Rattle.min_max_tree.proofs.Levels.{start-up, span-zero}
use Rattle.min_max_tree.proofs.Sizes.{nodes-length, tree-le}
use Rattle.min_max_tree.proofs.Nodes.{parent-there, node-at, node-order, left-from, right-to, left-there, only-left, next-from, there-node}

-- the numbers of a run are small
pub small-total : (bits : List Bool) (from to : ℕ) (run : Node) → length bits ≤ 2147483647 → from ≤ to → to ≤ length bits → IsRun bits from to run → run.total < 4294967296
small-total bits from to run few o w r = omega (arith, (run-bounds bits from to run r o w).total_high)

pub small-least : (bits : List Bool) (from to : ℕ) (run : Node) → from ≤ to → to ≤ length bits → IsRun bits from to run → run.least < 4294967296
small-least bits from to run o w r = omega (arith, (run-bounds bits from to run r o w).least_high)

-- the words of a level's nodes
module _ (bits : List Bool) (few : length bits ≤ 2147483647) (level : Level) (l : IsLevel (length bits) level) where
  pub child-place : (k : ℕ) → k < size_at (length bits) level.height → level.start + k < start_at (length bits) (level.height + 1)
  child-place k w = omega (arith, start-up (length bits) level.height, l.start, w)

  pub child-small : (k : ℕ) → k < size_at (length bits) level.height → level.start + k < 2147483648
  child-small k w =
      let a = node-at bits level.height k l.reached w in
      omega (arith, l.start, a.0, nodes-length bits, tree-le (length bits), few)

  pub child-node : (words : List ℕ) (k : ℕ) → HoldsFirst (nodes_of bits) words (start_at (length bits) (level.height + 1)) → k < size_at (length bits) level.height → get_or words (level.start + k) 0 ≡ node bits level.height k
  child-node words k holds w =
      let a = node-at bits level.height k l.reached w in
      holds.same (level.start + k) (child-place k w) ∙ ap (λ s. get_or (nodes_of bits) (s + k) 0) l.start ∙ a.1

  pub child-run : (words : List ℕ) (k : ℕ) → HoldsFirst (nodes_of bits) words (start_at (length bits) (level.height + 1)) → k < size_at (length bits) level.height → IsRun bits (node_from level.height k) (node_to (length bits) level.height k) (of_word (get_or words (level.start + k) 0))
  child-run words k holds w = word-run bits level.height k _ few w (child-node words k holds w)

-- a node from the nodes below it
module _ (bits : List Bool) (few : length bits ≤ 2147483647) (h j : ℕ) (within : j < size_at (length bits) (h + 1)) where
  pub parent-only : (run : Node) → size_at (length bits) h ≤ 2 * j + 1 → IsRun bits (node_from h (2 * j)) (node_to (length bits) h (2 * j)) run → IsRun bits (node_from (h + 1) j) (node_to (length bits) (h + 1) j) run
  parent-only run none r =
      subst (λ t. IsRun bits (node_from (h + 1) j) t run) (only-left (length bits) h j none)
      (subst (λ f. IsRun bits f (node_to (length bits) h (2 * j)) run) (left-from h j) r)

  module _ (run next : Node) (there : 2 * j + 1 < size_at (length bits) h) (r : IsRun bits (node_from h (2 * j)) (node_to (length bits) h (2 * j)) run) (s : IsRun bits (node_from h (2 * j + 1)) (node_to (length bits) h (2 * j + 1)) next) where
    next-run : IsRun bits (node_to (length bits) h (2 * j)) (node_to (length bits) h (2 * j + 1)) next
    next-run = subst (λ f. IsRun bits f (node_to (length bits) h (2 * j + 1)) next) (next-from (length bits) h (2 * j) there) s

    order-left : node_from h (2 * j) ≤ node_to (length bits) h (2 * j)
    order-left = let o = node-order (length bits) h (2 * j) (omega arith) in omega arith

    order-right : node_to (length bits) h (2 * j) ≤ node_to (length bits) h (2 * j + 1)
    order-right =
        let o = node-order (length bits) h (2 * j + 1) there in
        let n = next-from (length bits) h (2 * j) there in
        omega arith

    pub children-joinable : AreJoinable run next
    children-joinable = runs-joinable bits _ _ _ run next order-left order-right r next-run few (omega arith)

    pub parent-both : IsRun bits (node_from (h + 1) j) (node_to (length bits) (h + 1) j) (joined run next)
    parent-both =
        subst (λ t. IsRun bits (node_from (h + 1) j) t (joined run next)) (right-to (length bits) h j)
        (subst (λ f. IsRun bits f (node_to (length bits) h (2 * j + 1)) (joined run next)) (left-from h j)
        (run-joined bits _ _ _ run next order-left order-right r next-run few (omega arith)))

pub Built-none : (tree words : List ℕ) → words ≡ [] → Built tree words 0
Built-none tree words e = record {
  size = ap length e;
  holds = record { same = λ k h. absurd (omega arith) };
}

-- one word more
pub Built-more : (tree words more : List ℕ) (n word : ℕ) → Built tree words n → more ≡ words ++ word ∷ [] → word ≡ get_or tree n 0 → Built tree more (n + 1)
Built-more tree words more n word b e f = record {
  size = rw (e, length-append) (omega (arith, b.size));
  holds = record {
    same = λ k h. rw e (⊎_elim
        (λ (q : k < n). get_or_append_left words (word ∷ []) 0 k (omega (arith, b.size)) ∙ b.holds.same k q)
        (λ (q : n ≤ k).
        let s : k ≡ length words + 0 = omega (arith, b.size) in
        let t : k ≡ n = omega arith in
        ap (λ i. get_or (words ++ word ∷ []) i 0) s ∙ get_or-append-add words (word ∷ []) 0 0 ∙ f ∙ ap (λ i. get_or tree i 0) (sym t))
        (cases_lt k n));
  };
}

-- and all of them
pub Built-all : (tree words : List ℕ) (n : ℕ) → Built tree words n → n ≡ length tree → words ≡ tree
Built-all tree words n b e = ext_get_or 0 words tree (b.size ∙ e) (λ i h. b.holds.same i (omega (arith, b.size)))

pub Holds-less : (tree words : List ℕ) (n m : ℕ) → HoldsFirst tree words n → m ≤ n → HoldsFirst tree words m
Holds-less tree words n m h l = record { same = λ k p. h.same k (omega arith) }

pub reached-above : (len : ℕ) (level : Level) → IsLevel len level → 1 < size_at len level.height → (g : ℕ) → g < level.height + 1 → 1 < size_at len g
reached-above len level l more g q =
    ⊎_elim
    (λ (p : g < level.height). l.reached g p)
    (λ (p : level.height ≤ g). let e : g ≡ level.height = omega arith in rw e more)
    (cases_lt g level.height)

-- the words of the nodes below node j
module _ (bits : List Bool) (few : length bits ≤ 2147483647) (level : Level) (l : IsLevel (length bits) level) (words : List ℕ) (holds : HoldsFirst (nodes_of bits) words (start_at (length bits) (level.height + 1))) (j : ℕ) (within : j < size_at (length bits) (level.height + 1)) where
  pub left-place : level.start + 2 * j < start_at (length bits) (level.height + 1)
  left-place = child-place bits few level l (2 * j) (left-there (length bits) level.height j within)

  pub left-small : level.start + 2 * j < 2147483648
  left-small = child-small bits few level l (2 * j) (left-there (length bits) level.height j within)

  pub left-run : IsRun bits (node_from level.height (2 * j)) (node_to (length bits) level.height (2 * j)) (of_word (get_or words (level.start + 2 * j) 0))
  left-run = child-run bits few level l words (2 * j) holds (left-there (length bits) level.height j within)

  pub right-place : 2 * j + 1 < size_at (length bits) level.height → level.start + 2 * j + 1 < start_at (length bits) (level.height + 1)
  right-place w = let a = child-place bits few level l (2 * j + 1) w in omega arith

  pub right-run : 2 * j + 1 < size_at (length bits) level.height → IsRun bits (node_from level.height (2 * j + 1)) (node_to (length bits) level.height (2 * j + 1)) (of_word (get_or words (level.start + 2 * j + 1) 0))
  right-run w =
      let e : level.start + (2 * j + 1) ≡ level.start + 2 * j + 1 = omega arith in
      subst (λ i. IsRun bits (node_from level.height (2 * j + 1)) (node_to (length bits) level.height (2 * j + 1)) (of_word (get_or words i 0))) e
      (child-run bits few level l words (2 * j + 1) holds w)

-- the word of a node is that of the tree
pub node-word : (bits : List Bool) (h j at : ℕ) (run : Node) → length bits ≤ 2147483647 → ((g : ℕ) → g < h → 1 < size_at (length bits) g) → j < size_at (length bits) h → IsRun bits (node_from h j) (node_to (length bits) h j) run → at ≡ start_at (length bits) h + j → word_of run ≡ get_or (nodes_of bits) at 0
node-word bits h j at run few reached w r e =
    run-word bits h j run few w r ∙ sym (node-at bits h j reached w).1 ∙ ap (λ i. get_or (nodes_of bits) i 0) (sym e)

-- a block's places
pub block-there : (len block : ℕ) → block < (len + 511) / 512 → block < size_at len 0
block-there len block h = there-node len 0 block (let e = span-zero in let f : span_at 0 * block ≡ 512 * block = ap (λ s. s * block) e in omega arith)

pub block-run : (bits : List Bool) (block from to : ℕ) (run : Node) → from ≡ 512 * block → to ≡ min (length bits) (512 * (block + 1)) → IsRun bits from to run → IsRun bits (node_from 0 block) (node_to (length bits) 0 block) run
block-run bits block from to run e f r =
    let z = span-zero in
    let a : from ≡ node_from 0 block = e ∙ ap (λ s. s * block) (sym z) in
    let b : to ≡ node_to (length bits) 0 block = f ∙ ap (λ s. min (length bits) (s * (block + 1))) (sym z) in
    subst (λ t. IsRun bits (node_from 0 block) t run) b (subst (λ s. IsRun bits s to run) a r)

-- a node of the level above is there, as code counts them
pub parent-within : (len count h k above j : ℕ) → count ≡ len → above ≡ h + 1 → k ≡ size_at count above → j < k → j < size_at len (h + 1)
parent-within len count h k above j e f g w = let m : size_at count above ≡ size_at len (h + 1) = rw (e, f) refl in omega (arith, m, g, w)

-- what a check knows so far
pub Holds-none : (tree words : List ℕ) → HoldsFirst tree words 0
Holds-none tree words = record { same = λ k h. absurd (omega arith) }

pub Holds-more : (tree words : List ℕ) (n m word want : ℕ) → HoldsFirst tree words n → word ≡ get_or words n 0 → want ≡ get_or tree n 0 → word ≡ want → m ≡ n + 1 → HoldsFirst tree words m
Holds-more tree words n m word want h a b e f = record {
  same = λ k p. ⊎_elim
      (λ (q : k < n). h.same k q)
      (λ (q : n ≤ k). let t : k ≡ n = omega arith in rw t (sym a ∙ e ∙ b))
      (cases_lt k n);
}

pub Holds-all : (tree words : List ℕ) (n : ℕ) → HoldsFirst tree words n → length words ≡ length tree → n ≡ length tree → words ≡ tree
Holds-all tree words n h e f = ext_get_or 0 words tree e (λ i p. h.same i (omega arith))

pub first-wrong : (tree words : List ℕ) (n found want : ℕ) → HoldsFirst tree words n → n < length tree → found ≡ get_or words n 0 → want ≡ get_or tree n 0 → found ≢ want → IsFirstWrong tree words (record { at = n; want = want; found = found })
first-wrong tree words n found want h l a b ne = record {
  within = l;
  wanted = b;
  was = a;
  differs = λ e. ne (sym e);
  first = λ k p. h.same k p;
}

-- the level above is within the tree
pub above-within : (bits : List Bool) (level : Level) → IsLevel (length bits) level → 1 < size_at (length bits) level.height → start_at (length bits) (level.height + 2) ≤ tree_size (length bits)
above-within bits level l more =
    let len = length bits in
    let h = level.height in
    let e : (h + 1) + 1 ≡ h + 2 = omega arith in
    let u = start-up len (h + 1) in
    let t : start_at len (h + 1 + 1) ≡ start_at len (h + 2) = ap (start_at len) e in
    let p : 0 < size_at len (h + 1) = parent-there len h 0 (omega arith) in
    let a = node-at bits (h + 1) (size_at len (h + 1) - 1) (reached-above len level l more) (omega arith) in
    omega (arith, a.0, nodes-length bits, u, t, p)
