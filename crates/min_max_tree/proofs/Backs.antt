-- a search back, from stretch to stretch and from node to node
use Rattle.std.specs.Prelude.{ℤ, pos, ◌+ℤ◌, ◌-ℤ◌, ◌<ℤ◌, ◌≤ℤ◌, Option, Some, None, IfSome, IfNone}
use Rattle.std.proofs.Common.{◌≡◌, ◌≢◌, ℕ, zero, suc, ◌+◌, ◌-◌, ◌*◌, ◌/◌, ◌%◌, ◌<◌, ◌≤◌, Bool, true, false, List, length, get_or, refl, ap, sym, ◌∙◌, arith, ⊎_elim, subst, min, add-zero}
use Rattle.std.proofs.lemmas.Bool.{cases_lt}
use Rattle.std.proofs.lemmas.Int.{ints, clamps}
use Rattle.std.proofs.Math.Nat.{mul-le-mul_left}
use Rattle.bit_words.specs.Bits.{rank, excess, word_bits, is_set, IsLast}
use Rattle.bit_words.proofs.Ranks.{rank-le-rank}
use Rattle.bit_words.proofs.BitLists.{length-word_bits}
use Rattle.min_max_tree.specs.SearchBack.{WasAbove, Leaves, Remains, IsSpotBack, PassesBack, LeadsBack, SiblingBack}
use Rattle.min_max_tree.specs.Tree.{span_at, size_at, node_from, node_to, least, total_of, least_of}
use Rattle.min_max_tree.specs.Level.{IsLevel}
use Rattle.min_max_tree.specs.declared.level.Level.{Level}
use Rattle.min_max_tree.specs.declared.view.Spot.{Spot}
use Rattle.min_max_tree.specs.declared.view.Side.{Side}
use Rattle.min_max_tree.specs.declared.view.Side.TheVariants.{Reached, Passed}
use Rattle.min_max_tree.proofs.Falls.{slope, slope-up, excess-step-up, excess-ranks, chunk-excess}
use Rattle.min_max_tree.proofs.Nodes.{next-from, node-order, left-from, right-to, left-there, only-left, least-le, least-above}
use Rattle.min_max_tree.proofs.Combine.{total-up, least-up, least-up_only}
use Rattle.min_max_tree.proofs.Levels.{span-zero}
use Rattle.min_max_tree.proofs.Rises.{even-from, odd-from}

-- where the excess is never t before a place above t, it was above t
module _ (bits : List Bool) (t : ℤ) (low high : ℕ) (within : high ≤ length bits) (start : t <ℤ excess bits high) where
  never_back : ((p : ℕ) → low ≤ p → p < high → excess bits p ≢ t) → (d p : ℕ) → p + d ≡ high → low ≤ p → t <ℤ excess bits p
  never_back never zero p e l = let f : high ≡ p = omega arith in subst (λ x. t <ℤ excess bits x) f start
  never_back never (suc d) p e l =
      let r : t <ℤ excess bits (p + 1) = never_back never d (p + 1) (omega arith) (omega arith) in
      let s : excess bits (p + 1) ≤ℤ (excess bits p +ℤ pos 1) = excess-step-up bits p (omega arith) in
      let n : excess bits p ≢ t = never p l (omega arith) in
      omega (arith, ints)

  pub was_from_never : ((p : ℕ) → low ≤ p → p < high → excess bits p ≢ t) → WasAbove bits t low high
  was_from_never never = record { above = λ p h l. never_back never (high - p) p (omega arith) h }

-- ---- one stretch before another
module _ (bits : List Bool) (t : ℤ) (mid high need left : ℕ) (remains : Remains bits t mid high need left) (order : mid ≤ high) where
  pub join_left : (low base p : ℕ) → base ≤ low → Leaves bits (excess bits mid -ℤ pos left) low mid p → Leaves bits t base high p
  join_left low base p h r =
      let e : excess bits mid -ℤ pos left ≡ t = omega (arith, ints, remains.level) in
      record {
        from = omega (arith, r.from);
        before = omega (arith, r.before);
        here = r.here ∙ e;
        after = λ q a b. ⊎_elim
            (λ (c : q < mid). subst (λ x. x <ℤ excess bits q) e (r.after q a c))
            (λ (c : mid ≤ q). remains.was.above q c b)
            (cases_lt q mid);
      }

  pub join_remains : (low more : ℕ) → low ≤ mid → Remains bits (excess bits mid -ℤ pos left) low mid left more → Remains bits t low high need more
  join_remains low more h r =
      let e : excess bits mid -ℤ pos left ≡ t = omega (arith, ints, remains.level) in
      record {
        was = record {
          above = λ q a b. ⊎_elim
              (λ (c : q < mid). subst (λ x. x <ℤ excess bits q) e (r.was.above q a c))
              (λ (c : mid ≤ q). remains.was.above q c b)
              (cases_lt q mid);
        };
        level = r.level ∙ ap (λ x. x +ℤ pos more) e;
        some = r.some;
        few = omega (arith, remains.few, r.few);
      }

pub remains_none : (bits : List Bool) (high need : ℕ) → 1 ≤ need → Remains bits (excess bits high -ℤ pos need) high high need need
remains_none bits high need h = record {
  was = record { above = λ p a b. absurd (omega arith) };
  level = omega (arith, ints);
  some = h;
  few = omega arith;
}

-- ---- a search back in a word, from place high to place low, for a drop of `need`
module _ (bits : List Bool) (word chunk : ℕ) (agree : (k : ℕ) → k < 64 → is_set chunk k ≡ get_or bits (64 * word + k) false) (low high need drop : ℕ) (order : low ≤ high) (top : high ≤ 64) (within : 64 * word + high ≤ length bits) (some : 1 ≤ need) (capped : drop ≡ min need 65) where
  never_before : drop ≡ need → (first : ℕ) → low ≤ first → ((q : ℕ) → first ≤ q → q < high → excess (word_bits chunk) q ≢ excess (word_bits chunk) high -ℤ pos drop) → (a : ℕ) → 64 * word + first ≤ a → a < 64 * word + high → excess bits a ≢ excess bits (64 * word + high) -ℤ pos need
  never_before same first after never a h l e =
      let q = a - 64 * word in
      let f : 64 * word + q ≡ a = omega arith in
      let x : excess bits a ≡ excess bits (64 * word) +ℤ excess (word_bits chunk) q = subst (λ n. excess bits n ≡ excess bits (64 * word) +ℤ excess (word_bits chunk) q) f (chunk-excess bits word chunk agree q (omega arith) (omega arith)) in
      let y = chunk-excess bits word chunk agree high (omega arith) (omega arith) in
      never q (omega arith) (omega arith) (omega (arith, ints, e, x, y, same))

  small_back : (p : ℕ) → low ≤ p → p < high → excess (word_bits chunk) p ≡ excess (word_bits chunk) high -ℤ pos drop → drop ≡ need
  small_back p h l e =
      let d = high - p in
      let f : p + d ≡ high = omega arith in
      let s : excess (word_bits chunk) high ≤ℤ (excess (word_bits chunk) p +ℤ pos d) = subst (λ n. excess (word_bits chunk) n ≤ℤ (excess (word_bits chunk) p +ℤ pos d)) f (slope-up (word_bits chunk) p d (rw length-word_bits (omega arith))) in
      let m : drop ≤ 64 = omega (arith, ints, s, e) in
      omega arith

  pub left_in_list : (p : ℕ) → low ≤ p → p < high → excess (word_bits chunk) p ≡ excess (word_bits chunk) high -ℤ pos drop → ((q : ℕ) → p < q → q < high → excess (word_bits chunk) q ≢ excess (word_bits chunk) high -ℤ pos drop) → Leaves bits (excess bits (64 * word + high) -ℤ pos need) (64 * word + low) (64 * word + high) (64 * word + p)
  left_in_list p h l e before =
      let same = small_back p h l e in
      let y = chunk-excess bits word chunk agree high (omega arith) (omega arith) in
      let x = chunk-excess bits word chunk agree p (omega arith) (omega arith) in
      let start : (excess bits (64 * word + high) -ℤ pos need) <ℤ excess bits (64 * word + high) = omega (arith, ints) in
      let was = was_from_never bits (excess bits (64 * word + high) -ℤ pos need) (64 * word + (p + 1)) (64 * word + high) within start
      (never_before same (p + 1) (omega arith) (λ q a b. before q (omega arith) b)) in
      record {
        from = omega arith;
        before = omega arith;
        here = omega (arith, ints, e, x, y, same);
        after = λ q a b. was.above q (omega arith) b;
      }

  pub never_in_word : ((q : ℕ) → low ≤ q → q < high → excess (word_bits chunk) q ≢ excess (word_bits chunk) high -ℤ pos drop) → WasAbove bits (excess bits (64 * word + high) -ℤ pos need) (64 * word + low) (64 * word + high)
  never_in_word never =
      let start : (excess bits (64 * word + high) -ℤ pos need) <ℤ excess bits (64 * word + high) = omega (arith, ints) in
      ⊎_elim
      (λ (h : need < 65). was_from_never bits (excess bits (64 * word + high) -ℤ pos need) (64 * word + low) (64 * word + high) within start (never_before (omega arith) low (omega arith) never))
      (λ (h : 65 ≤ need). record {
        above = λ p a b.
            let d = 64 * word + high - p in
            let f : p + d ≡ 64 * word + high = omega arith in
            let s : excess bits (64 * word + high) ≤ℤ (excess bits p +ℤ pos d) = subst (λ n. excess bits n ≤ℤ (excess bits p +ℤ pos d)) f (slope-up bits p d (omega arith)) in
            omega (arith, ints, s);
      })
      (cases_lt need 65)

  pub enough_back : ((q : ℕ) → low ≤ q → q < high → excess (word_bits chunk) q ≢ excess (word_bits chunk) high -ℤ pos drop) → low < high → 2 * (rank true (word_bits chunk) high - rank true (word_bits chunk) low) + 1 ≤ need + (high - low)
  enough_back never some' =
      let w = word_bits chunk in
      let was = never_in_word never in
      let y = chunk-excess bits word chunk agree low (omega arith) (omega arith) in
      let x = chunk-excess bits word chunk agree high (omega arith) (omega arith) in
      let a = excess-ranks w low (rw length-word_bits (omega arith)) in
      let b = excess-ranks w high (rw length-word_bits (omega arith)) in
      let m = rank-le-rank true w low high order in
      let above : (excess bits (64 * word + high) -ℤ pos need) <ℤ excess bits (64 * word + low) = was.above (64 * word + low) (omega arith) (omega arith) in
      omega (arith, ints, x, y, a, b, above, m)

  pub remains_in_list : ((q : ℕ) → low ≤ q → q < high → excess (word_bits chunk) q ≢ excess (word_bits chunk) high -ℤ pos drop) → low < high → (left : ℕ) → left ≡ need + (high - low) - 2 * (rank true (word_bits chunk) high - rank true (word_bits chunk) low) → Remains bits (excess bits (64 * word + high) -ℤ pos need) (64 * word + low) (64 * word + high) need left
  remains_in_list never some' left e =
      let w = word_bits chunk in
      let y = chunk-excess bits word chunk agree low (omega arith) (omega arith) in
      let x = chunk-excess bits word chunk agree high (omega arith) (omega arith) in
      let a = excess-ranks w low (rw length-word_bits (omega arith)) in
      let b = excess-ranks w high (rw length-word_bits (omega arith)) in
      let m = rank-le-rank true w low high order in
      let big = enough_back never some' in
      record {
        was = never_in_word never;
        level = omega (arith, ints, x, y, a, b, e, big, m);
        some = omega (arith, e, big);
        few = omega (arith, e, big);
      }

-- ---- nodes
pub passed_back : (bits : List Bool) (h j need left : ℕ) → j < size_at (length bits) h → 1 ≤ need → total_of bits h j <ℤ (least_of bits h j +ℤ pos need) → pos left +ℤ total_of bits h j ≡ pos need → Remains bits (excess bits (node_to (length bits) h j) -ℤ pos need) (node_from h j) (node_to (length bits) h j) need left
unfolding least_of total_of
passed_back bits h j need left w some up e =
    let len = length bits in
    let f = node_from h j in
    let o = node-order len h j w in
    let d = node_to len h j - f in
    let g : f + d ≡ node_to len h j = omega arith in
    let t = excess bits (node_to len h j) -ℤ pos need in
    let at : (p : ℕ) → f ≤ p → p ≤ node_to len h j → t <ℤ excess bits p = λ p a b.
    let k = p - f in
    let i : f + k ≡ p = omega arith in
    let l : least (excess bits) f d ≤ℤ excess bits (f + k) = least-le (excess bits) f d k (omega arith) in
    let m : t <ℤ excess bits (f + k) = omega (arith, ints, l) in
    subst (λ x. t <ℤ excess bits x) i m in
    let first = at f (omega arith) (omega arith) in
    let s : excess bits f ≤ℤ (excess bits (node_to len h j) +ℤ pos d) = subst (λ n. excess bits f ≤ℤ (excess bits n +ℤ pos d)) g (slope bits f d (omega arith)) in
    record {
      was = record { above = λ p a b. at p a (omega arith) };
      level = omega (arith, ints, e);
      some = omega (arith, ints, e, first);
      few = omega (arith, ints, e, s);
    }

pub passed_back_some : (bits : List Bool) (h j need : ℕ) → j < size_at (length bits) h → total_of bits h j <ℤ (least_of bits h j +ℤ pos need) → total_of bits h j ≤ℤ pos need
unfolding least_of total_of
passed_back_some bits h j need w up =
    let f = node_from h j in
    let d = node_to (length bits) h j - f in
    let l : least (excess bits) f d ≤ℤ excess bits f = rw add-zero at (least-le (excess bits) f d 0 (omega arith)) in
    omega (arith, ints, l)

-- what was above a place in all of a node does not reach it
pub spot_missed : (bits : List Bool) (h j need left : ℕ) → j < size_at (length bits) h → 1 ≤ need → (least_of bits h j +ℤ pos need) ≤ℤ total_of bits h j → Remains bits (excess bits (node_to (length bits) h j) -ℤ pos need) (node_from h j) (node_to (length bits) h j) need left → ⊥
unfolding least_of total_of
spot_missed bits h j need left w some low r =
    let len = length bits in
    let f = node_from h j in
    let o = node-order len h j w in
    let d = node_to len h j - f in
    let g : f + d ≡ node_to len h j = omega arith in
    let t = excess bits (node_to len h j) -ℤ pos need in
    let a : t <ℤ least (excess bits) f d = least-above (excess bits) t f d (λ k h'. ⊎_elim
    (λ (p : f + k < node_to len h j). r.was.above (f + k) (omega arith) p)
    (λ (p : node_to len h j ≤ f + k). let e : node_to len h j ≡ f + k = omega arith in subst (λ x. t <ℤ excess bits x) e (omega (arith, ints)))
    (cases_lt (f + k) (node_to len h j))) in
    omega (arith, ints, a)

-- what a node that is passed says of its numbers
pub passed_least : (bits : List Bool) (h j need left : ℕ) → j < size_at (length bits) h → 1 ≤ need → Remains bits (excess bits (node_to (length bits) h j) -ℤ pos need) (node_from h j) (node_to (length bits) h j) need left → total_of bits h j <ℤ (least_of bits h j +ℤ pos need)
unfolding least_of total_of
passed_least bits h j need left w some r =
    let len = length bits in
    let f = node_from h j in
    let o = node-order len h j w in
    let d = node_to len h j - f in
    let g : f + d ≡ node_to len h j = omega arith in
    let t = excess bits (node_to len h j) -ℤ pos need in
    let a : t <ℤ least (excess bits) f d = least-above (excess bits) t f d (λ k h'. ⊎_elim
    (λ (p : f + k < node_to len h j). r.was.above (f + k) (omega arith) p)
    (λ (p : node_to len h j ≤ f + k). let e : node_to len h j ≡ f + k = omega arith in subst (λ x. t <ℤ excess bits x) e (omega (arith, ints)))
    (cases_lt (f + k) (node_to len h j))) in
    omega (arith, ints, a)

pub passed_level : (bits : List Bool) (h j need left : ℕ) → Remains bits (excess bits (node_to (length bits) h j) -ℤ pos need) (node_from h j) (node_to (length bits) h j) need left → pos left +ℤ total_of bits h j ≡ pos need
unfolding total_of
passed_level bits h j need left r = omega (arith, ints, r.level)

pub total-up_only : (bits : List Bool) (h j : ℕ) → size_at (length bits) h ≤ 2 * j + 1 → total_of bits (h + 1) j ≡ total_of bits h (2 * j)
unfolding total_of
total-up_only bits h j none = rw (left-from h j, only-left (length bits) h j none) refl

-- ---- from node to node
pub back_even : (bits : List Bool) (h j need : ℕ) → 1 ≤ need → j % 2 ≡ 0 → Remains bits (excess bits (node_from h j) -ℤ pos need) (node_from (h + 1) (j / 2)) (node_from h j) need need
back_even bits h j need some o = rw (even-from h j o) (remains_none bits (node_from h j) need some)

-- the node before begins where its parent does, and ends where this one begins
pub back_odd : (bits : List Bool) (h j need left : ℕ) → j % 2 ≡ 1 → j < size_at (length bits) h → PassesBack bits h (j - 1) need (Passed left) → Remains bits (excess bits (node_from h j) -ℤ pos need) (node_from (h + 1) (j / 2)) (node_from h j) need left
back_odd bits h j need left o w p =
    let e : j - 1 + 1 ≡ j = omega arith in
    let n : node_from h j ≡ node_to (length bits) h (j - 1) = subst (λ x. node_from h x ≡ node_to (length bits) h (j - 1)) e (next-from (length bits) h (j - 1) (omega arith)) in
    let b = odd-from h j o in
    let F : ℕ → ℕ → Type 0 = λ x y. Remains bits (excess bits y -ℤ pos need) x y need left in
    subst (λ x. F x (node_from h j)) (sym b) (subst (λ y. F (node_from h (j - 1)) y) (sym n) p)

pub end-before : (len h j : ℕ) → 0 < j → j < size_at len h → node_to len h (j - 1) ≡ node_from h j
end-before len h j s w =
    let e : j - 1 + 1 ≡ j = omega arith in
    sym (subst (λ x. node_from h x ≡ node_to len h (j - 1)) e (next-from len h (j - 1) (omega arith)))

pub back_found : (bits : List Bool) (level : Level) (high j need left : ℕ) → IsLevel (length bits) level → node_from level.height j ≤ high → Remains bits (excess bits high -ℤ pos need) (node_from level.height j) high need left → 0 < j → j < size_at (length bits) level.height → (least_of bits level.height (j - 1) +ℤ pos left) ≤ℤ total_of bits level.height (j - 1) → LeadsBack bits high need (record { level = level; j = j - 1; need = left })
back_found bits level high j need left l order r s w low =
    let a = end-before (length bits) level.height j s w in
    record {
      is_spot = record { level = l; within = omega arith; some = r.some; reaches = low };
      order = rw a order;
      remains = rw a r;
    }

-- the left child has the place where the right one, if any, does not
pub left_has : (bits : List Bool) (h j need left : ℕ) → j < size_at (length bits) (h + 1) → 2 * j + 1 < size_at (length bits) h → (least_of bits (h + 1) j +ℤ pos need) ≤ℤ total_of bits (h + 1) j → total_of bits h (2 * j + 1) <ℤ (least_of bits h (2 * j + 1) +ℤ pos need) → pos left +ℤ total_of bits h (2 * j + 1) ≡ pos need → (least_of bits h (2 * j) +ℤ pos left) ≤ℤ total_of bits h (2 * j)
left_has bits h j need left w there low up e =
    let a = total-up bits h j w there in
    let b = least-up bits h j w there in
    omega (arith, ints, clamps, a, b, low, up, e)

pub only_has : (bits : List Bool) (h j need : ℕ) → j < size_at (length bits) (h + 1) → size_at (length bits) h ≤ 2 * j + 1 → (least_of bits (h + 1) j +ℤ pos need) ≤ℤ total_of bits (h + 1) j → (least_of bits h (2 * j) +ℤ pos need) ≤ℤ total_of bits h (2 * j)
only_has bits h j need w none low =
    let a = total-up_only bits h j none in
    let b = least-up_only bits h j w none in
    omega (arith, ints, a, b, low)

module _ (bits : List Bool) (h : ℕ) (level : Level) (j need : ℕ) (l : IsLevel (length bits) level) (e : level.height + 1 ≡ h) (w : j < size_at (length bits) h) (some : 1 ≤ need) (low : (least_of bits h j +ℤ pos need) ≤ℤ total_of bits h j) where
  w' : j < size_at (length bits) (level.height + 1)
  w' = subst (λ x. j < size_at (length bits) x) (sym e) w

  low' : (least_of bits (level.height + 1) j +ℤ pos need) ≤ℤ total_of bits (level.height + 1) j
  low' = subst (λ x. (least_of bits x j +ℤ pos need) ≤ℤ total_of bits x j) (sym e) low

  to_here : node_to (length bits) (level.height + 1) j ≡ node_to (length bits) h j
  to_here = ap (λ x. node_to (length bits) x j) e

  pub child_only : size_at (length bits) level.height ≤ 2 * j + 1 → LeadsBack bits (node_to (length bits) h j) need (record { level = level; j = 2 * j; need = need })
  child_only none =
      let a : node_to (length bits) level.height (2 * j) ≡ node_to (length bits) h j = only-left (length bits) level.height j none ∙ to_here in
      record {
        is_spot = record { level = l; within = left-there (length bits) level.height j w'; some = some; reaches = only_has bits level.height j need w' none low' };
        order = omega arith;
        remains = rw a (remains_none bits (node_to (length bits) h j) need some);
      }

  pub child_last : 2 * j + 1 < size_at (length bits) level.height → (least_of bits level.height (2 * j + 1) +ℤ pos need) ≤ℤ total_of bits level.height (2 * j + 1) → LeadsBack bits (node_to (length bits) h j) need (record { level = level; j = 2 * j + 1; need = need })
  child_last there r =
      let a : node_to (length bits) level.height (2 * j + 1) ≡ node_to (length bits) h j = right-to (length bits) level.height j ∙ to_here in
      record {
        is_spot = record { level = l; within = there; some = some; reaches = r };
        order = omega arith;
        remains = rw a (remains_none bits (node_to (length bits) h j) need some);
      }

  pub child_first : (left : ℕ) → 2 * j + 1 < size_at (length bits) level.height → PassesBack bits level.height (2 * j + 1) need (Passed left) → LeadsBack bits (node_to (length bits) h j) need (record { level = level; j = 2 * j; need = left })
  child_first left there r =
      let len = length bits in
      let k = level.height in
      let has = left_has bits k j need left w' there low' (passed_least bits k (2 * j + 1) need left there some r) (passed_level bits k (2 * j + 1) need left r) in
      let a : node_to len k (2 * j + 1) ≡ node_to len h j = right-to len k j ∙ to_here in
      let n = next-from len k (2 * j) there in
      let o = node-order len k (2 * j + 1) there in
      let F : ℕ → ℕ → Type 0 = λ x y. Remains bits (excess bits y -ℤ pos need) x y need left in
      record {
        is_spot = record { level = l; within = left-there len k j w'; some = r.some; reaches = has };
        order = omega arith;
        remains = subst (λ y. F (node_to len k (2 * j)) y) a (subst (λ x. F x (node_to len k (2 * j + 1))) n r);
      }

pub leads_back_on : (bits : List Bool) (high need : ℕ) (spot next : Spot) → LeadsBack bits high need spot → LeadsBack bits (node_to (length bits) spot.level.height spot.j) spot.need next → LeadsBack bits high need next
leads_back_on bits high need spot next a b = record {
  is_spot = b.is_spot;
  order = omega (arith, a.order, b.order);
  remains = join_remains bits (excess bits high -ℤ pos need) (node_to (length bits) spot.level.height spot.j) high need spot.need a.remains a.order (node_to (length bits) next.level.height next.j) next.need b.order b.remains;
}

pub leads_back_none : (bits : List Bool) (spot : Spot) → IsSpotBack bits spot → LeadsBack bits (node_to (length bits) spot.level.height spot.j) spot.need spot
leads_back_none bits spot s = record {
  is_spot = s;
  order = omega arith;
  remains = remains_none bits (node_to (length bits) spot.level.height spot.j) spot.need s.some;
}

-- ---- the last place, from what a search says
pub last_some : (bits : List Bool) (i drop p : ℕ) → Leaves bits (excess bits i -ℤ pos drop) 0 i p → IsLast (λ p. excess bits p ≡ excess bits i -ℤ pos drop) 0 i (Some p)
last_some bits i drop p r = (r.from, r.before, r.here, λ q a b e. let u = r.after q a b in omega (arith, ints, u, e))

pub last_none : (bits : List Bool) (i drop : ℕ) → WasAbove bits (excess bits i -ℤ pos drop) 0 i → IsLast (λ p. excess bits p ≡ excess bits i -ℤ pos drop) 0 i None
last_none bits i drop s = λ p a b e. let u = s.above p a b in omega (arith, ints, u, e)

pub last_before : (bits : List Bool) (i drop start need : ℕ) (found : Option ℕ) → start ≤ i → Remains bits (excess bits i -ℤ pos drop) start i drop need
    → IfSome found (Leaves bits (excess bits start -ℤ pos need) 0 start) → IfNone found (WasAbove bits (excess bits start -ℤ pos need) 0 start)
    → IsLast (λ p. excess bits p ≡ excess bits i -ℤ pos drop) 0 i found
last_before bits i drop start need None o r some none =
    let t = excess bits i -ℤ pos drop in
    let e : excess bits start -ℤ pos need ≡ t = omega (arith, ints, r.level) in
    last_none bits i drop (record {
      above = λ p a b. ⊎_elim
          (λ (c : p < start). subst (λ x. x <ℤ excess bits p) e (none.above p a c))
          (λ (c : start ≤ p). r.was.above p c b)
          (cases_lt p start);
    })
last_before bits i drop start need (Some p) o r some none =
    last_some bits i drop p (join_left bits (excess bits i -ℤ pos drop) start i drop need r o 0 0 p (omega arith) some)

-- a drop by more than there are bits
pub too_deep_back : (bits : List Bool) (i drop : ℕ) → i ≤ length bits → length bits < drop → IsLast (λ p. excess bits p ≡ excess bits i -ℤ pos drop) 0 i None
too_deep_back bits i drop h deep p a b e =
    let d = i - p in
    let f : p + d ≡ i = omega arith in
    let s : excess bits i ≤ℤ (excess bits p +ℤ pos d) = subst (λ x. excess bits x ≤ℤ (excess bits p +ℤ pos d)) f (slope-up bits p d (omega arith)) in
    omega (arith, ints, s, e)

pub nearer : (bits : List Bool) (t : ℤ) (low high p : ℕ) → Leaves bits t low high p → Leaves bits t 0 high p
nearer bits t low high p r = record { from = omega arith; before = r.before; here = r.here; after = r.after }

pub block_start : (j : ℕ) → node_from 0 j ≡ 512 * j
block_start j = ap (λ x. x * j) span-zero

pub block_end : (len j : ℕ) → node_to len 0 j ≡ min len (512 * j + 512)
block_end len j = let e : 512 * (j + 1) ≡ 512 * j + 512 = omega arith in ap (λ x. min len (x * (j + 1))) span-zero ∙ ap (min len) e

pub spot_block_back : (bits : List Bool) (spot : Spot) → IsSpotBack bits spot → spot.level.height ≡ 0 → (spot.j < size_at (length bits) 0) × ((least_of bits 0 spot.j +ℤ pos spot.need) ≤ℤ total_of bits 0 spot.j)
spot_block_back bits spot s e = (rw e at s.within, rw e at s.reaches)

-- a scan of the spot's block finds the place
pub block_missed_back : (bits : List Bool) (spot : Spot) (end left : ℕ) → IsSpotBack bits spot → spot.level.height ≡ 0 → end ≡ min (length bits) (512 * spot.j + 512) → Remains bits (excess bits end -ℤ pos spot.need) (512 * spot.j) end spot.need left → ⊥
block_missed_back bits spot end left s e f r =
    let b = spot_block_back bits spot s e in
    let a : 512 * spot.j ≡ node_from 0 spot.j = sym (block_start spot.j) in
    let c : end ≡ node_to (length bits) 0 spot.j = f ∙ sym (block_end (length bits) spot.j) in
    let F : ℕ → ℕ → Type 0 = λ x y. Remains bits (excess bits y -ℤ pos spot.need) x y spot.need left in
    spot_missed bits 0 spot.j spot.need left b.0 s.some b.1 (subst (λ y. F (node_from 0 spot.j) y) c (subst (λ x. F x end) a r))

pub block_hit_back : (bits : List Bool) (j need low end p : ℕ) → end ≡ min (length bits) (512 * j + 512) → Leaves bits (excess bits end -ℤ pos need) low end p → Leaves bits (excess bits (node_to (length bits) 0 j) -ℤ pos need) 0 (node_to (length bits) 0 j) p
block_hit_back bits j need low end p f r =
    let c : end ≡ node_to (length bits) 0 j = f ∙ sym (block_end (length bits) j) in
    subst (λ y. Leaves bits (excess bits y -ℤ pos need) 0 y p) c (nearer bits (excess bits end -ℤ pos need) low end p r)

-- the place that the lowest spot leads to
pub led_back_to : (bits : List Bool) (high need p : ℕ) (spot : Spot) → LeadsBack bits high need spot → spot.level.height ≡ 0 → Leaves bits (excess bits (node_to (length bits) 0 spot.j) -ℤ pos spot.need) 0 (node_to (length bits) 0 spot.j) p → Leaves bits (excess bits high -ℤ pos need) 0 high p
led_back_to bits high need p spot l e r =
    let k : node_to (length bits) 0 spot.j ≡ node_to (length bits) spot.level.height spot.j = ap (λ h. node_to (length bits) h spot.j) (sym e) in
    join_left bits (excess bits high -ℤ pos need) (node_to (length bits) spot.level.height spot.j) high need spot.need l.remains l.order 0 0 p (omega arith)
    (subst (λ x. Leaves bits (excess bits x -ℤ pos spot.need) 0 x p) k r)

pub sibling_back_of : (bits : List Bool) (h j need : ℕ) (side : Side) → j % 2 ≡ 1 → j < size_at (length bits) h → PassesBack bits h (j - 1) need side → SiblingBack bits h j need side
sibling_back_of bits h j need Reached o w p = (omega arith, p)
sibling_back_of bits h j need (Passed left) o w p = back_odd bits h j need left o w p

pub from-up : (h j : ℕ) → node_from (h + 1) (j / 2) ≤ node_from h j
from-up h j =
    let a = left-from h (j / 2) in
    let c : span_at h * (2 * (j / 2)) ≤ span_at h * j = mul-le-mul_left (span_at h) (omega arith) in
    omega arith
