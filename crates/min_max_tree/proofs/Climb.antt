-- from node to node
use Rattle.std.specs.Prelude.{ℤ, pos, ◌+ℤ◌, ◌-ℤ◌, ◌<ℤ◌, ◌≤ℤ◌}
use Rattle.std.proofs.Common.{◌≡◌, ℕ, ◌+◌, ◌-◌, ◌*◌, ◌/◌, ◌%◌, ◌<◌, ◌≤◌, Bool, List, length, ap, sym, ◌∙◌, arith, ⊎_elim, subst, min}
use Rattle.std.proofs.lemmas.Bool.{cases_lt}
use Rattle.std.proofs.lemmas.Int.{ints}
use Rattle.std.proofs.Math.Nat.{mul-le-mul_left}
use Rattle.std.specs.Prelude.{Option, Some, None, IfSome, IfNone}
use Rattle.bit_words.specs.Bits.{excess, IsNext}
use Rattle.bit_words.specs.Digits.{digits}
use Rattle.bit_words.proofs.DigitLaws.{digits-mono, digits-halved, digits-half}
use Rattle.min_max_tree.specs.Search.{StaysAbove, Rests, Reaches}
use Rattle.min_max_tree.specs.Tree.{span_at, size_at, node_from, node_to, least, least_of}
use Rattle.min_max_tree.specs.Level.{IsLevel, IsSpot, LeadsTo, Passes, Sibling}
use Rattle.min_max_tree.specs.declared.level.Level.{Level}
use Rattle.min_max_tree.specs.declared.view.Spot.{Spot}
use Rattle.min_max_tree.specs.declared.view.Side.{Side}
use Rattle.min_max_tree.specs.declared.view.Side.TheVariants.{Reached, Passed}
use Rattle.min_max_tree.proofs.Falls.{rests_none, join_rests, join_found, slope}
use Rattle.min_max_tree.proofs.Nodes.{there-node, parent-end_odd, parent-end_pair, parent-end_last, next-from, node-order, left-from, right-to, left-there, only-left, least-above, least-rest, size-up}
use Rattle.min_max_tree.proofs.Levels.{size-le, span-zero}

-- where no sibling follows, the parent ends here too
pub sibling_odd : (bits : List Bool) (h j need : ℕ) → 1 ≤ need → j % 2 ≡ 1 → Sibling bits h j need (Passed need)
sibling_odd bits h j need some o = rw (parent-end_odd (length bits) h j o) (rests_none bits (node_to (length bits) h j) need some)

pub sibling_last : (bits : List Bool) (h j need : ℕ) → 1 ≤ need → j % 2 ≡ 0 → size_at (length bits) h ≤ j + 1 → Sibling bits h j need (Passed need)
sibling_last bits h j need some o l = rw (parent-end_last (length bits) h j o l) (rests_none bits (node_to (length bits) h j) need some)

pub sibling_of : (bits : List Bool) (h j need : ℕ) (side : Side) → j % 2 ≡ 0 → j + 1 < size_at (length bits) h → Passes bits h (j + 1) need side → Sibling bits h j need side
sibling_of bits h j need Reached o l p = (l, p)
sibling_of bits h j need (Passed left) o l p =
    let a = next-from (length bits) h j l in
    let b = parent-end_pair (length bits) h j o in
    let F : ℕ → ℕ → Type 0 = λ x y. Rests bits (excess bits x -ℤ pos need) x y need left in
    subst (λ y. F (node_to (length bits) h j) y) (sym b) (subst (λ x. F x (node_to (length bits) h (j + 1))) a p)

pub climb_found : (bits : List Bool) (level : Level) (low j need left : ℕ) → IsLevel (length bits) level → low ≤ node_to (length bits) level.height j → Rests bits (excess bits low -ℤ pos need) low (node_to (length bits) level.height j) need left → Sibling bits level.height j left Reached → LeadsTo bits low need (record { level = level; j = j + 1; need = left })
climb_found bits level low j need left l order r s =
    let a = next-from (length bits) level.height j s.0 in
    record {
      is_spot = record { level = l; within = s.0; some = r.some; reaches = s.1 };
      order = rw a order;
      rests = rw a r;
    }

pub climb_on : (bits : List Bool) (h low j need left more : ℕ) → low ≤ node_to (length bits) h j → node_to (length bits) h j ≤ node_to (length bits) (h + 1) (j / 2) → Rests bits (excess bits low -ℤ pos need) low (node_to (length bits) h j) need left → Sibling bits h j left (Passed more) → Rests bits (excess bits low -ℤ pos need) low (node_to (length bits) (h + 1) (j / 2)) need more
climb_on bits h low j need left more order up r s =
    join_rests bits (excess bits low -ℤ pos need) low (node_to (length bits) h j) need left r order (node_to (length bits) (h + 1) (j / 2)) more up s

pub parent-end-le : (len h j : ℕ) → node_to len h j ≤ node_to len (h + 1) (j / 2)
parent-end-le len h j =
    ⊎_elim
    (λ (o : 0 < j % 2). let e = parent-end_odd len h j (omega arith) in omega arith)
    (λ (o : j % 2 ≤ 0).
    let e = parent-end_pair len h j (omega arith) in
    let c : span_at h * (j + 1) ≤ span_at h * (j + 1 + 1) = mul-le-mul_left (span_at h) (omega arith) in
    omega arith)
    (cases_lt 0 (j % 2))

pub digits-some : (n : ℕ) → 0 < n → 1 ≤ digits n
digits-some n h = omega (arith, digits-half n h)

pub climb_step : (len h : ℕ) → 1 < size_at len h → digits (size_at len (h + 1) - 1) + 1 ≤ digits (size_at len h - 1)
climb_step len h l = digits-halved (size_at len (h + 1) - 1) (size_at len h - 1) (omega arith) (size-up len h l)

pub size-digits : (len : ℕ) → digits (size_at len 0 - 1) ≤ digits len
size-digits len = let a = size-le len 0 in digits-mono (size_at len 0 - 1) len (omega arith)

-- what stays above a place in all of a node does not reach it
above_least : (bits : List Bool) (t : ℤ) (f d : ℕ) → t <ℤ excess bits f → StaysAbove bits t f (f + d) → t <ℤ least (excess bits) f d
above_least bits t f d start stays =
    least-above (excess bits) t f d (λ k h. ⊎_elim
    (λ (p : 0 < k). stays.above (f + k) (omega arith) (omega arith))
    (λ (p : k ≤ 0). let e : f + k ≡ f = omega arith in rw e start)
    (cases_lt 0 k))

pub spot_reached : (bits : List Bool) (h j need left : ℕ) → j < size_at (length bits) h → 1 ≤ need → (least_of bits h j +ℤ pos need) ≤ℤ pos 0 → Rests bits (excess bits (node_from h j) -ℤ pos need) (node_from h j) (node_to (length bits) h j) need left → ⊥
unfolding least_of
spot_reached bits h j need left w some low r =
    let f = node_from h j in
    let o = node-order (length bits) h j w in
    let d = node_to (length bits) h j - f in
    let g : f + d ≡ node_to (length bits) h j = omega arith in
    let t = excess bits f -ℤ pos need in
    let start : t <ℤ excess bits f = omega (arith, ints) in
    let a = above_least bits t f d start (subst (λ x. StaysAbove bits t f x) (sym g) r.stays) in
    omega (arith, ints, a)

module _ (bits : List Bool) (k j need : ℕ) (within : j < size_at (length bits) (k + 1)) (some : 1 ≤ need) (low : (least_of bits (k + 1) j +ℤ pos need) ≤ℤ pos 0) where
  pub right_there : (left : ℕ) → Rests bits (excess bits (node_from k (2 * j)) -ℤ pos need) (node_from k (2 * j)) (node_to (length bits) k (2 * j)) need left → 2 * j + 1 < size_at (length bits) k
  right_there left r =
      ⊎_elim
      (λ (p : 2 * j + 1 < size_at (length bits) k). p)
      (λ (p : size_at (length bits) k ≤ 2 * j + 1).
      let a = only-left (length bits) k j p in
      let b = left-from k j in
      let F : ℕ → ℕ → Type 0 = λ x y. Rests bits (excess bits x -ℤ pos need) x y need left in
      absurd (spot_reached bits (k + 1) j need left within some low
      (subst (λ y. F (node_from (k + 1) j) y) a (subst (λ x. F x (node_to (length bits) k (2 * j))) b r))))
      (cases_lt (2 * j + 1) (size_at (length bits) k))

  pub right_reaches : (left : ℕ) → Rests bits (excess bits (node_from k (2 * j)) -ℤ pos need) (node_from k (2 * j)) (node_to (length bits) k (2 * j)) need left → (least_of bits k (2 * j + 1) +ℤ pos left) ≤ℤ pos 0
  unfolding least_of
  right_reaches left r =
      let len = length bits in
      let there = right_there left r in
      let f = node_from k (2 * j) in
      let m = node_to len k (2 * j) in
      let e = node_to len k (2 * j + 1) in
      let fm = node-order len k (2 * j) (omega arith) in
      let me = node-order len k (2 * j + 1) there in
      let n = next-from len k (2 * j) there in
      let d1 = m - f in
      let d2 = e - m in
      let t = excess bits f -ℤ pos need in
      let start : t <ℤ excess bits f = omega (arith, ints) in
      let g : f + d1 ≡ m = omega arith in
      let a : t <ℤ least (excess bits) f d1 = above_least bits t f d1 start (subst (λ x. StaysAbove bits t f x) (sym g) r.stays) in
      let b = left-from k j in
      let c = right-to len k j in
      let q : node_to len (k + 1) j - node_from (k + 1) j ≡ d1 + d2 = omega arith in
      let low' : least (excess bits) f (d1 + d2) ≤ℤ t =
      let x : (least (excess bits) f (d1 + d2) -ℤ excess bits f +ℤ pos need) ≤ℤ pos 0 = rw (q, ← b) at low in omega (arith, ints, x) in
      let s : least (excess bits) (f + d1) d2 ≤ℤ t = least-rest (excess bits) t f d1 d2 a low' in
      let s' : least (excess bits) m d2 ≤ℤ t = subst (λ x. least (excess bits) x d2 ≤ℤ t) g s in
      rw n (omega (arith, ints, s', r.level))

pub child_left : (bits : List Bool) (h : ℕ) (level : Level) (j need : ℕ) → IsLevel (length bits) level → level.height + 1 ≡ h → j < size_at (length bits) h → 1 ≤ need → (least_of bits level.height (2 * j) +ℤ pos need) ≤ℤ pos 0 → LeadsTo bits (node_from h j) need (record { level = level; j = 2 * j; need = need })
child_left bits h level j need l e w some low =
    let k = level.height in
    let w' : j < size_at (length bits) (k + 1) = subst (λ x. j < size_at (length bits) x) (sym e) w in
    let a : node_from h j ≡ node_from k (2 * j) = ap (λ x. node_from x j) (sym e) ∙ sym (left-from k j) in
    record {
      is_spot = record { level = l; within = left-there (length bits) k j w'; some = some; reaches = low };
      order = omega arith;
      rests = rw a (rests_none bits (node_from k (2 * j)) need some);
    }

pub child_right : (bits : List Bool) (h : ℕ) (level : Level) (j need left : ℕ) → IsLevel (length bits) level → level.height + 1 ≡ h → j < size_at (length bits) h → 1 ≤ need → (least_of bits h j +ℤ pos need) ≤ℤ pos 0 → Passes bits level.height (2 * j) need (Passed left) → LeadsTo bits (node_from h j) need (record { level = level; j = 2 * j + 1; need = left })
child_right bits h level j need left l e w some low r =
    let k = level.height in
    let w' : j < size_at (length bits) (k + 1) = subst (λ x. j < size_at (length bits) x) (sym e) w in
    let low' : (least_of bits (k + 1) j +ℤ pos need) ≤ℤ pos 0 = subst (λ x. (least_of bits x j +ℤ pos need) ≤ℤ pos 0) (sym e) low in
    let there = right_there bits k j need w' some low' left r in
    let a : node_from h j ≡ node_from k (2 * j) = ap (λ x. node_from x j) (sym e) ∙ sym (left-from k j) in
    let n = next-from (length bits) k (2 * j) there in
    let o = node-order (length bits) k (2 * j) (omega arith) in
    record {
      is_spot = record { level = l; within = there; some = r.some; reaches = right_reaches bits k j need w' some low' left r };
      order = omega arith;
      rests = rw (a, n) r;
    }

pub leads_on : (bits : List Bool) (low need : ℕ) (spot next : Spot) → LeadsTo bits low need spot → LeadsTo bits (node_from spot.level.height spot.j) spot.need next → LeadsTo bits low need next
leads_on bits low need spot next a b = record {
  is_spot = b.is_spot;
  order = omega (arith, a.order, b.order);
  rests = join_rests bits (excess bits low -ℤ pos need) low (node_from spot.level.height spot.j) need spot.need a.rests a.order (node_from next.level.height next.j) next.need b.order b.rests;
}

pub leads_none : (bits : List Bool) (spot : Spot) → IsSpot bits spot → LeadsTo bits (node_from spot.level.height spot.j) spot.need spot
leads_none bits spot s = record {
  is_spot = s;
  order = omega arith;
  rests = rests_none bits (node_from spot.level.height spot.j) spot.need s.some;
}

pub small-index : (len h j : ℕ) → j < size_at len h → len ≤ 2147483647 → j < 2147483647
small-index len h j l few = let a = size-le len h in omega arith

-- ---- blocks
pub block_from : (j : ℕ) → node_from 0 j ≡ 512 * j
block_from j = ap (λ x. x * j) span-zero

pub block_to : (len j : ℕ) → node_to len 0 j ≡ min len (512 * (j + 1))
block_to len j = ap (λ x. min len (x * (j + 1))) span-zero

pub block_there : (len i : ℕ) → i < len → i / 512 < size_at len 0
block_there len i h = there-node len 0 (i / 512) (rw span-zero (omega arith))

pub spot_block : (bits : List Bool) (spot : Spot) → IsSpot bits spot → spot.level.height ≡ 0 → (spot.j < size_at (length bits) 0) × ((least_of bits 0 spot.j +ℤ pos spot.need) ≤ℤ pos 0)
spot_block bits spot s e = (rw e at s.within, rw e at s.reaches)

pub longer : (bits : List Bool) (t : ℤ) (low high top p : ℕ) → high ≤ top → Reaches bits t low high p → Reaches bits t low top p
longer bits t low high top p h r = record { after = r.after; within = omega (arith, r.within); here = r.here; before = r.before }

-- a scan of the spot's block finds the place
pub block_missed : (bits : List Bool) (spot : Spot) (end left : ℕ) → IsSpot bits spot → spot.level.height ≡ 0 → end ≡ min (length bits) (512 * spot.j + 512) → Rests bits (excess bits (512 * spot.j) -ℤ pos spot.need) (512 * spot.j) end spot.need left → ⊥
block_missed bits spot end left s e f r =
    let b = spot_block bits spot s e in
    let a : 512 * spot.j ≡ node_from 0 spot.j = sym (block_from spot.j) in
    let c : end ≡ node_to (length bits) 0 spot.j = f ∙ ap (min (length bits)) (the_end spot.j) ∙ sym (block_to (length bits) spot.j) in
    let F : ℕ → ℕ → Type 0 = λ x y. Rests bits (excess bits x -ℤ pos spot.need) x y spot.need left in
    spot_reached bits 0 spot.j spot.need left b.0 s.some b.1 (subst (λ y. F (node_from 0 spot.j) y) c (subst (λ x. F x end) a r))
  where
    the_end : (j : ℕ) → 512 * j + 512 ≡ 512 * (j + 1)
    the_end j = omega arith

pub block_hit : (bits : List Bool) (j need end p : ℕ) → end ≤ length bits → Reaches bits (excess bits (512 * j) -ℤ pos need) (512 * j) end p → Reaches bits (excess bits (node_from 0 j) -ℤ pos need) (node_from 0 j) (length bits) p
block_hit bits j need end p h r =
    let a : 512 * j ≡ node_from 0 j = sym (block_from j) in
    subst (λ x. Reaches bits (excess bits x -ℤ pos need) x (length bits) p) a (longer bits (excess bits (512 * j) -ℤ pos need) (512 * j) end (length bits) p h r)

-- the place that the lowest spot leads to
pub led_to : (bits : List Bool) (low need p : ℕ) (spot : Spot) → LeadsTo bits low need spot → spot.level.height ≡ 0 → Reaches bits (excess bits (node_from 0 spot.j) -ℤ pos spot.need) (node_from 0 spot.j) (length bits) p → Reaches bits (excess bits low -ℤ pos need) low (length bits) p
led_to bits low need p spot l e r =
    let k : node_from 0 spot.j ≡ node_from spot.level.height spot.j = ap (λ h. node_from h spot.j) (sym e) in
    join_found bits (excess bits low -ℤ pos need) low (node_from spot.level.height spot.j) need spot.need l.rests l.order (length bits) (length bits) p (omega arith)
    (subst (λ x. Reaches bits (excess bits x -ℤ pos spot.need) x (length bits) p) k r)

-- the next place, from what a search says
pub next_some : (bits : List Bool) (i drop p : ℕ) → Reaches bits (excess bits i -ℤ pos drop) i (length bits) p → IsNext (λ p. excess bits p ≡ excess bits i -ℤ pos drop) i (length bits) (Some p)
next_some bits i drop p r = (r.after, r.within, r.here, λ q a b e. let u = r.before q a b in omega (arith, ints, u, e))

pub next_none : (bits : List Bool) (i drop : ℕ) → StaysAbove bits (excess bits i -ℤ pos drop) i (length bits) → IsNext (λ p. excess bits p ≡ excess bits i -ℤ pos drop) i (length bits) None
next_none bits i drop s = λ p a b e. let u = s.above p a b in omega (arith, ints, u, e)

pub next_after : (bits : List Bool) (i drop end need : ℕ) (found : Option ℕ) → i ≤ end → end ≤ length bits → Rests bits (excess bits i -ℤ pos drop) i end drop need
    → IfSome found (Reaches bits (excess bits end -ℤ pos need) end (length bits)) → IfNone found (StaysAbove bits (excess bits end -ℤ pos need) end (length bits))
    → IsNext (λ p. excess bits p ≡ excess bits i -ℤ pos drop) i (length bits) found
next_after bits i drop end need None o l r some none =
    let t = excess bits i -ℤ pos drop in
    let e : excess bits end -ℤ pos need ≡ t = omega (arith, ints, r.level) in
    next_none bits i drop (record {
      above = λ p a b. ⊎_elim
          (λ (c : end < p). subst (λ x. x <ℤ excess bits p) e (none.above p c b))
          (λ (c : p ≤ end). r.stays.above p a c)
          (cases_lt end p);
    })
next_after bits i drop end need (Some p) o l r some none =
    next_some bits i drop p (join_found bits (excess bits i -ℤ pos drop) i end drop need r o (length bits) (length bits) p (omega arith) some)

-- a drop by more than there are bits
pub too_deep : (bits : List Bool) (i drop : ℕ) → i ≤ length bits → length bits < drop → IsNext (λ p. excess bits p ≡ excess bits i -ℤ pos drop) i (length bits) None
too_deep bits i drop h deep p a b e =
    let d = p - i in
    let f : i + d ≡ p = omega arith in
    let s : excess bits i ≤ℤ (excess bits p +ℤ pos d) = subst (λ x. excess bits i ≤ℤ (excess bits x +ℤ pos d)) f (slope bits i d (omega arith)) in
    omega (arith, ints, s, e)
