-- The orbit from another of its members is the same cycle turned.
use Rattle.std.specs.Prelude.{filter, drop, take, map, ◌++◌}
use Rattle.std.specs.List.{range_with_len}
use Rattle.std.proofs.Common.{◌≡◌, ℕ, zero, suc, ◌+◌, ◌-◌, ◌<◌, ◌≤◌, inl, inr, ◌⊎◌, Bool, true, false, List, [], ◌∷◌, length, refl, ap, sym, ◌∙◌, arith, subst}
use Rattle.std.proofs.lemmas.Bool.{cases_Bool}
use Rattle.std.proofs.lemmas.List.{map-append, length-map, append_assoc, append-nil, length-append}
use Rattle.std.proofs.lemmas.List.Elements.{filter-append}
use Rattle.std.proofs.Math.Seq.{take-append_seam, drop-append_seam}
use Rattle.code_laws.specs.Code.{Code}
use Rattle.code_laws.specs.Orbits.{orbit, is_beside, from_on}
use Rattle.code_laws.proofs.Sound.{SoundParts}
use Rattle.code_laws.proofs.Beside.{beside-from}
use Rattle.code_laws.proofs.Turned.{orbit_on}
use Rattle.navigate.proofs.OrbitLengths.{filter-same, range-split, beside-alike}

-- where an item of what passes stands among all
record IsSplit (t : ℕ → Bool) (xs front : List ℕ) (q : ℕ) (back : List ℕ) : Type 0 where
  low : List ℕ
  high : List ℕ
  all_of : xs ≡ low ++ (q ∷ high)
  front_of : front ≡ filter t low
  back_of : back ≡ filter t high
  passes : t q ≡ true

split-left : (t : ℕ → Bool) (x : ℕ) (xs front : List ℕ) (q : ℕ) (back : List ℕ) → t x ≡ false → IsSplit t xs front q back → IsSplit t (x ∷ xs) front q back
split-left t x xs front q back f i =
    record { low = x ∷ i.low; high = i.high; all_of = ap (λ ys. x ∷ ys) i.all_of; front_of = rw f i.front_of; back_of = i.back_of; passes = i.passes }

split-first : (t : ℕ → Bool) (x : ℕ) (xs : List ℕ) (q : ℕ) (back : List ℕ) → t x ≡ true → x ∷ filter t xs ≡ q ∷ back → IsSplit t (x ∷ xs) [] q back
split-first t x xs q back w h =
    let same : x ≡ q = cc in
    let rest : filter t xs ≡ back = cc in
    record { low = []; high = xs; all_of = ap (λ y. y ∷ xs) same; front_of = refl; back_of = sym rest; passes = subst (λ y. t y ≡ true) same w }

split-later : (t : ℕ → Bool) (x y : ℕ) (xs front : List ℕ) (q : ℕ) (back : List ℕ) → t x ≡ true → x ≡ y → IsSplit t xs front q back → IsSplit t (x ∷ xs) (y ∷ front) q back
split-later t x y xs front q back w same i =
    record {
      low = x ∷ i.low;
      high = i.high;
      all_of = ap (λ ys. x ∷ ys) i.all_of;
      front_of = rw w (ap (λ z. z ∷ front) (sym same) ∙ ap (λ ys. x ∷ ys) i.front_of);
      back_of = i.back_of;
      passes = i.passes;
    }

passed : (t : ℕ → Bool) (x : ℕ) (xs ys : List ℕ) → t x ≡ true → filter t (x ∷ xs) ≡ ys → x ∷ filter t xs ≡ ys
passed t x xs ys w e = let one : filter t (x ∷ xs) ≡ x ∷ filter t xs = rw w refl in sym one ∙ e

left_out : (t : ℕ → Bool) (x : ℕ) (xs ys : List ℕ) → t x ≡ false → filter t (x ∷ xs) ≡ ys → filter t xs ≡ ys
left_out t x xs ys f e = let one : filter t (x ∷ xs) ≡ filter t xs = rw f refl in sym one ∙ e

heads : (x y : ℕ) (xs ys : List ℕ) → x ∷ xs ≡ y ∷ ys → x ≡ y
heads x y xs ys e = cc

tails : (x y : ℕ) (xs ys : List ℕ) → x ∷ xs ≡ y ∷ ys → xs ≡ ys
tails x y xs ys e = cc

filter-split : (t : ℕ → Bool) (xs front : List ℕ) (q : ℕ) (back : List ℕ) → filter t xs ≡ front ++ (q ∷ back) → IsSplit t xs front q back
filter-split t [] [] q back e = absurd cc
filter-split t [] (y ∷ front) q back e = absurd cc
filter-split t (x ∷ xs) [] q back e =
    elim (cases_Bool (t x)) [
      | inl w ↦ split-first t x xs q back w (passed t x xs (q ∷ back) w e)
      | inr f ↦ split-left t x xs [] q back f (filter-split t xs [] q back (left_out t x xs (q ∷ back) f e))
    ]
filter-split t (x ∷ xs) (y ∷ front) q back e =
    elim (cases_Bool (t x)) [
      | inl w ↦
          let h = passed t x xs (y ∷ (front ++ (q ∷ back))) w e in
          split-later t x y xs front q back w (heads x y (filter t xs) (front ++ (q ∷ back)) h) (filter-split t xs front q back (tails x y (filter t xs) (front ++ (q ∷ back)) h))
      | inr f ↦ split-left t x xs (y ∷ front) q back f (filter-split t xs (y ∷ front) q back (left_out t x xs (y ∷ (front ++ (q ∷ back))) f e))
    ]

-- where an item of a range stands
record IsAt (a n : ℕ) (low : List ℕ) (q : ℕ) (high : List ℕ) : Type 0 where
  before : ℕ
  after : ℕ
  count : n ≡ before + suc after
  at : q ≡ a + before
  low_of : low ≡ range_with_len a before
  high_of : high ≡ range_with_len (q + 1) after

range-at : (a n : ℕ) (low : List ℕ) (q : ℕ) (high : List ℕ) → range_with_len a n ≡ low ++ (q ∷ high) → IsAt a n low q high
range-at a zero [] q high e = absurd cc
range-at a zero (x ∷ low) q high e = absurd cc
range-at a (suc n) [] q high e =
    let same : a ≡ q = heads a q (range_with_len (a + 1) n) high e in
    let rest : range_with_len (a + 1) n ≡ high = tails a q (range_with_len (a + 1) n) high e in
    record { before = 0; after = n; count = omega arith; at = omega (arith, same); low_of = refl; high_of = sym rest ∙ ap (λ x. range_with_len (x + 1) n) same }
range-at a (suc n) (x ∷ low) q high e =
    let same : a ≡ x = heads a x (range_with_len (a + 1) n) (low ++ (q ∷ high)) e in
    let i = range-at (a + 1) n low q high (tails a x (range_with_len (a + 1) n) (low ++ (q ∷ high)) e) in
    record {
      before = suc i.before;
      after = i.after;
      count = omega (arith, i.count);
      at = omega (arith, i.at);
      low_of = ap (λ y. y ∷ low) (sym same) ∙ ap (λ ys. a ∷ ys) i.low_of;
      high_of = i.high_of;
    }

append-split : (xs ys low : List ℕ) (q : ℕ) (high : List ℕ) → xs ++ ys ≡ low ++ q ∷ high
    → ((z : List ℕ) × (xs ≡ low ++ q ∷ z) × (high ≡ z ++ ys)) ⊎ ((z : List ℕ) × (ys ≡ z ++ q ∷ high) × (low ≡ xs ++ z))
append-split [] ys low q high e = inr (low, e, refl)
append-split (x ∷ xs) ys [] q high e =
    let same : x ≡ q = cc in
    let rest : xs ++ ys ≡ high = cc in
    inl (xs, ap (λ y. y ∷ xs) same, sym rest)
append-split (x ∷ xs) ys (y ∷ low) q high e =
    let same : x ≡ y = cc in
    let rest : xs ++ ys ≡ low ++ q ∷ high = cc in
    elim (append-split xs ys low q high rest) [
      | inl h ↦ inl (h.0, ap (λ ys. x ∷ ys) h.1 ∙ ap (λ z. z ∷ (low ++ (q ∷ h.0))) same, h.2)
      | inr h ↦ inr (h.0, h.1, ap (λ z. z ∷ low) (sym same) ∙ ap (λ ys. x ∷ ys) h.2)
    ]

-- the turned range, turned on to a later place of it
range-turned : (n p q : ℕ) (low high : List ℕ) → p ≤ n → range_with_len p (n - p) ++ range_with_len 0 p ≡ low ++ q ∷ high
    → (q < n) × (range_with_len q (n - q) ++ range_with_len 0 q ≡ (q ∷ high) ++ low)
range-turned n p q low high l e =
    let zero_there : 0 + p ≡ p = omega arith in
    elim (append-split (range_with_len p (n - p)) (range_with_len 0 p) low q high e) [
      | inl h ↦
          let i = range-at p (n - p) low q h.0 h.1 in
          let from : n - q ≡ suc i.after = omega (arith, i.count, i.at, l) in
          let front : range_with_len 0 q ≡ range_with_len 0 p ++ range_with_len p i.before
          = range-split 0 p i.before q (omega (arith, i.at)) ∙ ap (λ x. range_with_len 0 p ++ range_with_len x i.before) zero_there in (
            omega (arith, i.count, i.at, l),
            ap (λ k. range_with_len q k ++ range_with_len 0 q) from
                ∙ ap (λ xs. (q ∷ range_with_len (q + 1) i.after) ++ xs) front
                ∙ sym (append_assoc (q ∷ range_with_len (q + 1) i.after) (range_with_len 0 p) (range_with_len p i.before))
                ∙ ap (λ xs. (q ∷ (xs ++ range_with_len 0 p)) ++ range_with_len p i.before) (sym i.high_of)
                ∙ ap (λ xs. (q ∷ xs) ++ range_with_len p i.before) (sym h.2)
                ∙ ap (λ xs. (q ∷ high) ++ xs) (sym i.low_of),
          )
      | inr h ↦
          let i = range-at 0 p h.0 q high h.1 in
          let back : range_with_len q (n - q) ≡ range_with_len q (suc i.after) ++ range_with_len (q + suc i.after) (n - p) = range-split q (suc i.after) (n - p) (n - q) (omega (arith, i.count, i.at, l)) in
          let there : q + suc i.after ≡ p = omega (arith, i.count, i.at) in
          let same : i.before ≡ q = omega (arith, i.at) in (
            omega (arith, i.count, i.at, l),
            ap (λ xs. xs ++ range_with_len 0 q) (back ∙ ap (λ x. range_with_len q (suc i.after) ++ range_with_len x (n - p)) there)
                ∙ append_assoc (q ∷ range_with_len (q + 1) i.after) (range_with_len p (n - p)) (range_with_len 0 q)
                ∙ ap (λ xs. (q ∷ xs) ++ (range_with_len p (n - p) ++ range_with_len 0 q)) (sym i.high_of)
                ∙ ap (λ xs. (q ∷ high) ++ (range_with_len p (n - p) ++ xs)) (ap (range_with_len 0) (sym same) ∙ sym i.low_of)
                ∙ ap (λ xs. (q ∷ high) ++ xs) (sym h.2),
          )
    ]

-- the orbit from another of its members is the same cycle turned
pub orbit_turned : (c : Code) → SoundParts c → (kind : Bool) (p q : ℕ) (front back : List ℕ) → p < length c.a → orbit c kind p ≡ front ++ q ∷ back → orbit c kind q ≡ (q ∷ back) ++ front
orbit_turned c s kind p q front back l e =
    let n = length c.a in
    let t = is_beside c kind p in
    let i = filter-split t (from_on c p) front q back (sym (orbit_on c s kind p l) ∙ e) in
    let r = range-turned n p q i.low i.high (omega (arith, l)) i.all_of in
    let b = beside-from c kind p q i.passes in
    orbit_on c s kind q r.0
    ∙ filter-same (is_beside c kind q) t (from_on c q) (λ x. beside-alike c kind p q x b)
    ∙ ap (filter t) r.1
    ∙ filter-append t (q ∷ i.high) i.low
    ∙ rw i.passes (ap (λ xs. (q ∷ xs) ++ filter t i.low) (sym i.back_of) ∙ ap (λ xs. (q ∷ back) ++ xs) (sym i.front_of))

-- what a search has put down of an orbit up to here: so many before the smallest so far, and that one and those behind it
pub record IsTurned {A : Type 0} (f : ℕ → A) (all : List ℕ) (q before : ℕ) (items : List A) (left : List ℕ) : Type 0 where
  pub front : List ℕ
  pub mid : List ℕ
  pub all_of : all ≡ (front ++ q ∷ mid) ++ left
  pub before_of : length front ≡ before
  pub items_of : items ≡ map f (front ++ q ∷ mid)

-- its first
pub turned-first : {A : Type 0} (f : ℕ → A) (all : List ℕ) (q : ℕ) (items : List A) (left : List ℕ) (x : A) → all ≡ q ∷ left → items ≡ x ∷ [] → x ≡ f q → IsTurned f all q 0 items left
turned-first f all q items left x e i h = record { front = []; mid = []; all_of = e; before_of = refl; items_of = i ∙ ap (λ y. y ∷ []) h }

more-left : (xs : List ℕ) (r : ℕ) (left : List ℕ) → xs ++ r ∷ left ≡ (xs ++ r ∷ []) ++ left
more-left xs r left = sym (append_assoc xs (r ∷ []) left)

module _ {A : Type 0} (f : ℕ → A) (all : List ℕ) (q before : ℕ) (items : List A) (left : List ℕ) (s : IsTurned f all q before items left) where
  more-items : (r : ℕ) (x : A) (new : List A) → x ≡ f r → new ≡ items ++ x ∷ [] → new ≡ map f ((s.front ++ q ∷ s.mid) ++ r ∷ [])
  more-items r x new h e =
      e ∙ ap (λ xs. xs ++ x ∷ []) s.items_of ∙ ap (λ y. map f (s.front ++ q ∷ s.mid) ++ y ∷ []) h ∙ sym (map-append f (s.front ++ q ∷ s.mid) (r ∷ []))

  -- the next one is smaller
  pub turned-taken : (r : ℕ) (x : A) (count : ℕ) (new : List A) (rest : List ℕ) → left ≡ r ∷ rest → x ≡ f r → count ≡ length items → new ≡ items ++ x ∷ [] → IsTurned f all r count new rest
  turned-taken r x count new rest l h k e = record {
    front = s.front ++ q ∷ s.mid;
    mid = [];
    all_of = s.all_of ∙ ap (λ xs. (s.front ++ q ∷ s.mid) ++ xs) l ∙ more-left (s.front ++ q ∷ s.mid) r rest;
    before_of = sym (k ∙ ap length s.items_of ∙ length-map (s.front ++ q ∷ s.mid) f);
    items_of = more-items r x new h e;
  }

  -- the next one isn't
  pub turned-left : (r : ℕ) (x : A) (new : List A) (rest : List ℕ) → left ≡ r ∷ rest → x ≡ f r → new ≡ items ++ x ∷ [] → IsTurned f all q before new rest
  turned-left r x new rest l h e =
      let there : (s.front ++ q ∷ s.mid) ++ r ∷ [] ≡ s.front ++ q ∷ (s.mid ++ r ∷ []) = append_assoc s.front (q ∷ s.mid) (r ∷ []) in
      record {
        front = s.front;
        mid = s.mid ++ r ∷ [];
        all_of = s.all_of ∙ ap (λ xs. (s.front ++ q ∷ s.mid) ++ xs) l ∙ more-left (s.front ++ q ∷ s.mid) r rest ∙ ap (λ xs. xs ++ rest) there;
        before_of = s.before_of;
        items_of = more-items r x new h e ∙ ap (map f) there;
      }

  pub turned-many : left ≡ [] → length items ≡ length all
  turned-many none =
      ap length s.items_of ∙ length-map (s.front ++ q ∷ s.mid) f ∙ ap length (sym (append-nil (s.front ++ q ∷ s.mid))) ∙ ap (λ xs. length ((s.front ++ q ∷ s.mid) ++ xs)) (sym none) ∙ ap length (sym s.all_of)

  pub turned-before : before ≤ length items
  turned-before =
      let n = ap length s.items_of ∙ length-map (s.front ++ q ∷ s.mid) f in
      let b = length-append s.front (q ∷ s.mid) in
      omega (arith, n, b, s.before_of)

-- at the end the items are turned as the orbit is
pub turned-last : {A : Type 0} (c : Code) → SoundParts c → (kind : Bool) (f : ℕ → A) (p q before : ℕ) (items : List A) (left : List ℕ) → p < length c.a
    → IsTurned f (orbit c kind p) q before items left → left ≡ [] → drop before items ++ take before items ≡ map f (orbit c kind q)
turned-last c sound kind f p q before items left l s none =
    let all = s.all_of ∙ ap (λ xs. (s.front ++ q ∷ s.mid) ++ xs) none ∙ append-nil (s.front ++ q ∷ s.mid) in
    let items_are : items ≡ map f s.front ++ map f (q ∷ s.mid) = s.items_of ∙ map-append f s.front (q ∷ s.mid) in
    let n : before ≡ length (map f s.front) = sym s.before_of ∙ sym (length-map s.front f) in
    ap (λ xs. drop before xs ++ take before xs) items_are
    ∙ ap (λ k. drop k (map f s.front ++ map f (q ∷ s.mid)) ++ take k (map f s.front ++ map f (q ∷ s.mid))) n
    ∙ ap (λ xs. xs ++ take (length (map f s.front)) (map f s.front ++ map f (q ∷ s.mid))) (drop-append_seam (map f s.front) (map f (q ∷ s.mid)))
    ∙ ap (λ xs. map f (q ∷ s.mid) ++ xs) (take-append_seam (map f s.front) (map f (q ∷ s.mid)))
    ∙ sym (map-append f (q ∷ s.mid) s.front)
    ∙ ap (map f) (sym (orbit_turned c sound kind p q s.front s.mid l all))
