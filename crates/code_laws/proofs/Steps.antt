-- On a sound code a step goes from each position with a number to the next one with it, and from the last one to the
-- first.
use Rattle.std.specs.Prelude.{pos, filter}
use Rattle.std.proofs.Common.{◌≡◌, ◌≢◌, ℕ, zero, suc, ◌+◌, ◌-◌, ◌<◌, ◌≤◌, inl, inr, Bool, true, false, List, ◌∷◌, length, refl, ap, sym, ◌∙◌, arith, subst, Option, Some, None, ◌==◌}
use Rattle.std.specs.List.{range_with_len}
use Rattle.std.proofs.lemmas.Bool.{cases_lt, cases_Bool, cases_eq, and_parts, and_from, eqb-true, eq-eqb, ne_eqb, both_ways, and_left, and_right}
use Rattle.bit_words.specs.Bits.{rank, excess, same}
use Rattle.rank_select.proofs.Selects.{cases_kind}
use Rattle.parens.proofs.Balances.{IsBalanced}
use Rattle.parens.proofs.Arcs.{IsArc}
use Rattle.code_laws.specs.Code.{Code, is_tree, parens, place, mate, after, step, component_of, component_count, start_of, end_of}
use Rattle.code_laws.specs.Numbers.{enclosing_pair}
use Rattle.code_laws.specs.Orbits.{same_number, is_beside, beside, orbit}
use Rattle.code_laws.proofs.Apart.{number_round, none_round, apart_inside, apart_after, apart_before, number_past, number_first, number_end}
use Rattle.code_laws.proofs.Places.{IsMate, place_before, place_next, place_other, place_after, over_other, over_mate}
use Rattle.code_laws.proofs.Walks.{IsAfter, Goes, walk-filter}

-- the component that a position is in
pub record IsIn (c : Code) (p m : ℕ) : Type 0 where
  pub count : m < component_count c
  pub from : start_of c m ≤ p
  pub to : p < end_of c m
  pub within : end_of c m ≤ length c.a
  pub is : component_of c p ≡ m

-- the mate of a position: it opens an arc to its mate, or closes one from it, in its own component
pub data HasMate (c : Code) (kind : Bool) (p m : ℕ) : Type 0 where
  Opens : (q : ℕ) → (j : ℕ) → IsArc (parens c kind) (place c kind p) j → IsMate c kind p (place c kind p) j q → p < q → q < end_of c m → HasMate c kind p m
  Closes : (q : ℕ) → (i : ℕ) → IsArc (parens c kind) i (place c kind p) → IsMate c kind p (place c kind p) i q → q < p → start_of c m ≤ q → HasMate c kind p m

-- what a sound code has
pub record IsWell (c : Code) : Type 0 where
  pub balanced : (kind : Bool) → IsBalanced (parens c kind)
  pub places : (kind : Bool) (p : ℕ) → p ≤ length c.a → place c kind p ≤ length (parens c kind)
  -- the excess is 0 where a component begins, and where it ends
  pub flat_start : (kind : Bool) (p m : ℕ) → IsIn c p m → excess (parens c kind) (place c kind (start_of c m)) ≡ pos 0
  pub flat_end : (kind : Bool) (p m : ℕ) → IsIn c p m → excess (parens c kind) (place c kind (end_of c m)) ≡ pos 0
  pub in_one : (p : ℕ) → p < length c.a → (m : ℕ) × IsIn c p m
  pub same_one : (p m q : ℕ) → IsIn c p m → start_of c m ≤ q → q < end_of c m → component_of c q ≡ m
  pub other_one : (p m q : ℕ) → IsIn c p m → q < length c.a → component_of c q ≡ m → (start_of c m ≤ q) × (q < end_of c m)
  pub mates : (kind : Bool) (p m : ℕ) → IsIn c p m → is_tree c p ≡ kind → HasMate c kind p m

pub same_number-self : (o : Option ℕ) → same_number o o ≡ true
same_number-self None = refl
same_number-self (Some i) = eq-eqb i i refl

pub same_number-true : (o r : Option ℕ) → same_number o r ≡ true → o ≡ r
same_number-true None None h = refl
same_number-true None (Some j) h = cc
same_number-true (Some i) None h = cc
same_number-true (Some i) (Some j) h = ap Some (eqb-true i j h)

pub pair-number : (c : Code) (kind : Bool) (q : ℕ) → enclosing_pair c kind q ≡ number_round (parens c kind) (place c kind q)
unfolding enclosing_pair
pair-number c kind q = refl

pub none_at : (c : Code) (w : IsWell c) (kind : Bool) (q : ℕ) → q ≤ length c.a → excess (parens c kind) (place c kind q) ≡ pos 0 → enclosing_pair c kind q ≡ None
none_at c w kind q l e = pair-number c kind q ∙ none_round (parens c kind) (w.balanced kind) (place c kind q) (w.places kind q l) e

-- the number at a place
pub at_place : (c : Code) (kind : Bool) (q g : ℕ) → place c kind q ≡ g → enclosing_pair c kind q ≡ number_round (parens c kind) g
at_place c kind q g e = pair-number c kind q ∙ ap (number_round (parens c kind)) e

pub after_next : (c : Code) (x m : ℕ) → component_of c x ≡ m → x + 1 ≢ end_of c m → after c x ≡ x + 1
unfolding after
after_next c x m is h = rw is (rw (ne_eqb _ _ h) refl)

pub after_last : (c : Code) (x m : ℕ) → component_of c x ≡ m → x + 1 ≡ end_of c m → after c x ≡ start_of c m
unfolding after
after_last c x m is h = rw is (rw (eq-eqb _ _ h) refl)

module _ (c : Code) (w : IsWell c) (kind : Bool) (first : ℕ) (first_in : first < length c.a) (none_before : (y : ℕ) → y < first → is_beside c kind first y ≡ false) where
  -- a position beside the first one is in its component and has its number
  pub beside_parts : (p m : ℕ) → IsIn c p m → is_beside c kind first p ≡ true → (component_of c first ≡ m) × (enclosing_pair c kind first ≡ enclosing_pair c kind p)
  beside_parts p m i h =
      let parts = and_parts (component_of c first == component_of c p) (same_number (enclosing_pair c kind first) (enclosing_pair c kind p)) h in
      (eqb-true _ _ parts.0 ∙ i.is, same_number-true _ _ parts.1)

  module _ (p m : ℕ) (i : IsIn c p m) (h : is_beside c kind first p ≡ true) where
    -- a position of the component with the number of p is beside the first one
    beside_from : (q : ℕ) → start_of c m ≤ q → q < end_of c m → enclosing_pair c kind q ≡ enclosing_pair c kind p → is_beside c kind first q ≡ true
    beside_from q l r e =
        let parts = beside_parts p m i h in
        and_from _ _ (eq-eqb _ _ (parts.0 ∙ sym (w.same_one p m q i l r))) (subst (λ o. same_number (enclosing_pair c kind first) o ≡ true) (parts.1 ∙ sym e) (same_number-self (enclosing_pair c kind first)))

    -- and one with another number is not
    beside_not : (q : ℕ) → same_number (enclosing_pair c kind p) (enclosing_pair c kind q) ≡ false → is_beside c kind first q ≡ false
    beside_not q e = let parts = beside_parts p m i h in and_right _ _ (subst (λ o. same_number o (enclosing_pair c kind q) ≡ false) (sym parts.1) e)

    -- nor one past the component
    beside_past : (q : ℕ) → end_of c m ≤ q → q < length c.a → is_beside c kind first q ≡ false
    beside_past q l r =
        let parts = beside_parts p m i h in
        and_left _ _ (ne_eqb _ _ (λ e. let o = w.other_one p m q i r (sym e ∙ parts.0) in omega (arith, o.1, l)))

    first_from : start_of c m ≤ first
    first_from = let parts = beside_parts p m i h in (w.other_one p m first i first_in parts.0).0

    -- where p has no number, the first is the component's start
    first_is_start : enclosing_pair c kind p ≡ None → first ≡ start_of c m
    first_is_start e =
        let at_start : enclosing_pair c kind (start_of c m) ≡ None = none_at c w kind (start_of c m) (omega (arith, i.from, i.to, i.within)) (w.flat_start kind p m i) in
        let b = beside_from (start_of c m) (omega arith) (omega (arith, i.from, i.to)) (at_start ∙ sym e) in
        elim (cases_lt (start_of c m) first) [ inl l ↦ absurd (both_ways _ (none_before (start_of c m) l) b) | inr g ↦ omega (arith, g, first_from) ]

    -- from x on, where no position of the component after p has p's number: on to x + 1, which has it, or round to the
    -- start
    pub goes_after : (x : ℕ) → component_of c x ≡ m → p ≤ x → x < end_of c m → enclosing_pair c kind (x + 1) ≡ enclosing_pair c kind p
        → ((y : ℕ) → p < y → y ≤ x → is_beside c kind first y ≡ false) → Goes (is_beside c kind first) (length c.a) first p (after c x)
    goes_after x is l r same none =
        elim (cases_eq (x + 1) (end_of c m)) [
          | inl e ↦
              let flat = w.flat_end kind p m i in
              let at_end : enclosing_pair c kind (end_of c m) ≡ None = none_at c w kind (end_of c m) i.within flat in
              let no_number : enclosing_pair c kind p ≡ None = sym same ∙ ap (enclosing_pair c kind) e ∙ at_end in
              inr (after_last c x m is e ∙ sym (first_is_start no_number), record { none = λ y a b. elim (cases_lt x y) [ inl z ↦ beside_past y (omega (arith, e)) b | inr z ↦ none y a z ] })
          | inr e ↦
              let step_to : after c x ≡ x + 1 = after_next c x m is e in
              let inside : x + 1 < end_of c m = omega (arith, r, e) in
              let passes = beside_from (x + 1) (omega (arith, i.from)) inside same in
              inl (subst (λ y. IsAfter (is_beside c kind first) (length c.a) p y) (sym step_to)
              (record { order = omega arith; within = omega (arith, inside, i.within); passes = passes; none = λ y a b. none y a (omega arith) }))
        ]

    goes_over : (is : is_tree c p ≡ kind) → HasMate c kind p m → Goes (is_beside c kind first) (length c.a) first p (after c (mate c p))
    goes_over is (Opens q j arc k order inside) =
        let past : enclosing_pair c kind (q + 1) ≡ enclosing_pair c kind p =
        at_place c kind (q + 1) (j + 1) (place_next c kind q k.within k.is_kind ∙ ap (λ z. z + 1) k.at_place)
        ∙ number_past (parens c kind) (w.balanced kind) (place c kind p) j arc ∙ sym (pair-number c kind p) in
        rw k.is_mate (goes_after q (w.same_one p m q i (omega (arith, i.from, order)) inside) (omega (arith, order)) inside past
        (λ y a b. beside_not y
        (rw (pair-number c kind p, pair-number c kind y)
        (apart_inside (parens c kind) (w.balanced kind) (place c kind p) j arc (place c kind y)
        (let v = place_after c kind p y (omega (arith, i.to, i.within)) is a in omega (arith, v))
        (let v = place_before c kind y q b in omega (arith, v, k.at_place))))))
    goes_over is (Closes q n arc k order from) =
        let p_in : p < length c.a = omega (arith, i.to, i.within) in
        let here : enclosing_pair c kind p ≡ Some (rank true (parens c kind) n) = pair-number c kind p ∙ number_end (parens c kind) (w.balanced kind) n (place c kind p) arc in
        let place_q : place c kind (q + 1) ≡ n + 1 = place_next c kind q k.within k.is_kind ∙ ap (λ z. z + 1) k.at_place in
        let there : enclosing_pair c kind (q + 1) ≡ Some (rank true (parens c kind) n) = at_place c kind (q + 1) (n + 1) place_q ∙ number_first (parens c kind) (w.balanced kind) n (place c kind p) arc in
        let comp : component_of c q ≡ m = w.same_one p m q i from (omega (arith, i.to, order)) in
        let passes = beside_from (q + 1) (omega (arith, from)) (omega (arith, i.to, order)) (there ∙ sym here) in
        let low : first ≤ q + 1 = elim (cases_lt (q + 1) first) [ inl l ↦ absurd (both_ways _ (none_before (q + 1) l) passes) | inr g ↦ g ] in
        let up : q < first =
        elim (cases_lt q first) [
          | inl l ↦ l
          | inr g ↦
              let v = place_before c kind first q g in
              let apart = apart_before (parens c kind) (w.balanced kind) n (place c kind p) arc (place c kind first) (omega (arith, v, k.at_place)) in
              let parts = beside_parts p m i h in
              let x : same_number (enclosing_pair c kind p) (enclosing_pair c kind first) ≡ false = rw here (rw (pair-number c kind first) apart) in
              absurd (both_ways _ x (subst (λ o. same_number (enclosing_pair c kind p) o ≡ true) (sym parts.1) (same_number-self (enclosing_pair c kind p))))
        ] in
        let e : q + 1 ≡ first = omega (arith, low, up) in
        rw k.is_mate
        (inr (
          after_next c q m comp (λ z. omega (arith, z, i.to, order)) ∙ e,
          record {
            none = λ y a b. beside_not y
                (rw here (rw (pair-number c kind y)
                (apart_after (parens c kind) (w.balanced kind) n (place c kind p) arc (place c kind y)
                (let v = place_after c kind p y p_in is a in omega (arith, v))
                (w.places kind y (omega arith)))));
          },
        ))

    -- a step from p
    pub goes : Goes (is_beside c kind first) (length c.a) first p (step c kind p)
    goes =
        elim (cases_kind kind (is_tree c p)) [
          | inl is ↦ subst (λ x. Goes (is_beside c kind first) (length c.a) first p (after c x)) (sym (over_mate c kind p is)) (goes_over is (w.mates kind p m i is))
          | inr other ↦
              let same : enclosing_pair c kind (p + 1) ≡ enclosing_pair c kind p = at_place c kind (p + 1) (place c kind p) (place_other c kind p (omega (arith, i.to, i.within)) other) ∙ sym (pair-number c kind p) in
              subst (λ x. Goes (is_beside c kind first) (length c.a) first p (after c x)) (sym (over_other c kind p other)) (goes_after p i.is (omega arith) i.to same (λ y a b. absurd (omega arith)))
        ]

-- the head of a filtered range, and the rest
record IsHead (test : ℕ → Bool) (low k p : ℕ) (ps : List ℕ) : Type 0 where
  from : low ≤ p
  within : p < low + k
  passes : test p ≡ true
  before : (y : ℕ) → low ≤ y → y < p → test y ≡ false
  rest : ps ≡ filter test (range_with_len (p + 1) (low + k - (p + 1)))

same_head : (x y : ℕ) (xs ys : List ℕ) → x ∷ xs ≡ y ∷ ys → (x ≡ y) × (xs ≡ ys)
same_head x y xs ys e = (cc, cc)

filter-head : (test : ℕ → Bool) (low k p : ℕ) (ps : List ℕ) → filter test (range_with_len low k) ≡ p ∷ ps → IsHead test low k p ps
filter-head test low zero p ps h = cc
filter-head test low (suc k) p ps h =
    elim (cases_Bool (test low)) [
      | inl w ↦
          let s = same_head low p (filter test (range_with_len (low + 1) k)) ps (rw w at h) in
          let e : k ≡ low + suc k - (low + 1) = omega arith in
          record {
            from = omega (arith, s.0);
            within = omega (arith, s.0);
            passes = subst (λ y. test y ≡ true) s.0 w;
            before = λ y a b. absurd (omega (arith, s.0));
            rest = sym s.1 ∙ ap (λ n. filter test (range_with_len (low + 1) n)) e ∙ ap (λ y. filter test (range_with_len (y + 1) (low + suc k - (y + 1)))) s.0;
          }
      | inr f ↦
          let more = filter-head test (low + 1) k p ps (rw f at h) in
          let e : low + 1 + k - (p + 1) ≡ low + suc k - (p + 1) = omega arith in
          record {
            from = omega (arith, more.from);
            within = omega (arith, more.within);
            passes = more.passes;
            before = λ y a b. elim (cases_lt low y) [ inl l ↦ more.before y (omega arith) b | inr g ↦ let e : y ≡ low = omega arith in rw e f ];
            rest = more.rest ∙ ap (λ n. filter test (range_with_len (p + 1) n)) e;
          }
    ]

-- From the first position with a number, the steps go through all positions with it, rising.
pub numbers_are_orbits : (c : Code) → IsWell c → (kind : Bool) (p : ℕ) (ps : List ℕ) → beside c kind p ≡ p ∷ ps → orbit c kind p ≡ p ∷ ps
numbers_are_orbits c w kind p ps h =
    let test = is_beside c kind p in
    let head = filter-head test 0 (length c.a) p ps h in
    let p_in : p < length c.a = omega (arith, head.within) in
    let e : 0 + length c.a - (p + 1) ≡ length c.a - (p + 1) = omega arith in
    walk-filter (length c.a) (length c.a) p p test (step c kind) (omega arith) (omega arith) p_in
    (λ x l r t. let i = w.in_one x r in goes c w kind p p_in (λ y b. head.before y (omega arith) b) x i.0 i.1 t)
    head.passes
    ∙ ap (λ xs. p ∷ xs) (sym (head.rest ∙ ap (λ n. filter test (range_with_len (p + 1) n)) e))
