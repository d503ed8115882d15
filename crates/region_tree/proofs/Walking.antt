-- A walk by first and next places gives the places in preorder.
use Rattle.std.specs.Prelude.{filter, slice_index, nat_lt, if◌then◌else◌}
use Rattle.std.proofs.Common.{◌≡◌, ◌≢◌, ℕ, zero, suc, ◌+◌, ◌-◌, ◌<◌, ◌≤◌, inl, inr, Bool, true, false, ◌==◌, ◌&&◌, List, [], ◌∷◌, ◌++◌, length, refl, ap, sym, ◌∙◌, subst, arith, Option, Some, None, append_assoc, eq-eqb}
use Rattle.std.specs.List.{range_with_len, list_all}
use Rattle.std.proofs.lemmas.Bool.{cases_lt, cases_Bool, eqb-true, both_ways, ltb-true, lt-ltb, and_parts, and_from}
use Rattle.std.proofs.lemmas.List.{append-nil, nil_from_length}
use Rattle.orbits.proofs.Numbers.{from_range}
use Rattle.plane_model.specs.Sets.{has}
use Rattle.region_tree.specs.Ancestors.{parent_at}
use Rattle.region_tree.specs.Preorder.{nested}
use Rattle.region_tree.specs.Siblings.{in_slot, places_in, places_from, first_from, AreSiblings}
use Rattle.region_tree.specs.Walked.{above, AreForest, bits_in, order_in, step_bits, step_order, left_of, steps_of, is_step_within, IsOpened}
use Rattle.region_tree.specs.declared.walk.Step.{Step}
use Rattle.region_tree.specs.declared.walk.Step.TheVariants as step
use Rattle.region_tree.proofs.Nested.{IsForest, nested-nil, nested-one}
use Rattle.region_tree.proofs.Slots.{IsFirstSlot, none_from, some_from, places_here}

-- ---- what is in a filter
pub filter_passes : (t : ℕ → Bool) (xs : List ℕ) (x : ℕ) → has (filter t xs) x ≡ true → (t x ≡ true) × (has xs x ≡ true)
filter_passes t [] x h = absurd (both_ways false refl h)
filter_passes t (y ∷ ys) x h = elim (cases_Bool (t y)) [
  | inl e ↦ elim (cases_Bool (x == y)) [
    | inl is ↦ let same = eqb-true x y is in (subst (λ z. t z ≡ true) (sym same) e, rw is refl)
    | inr not ↦ let more = filter_passes t ys x (rw (e, not) at h) in (more.0, rw not more.1)
  ]
  | inr e ↦ let more = filter_passes t ys x (rw e at h) in (more.0, elim (cases_Bool (x == y)) [ inl is ↦ rw is refl | inr not ↦ rw not more.1 ])
]

-- ---- steps at the end of a list
module _ {X : Type 0} (give : Step → List X) where
  pub left_last : (steps : List Step) (s : Step) → left_of give (steps ++ s ∷ []) ≡ give s ++ left_of give steps
  unfolding left_of
  left_last [] s = sym (append-nil (give s))
  left_last (x ∷ steps) s = ap (λ w. w ++ give x) (left_last steps s) ∙ append_assoc (give s) (left_of give steps) (give x)

  pub left_none : left_of give [] ≡ []
  unfolding left_of
  left_none = refl

module _ (slots : List ℕ) (forest : AreForest slots) where
  abbrev n : ℕ
  n = length slots

  in_places : (r c : ℕ) → has (places_in slots r) c ≡ true → (slice_index slots c ≡ r) × (c < n)
  in_places r c h =
      let p = filter_passes (in_slot slots r) (range_with_len 0 (n - 0)) c h in
      let w = from_range 0 (n - 0) c p.1 in
      (eqb-true _ _ p.0, omega (arith, w.1))

  pub is_forest : IsForest (above slots) (places_in slots) (λ k. nat_lt k n) n
  is_forest = record {
    parent = λ r c there within.
        let p = in_places r c within in
        let lt = lt-ltb (slice_index slots c) n (let l = ltb-true r n there in let e = p.0 in omega arith) in
        rw lt (ap Some p.0);
    inside = λ r c there within. lt-ltb c n (in_places r c within).1;
    end = λ r there. forest.ends r (ltb-true r n there);
  }

  -- whatever is put round the places inside one: a head, these, and an end
  module _ {X : Type 0} (put : ℕ → List X → List X) (head : ℕ → List X) (close : List X) (law : (r : ℕ) (within : List X) → put r within ≡ head r ++ (within ++ close)) (give : Step → List X)
      (opens : (k : ℕ) → give (step.Open k) ≡ nested put n (places_in slots) (places_from slots (slice_index slots k) k)) (closes : give step.Close ≡ close) where
    made : List ℕ → List X
    made ks = nested put n (places_in slots) ks

    steps_of-none : (s i : ℕ) (o : Option ℕ) → i ≤ n → first_from slots s i ≡ o → (steps : List Step) → left_of give (steps ++ steps_of o) ≡ made (places_from slots s i) ++ left_of give steps
    unfolding made
    steps_of-none s i None l h steps =
        ap (left_of give) (append-nil steps)
        ∙ ap (λ w. w ++ left_of give steps) (sym (ap (nested put n (places_in slots)) (none_from slots (n - i) s i (omega arith) h) ∙ nested-nil put (places_in slots) n))
    steps_of-none s i (Some f) l h steps =
        let is = some_from slots (n - i) s i f (omega arith) h in
        left_last give steps (step.Open f)
        ∙ ap (λ w. w ++ left_of give steps) (opens f ∙ ap (λ z. nested put n (places_in slots) (places_from slots z f)) is.slot ∙ ap (nested put n (places_in slots)) (sym is.rest))

    -- a place is opened: its head is given, and what is left are those inside it, its end, and those behind it
    pub open_step : (k : ℕ) (first next : List (Option ℕ)) (steps : List Step) → k < n → AreSiblings slots first next
        → left_of give (steps ++ step.Open k ∷ []) ≡ head k ++ left_of give (((steps ++ steps_of (parent_at next k)) ++ step.Close ∷ []) ++ steps_of (parent_at first k))
    unfolding made
    open_step k first next steps l are =
        let s = slice_index slots k in
        let behind = steps_of-none s (k + 1) (parent_at next k) (omega arith) (sym (are.next_is k (omega arith) l)) steps in
        let end = left_last give (steps ++ steps_of (parent_at next k)) step.Close in
        let inside = steps_of-none k 0 (parent_at first k) (omega arith) (sym (are.first_is k (omega arith))) ((steps ++ steps_of (parent_at next k)) ++ step.Close ∷ []) in
        let within = made (places_in slots k) in
        let later = made (places_from slots s (k + 1)) in
        let rest = left_of give steps in
        left_last give steps (step.Open k)
        ∙ ap (λ w. w ++ rest)
        (opens k ∙ ap (nested put n (places_in slots)) (places_here slots s k l refl) ∙ nested-one (above slots) (places_in slots) (λ q. nat_lt q n) n is_forest put k (places_from slots s (k + 1)) (lt-ltb k n l)
        ∙ ap (λ w. w ++ later) (law k within))
        ∙ ap (λ w. w ++ rest) (append_assoc (head k) (within ++ close) later)
        ∙ append_assoc (head k) ((within ++ close) ++ later) rest
        ∙ ap (λ w. head k ++ w) (append_assoc (within ++ close) later rest ∙ append_assoc within close (later ++ rest) ∙ ap (λ w. within ++ (close ++ w)) (sym behind) ∙ ap (λ w. within ++ (w ++ left_of give (steps ++ steps_of (parent_at next k)))) (sym closes)
        ∙ ap (λ w. within ++ w) (sym end) ∙ sym inside)

    -- at the start, all are left
    pub start_steps : (first next : List (Option ℕ)) → AreSiblings slots first next → left_of give ([] ++ steps_of (parent_at first n)) ≡ nested put n (places_in slots) (places_in slots n)
    unfolding made
    start_steps first next are =
        steps_of-none n 0 (parent_at first n) (omega arith) (sym (are.first_is n (omega arith))) [] ∙ ap (λ w. made (places_in slots n) ++ w) (left_none give) ∙ append-nil (made (places_in slots n))

  pub bits_open : (k : ℕ) (first next : List (Option ℕ)) (steps : List Step) → k < n → AreSiblings slots first next
      → left_of (step_bits slots) (steps ++ step.Open k ∷ []) ≡ (true ∷ left_of (step_bits slots) (((steps ++ steps_of (parent_at next k)) ++ step.Close ∷ []) ++ steps_of (parent_at first k)))
  bits_open = open_step (λ r within. true ∷ (within ++ (false ∷ []))) (λ r. true ∷ []) (false ∷ []) (λ r within. refl) (step_bits slots) (λ k. refl) refl

  pub order_open : (k : ℕ) (first next : List (Option ℕ)) (steps : List Step) → k < n → AreSiblings slots first next
      → left_of (step_order slots) (steps ++ step.Open k ∷ []) ≡ (k ∷ left_of (step_order slots) (((steps ++ steps_of (parent_at next k)) ++ step.Close ∷ []) ++ steps_of (parent_at first k)))
  order_open = open_step (λ r within. r ∷ within) (λ r. r ∷ []) [] (λ r within. ap (λ w. r ∷ w) (sym (append-nil within))) (step_order slots) (λ k. refl) refl

  pub bits_start : (first next : List (Option ℕ)) → AreSiblings slots first next → left_of (step_bits slots) ([] ++ steps_of (parent_at first n)) ≡ bits_in slots (places_in slots n)
  bits_start = start_steps (λ r within. true ∷ (within ++ (false ∷ []))) (λ r. true ∷ []) (false ∷ []) (λ r within. refl) (step_bits slots) (λ k. refl) refl

  pub order_start : (first next : List (Option ℕ)) → AreSiblings slots first next → left_of (step_order slots) ([] ++ steps_of (parent_at first n)) ≡ order_in slots (places_in slots n)
  order_start = start_steps (λ r within. r ∷ within) (λ r. r ∷ []) [] (λ r within. ap (λ w. r ∷ w) (sym (append-nil within))) (step_order slots) (λ k. refl) refl

-- steps to be done are places
place_within : (slots : List ℕ) (s i : ℕ) (o : Option ℕ) → i ≤ length slots → first_from slots s i ≡ o → list_all (is_step_within (length slots)) (steps_of o) ≡ true
place_within slots s i None l h = refl
place_within slots s i (Some f) l h = let is = some_from slots (length slots - i) s i f (omega arith) h in and_from (nat_lt f (length slots)) true (lt-ltb f (length slots) is.within) refl

pub first_within : (slots : List ℕ) (first next : List (Option ℕ)) → AreSiblings slots first next → (s : ℕ) → s ≤ length slots → list_all (is_step_within (length slots)) (steps_of (parent_at first s)) ≡ true
first_within slots first next are s l = place_within slots s 0 (parent_at first s) (omega arith) (sym (are.first_is s l))

pub next_within : (slots : List ℕ) (first next : List (Option ℕ)) → AreSiblings slots first next → (k : ℕ) → k < length slots → list_all (is_step_within (length slots)) (steps_of (parent_at next k)) ≡ true
next_within slots first next are k l = place_within slots (slice_index slots k) (k + 1) (parent_at next k) (omega arith) (sym (are.next_is k (omega arith) l))

-- ---- what was given and what is left make all
pub record IsWalked (slots : List ℕ) (given : List Bool) (met : List ℕ) (left : List Step) : Type 0 where
  pub bits : given ++ left_of (step_bits slots) left ≡ bits_in slots (places_in slots (length slots))
  pub order : met ++ left_of (step_order slots) left ≡ order_in slots (places_in slots (length slots))
  pub within : list_all (is_step_within (length slots)) left ≡ true

all-append : {X : Type 0} (t : X → Bool) (xs ys : List X) → list_all t xs ≡ true → list_all t ys ≡ true → list_all t (xs ++ ys) ≡ true
all-append t [] ys h k = k
all-append t (x ∷ xs) ys h k = let p = and_parts (t x) (list_all t xs) h in and_from (t x) _ p.0 (all-append t xs ys p.1 k)

all-parts : {X : Type 0} (t : X → Bool) (xs : List X) (x : X) → list_all t (xs ++ x ∷ []) ≡ true → (list_all t xs ≡ true) × (t x ≡ true)
all-parts t [] x h = (refl, (and_parts (t x) true h).0)
all-parts t (y ∷ ys) x h = let p = and_parts (t y) (list_all t (ys ++ x ∷ [])) h in let more = all-parts t ys x p.1 in (and_from (t y) _ p.0 more.0, more.1)

pub walked_start : (slots : List ℕ) → AreForest slots → (first next : List (Option ℕ)) → AreSiblings slots first next → (given : List Bool) (met : List ℕ) (before left : List Step) (place : Option ℕ)
    → given ≡ [] → met ≡ [] → before ≡ [] → place ≡ parent_at first (length slots) → left ≡ before ++ steps_of place → IsWalked slots given met left
walked_start slots forest first next are given met before left place eg em eb ep el =
    let left_is : left ≡ [] ++ steps_of (parent_at first (length slots)) = el ∙ ap (λ xs. xs ++ steps_of place) eb ∙ ap steps_of ep in
    record {
      bits = ap (λ xs. xs ++ left_of (step_bits slots) left) eg ∙ ap (left_of (step_bits slots)) left_is ∙ bits_start slots forest first next are;
      order = ap (λ xs. xs ++ left_of (step_order slots) left) em ∙ ap (left_of (step_order slots)) left_is ∙ order_start slots forest first next are;
      within = ap (list_all (is_step_within (length slots))) left_is ∙ first_within slots first next are (length slots) (omega arith);
    }

-- a place is opened
pub opened_within : (slots : List ℕ) (given : List Bool) (met : List ℕ) (old steps : List Step) (s : Step) (k : ℕ) → IsWalked slots given met old → old ≡ steps ++ s ∷ [] → s ≡ step.Open k → k < length slots
opened_within slots given met old steps s k w e is =
    ltb-true k (length slots) (subst (λ x. is_step_within (length slots) x ≡ true) is (all-parts (is_step_within (length slots)) steps s (ap (list_all (is_step_within (length slots))) (sym e) ∙ w.within)).1)

pub opened_fewer : (slots : List ℕ) → AreForest slots → (first next : List (Option ℕ)) → AreSiblings slots first next → (old steps left : List Step) (s : Step) (k : ℕ) → k < length slots → old ≡ steps ++ s ∷ [] → s ≡ step.Open k → IsOpened steps left first next k
    → length (left_of (step_bits slots) left) < length (left_of (step_bits slots) old)
opened_fewer slots forest first next are old steps left s k l e is o =
    let was = ap (left_of (step_bits slots)) (e ∙ ap (λ x. steps ++ x ∷ []) is) ∙ bits_open slots forest k first next steps l are ∙ ap (λ x. true ∷ left_of (step_bits slots) x) (sym o.places) in
    let long = ap length was in
    omega (arith, long)

pub walked_opened : (slots : List ℕ) → AreForest slots → (first next : List (Option ℕ)) → AreSiblings slots first next → (given given' : List Bool) (met met' : List ℕ) (old steps left : List Step) (s : Step) (k : ℕ)
    → IsWalked slots given met old → old ≡ steps ++ s ∷ [] → s ≡ step.Open k → given' ≡ given ++ true ∷ [] → met' ≡ met ++ k ∷ [] → IsOpened steps left first next k → IsWalked slots given' met' left
walked_opened slots forest first next are given given' met met' old steps left s k w e is eg em o =
    let l = opened_within slots given met old steps s k w e is in
    let from = e ∙ ap (λ x. steps ++ x ∷ []) is in
    let bits = ap (left_of (step_bits slots)) from ∙ bits_open slots forest k first next steps l are ∙ ap (λ x. true ∷ left_of (step_bits slots) x) (sym o.places) in
    let order = ap (left_of (step_order slots)) from ∙ order_open slots forest k first next steps l are ∙ ap (λ x. k ∷ left_of (step_order slots) x) (sym o.places) in
    let n = length slots in
    let before = (all-parts (is_step_within n) steps s (ap (list_all (is_step_within n)) (sym e) ∙ w.within)).0 in
    record {
      bits = ap (λ xs. xs ++ left_of (step_bits slots) left) eg ∙ append_assoc given (true ∷ []) (left_of (step_bits slots) left) ∙ ap (λ xs. given ++ xs) (sym bits) ∙ w.bits;
      order = ap (λ xs. xs ++ left_of (step_order slots) left) em ∙ append_assoc met (k ∷ []) (left_of (step_order slots) left) ∙ ap (λ xs. met ++ xs) (sym order) ∙ w.order;
      within =
          ap (list_all (is_step_within n)) o.places
          ∙ all-append (is_step_within n) ((steps ++ steps_of (parent_at next k)) ++ step.Close ∷ []) (steps_of (parent_at first k))
          (all-append (is_step_within n) (steps ++ steps_of (parent_at next k)) (step.Close ∷ []) (all-append (is_step_within n) steps (steps_of (parent_at next k)) before (next_within slots first next are k l)) refl)
          (first_within slots first next are k (omega arith));
    }

-- a place is closed
pub closed_fewer : (slots : List ℕ) (old steps : List Step) (s : Step) → old ≡ steps ++ s ∷ [] → s ≡ step.Close → length (left_of (step_bits slots) steps) < length (left_of (step_bits slots) old)
closed_fewer slots old steps s e is =
    let was = ap (left_of (step_bits slots)) (e ∙ ap (λ x. steps ++ x ∷ []) is) ∙ left_last (step_bits slots) steps step.Close in
    let long = ap length was in
    omega (arith, long)

pub walked_closed : (slots : List ℕ) (given given' : List Bool) (met : List ℕ) (old steps : List Step) (s : Step) → IsWalked slots given met old → old ≡ steps ++ s ∷ [] → s ≡ step.Close → given' ≡ given ++ false ∷ [] → IsWalked slots given' met steps
walked_closed slots given given' met old steps s w e is eg =
    let from = e ∙ ap (λ x. steps ++ x ∷ []) is in
    let n = length slots in
    record {
      bits =
          ap (λ xs. xs ++ left_of (step_bits slots) steps) eg ∙ append_assoc given (false ∷ []) (left_of (step_bits slots) steps)
          ∙ ap (λ xs. given ++ xs) (sym (ap (left_of (step_bits slots)) from ∙ left_last (step_bits slots) steps step.Close)) ∙ w.bits;
      order = ap (λ xs. met ++ xs) (sym (ap (left_of (step_order slots)) from ∙ left_last (step_order slots) steps step.Close)) ∙ w.order;
      within = (all-parts (is_step_within n) steps s (ap (list_all (is_step_within n)) (sym e) ∙ w.within)).0;
    }

-- nothing is left
pub walked_end : (slots : List ℕ) (given : List Bool) (met : List ℕ) (left : List Step) → IsWalked slots given met left → length left ≡ 0
    → (given ≡ bits_in slots (places_in slots (length slots))) × (met ≡ order_in slots (places_in slots (length slots)))
walked_end slots given met left w none =
    let e = nil_from_length left none in (
      sym (append-nil given) ∙ ap (λ xs. given ++ xs) (sym (ap (left_of (step_bits slots)) e ∙ left_none (step_bits slots))) ∙ w.bits,
      sym (append-nil met) ∙ ap (λ xs. met ++ xs) (sym (ap (left_of (step_order slots)) e ∙ left_none (step_order slots))) ∙ w.order,
    )
