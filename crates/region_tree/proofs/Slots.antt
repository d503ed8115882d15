-- First and next places of slots.
use Rattle.std.specs.Prelude.{filter, find, slice_index, slice_index_or, slice_set, nat_lt, replicate}
use Rattle.std.proofs.Common.{◌≡◌, ◌≢◌, ℕ, zero, suc, ◌+◌, ◌-◌, ◌<◌, ◌≤◌, inl, inr, Bool, true, false, ◌==◌, List, [], ◌∷◌, length, get_or, set, refl, ap, sym, ◌∙◌, subst, arith, Option, Some, None, eq-eqb}
use Rattle.std.specs.List.{range_with_len}
use Rattle.std.proofs.lemmas.Bool.{cases_lt, cases_Bool, eqb-true, ne_eqb, both_ways}
use Rattle.std.proofs.lemmas.List.{length-set, length-replicate, get_or-set_same, get_or-set_other, get_or-replicate, get_or_past}
use Rattle.region_tree.specs.Ancestors.{parent_at}
use Rattle.region_tree.specs.Siblings.{in_slot, places_from, first_from, AreSiblingsFrom}

-- a range by its first
pub range_first : {X : Type 0} (f : List ℕ → X) (i n : ℕ) → i < n → f (range_with_len i (n - i)) ≡ f (i ∷ range_with_len (i + 1) (n - (i + 1)))
range_first f i n l =
    let e : n - i ≡ suc (n - (i + 1)) = omega arith in
    ap (λ k. f (range_with_len i k)) e

pub range_none : {X : Type 0} (f : List ℕ → X) (i n : ℕ) → n ≤ i → f (range_with_len i (n - i)) ≡ f []
range_none f i n l = let e : n - i ≡ 0 = omega arith in ap (λ k. f (range_with_len i k)) e

module _ (slots : List ℕ) where
  abbrev n : ℕ
  n = length slots

  pub first_here : (s i : ℕ) → i < n → slice_index slots i ≡ s → first_from slots s i ≡ Some i
  first_here s i l e = range_first (find (in_slot slots s)) i n l ∙ (let is = eq-eqb (slice_index slots i) s e in rw is refl)

  pub first_later : (s i : ℕ) → i < n → slice_index slots i ≢ s → first_from slots s i ≡ first_from slots s (i + 1)
  first_later s i l e = range_first (find (in_slot slots s)) i n l ∙ (let not = ne_eqb (slice_index slots i) s e in rw not refl)

  pub places_here : (s i : ℕ) → i < n → slice_index slots i ≡ s → places_from slots s i ≡ (i ∷ places_from slots s (i + 1))
  places_here s i l e = range_first (filter (in_slot slots s)) i n l ∙ (let is = eq-eqb (slice_index slots i) s e in rw is refl)

  pub places_later : (s i : ℕ) → i < n → slice_index slots i ≢ s → places_from slots s i ≡ places_from slots s (i + 1)
  places_later s i l e = range_first (filter (in_slot slots s)) i n l ∙ (let not = ne_eqb (slice_index slots i) s e in rw not refl)

  -- from place i on there is none, or the first one and those from there on
  pub record IsFirstSlot (s i f : ℕ) : Type 0 where
    pub within : f < n
    pub slot : slice_index slots f ≡ s
    pub rest : places_from slots s i ≡ places_from slots s f

  pub none_from : (d s i : ℕ) → i + d ≡ n → first_from slots s i ≡ None → places_from slots s i ≡ []
  none_from zero s i e h = range_none (filter (in_slot slots s)) i n (omega arith)
  none_from (suc d) s i e h = elim (cases_Bool (slice_index slots i == s)) [
    | inl is ↦ let found = first_here s i (omega arith) (eqb-true _ _ is) in absurd (cc)
    | inr not ↦
        let differ = λ (e' : slice_index slots i ≡ s). both_ways _ not (eq-eqb _ _ e') in
        places_later s i (omega arith) differ ∙ none_from d s (i + 1) (omega arith) (sym (first_later s i (omega arith) differ) ∙ h)
  ]

  pub some_from : (d s i f : ℕ) → i + d ≡ n → first_from slots s i ≡ Some f → IsFirstSlot s i f
  some_from zero s i f e h = let none = range_none (find (in_slot slots s)) i n (omega arith) in absurd (cc)
  some_from (suc d) s i f e h = elim (cases_Bool (slice_index slots i == s)) [
    | inl is ↦
        let found = first_here s i (omega arith) (eqb-true _ _ is) in
        let same : i ≡ f = cc in
        record {
          within = omega arith;
          slot = ap (slice_index slots) (sym same) ∙ eqb-true _ _ is;
          rest = ap (places_from slots s) same;
        }
    | inr not ↦
        let differ = λ (e' : slice_index slots i ≡ s). both_ways _ not (eq-eqb _ _ e') in
        let more = some_from d s (i + 1) f (omega arith) (sym (first_later s i (omega arith) differ) ∙ h) in
        record { within = more.within; slot = more.slot; rest = places_later s i (omega arith) differ ∙ more.rest }
  ]

  -- before any place is looked at
  pub no_siblings : (first next : List (Option ℕ)) → first ≡ replicate (n + 1) None → next ≡ replicate n None → AreSiblingsFrom slots n first next
  no_siblings first next ef en = record {
    first_many = ap length ef ∙ length-replicate (n + 1) None;
    next_many = ap length en ∙ length-replicate n None;
    first_is = λ s l. ap (λ xs. parent_at xs s) ef ∙ get_or-replicate (n + 1) s None None (omega arith) ∙ sym (range_none (find (in_slot slots s)) n n (omega arith));
    next_is = λ k a b. absurd (omega arith);
  }

  -- one place more, from the back
  pub more_siblings : (i slot : ℕ) (first next : List (Option ℕ)) → i < n → slot ≡ slice_index slots i → slot ≤ n → AreSiblingsFrom slots (i + 1) first next
      → AreSiblingsFrom slots i (set first slot (Some i)) (set next i (parent_at first slot))
  more_siblings i slot first next l is le old = record {
    first_many = length-set first slot (Some i) ∙ old.first_many;
    next_many = length-set next i (parent_at first slot) ∙ old.next_many;
    first_is = λ s ls. elim (cases_Bool (slot == s)) [
      | inl same ↦
          let e = eqb-true slot s same in
          let fits : slot < length first = (let m = old.first_many in omega arith) in
          subst (λ z. parent_at (set first slot (Some i)) z ≡ first_from slots z i) e (get_or-set_same first slot (Some i) None fits ∙ sym (first_here slot i l (sym is)))
      | inr other ↦
          let differ : s ≢ slot = λ e. both_ways _ other (eq-eqb slot s (sym e)) in
          get_or-set_other first slot s (Some i) None differ ∙ old.first_is s ls ∙ sym (first_later s i l (λ e. differ (sym (is ∙ e))))
    ];
    next_is = λ k a b. elim (cases_lt i k) [
      | inl after ↦ get_or-set_other next i k (parent_at first slot) None (λ e. omega (arith, e)) ∙ old.next_is k (omega arith) b
      | inr here ↦
          let e : i ≡ k = omega arith in
          let fits : i < length next = (let m = old.next_many in omega arith) in
          subst (λ z. parent_at (set next i (parent_at first slot)) z ≡ first_from slots (slice_index slots z) (z + 1)) e
          (get_or-set_same next i (parent_at first slot) None fits ∙ old.first_is slot le ∙ ap (λ s. first_from slots s (i + 1)) is)
    ];
  }
