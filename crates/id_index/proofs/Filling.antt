-- Slots that are filled from the last row to the first.
use Rattle.std.proofs.Common.{◌≡◌, ℕ, suc, ◌+◌, ◌-◌, ◌<◌, inl, inr, Bool, false, not, ◌==◌, List, [], ◌∷◌, length, get_or, set, drop, drop-cons, replicate, refl, sym, ap, ◌∙◌, subst, arith, Option, Some, None}
use Rattle.std.specs.Prelude.{is_some}
use Rattle.std.proofs.lemmas.Bool.{eqb-true, eqb-false, cases_Bool, cases_lt, ne_eqb}
use Rattle.std.proofs.lemmas.Grind.{get_or-set_at}
use Rattle.std.proofs.lemmas.List.{get_or-replicate, get_or-set_other, length-replicate, length-set, get_or_past}
use Rattle.plane_model.specs.Sets.{has, rising}
use Rattle.plane_model.specs.Faults.{least_twice}
use Rattle.id_index.specs.Dense.{row_at, row_of_slot}
use Rattle.id_index.specs.Repeated.{with_id}
use Rattle.id_index.specs.Rows.{first_row}
use Rattle.id_index.proofs.FirstRows.{row_from, row_from-known, first_row-from}
use Rattle.id_index.proofs.Twice.{twice_in_front}

-- slots and the least id that stands twice, of the rows from k on
pub record IsFilled (ids : List ℕ) (many : ℕ) (k : ℕ) (slots : List ℕ) (repeated : Option ℕ) : Type 0 where
  pub size : length slots ≡ many
  pub rows : (id : ℕ) → row_at slots id ≡ row_from k (drop k ids) id
  pub twice : repeated ≡ least_twice (drop k ids)

all_dropped : (ids : List ℕ) → drop (length ids) ids ≡ []
all_dropped [] = refl
all_dropped (x ∷ xs) = all_dropped xs

none_twice : least_twice [] ≡ None
unfolding rising
none_twice = refl

pub none_filled : (ids : List ℕ) (many : ℕ) (slots : List ℕ) → slots ≡ replicate many 0 → IsFilled ids many (length ids) slots None
none_filled ids many slots e = record {
  size = ap length e ∙ length-replicate many 0;
  rows = λ id.
      let empty : get_or (replicate many 0) id 0 ≡ 0 = elim (cases_lt id many) [ inl l ↦ get_or-replicate many id 0 0 l | inr l ↦ get_or_past (replicate many 0) id 0 (rw length-replicate l) ] in
      ap (λ s. row_of_slot (get_or s id 0)) e ∙ ap row_of_slot empty ∙ ap (λ xs. row_from (length ids) xs id) (sym (all_dropped ids));
  twice = sym (ap least_twice (all_dropped ids) ∙ none_twice);
}

slot_taken : (slot : ℕ) → not (slot == 0) ≡ is_some (row_of_slot slot)
slot_taken slot = elim (cases_Bool (slot == 0)) [ inl e ↦ rw e refl | inr e ↦ rw e refl ]

row_of_next : (k : ℕ) → row_of_slot (k + 1) ≡ Some k
row_of_next k =
    let some : (k + 1 == 0) ≡ false = ne_eqb (k + 1) 0 (λ e. omega arith) in
    rw some (ap Some (let own : k + 1 - 1 ≡ k = omega arith in own))

module _ (ids : List ℕ) (many k : ℕ) (slots : List ℕ) (repeated : Option ℕ) (l : k < length ids) (inside : get_or ids k 0 < many) (old : IsFilled ids many (k + 1) slots repeated) where
  abbrev own : ℕ
  own = get_or ids k 0

  here : drop k ids ≡ own ∷ drop (k + 1) ids
  here = drop-cons ids k 0 l ∙ ap (λ j. own ∷ drop j ids) (let on : suc k ≡ k + 1 = omega arith in on)

  row_filled : (id : ℕ) → row_at (set slots own (k + 1)) id ≡ row_from k (drop k ids) id
  row_filled id = rw here (elim (cases_Bool (own == id)) [
    | inl e ↦
        let same : id ≡ own = sym (eqb-true own id e) in
        rw e (ap row_of_slot (get_or-set_at slots own id (k + 1) 0 same (omega (arith, old.size))) ∙ row_of_next k)
    | inr e ↦ rw e (ap row_of_slot (get_or-set_other slots own id (k + 1) 0 (λ same. eqb-false own id e (sym same))) ∙ old.rows id)
  ])

  pub one_filled : (again : Bool) → again ≡ not (get_or slots own 0 == 0) → IsFilled ids many k (set slots own (k + 1)) (with_id repeated own again)
  one_filled again is = record {
    size = length-set slots own (k + 1) ∙ old.size;
    rows = row_filled;
    twice =
        let known : again ≡ has (drop (k + 1) ids) own = is ∙ slot_taken (get_or slots own 0) ∙ ap is_some (old.rows own) ∙ row_from-known (k + 1) (drop (k + 1) ids) own in
        ap (λ b. with_id repeated own b) known ∙ ap (λ r. with_id r own (has (drop (k + 1) ids) own)) old.twice ∙ sym (twice_in_front own (drop (k + 1) ids)) ∙ ap least_twice (sym here);
  }

-- all rows are put
module _ (ids : List ℕ) (many k : ℕ) (slots : List ℕ) (repeated : Option ℕ) (none_left : k ≡ 0) (filled : IsFilled ids many k slots repeated) where
  all : IsFilled ids many 0 slots repeated
  all = subst (λ j. IsFilled ids many j slots repeated) none_left filled

  pub filled_rows : (id : ℕ) → row_at slots id ≡ first_row ids id
  filled_rows id = all.rows id ∙ sym (first_row-from ids id)

  pub filled_twice : repeated ≡ least_twice ids
  filled_twice = all.twice
