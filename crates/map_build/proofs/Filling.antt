-- A list that is filled by number, where a slot is written only while it is blank.
use Rattle.std.specs.Prelude.{slice_set, slice_index_or}
use Rattle.std.proofs.Common.{◌≡◌, ℕ, ◌+◌, ◌<◌, ◌⊎◌, inl, inr, Bool, List, length, IsTrue, ap, sym, ◌∙◌, arith, subst}
use Rattle.std.proofs.lemmas.List.{get_or-set_same, get_or-set_other, get_or_default, length-set}
use Rattle.std.proofs.lemmas.Bool.{cases_eq}
use Rattle.map_build.specs.ByNumber.{StandByNumber}

-- what is there after the first p positions: a slot that isn't blank has the number of one of them
pub record AreFilling (number value : ℕ → ℕ) (counts : ℕ → Bool) (count p : ℕ) (ids : List ℕ) : Type 0 where
  pub len : length ids ≡ count
  pub stand : StandByNumber 0 number value counts p ids
  pub each : (i : ℕ) → (slice_index_or ids i 0 ≡ 0) ⊎ ((q : ℕ) × (q < p) × IsTrue (counts q) × (number q ≡ i))

-- the slot of a position is written, or nothing is, where what is read there isn't blank or the position doesn't count
abbrev pub IsStep : (ℕ → ℕ) → (ℕ → ℕ) → (ℕ → Bool) → ℕ → List ℕ → List ℕ → Type 0
IsStep number value counts p old new =
    (IsTrue (counts p) × (new ≡ slice_set old (number p) (value p))) ⊎ ((new ≡ old) × (IsTrue (counts p) → (read : ℕ) × (read ≡ slice_index_or old (number p) read) × (read ≡ 0 → ⊥)))

module _ (number value : ℕ → ℕ) (counts : ℕ → Bool) (count n : ℕ) (agree : (ids : List ℕ) × (length ids ≡ count) × StandByNumber 0 number value counts n ids) where
  -- positions of one number agree
  alike : (p q : ℕ) → p < n → q < n → IsTrue (counts p) → IsTrue (counts q) → number q ≡ number p → value q ≡ value p
  alike p q lp lq cp cq same = sym (agree.2.stands q lq cq) ∙ ap (λ i. slice_index_or agree.0 i 0) same ∙ agree.2.stands p lp cp

  inside : (p : ℕ) → p < n → IsTrue (counts p) → number p < count
  inside p l c = let h = agree.2.within p l c in let k = agree.1 in omega (arith, h, k)

  sooner : (p q : ℕ) → q < p + 1 → (q < p) ⊎ (q ≡ p)
  sooner p q l = elim (cases_eq q p) [ inl e ↦ inr e | inr ne ↦ inl (omega (arith, l, ne)) ]

  pub filled_on : (p : ℕ) (old new : List ℕ) → p < n → IsStep number value counts p old new → AreFilling number value counts count p old → AreFilling number value counts count (p + 1) new
  filled_on p old new l (inl (c, is)) f = subst (AreFilling number value counts count (p + 1)) (sym is) (record { len = len; stand = record { within = within; stands = stands }; each = each })
    where
      set : List ℕ
      set = slice_set old (number p) (value p)

      len : length set ≡ count
      len = length-set old (number p) (value p) ∙ f.len

      there : number p < length old
      there = let h = inside p l c in let k = f.len in omega (arith, h, k)

      within : (q : ℕ) → q < p + 1 → IsTrue (counts q) → number q < length set
      within q lq cq = let h = inside q (omega (arith, l, lq)) cq in omega (arith, h, len)

      stands : (q : ℕ) → q < p + 1 → IsTrue (counts q) → slice_index_or set (number q) 0 ≡ value q
      stands q lq cq = elim (cases_eq (number q) (number p)) [
        | inl same ↦ ap (λ i. slice_index_or set i 0) same ∙ get_or-set_same old (number p) (value p) 0 there ∙ sym (alike p q l (omega (arith, l, lq)) c cq same)
        | inr ne ↦ get_or-set_other old (number p) (number q) (value p) 0 ne ∙ elim (sooner p q lq) [ inl less ↦ f.stand.stands q less cq | inr e ↦ absurd (ne (ap number e)) ]
      ]

      each : (i : ℕ) → (slice_index_or set i 0 ≡ 0) ⊎ ((q : ℕ) × (q < p + 1) × IsTrue (counts q) × (number q ≡ i))
      each i = elim (cases_eq i (number p)) [
        | inl same ↦ inr (p, omega arith, c, sym same)
        | inr ne ↦ elim (f.each i) [ inl blank ↦ inl (get_or-set_other old (number p) i (value p) 0 ne ∙ blank) | inr h ↦ inr (h.0, (let k = h.1 in omega (arith, k)), h.2, h.3) ]
      ]
  filled_on p old new l (inr (is, full)) f = subst (AreFilling number value counts count (p + 1)) (sym is) (record { len = f.len; stand = record { within = within; stands = stands }; each = each })
    where
      not_blank : IsTrue (counts p) → slice_index_or old (number p) 0 ≡ 0 → ⊥
      not_blank c blank = let r = full c in let h = inside p l c in let k = f.len in r.2 (r.1 ∙ get_or_default old (number p) r.0 0 (omega (arith, h, k)) ∙ blank)

      within : (q : ℕ) → q < p + 1 → IsTrue (counts q) → number q < length old
      within q lq cq = let h = inside q (omega (arith, l, lq)) cq in let k = f.len in omega (arith, h, k)

      stands : (q : ℕ) → q < p + 1 → IsTrue (counts q) → slice_index_or old (number q) 0 ≡ value q
      stands q lq cq = elim (f.each (number q)) [
        | inl blank ↦ elim (sooner p q lq) [ inl less ↦ f.stand.stands q less cq | inr e ↦ absurd (not_blank (subst (λ x. IsTrue (counts x)) e cq) (ap (λ x. slice_index_or old (number x) 0) (sym e) ∙ blank)) ]
        | inr h ↦ ap (λ i. slice_index_or old i 0) (sym h.3) ∙ f.stand.stands h.0 h.1 h.2 ∙ alike q h.0 (omega (arith, l, lq)) (let k = h.1 in omega (arith, l, k)) cq h.2 h.3
      ]

      each : (i : ℕ) → (slice_index_or old i 0 ≡ 0) ⊎ ((q : ℕ) × (q < p + 1) × IsTrue (counts q) × (number q ≡ i))
      each i = elim (f.each i) [ inl blank ↦ inl blank | inr h ↦ inr (h.0, (let k = h.1 in omega (arith, k)), h.2, h.3) ]
