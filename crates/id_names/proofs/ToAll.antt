-- Where each member of a cycle of several is marked, a pointer leads to the member before.
use Rattle.std.specs.Prelude.{map, filter_map, is_some}
use Rattle.std.specs.List.{All, range_with_len}
use Rattle.std.proofs.Common.{◌≡◌, ◌≢◌, ℕ, ◌+◌, ◌-◌, ◌*◌, ◌/◌, ◌%◌, ◌^◌, ◌<◌, ◌≤◌, Bool, inl, inr, List, [], ◌∷◌, ◌++◌, length, get_or, refl, ap, sym, subst, ◌∙◌, arith, eq-eqb, Option, Some, None}
use Rattle.std.proofs.lemmas.Bool.{cases_lt, ne_eqb, lt-ltb, le-ltb}
use Rattle.std.proofs.lemmas.List.{same_lists, length-map}
use Rattle.std.proofs.lemmas.List.FromFn.{length-map-range_with_len, get_or-map-range_with_len, map-range_with_len_more}
use Rattle.std.proofs.lemmas.List.Elements.{All-from_get_or}
use Rattle.std.proofs.lemmas.Nat.{div-add-mod', mod_below}
use Rattle.bit_words.specs.Lists.{tabulate}
use Rattle.bit_words.specs.Packed.{PackedList}
use Rattle.id_names.specs.Cycles.{IsPlacePermutation, AreInverse, cycle, mark_at, mark_of, marks_of, one_before}
use Rattle.id_names.specs.Making.{place_width}
use Rattle.id_names.proofs.ComesBack.{own_place}
use Rattle.id_names.proofs.Members.{members_of}
use Rattle.id_names.proofs.Pointers.{length-values, place_fits}
use Rattle.id_names.proofs.Sweeping.{mark_of_member}

-- a number that another follows stands before it
before_is : (numbers : List ℕ) (k x : ℕ) → get_or numbers k 0 ≡ x → x ≢ k → one_before numbers k ≡ Some x
before_is numbers k x e ne = rw (e, ne_eqb x k ne) refl

before_none : (numbers : List ℕ) (k : ℕ) → get_or numbers k 0 ≡ k → one_before numbers k ≡ None
before_none numbers k e = rw (e, eq-eqb k k refl) refl

-- the marks of a list whose members are all marked
first_marked : (xs : List ℕ) → 1 < length xs → mark_at 1 xs 0 ≡ Some (get_or xs (length xs - 1) 0)
unfolding mark_at
first_marked xs l =
    let d = div-add-mod' (length xs - 1) 1 in
    let m = mod_below (length xs - 1) 1 (omega arith) in
    let last : (length xs - 1) / 1 * 1 ≡ length xs - 1 = omega arith in
    rw (lt-ltb 1 (length xs) l) (ap (λ k. Some (get_or xs k 0)) last)

later_marked : (xs : List ℕ) (i : ℕ) → 1 < length xs → 0 < i → mark_at 1 xs i ≡ Some (get_or xs (i - 1) 0)
unfolding mark_at
later_marked xs i l some =
    let m = mod_below i 1 (omega arith) in
    let z : i % 1 ≡ 0 = omega arith in
    rw (lt-ltb 1 (length xs) l, z, ne_eqb i 0 (λ e. absurd (omega arith))) refl

none_marked : (xs : List ℕ) (i : ℕ) → length xs ≤ 1 → mark_at 1 xs i ≡ None
unfolding mark_at
none_marked xs i l = rw (le-ltb 1 (length xs) l) refl

module _ (places numbers : List ℕ) (are : IsPlacePermutation places) (inverse : AreInverse places numbers) where
  -- what is the place of a number has that number before it
  undone : (x k : ℕ) → x < length places → get_or places x 0 ≡ k → get_or numbers k 0 ≡ x
  undone x k l e = ap (λ j. get_or numbers j 0) (sym e) ∙ inverse.undo x l

  member_before : (first i : ℕ) → first < length places → i < length (cycle places first) → mark_at 1 (cycle places first) i ≡ one_before numbers (get_or (cycle places first) i 0)
  member_before first i within l =
      let xs = cycle places first in
      let m = members_of places are first within in
      elim (cases_lt 1 (length xs)) [
        | inl several ↦ elim (cases_lt 0 i) [
          | inl later ↦
              let e : i - 1 + 1 ≡ i = omega arith in
              let on : get_or places (get_or xs (i - 1) 0) 0 ≡ get_or xs i 0 = m.follows (i - 1) (omega arith) ∙ ap (λ k. get_or xs k 0) e in
              later_marked xs i several later
              ∙ sym (before_is numbers (get_or xs i 0) (get_or xs (i - 1) 0) (undone (get_or xs (i - 1) 0) (get_or xs i 0) (m.within (i - 1) (omega arith)) on)
              (λ s. let same = m.once (i - 1) i (omega arith) l s in absurd (omega arith)))
          | inr begins ↦
              let z : i ≡ 0 = omega arith in
              let last = length xs - 1 in
              let on : get_or places (get_or xs last 0) 0 ≡ get_or xs 0 0 = m.ends last (omega arith) ∙ sym m.begins in
              subst (λ i. mark_at 1 xs i ≡ one_before numbers (get_or xs i 0)) (sym z)
              (first_marked xs several
              ∙ sym (before_is numbers (get_or xs 0 0) (get_or xs last 0) (undone (get_or xs last 0) (get_or xs 0 0) (m.within last (omega arith)) on)
              (λ s. let same = m.once last 0 (omega arith) (omega arith) s in absurd (omega arith))))
        ]
        | inr alone ↦
            let some = m.some in
            let z : i ≡ 0 = omega arith in
            let on : get_or places (get_or xs i 0) 0 ≡ get_or xs i 0 = m.ends i (omega arith) ∙ sym m.begins ∙ ap (λ k. get_or xs k 0) (sym z) in
            none_marked xs i alone ∙ sym (before_none numbers (get_or xs i 0) (undone (get_or xs i 0) (get_or xs i 0) (m.within i l) on))
      ]

  -- the numbers by place are numbers
  before_in : (k : ℕ) → k < length places → get_or numbers k 0 < length places
  before_in k h =
      let o = own_place places are k h in
      let xs = cycle places o.first in
      let m = members_of places are o.first o.within in
      elim (cases_lt 0 o.at) [
        | inl later ↦
            let e : o.at - 1 + 1 ≡ o.at = omega arith in
            let l : o.at - 1 + 1 < length xs = omega (arith, o.inside) in
            let on : get_or places (get_or xs (o.at - 1) 0) 0 ≡ k = m.follows (o.at - 1) l ∙ ap (λ i. get_or xs i 0) e ∙ o.is in
            let x = m.within (o.at - 1) (omega arith) in
            omega (arith, undone (get_or xs (o.at - 1) 0) k x on, x)
        | inr begins ↦
            let z : o.at ≡ 0 = omega arith in
            let last = length xs - 1 in
            let some = m.some in
            let l : last + 1 ≡ length xs = omega arith in
            let on : get_or places (get_or xs last 0) 0 ≡ k = m.ends last l ∙ sym m.begins ∙ ap (λ i. get_or xs i 0) (sym z) ∙ o.is in
            let x = m.within last (omega arith) in
            omega (arith, undone (get_or xs last 0) k x on, x)
      ]

  pub numbers_fit : All (λ x. x < 2 ^ place_width (length places)) numbers
  numbers_fit = All-from_get_or (λ x. x < 2 ^ place_width (length places)) numbers 0 (λ k h. place_fits (length places) (get_or numbers k 0) (before_in k (omega (arith, inverse.size))))

  mark_before : (k : ℕ) → k < length places → mark_of places 1 k ≡ one_before numbers k
  mark_before k h =
      let o = own_place places are k h in
      subst (λ x. mark_of places 1 x ≡ one_before numbers x) o.is
      (mark_of_member places are 1 o.first o.at o.within o.least o.inside ∙ member_before o.first o.at o.within o.inside)

  pub all_pointers : map (one_before numbers) (range_with_len 0 (length numbers)) ≡ marks_of places 1
  unfolding tabulate
  all_pointers =
      ap (λ n. map (one_before numbers) (range_with_len 0 n)) inverse.size
      ∙ same_lists (map (one_before numbers) (range_with_len 0 (length places))) (marks_of places 1)
      (length-map-range_with_len (one_before numbers) 0 (length places) ∙ sym (length-map-range_with_len (mark_of places 1) 0 (length places)))
      (λ x d h.
      let l : x < length places = omega (arith, length-map-range_with_len (one_before numbers) 0 (length places)) in
      get_or-map-range_with_len (one_before numbers) 0 (length places) x x d l (omega arith)
      ∙ sym (mark_before x l)
      ∙ sym (get_or-map-range_with_len (mark_of places 1) 0 (length places) x x d l (omega arith)))

-- pointers that are put at the end
pub back_more : (numbers : List ℕ) (n : ℕ) → filter_map (λ p. p) (map (one_before numbers) (range_with_len 0 n)) ++ filter_map (λ p. p) (one_before numbers n ∷ []) ≡ filter_map (λ p. p) (map (one_before numbers) (range_with_len 0 (n + 1)))
back_more numbers n =
    let f = one_before numbers in
    sym (values_both (map f (range_with_len 0 n)) (f n ∷ [])) ∙ ap (filter_map (λ p. p)) (sym (map-range_with_len_more f 0 n n (omega arith)))
  where
    values_both : (os ps : List (Option ℕ)) → filter_map (λ p. p) (os ++ ps) ≡ filter_map (λ p. p) os ++ filter_map (λ p. p) ps
    values_both [] ps = refl
    values_both (None ∷ os) ps = values_both os ps
    values_both (Some x ∷ os) ps = ap (λ xs. x ∷ xs) (values_both os ps)

pub few_before : (numbers : List ℕ) (n : ℕ) → length (filter_map (λ p. p) (map (one_before numbers) (range_with_len 0 n))) ≤ n
few_before numbers n = omega (arith, length-values (map (one_before numbers) (range_with_len 0 n)), length-map-range_with_len (one_before numbers) 0 n)

pub packed_more : (w : ℕ) (numbers : List ℕ) (n : ℕ) (old new : PackedList) (p : Option ℕ) → old ≡ record { width = w; items = filter_map (λ p. p) (map (one_before numbers) (range_with_len 0 n)) } → p ≡ one_before numbers n → new ≡ record old { items = old.items ++ filter_map (λ p. p) (p ∷ []) }
    → new ≡ record { width = w; items = filter_map (λ p. p) (map (one_before numbers) (range_with_len 0 (n + 1))) }
packed_more w numbers n old new p is at e =
    let xs = filter_map (λ p. p) (map (one_before numbers) (range_with_len 0 n)) in
    let step : PackedList → PackedList = λ l. record { width = l.width; items = l.items ++ filter_map (λ p. p) (p ∷ []) } in
    let made : List ℕ → PackedList = λ items. record { width = w; items = items } in
    e ∙ ap step is ∙ ap made (ap (λ p. xs ++ filter_map (λ p. p) (p ∷ [])) at ∙ back_more numbers n)

-- marks that are put at the end
pub marks_more : (numbers : List ℕ) (n : ℕ) (old new : List Bool) (b : Bool) → old ≡ map is_some (map (one_before numbers) (range_with_len 0 n)) → b ≡ is_some (one_before numbers n) → new ≡ old ++ b ∷ []
    → new ≡ map is_some (map (one_before numbers) (range_with_len 0 (n + 1)))
marks_more numbers n old new b is at e =
    let f = one_before numbers in
    e ∙ ap (λ bits. bits ++ b ∷ []) is ∙ ap (λ b. map is_some (map f (range_with_len 0 n)) ++ b ∷ []) at
    ∙ sym (some_both (map f (range_with_len 0 n)) (f n ∷ [])) ∙ ap (map is_some) (sym (map-range_with_len_more f 0 n n (omega arith)))
  where
    some_both : (os ps : List (Option ℕ)) → map is_some (os ++ ps) ≡ map is_some os ++ map is_some ps
    some_both [] ps = refl
    some_both (o ∷ os) ps = ap (λ bits. is_some o ∷ bits) (some_both os ps)

pub many_marks : (numbers : List ℕ) (n : ℕ) → length (map is_some (map (one_before numbers) (range_with_len 0 n))) ≡ n
many_marks numbers n = length-map (map (one_before numbers) (range_with_len 0 n)) is_some ∙ length-map-range_with_len (one_before numbers) 0 n
