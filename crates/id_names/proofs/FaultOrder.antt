-- The first fault, by what each part's test says.
use Rattle.std.specs.Prelude.{not, slice_index, option_map}
use Rattle.std.proofs.Common.{◌≡◌, ◌≢◌, ℕ, ◌+◌, ◌<◌, Bool, true, List, [], ◌∷◌, length, get_or, refl, ap, sym, ◌∙◌, arith, inl, inr, Option, Some, None, ◌==◌}
use Rattle.std.proofs.lemmas.Bool.{cases_Bool, eq-eqb, ne_eqb, eqb-true, eqb-false, not-true, not-false}
use Rattle.std.proofs.lemmas.List.{same_lists, get_or_default}
use Rattle.bit_words.specs.Bits.{rank}
use Rattle.bit_words.specs.WrongEntry.{IsFirstWrong}
use Rattle.bit_words.specs.declared.wrong_entry.WrongEntry.{WrongEntry}
use Rattle.bit_words.specs.Lists.{first_some}
use Rattle.bit_words.proofs.Finds.{find-least, find-none, least-find, none-find}
use Rattle.rank_select.specs.Counts.{blocks, counts_of}
use Rattle.rank_select.proofs.CountLaws.{length-counts_of}
use Rattle.id_names.specs.Rising.{rising_at}
use Rattle.id_names.specs.Inverse as inverse
use Rattle.id_names.specs.RisingNames.{RisingNames, count, bound_of, id_bound, id_at, number_at}
use Rattle.id_names.specs.Faults.{wrong_count, other_ones, is_rising, is_ordered, first_failing, name_fault}
use Rattle.id_names.specs.declared.fault.NameFault.{NameFault}
use Rattle.id_names.specs.declared.fault.NameFault.TheVariants.{HighCounts, Ones, Rising, MarkCounts, MarkOnes, Order}

pub wrong_is : (bits : List Bool) (counts : List ℕ) (w : WrongEntry) → IsFirstWrong (counts_of bits) counts w → wrong_count bits counts ≡ Some w.at
wrong_is bits counts w h =
    find-least (λ j. not (slice_index (counts_of bits) j == slice_index counts j)) 0 (length (counts_of bits)) w.at (record {
      from = omega arith;
      within = omega (arith, h.within);
      passes = ap not (ne_eqb _ _ (λ x. h.differs (h.wanted ∙ x ∙ sym h.was)));
      before = λ q a b. ap not (eq-eqb _ _ (sym (h.first q b)));
    })

pub wrong_none : (bits : List Bool) (counts : List ℕ) → counts ≡ counts_of bits → wrong_count bits counts ≡ None
wrong_none bits counts e =
    find-none (λ j. not (slice_index (counts_of bits) j == slice_index counts j)) 0 (length (counts_of bits)) (λ q a b. ap not (eq-eqb _ _ (ap (λ xs. slice_index xs q) (sym e))))

pub ones_none : (bits : List Bool) (n ones : ℕ) → ones ≡ rank true bits (length bits) → ones ≡ n → other_ones bits n ≡ None
ones_none bits n ones e f = let s : rank true bits (length bits) ≡ n = sym e ∙ f in rw (eq-eqb (rank true bits (length bits)) n s) refl

pub ones_other : (bits : List Bool) (n ones : ℕ) → ones ≡ rank true bits (length bits) → ones ≢ n → other_ones bits n ≡ Some ones
ones_other bits n ones e f = rw (ne_eqb (rank true bits (length bits)) n (λ x. f (e ∙ x))) (ap Some (sym e))

module _ (p : RisingNames) (high_counts mark_counts : List ℕ) where
  pub high_counts_first : (at : ℕ) → wrong_count p.high high_counts ≡ Some at → name_fault p high_counts mark_counts ≡ Some (HighCounts at)
  unfolding name_fault first_some
  high_counts_first at a = rw a refl

  pub ones_first : (found : ℕ) → wrong_count p.high high_counts ≡ None → other_ones p.high (count p) ≡ Some found → name_fault p high_counts mark_counts ≡ Some (Ones found)
  unfolding name_fault first_some
  ones_first found a b = rw (a, b) refl

  pub rising_first : (at : ℕ) → wrong_count p.high high_counts ≡ None → other_ones p.high (count p) ≡ None → first_failing (is_rising (id_bound p) (id_at p)) (count p) ≡ Some at → name_fault p high_counts mark_counts ≡ Some (Rising at)
  unfolding name_fault first_some
  rising_first at a b c = rw (a, b, c) refl

  pub mark_counts_first : (at : ℕ) → wrong_count p.high high_counts ≡ None → other_ones p.high (count p) ≡ None → first_failing (is_rising (id_bound p) (id_at p)) (count p) ≡ None → wrong_count p.marks mark_counts ≡ Some at → name_fault p high_counts mark_counts ≡ Some (MarkCounts at)
  unfolding name_fault first_some
  mark_counts_first at a b c d = rw (a, b, c, d) refl

  pub mark_ones_first : (found : ℕ) → wrong_count p.high high_counts ≡ None → other_ones p.high (count p) ≡ None → first_failing (is_rising (id_bound p) (id_at p)) (count p) ≡ None → wrong_count p.marks mark_counts ≡ None → other_ones p.marks (length p.back) ≡ Some found → name_fault p high_counts mark_counts ≡ Some (MarkOnes found)
  unfolding name_fault first_some
  mark_ones_first found a b c d e = rw (a, b, c, d, e) refl

  pub order_first : (at : ℕ) → wrong_count p.high high_counts ≡ None → other_ones p.high (count p) ≡ None → first_failing (is_rising (id_bound p) (id_at p)) (count p) ≡ None → wrong_count p.marks mark_counts ≡ None → other_ones p.marks (length p.back) ≡ None → first_failing (is_ordered p.places (number_at p)) (count p) ≡ Some at → name_fault p high_counts mark_counts ≡ Some (Order at)
  unfolding name_fault first_some
  order_first at a b c d e f = rw (a, b, c, d, e, f) refl

  pub no_fault : wrong_count p.high high_counts ≡ None → other_ones p.high (count p) ≡ None → first_failing (is_rising (id_bound p) (id_at p)) (count p) ≡ None → wrong_count p.marks mark_counts ≡ None → other_ones p.marks (length p.back) ≡ None → first_failing (is_ordered p.places (number_at p)) (count p) ≡ None → name_fault p high_counts mark_counts ≡ None
  unfolding name_fault first_some
  no_fault a b c d e f = rw (a, b, c, d, e, f) refl

-- the same tests over a view of the same bits
pub ones_is : (bits view : List Bool) (i ones : ℕ) → view ≡ bits → i ≡ length bits → ones ≡ rank true view i → ones ≡ rank true bits (length bits)
ones_is bits view i ones e f h = h ∙ ap (λ b. rank true b i) e ∙ ap (rank true bits) f

pub rising_is : (high view : List Bool) (lows : List ℕ) (low n m : ℕ) (o : Option ℕ) → view ≡ high → m ≡ n → o ≡ first_failing (is_rising (bound_of m low) (λ j. rising_at view lows low j)) m → first_failing (is_rising (bound_of n low) (λ j. rising_at high lows low j)) n ≡ o
rising_is high view lows low n m o e f h = sym (h ∙ ap (λ bits. first_failing (is_rising (bound_of m low) (λ j. rising_at bits lows low j)) m) e ∙ ap (λ n. first_failing (is_rising (bound_of n low) (λ j. rising_at high lows low j)) n) f)

pub ordered_is : (places : List ℕ) (marks view : List Bool) (back : List ℕ) (n : ℕ) (o : Option ℕ) → view ≡ marks → o ≡ first_failing (is_ordered places (λ j. inverse.number_at places view back j)) n → first_failing (is_ordered places (λ j. inverse.number_at places marks back j)) n ≡ o
ordered_is places marks view back n o e h = sym (h ∙ ap (λ bits. first_failing (is_ordered places (λ j. inverse.number_at places bits back j)) n) e)

-- a directory without a wrong entry is that of the bits
pub counts_right : (bits : List Bool) (counts : List ℕ) → length counts ≡ blocks (length bits) + 1 → wrong_count bits counts ≡ None → counts ≡ counts_of bits
counts_right bits counts size e = same_lists counts (counts_of bits) (size ∙ sym (length-counts_of bits)) (λ k d h.
    let fails = none-find (λ j. not (slice_index (counts_of bits) j == slice_index counts j)) 0 (length (counts_of bits)) e k (omega arith) (omega (arith, h, size, length-counts_of bits)) in
    let e : get_or (counts_of bits) k 0 ≡ get_or counts k 0 = eqb-true _ _ (not-false _ fails) in
    get_or_default counts k d 0 h ∙ sym e ∙ get_or_default (counts_of bits) k 0 d (omega (arith, h, size, length-counts_of bits)))

-- and as many ones as are wanted are there
pub ones_right : (bits : List Bool) (n : ℕ) → other_ones bits n ≡ None → rank true bits (length bits) ≡ n
ones_right bits n e = elim (cases_Bool (rank true bits (length bits) == n)) [
  | inl same ↦ eqb-true _ _ same
  | inr other ↦ let f : ◌≡◌ {A = Option ℕ} (Some (rank true bits (length bits))) None = rw other at e in cc
]

-- parts without fault over views of the same bits, with their own directories
pub right_over : (names : List Bool → List Bool → RisingNames) (high high_view marks marks_view : List Bool) (high_counts mark_counts : List ℕ) → high_view ≡ high → marks_view ≡ marks → high_counts ≡ counts_of high → mark_counts ≡ counts_of marks → name_fault (names high marks) high_counts mark_counts ≡ None → name_fault (names high_view marks_view) (counts_of high_view) (counts_of marks_view) ≡ None
right_over names high high_view marks marks_view high_counts mark_counts e f a b right = rw (e, f, ← a, ← b) right

-- as many ones in a view as are wanted
pub ones_over : (bits view : List Bool) (n : ℕ) → view ≡ bits → rank true bits (length bits) ≡ n → rank true view (length view) ≡ n
ones_over bits view n e h = rw e h

-- what is first of six kinds of fault
pub record IsOne (high_counts ones rising mark_counts mark_ones order : Option ℕ) (fault : NameFault) : Type 0 where
  pub is_high_counts : (at : ℕ) → fault ≡ HighCounts at → high_counts ≡ Some at
  pub is_ones : (at : ℕ) → fault ≡ Ones at → ones ≡ Some at
  pub is_rising : (at : ℕ) → fault ≡ Rising at → rising ≡ Some at
  pub is_mark_counts : (at : ℕ) → fault ≡ MarkCounts at → mark_counts ≡ Some at
  pub is_mark_ones : (at : ℕ) → fault ≡ MarkOnes at → mark_ones ≡ Some at
  pub is_order : (at : ℕ) → fault ≡ Order at → order ≡ Some at

one_of : (a b c d e f : Option ℕ) (fault : NameFault) → first_some (option_map HighCounts a ∷ option_map Ones b ∷ option_map Rising c ∷ option_map MarkCounts d ∷ option_map MarkOnes e ∷ option_map Order f ∷ []) ≡ Some fault → IsOne a b c d e f fault
unfolding first_some
one_of (Some x) b c d e f fault h = record { is_high_counts = λ at g. (cc); is_ones = λ at g. (cc); is_rising = λ at g. (cc); is_mark_counts = λ at g. (cc); is_mark_ones = λ at g. (cc); is_order = λ at g. (cc) }
one_of None (Some x) c d e f fault h = record { is_high_counts = λ at g. (cc); is_ones = λ at g. (cc); is_rising = λ at g. (cc); is_mark_counts = λ at g. (cc); is_mark_ones = λ at g. (cc); is_order = λ at g. (cc) }
one_of None None (Some x) d e f fault h = record { is_high_counts = λ at g. (cc); is_ones = λ at g. (cc); is_rising = λ at g. (cc); is_mark_counts = λ at g. (cc); is_mark_ones = λ at g. (cc); is_order = λ at g. (cc) }
one_of None None None (Some x) e f fault h = record { is_high_counts = λ at g. (cc); is_ones = λ at g. (cc); is_rising = λ at g. (cc); is_mark_counts = λ at g. (cc); is_mark_ones = λ at g. (cc); is_order = λ at g. (cc) }
one_of None None None None (Some x) f fault h = record { is_high_counts = λ at g. (cc); is_ones = λ at g. (cc); is_rising = λ at g. (cc); is_mark_counts = λ at g. (cc); is_mark_ones = λ at g. (cc); is_order = λ at g. (cc) }
one_of None None None None None (Some x) fault h = record { is_high_counts = λ at g. (cc); is_ones = λ at g. (cc); is_rising = λ at g. (cc); is_mark_counts = λ at g. (cc); is_mark_ones = λ at g. (cc); is_order = λ at g. (cc) }
one_of None None None None None None fault h = cc

pub fault_is : (p : RisingNames) (high_counts mark_counts : List ℕ) (fault : NameFault) → name_fault p high_counts mark_counts ≡ Some fault → IsOne (wrong_count p.high high_counts) (other_ones p.high (count p)) (first_failing (is_rising (id_bound p) (id_at p)) (count p)) (wrong_count p.marks mark_counts) (other_ones p.marks (length p.back)) (first_failing (is_ordered p.places (number_at p)) (count p)) fault
unfolding name_fault
fault_is p high_counts mark_counts fault h = one_of _ _ _ _ _ _ fault h

pub other_says : (bits : List Bool) (n found : ℕ) → other_ones bits n ≡ Some found → (found ≡ rank true bits (length bits)) × (found ≢ n)
other_says bits n found h = elim (cases_Bool (rank true bits (length bits) == n)) [
  | inl same ↦ let f : ◌≡◌ {A = Option ℕ} None (Some found) = rw same at h in cc
  | inr other ↦
      let f : ◌≡◌ {A = Option ℕ} (Some (rank true bits (length bits))) (Some found) = rw other at h in
      let e : found ≡ rank true bits (length bits) = cc in
      (e, λ g. eqb-false (rank true bits (length bits)) n other (sym e ∙ g))
]

pub wrong_says : (bits : List Bool) (counts : List ℕ) (at : ℕ) → wrong_count bits counts ≡ Some at → (at < length (counts_of bits)) × (slice_index counts at ≢ slice_index (counts_of bits) at) × ((k : ℕ) → k < at → slice_index counts k ≡ slice_index (counts_of bits) k)
wrong_says bits counts at h =
    let least = least-find (λ j. not (slice_index (counts_of bits) j == slice_index counts j)) 0 (length (counts_of bits)) at h in
    (omega (arith, least.within), λ e. eqb-false _ _ (not-true _ least.passes) (sym e), λ k l. sym (eqb-true _ _ (not-false _ (least.before k (omega arith) l))))
