-- Laws of names: parts without fault are a bijection between numbers and places, and distinct ids that rise by place.
use Rattle.std.proofs.Common.{◌≡◌, ◌≢◌, ℕ, zero, suc, ◌-◌, ◌<◌, ◌≤◌, true, false, eqb, List, [], ◌∷◌, length, get_or, refl, ap, sym, ◌∙◌, arith, inl, inr, Option, Some, None}
use Rattle.std.specs.Prelude.{option_map}
use Rattle.std.specs.List.{list_any, IsDistinct, AllByRecursion}
use Rattle.std.proofs.lemmas.Bool.{cases_lt, cases_order, cases_Bool, or_cases, or_parts, eqb-true, ne_eqb}
use Rattle.std.proofs.lemmas.List.{get_or_default}
use Rattle.std.proofs.lemmas.Map.Keys.{IsDistinct-from_apart, IsDistinct-cons}
use Rattle.std.proofs.lemmas.Map.Steps.{length-le_from_distinct_below}
use Rattle.std.proofs.lemmas.Map.Views.{Contains-from_any}
use Rattle.std.proofs.lemmas.Option.{same_Some}
use Rattle.bit_words.proofs.BitLists.{length-tabulate, get_or-tabulate}
use Rattle.bit_words.proofs.Finds.{first_none}
use Rattle.id_names.specs.Names.{AreDistinctIds}
use Rattle.id_names.specs.RisingNames.{RisingNames, count, id_bound, id_at, number_at, ids_by_number}
use Rattle.id_names.specs.Faults.{wrong_count, other_ones, is_rising, is_ordered, first_failing, name_fault}
use Rattle.id_names.specs.declared.fault.NameFault.TheVariants.{HighCounts, Ones, Rising, MarkCounts, MarkOnes, Order}
use Rattle.id_names.proofs.FaultLaws.{none_failing, IsRising, rising_parts, IsOrdered, ordered_parts}

-- what parts without fault are
pub record HasNoFault (p : RisingNames) (high_counts mark_counts : List ℕ) : Type 0 where
  pub high_counts_right : wrong_count p.high high_counts ≡ None
  pub ones : other_ones p.high (count p) ≡ None
  pub rising : first_failing (is_rising (id_bound p) (id_at p)) (count p) ≡ None
  pub mark_counts_right : wrong_count p.marks mark_counts ≡ None
  pub mark_ones : other_ones p.marks (length p.back) ≡ None
  pub order : first_failing (is_ordered p.places (number_at p)) (count p) ≡ None

map_none : {X Y : Type 0} (f : X → Y) (o : Option X) → option_map f o ≡ None → o ≡ None
map_none f None e = refl
map_none f (Some x) e = cc

pub no_fault_parts : (p : RisingNames) (high_counts mark_counts : List ℕ) → name_fault p high_counts mark_counts ≡ None → HasNoFault p high_counts mark_counts
unfolding name_fault
no_fault_parts p high_counts mark_counts e =
    let a = first_none _ _ e in
    let b = first_none _ _ a.1 in
    let c = first_none _ _ b.1 in
    let d = first_none _ _ c.1 in
    let f = first_none _ _ d.1 in
    let g = first_none _ _ f.1 in
    record {
      high_counts_right = map_none HighCounts _ a.0;
      ones = map_none Ones _ b.0;
      rising = map_none Rising _ c.0;
      mark_counts_right = map_none MarkCounts _ d.0;
      mark_ones = map_none MarkOnes _ f.0;
      order = map_none Order _ g.0;
    }

none_is : (q : ℕ) (xs : List ℕ) → list_any (eqb q) xs ≡ false → AllByRecursion (λ y. eqb q y ≡ false) xs
none_is q [] e = tt
none_is q (x ∷ xs) e = let p = or_parts (eqb q x) (list_any (eqb q) xs) e in (p.0, none_is q xs p.1)

pub length-ids : (p : RisingNames) → length (ids_by_number p) ≡ count p
unfolding ids_by_number
length-ids p = length-tabulate (count p) _

pub get_or-ids : (p : RisingNames) (k : ℕ) → k < count p → get_or (ids_by_number p) k 0 ≡ id_at p (get_or p.places k 0)
unfolding ids_by_number
get_or-ids p k h = get_or-tabulate (count p) _ k 0 h

module _ (p : RisingNames) (high_counts mark_counts : List ℕ) (right : name_fault p high_counts mark_counts ≡ None) where
  pub risen : (j : ℕ) → j < count p → IsRising (id_bound p) (id_at p) j
  risen j h = rising_parts (id_bound p) (id_at p) j (none_failing (is_rising (id_bound p) (id_at p)) (count p) (no_fault_parts p high_counts mark_counts right).rising j h)

  pub ordered : (k : ℕ) → k < count p → IsOrdered p.places (number_at p) k
  ordered k h = ordered_parts p.places (number_at p) k (none_failing (is_ordered p.places (number_at p)) (count p) (no_fault_parts p high_counts mark_counts right).order k h)

  pub rises : (i j : ℕ) → i < j → j < count p → id_at p i < id_at p j
  rises i zero l h = absurd (omega arith)
  rises i (suc j) l h =
      let n = risen (suc j) h in
      let s : suc j - 1 ≡ j = omega arith in
      let b : id_at p j < id_at p (suc j) = rw s at (n.above (omega arith)) in
      elim (cases_lt i j) [
        | inl m ↦ let a : id_at p i < id_at p j = rises i j m (omega arith) in omega arith
        | inr m ↦ let e : i ≡ j = omega arith in rw e b
      ]

  -- two places whose ids are the same are one
  pub one_place : (i j : ℕ) → i < count p → j < count p → id_at p i ≡ id_at p j → i ≡ j
  one_place i j h l e = elim (cases_order i j) [
    | inl same ↦ same
    | inr (inl below) ↦ absurd (omega (arith, rises i j below l))
    | inr (inr above) ↦ absurd (omega (arith, rises j i above h))
  ]

  -- two numbers whose places are the same are one
  pub one_number : (j k : ℕ) → j < count p → k < count p → get_or p.places j 0 ≡ get_or p.places k 0 → j ≡ k
  one_number j k h l e = same_Some j k (sym (ordered j h).found ∙ ap (number_at p) e ∙ (ordered k l).found)

  differ : (i j d : ℕ) → i < j → j < length p.places → eqb (get_or p.places i d) (get_or p.places j d) ≡ false
  differ i j d l h = ne_eqb _ _ (λ e.
      let f : get_or p.places i 0 ≡ get_or p.places j 0 = get_or_default p.places i 0 d (omega arith) ∙ e ∙ get_or_default p.places j d 0 h in
      let g : i ≡ j = one_number i j (omega arith) h f in
      omega arith)

  distinct_places : IsDistinct eqb p.places
  distinct_places = IsDistinct-from_apart eqb p.places differ

  stands_below : (q : ℕ) → list_any (eqb q) p.places ≡ true → q < count p
  stands_below q h =
      let found = Contains-from_any {eq = eqb} eqb-true q p.places h in
      let n = ordered found.0 found.1 in
      omega (arith, n.within, get_or_default p.places found.0 0 q found.1, found.2)

  all_below : (q : ℕ) → q < count p → (r : ℕ) → list_any (eqb r) (q ∷ p.places) ≡ true → r < count p
  all_below q h r e = elim (or_cases (eqb r q) (list_any (eqb r) p.places) e) [
    | inl f ↦ omega (arith, eqb-true r q f)
    | inr f ↦ stands_below r f
  ]

  -- each place is a number's
  has_each : (q : ℕ) → q < count p → list_any (eqb q) p.places ≡ true
  has_each q h = elim (cases_Bool (list_any (eqb q) p.places)) [
    | inl e ↦ e
    | inr e ↦
        let all : length (q ∷ p.places) ≤ count p = length-le_from_distinct_below (q ∷ p.places) (count p) (IsDistinct-cons eqb q p.places (none_is q p.places e) distinct_places) (all_below q h) in
        absurd (omega arith)
  ]

  pub number_there : (j : ℕ) → j < count p → (k : ℕ) × (k < count p) × (get_or p.places k 0 ≡ j)
  number_there j h =
      let found = Contains-from_any {eq = eqb} eqb-true j p.places (has_each j h) in
      (found.0, found.1, get_or_default p.places found.0 0 j found.1 ∙ found.2)

  -- and the walk from there comes to it
  pub walk_there : (j : ℕ) → j < count p → (k : ℕ) × (number_at p j ≡ Some k) × (k < count p) × (get_or p.places k 0 ≡ j)
  walk_there j h =
      let k = number_there j h in
      let e : number_at p j ≡ number_at p (get_or p.places k.0 0) = ap (number_at p) (sym k.2) in
      (k.0, e ∙ (ordered k.0 k.1).found, k.1, k.2)

  pub right_names : AreDistinctIds (id_bound p) (ids_by_number p)
  right_names = record {
    in_range = λ k h.
        let l : k < count p = omega (arith, h, length-ids p) in
        let n = risen (get_or p.places k 0) (ordered k l).within in
        omega (arith, get_or-ids p k l, n.least, n.within);
    distinct = λ j k h l e.
        let a : j < count p = omega (arith, h, length-ids p) in
        let b : k < count p = omega (arith, l, length-ids p) in
        let same : id_at p (get_or p.places j 0) ≡ id_at p (get_or p.places k 0) = sym (get_or-ids p j a) ∙ e ∙ get_or-ids p k b in
        one_number j k a b (one_place (get_or p.places j 0) (get_or p.places k 0) (ordered j a).within (ordered k b).within same);
  }

  -- an id that stands at no place is no number's
  pub no_number : (id : ℕ) → ((j : ℕ) → j < count p → id_at p j ≢ id) → (k : ℕ) → k < length (ids_by_number p) → get_or (ids_by_number p) k 0 ≢ id
  no_number id none k h e =
      let l : k < count p = omega (arith, h, length-ids p) in
      none (get_or p.places k 0) (ordered k l).within (sym (get_or-ids p k l) ∙ e)

  -- one that stands at a place is that number's to which the walk comes
  pub its_number : (id j : ℕ) → j < count p → id_at p j ≡ id → (k : ℕ) × (number_at p j ≡ Some k) × (k < length (ids_by_number p)) × (get_or (ids_by_number p) k 0 ≡ id)
  its_number id j h e =
      let w = walk_there j h in
      let at : id_at p (get_or p.places w.0 0) ≡ id_at p j = ap (id_at p) w.3 in
      (w.0, w.1, omega (arith, w.2, length-ids p), get_or-ids p w.0 w.2 ∙ at ∙ e)
