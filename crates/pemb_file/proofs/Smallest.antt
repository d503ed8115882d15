-- The smallest signed edge of an outer ring.
use Rattle.std.specs.Prelude.{not, option_map, ℤ}
use Rattle.std.proofs.Common.{◌≡◌, ℕ, zero, suc, ◌+◌, ◌-◌, ◌*◌, ◌<◌, ◌≤◌, inl, inr, Bool, true, false, ◌&&◌, ◌==◌, length, refl, subst, ap, sym, ◌∙◌, arith, Option, Some, None}
use Rattle.std.specs.List.{range_with_len, list_all}
use Rattle.std.proofs.lemmas.Bool.{cases_Bool, cases_lt, both_ways, ne_eqb, and_from, le-ltb}
use Rattle.code_laws.specs.Code.{Code, start_of, end_of, component_of, component_count as components_of_code}
use Rattle.code_laws.specs.Numbers.{ring_of, enclosing_pair, shell_or_outer, is_outer}
use Rattle.code_laws.specs.SeqFault.{is_sound}
use Rattle.code_laws.proofs.Sound.{sound_parts, last_start, start_within, is_component}
use Rattle.turan_code.proofs.Views.{stands}
use Rattle.topo_base.specs.SignedEdge.{comes_before, edge_of, is_forward}
use Rattle.file_laws.specs.Contents.{Contents}
use Rattle.file_laws.specs.MapOfFile.{signed_at}
use Rattle.file_laws.specs.Faults.{is_smallest, start_fault}
use Rattle.file_laws.specs.declared.fault.FileFault.TheVariants as fault
use Rattle.file_laws.proofs.Lists.{list_all-at}
use Rattle.pemb_file.proofs.Nots.{PassBelow, first-not, none-not}

all_from : (test : ℕ → Bool) (low n : ℕ) → ((x : ℕ) → low ≤ x → x < low + n → test x ≡ true) → list_all test (range_with_len low n) ≡ true
all_from test low zero h = refl
all_from test low (suc n) h = and_from (test low) (list_all test (range_with_len (low + 1) n)) (h low (omega arith) (omega arith)) (all_from test (low + 1) n (λ x a b. h x (omega arith) (omega arith)))

-- position p's signed edge is a smaller one of the component's outer ring
abbrev pub is_smaller : Contents → ℕ → ℕ → Bool
is_smaller c j p = is_outer j (ring_of c.code p) && comes_before (signed_at c p) (signed_at c (start_of c.code j))

-- no signed edge is before itself
not_both : (b f : Bool) → (b && f && not f) ≡ false
not_both true true = refl
not_both true false = refl
not_both false f = refl

none_and : (b x : Bool) → x ≡ false → (b && x) ≡ false
none_and true x h = h
none_and false x h = refl

not_before : (d : ℤ) → comes_before d d ≡ false
not_before d = rw (le-ltb (edge_of d) (edge_of d) (omega arith)) (not_both (edge_of d == edge_of d) (is_forward d))

pub start-not-smaller : (c : Contents) (j p : ℕ) → p ≡ start_of c.code j → is_smaller c j p ≡ false
start-not-smaller c j p e = subst (λ x. is_smaller c j x ≡ false) (sym e) (none_and (is_outer j (ring_of c.code (start_of c.code j))) _ (not_before (signed_at c (start_of c.code j))))

pub component-is : (c : Code) → is_sound c ≡ true → (j p : ℕ) → j < components_of_code c → start_of c j ≤ p → p < end_of c j → component_of c p ≡ j
component-is c h j p l from to = is_component c (sound_parts c h) p j l from to

-- as it is read: in the outer ring of the position's own component, and before this signed edge
pub smaller-as : (c : Contents) (j p : ℕ) (than : ℤ) (found : Bool) → component_of c.code p ≡ j → than ≡ signed_at c (start_of c.code j)
    → found ≡ (is_outer (component_of c.code p) (ring_of c.code p) && comes_before (signed_at c p) than) → found ≡ is_smaller c j p
smaller-as c j p than found e f h = h ∙ ap (λ i. is_outer i (ring_of c.code p) && comes_before (signed_at c p) than) e ∙ ap (λ d. is_outer j (ring_of c.code p) && comes_before (signed_at c p) d) f

pub not-smallest : (c : Contents) (j p : ℕ) → p < length c.code.a → is_smaller c j p ≡ true → is_smallest c j ≡ false
not-smallest c j p l h =
    elim (cases_Bool (is_smallest c j)) [
      | inl w ↦ let t = list_all-at (λ p. not (is_smaller c j p)) 0 (length c.code.a) w p (omega arith) (omega arith) in absurd (both_ways _ (ap not h) t)
      | inr f ↦ f
    ]

outer-only : (c : Code) (j p : ℕ) (o : Option ℕ) → (component_of c p ≡ j → ⊥) → is_outer j (shell_or_outer c p o) ≡ false
outer-only c j p None h = ne_eqb _ _ h
outer-only c j p (Some x) h = refl

not-outer : (c : Code) (j p : ℕ) → (component_of c p ≡ j → ⊥) → is_outer j (ring_of c p) ≡ false
unfolding ring_of
not-outer c j p h = outer-only c j p (enclosing_pair c false p) h

pub all-smallest : (c : Contents) → is_sound c.code ≡ true → (j : ℕ) → ((p : ℕ) → start_of c.code j ≤ p → p < end_of c.code j → is_smaller c j p ≡ false) → is_smallest c j ≡ true
all-smallest c sound j h =
    all_from (λ p. not (is_smaller c j p)) 0 (length c.code.a)
    (λ p a b.
    let l : p < length c.code.a = omega arith in
    let other : (component_of c.code p ≡ j → ⊥) → not (is_smaller c j p) ≡ true = λ n. let f = not-outer c.code j p n in rw f refl in
    elim (cases_lt p (start_of c.code j)) [
      | inl below ↦ other (λ e. let s = stands c.code sound p j l (sym e) in omega (arith, s.0, below))
      | inr from ↦ elim (cases_lt p (end_of c.code j)) [
        | inl m ↦ ap not (h p from m)
        | inr past ↦ other (λ e. let s = stands c.code sound p j l (sym e) in omega (arith, s.1, past))
      ]
    ])

pub end-last : (c : Code) → is_sound c ≡ true → (j : ℕ) → j + 1 ≡ components_of_code c → end_of c j ≡ length c.a
end-last c h j e = ap (start_of c) e ∙ last_start c (sound_parts c h).laid

pub end-within : (c : Code) → is_sound c ≡ true → (j : ℕ) → j < components_of_code c → end_of c j ≤ length c.a
end-within c h j l = start_within c (sound_parts c h).laid (j + 1) (omega arith)

pub wrong-start : (c : Contents) (j : ℕ) → j < length c.places → PassBelow (is_smallest c) j → is_smallest c j ≡ false → start_fault c ≡ Some (fault.Start j)
unfolding start_fault
wrong-start c j l before here = ap (option_map fault.Start) (first-not (is_smallest c) (length c.places) j l before here)

pub right-starts : (c : Contents) → PassBelow (is_smallest c) (length c.places) → start_fault c ≡ None
unfolding start_fault
right-starts c all = ap (option_map fault.Start) (none-not (is_smallest c) (length c.places) all)

-- the steps of components so far, with those of one more
pub one_part : (start end x y n : ℕ) → start ≤ end → start * x + n * y + ((end - start) * x + y) ≡ end * x + (n + 1) * y
one_part start end x y n h =
    let e : end - start + start ≡ end = omega arith in
    let f : (end - start) * x + start * x ≡ end * x = let g : (end - start + start) * x ≡ (end - start) * x + start * x = omega arith in sym g ∙ ap (λ k. k * x) e in
    omega (arith, f)
