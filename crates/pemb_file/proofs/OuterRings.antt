-- Which positions are in an outer ring, by the pairs round the gaps before them.
use Rattle.std.specs.Prelude.{pos, ◌+ℤ◌, ◌-ℤ◌, ◌<ℤ◌, ◌≤ℤ◌, option_map, slice_index_or}
use Rattle.std.proofs.Common.{◌≡◌, ℕ, ◌+◌, ◌<◌, ◌≤◌, Bool, true, false, List, length, refl, ap, sym, ◌∙◌, arith, subst, Option, Some, None}
use Rattle.std.proofs.lemmas.Bool.{eq-eqb}
use Rattle.std.proofs.lemmas.Int.{ints}
use Rattle.bit_words.specs.Bits.{rank, excess}
use Rattle.bit_words.proofs.Ranks.{rank-zero, rank-le, excess_up, excess_down}
use Rattle.parens.specs.Matching.{is_open, innermost}
use Rattle.parens.proofs.Balances.{IsBalanced}
use Rattle.parens.proofs.Arcs.{excess-zero, last_at}
use Rattle.parens.proofs.Enclosing.{last-innermost}
use Rattle.code_laws.specs.Code.{Code, is_tree, place, component_of, start_of}
use Rattle.code_laws.specs.Numbers.{ring_of, enclosing_pair, shell_or_outer, is_outer}
use Rattle.code_laws.specs.SeqFault.{is_sound}
use Rattle.code_laws.proofs.Apart.{none_round}
use Rattle.code_laws.proofs.Places.{place_next, place_other}
use Rattle.code_laws.proofs.Sound.{sound_parts, whole, places_within, first_start}
use Rattle.turan_code.proofs.Views.{place_lt}
use Rattle.pemb_file.specs.Gap.{IsGap}
use Rattle.pemb_file.specs.declared.places.Gap.{Gap}

-- a pair stands round a gap that is above the ground
some_round : (bits : List Bool) (b : IsBalanced bits) (gap : ℕ) → gap ≤ length bits → pos 0 <ℤ excess bits gap → (x : ℕ) × (innermost bits gap ≡ Some x)
some_round bits b gap within up =
    let t = excess bits gap -ℤ pos 1 in
    let e : gap ≡ 0 + gap = omega arith in
    let low : excess bits 0 ≤ℤ t = omega (arith, ints, excess-zero bits, up) in
    let top : t <ℤ excess bits gap = omega (arith, ints) in
    let m = last_at bits t 0 gap (omega (arith, within)) low (subst (λ x. t <ℤ excess bits x) e top) in
    (m.0, sym (last-innermost bits gap b within (Some m.0) (omega arith, omega (arith, m.1.before), m.1.here, λ q a h f. let v = m.1.above q a (omega arith) in omega (arith, ints, v, f))))

outer_none : (c : Code) (p : ℕ) (o : Option ℕ) → o ≡ None → is_outer (component_of c p) (shell_or_outer c p o) ≡ true
outer_none c p o e = rw e (eq-eqb (component_of c p) (component_of c p) refl)

outer_some : (c : Code) (j p x : ℕ) (o : Option ℕ) → o ≡ Some x → is_outer j (shell_or_outer c p o) ≡ false
outer_some c j p x o e = rw e refl

-- what is read of a position, in the code of the parts that are read
pub tree-read : (c d : Code) (p : ℕ) (a : List Bool) (bit : Bool) → bit ≡ slice_index_or a p false → a ≡ d.a → d ≡ c → is_tree c p ≡ bit
tree-read c d p a bit r e f = sym (r ∙ ap (λ xs. slice_index_or xs p false) e ∙ ap (λ x. is_tree x p) f)

pub open-read : (c d : Code) (i : ℕ) (opens : Bool) → opens ≡ is_open d.dual i → d ≡ c → is_open c.dual i ≡ opens
open-read c d i opens r e = sym (r ∙ ap (λ x. is_open x.dual i) e)

-- before the first position no place stands and no pair is open
pub first-gap : (c : Code) → is_sound c ≡ true → IsGap c (start_of c 0) (record { place = 0; depth = 0 })
first-gap c h =
    let z : place c false (start_of c 0) ≡ 0 = ap (place c false) (first_start c (sound_parts c h).laid) ∙ rank-zero false c.a in
    record { depth = sym (ap (excess c.dual) z ∙ excess-zero c.dual); place = sym z }

module _ (c : Code) (h : is_sound c ≡ true) (p : ℕ) (l : p < length c.a) where
  -- a position is in its component's outer ring where no pair stands round the gap before it
  outer-flat : excess c.dual (place c false p) ≡ pos 0 → is_outer (component_of c p) (ring_of c p) ≡ true
  unfolding ring_of enclosing_pair
  outer-flat flat =
      let s = sound_parts c h in
      outer_none c p (enclosing_pair c false p) (none_round c.dual (whole c s false) (place c false p) (places_within c s.laid false p (omega arith)) flat)

  outer-round : (j : ℕ) → pos 0 <ℤ excess c.dual (place c false p) → is_outer j (ring_of c p) ≡ false
  unfolding ring_of enclosing_pair
  outer-round j up =
      let s = sound_parts c h in
      let r = some_round c.dual (whole c s false) (place c false p) (places_within c s.laid false p (omega arith)) up in
      outer_some c j p _ (enclosing_pair c false p) (ap (option_map (rank true c.dual)) r.1)

  module _ (gap : Gap) (g : IsGap c p gap) where
    pub outer-there : gap.depth ≡ 0 → is_outer (component_of c p) (ring_of c p) ≡ true
    outer-there e = outer-flat (omega (arith, ints, e, g.depth))

    pub none-outer : (gap.depth ≡ 0 → ⊥) → (j : ℕ) → is_outer j (ring_of c p) ≡ false
    none-outer n j = outer-round j (omega (arith, ints, n, g.depth))

    pub depth-few : gap.depth ≤ p
    unfolding excess
    depth-few = omega (arith, ints, g.depth, rank-le true c.dual (place c false p), rank-le false c.a p)

    pub place-few : gap.place ≤ p
    place-few = omega (arith, g.place, rank-le false c.a p)

    -- the gap after a position of a tree
    pub gap-tree : is_tree c p ≡ true → IsGap c (p + 1) gap
    gap-tree is =
        let e = place_other c false p l is in
        record { depth = g.depth ∙ ap (excess c.dual) (sym e); place = g.place ∙ sym e }

    module _ (is : is_tree c p ≡ false) where
      pub place-there : gap.place < length c.dual
      place-there = omega (arith, g.place, place_lt c h false p l is)

      -- and after one of no tree, which opens or closes a pair
      pub gap-open : is_open c.dual gap.place ≡ true → (next : Gap) → next.depth ≡ gap.depth + 1 → next.place ≡ gap.place + 1 → IsGap c (p + 1) next
      gap-open opens next d e =
          let n = place_next c false p l is in
          let up = excess_up c.dual (place c false p) false (place_lt c h false p l is) (ap (is_open c.dual) (sym g.place) ∙ opens) in
          let more : pos next.depth ≡ excess c.dual (place c false p + 1) = omega (arith, ints, d, up, g.depth) in
          record { depth = more ∙ ap (excess c.dual) (sym n); place = e ∙ ap (λ x. x + 1) g.place ∙ sym n }

      module _ (closes : is_open c.dual gap.place ≡ false) where
        down : excess c.dual (place c false p + 1) +ℤ pos 1 ≡ excess c.dual (place c false p)
        down = excess_down c.dual (place c false p) false (place_lt c h false p l is) (ap (is_open c.dual) (sym g.place) ∙ closes)

        pub some-depth : 1 ≤ gap.depth
        some-depth =
            let low = (whole c (sound_parts c h) false).low (place c false p + 1) (let w = place_lt c h false p l is in omega (arith, w)) in
            omega (arith, ints, low, down, g.depth)

        pub gap-close : (next : Gap) → next.depth + 1 ≡ gap.depth → next.place ≡ gap.place + 1 → IsGap c (p + 1) next
        gap-close next d e =
            let n = place_next c false p l is in
            let less : pos next.depth ≡ excess c.dual (place c false p + 1) = omega (arith, ints, d, down, g.depth) in
            record { depth = less ∙ ap (excess c.dual) (sym n); place = e ∙ ap (λ x. x + 1) g.place ∙ sym n }
