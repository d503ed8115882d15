-- The positions that a walk goes through are positions of the code.
use Rattle.std.specs.Prelude.{◌==◌, if◌then◌else◌, slice_index}
use Rattle.std.proofs.Common.{◌≡◌, ℕ, zero, suc, ◌+◌, ◌-◌, ◌<◌, ◌≤◌, inl, inr, Bool, true, false, [], ◌++◌, length, ap, sym, ◌∙◌, arith, subst}
use Rattle.std.proofs.lemmas.Bool.{cases_Bool, cases_lt, eqb-true, or_cases}
use Rattle.orbits.specs.Walks as walks
use Rattle.orbits.proofs.Numbers.{same_numbers}
use Rattle.orbits.proofs.Lists.{in_either}
use Rattle.plane_model.specs.Sets.{has}
use Rattle.code_laws.specs.Code.{start_of, step}
use Rattle.code_laws.specs.Orbits.{walk, orbit}
use Rattle.file_laws.specs.Contents.{Contents}
use Rattle.file_laws.specs.Lawful.{is_whole}
use Rattle.file_laws.proofs.Orbits.{next_carried, turn_carried}
use Rattle.file_laws.proofs.Placed.{start_in}
use Rattle.navigate.specs.Holes.{components_between, outer_positions}
use Rattle.navigate.specs.OrbitWalk as orbits
use Rattle.navigate.specs.OrbitWalk.{positions_left}
use Rattle.navigate.specs.FaceWalk.{contents_in, face_positions}
use Rattle.navigate.specs.declared.orbit_walk.OrbitWalk.{OrbitWalk}
use Rattle.navigate.specs.declared.face_rings.FaceWalk.{FaceWalk}
use Rattle.navigate.proofs.Facts.{w}
use Rattle.pemb_file.proofs.PlaceLaws.{component_at}
use Rattle.navigate.proofs.FaceLaws.{between-next, between-none, outer-none, outer-some, face-left}

none-has : (x k : ℕ) → has [] x ≡ true → x < k
none-has x k h = cc

walk-in : (n : ℕ) (f : ℕ → ℕ) (first from k : ℕ) → ((p : ℕ) → p < k → f p < k) → (0 < n → from < k) → (x : ℕ) → has (walk n f first from) x ≡ true → x < k
unfolding walks.until_return
walk-in zero f first from k stays l x h = none-has x k h
walk-in (suc n) f first from k stays l x h =
    let here = l (omega arith) in
    elim (or_cases (x == from) (has (if f from == first then [] else walk n f first (f from)) x) h) [
      | inl e ↦ let same = eqb-true x from e in omega (arith, same, here)
      | inr more ↦ elim (cases_Bool (f from == first)) [
        | inl t ↦ none-has x k (rw t at more)
        | inr o ↦ walk-in n f first (f from) k stays (λ z. stays from here) x (rw o at more)
      ]
    ]

module _ (c : Contents) (h : is_whole c ≡ true) where
  stays : (kind : Bool) (p : ℕ) → p < length c.code.a → step c.code kind p < length c.code.a
  stays true p l = (turn_carried c (w c h)).stays p l
  stays false p l = (next_carried c (w c h)).stays p l

  orbit-in : (kind : Bool) (p : ℕ) → p < length c.code.a → (x : ℕ) → has (orbit c.code kind p) x ≡ true → x < length c.code.a
  orbit-in kind p l x there = walk-in (length c.code.a) (step c.code kind) p p (length c.code.a) (stays kind) (λ z. l) x there

  outer-in : (i n : ℕ) → i + n ≤ length c.place_order → (x : ℕ) → has (outer_positions c (components_between c i (i + n))) x ≡ true → x < length c.code.a
  outer-in i zero l x there = none-has x (length c.code.a) (subst (λ xs. has xs x ≡ true) (ap (outer_positions c) (between-none c i (i + zero) (omega arith)) ∙ outer-none c) there)
  outer-in i (suc n) l x there =
      let j = slice_index c.place_order i in
      let js = components_between c (i + 1) (i + suc n) in
      let on : i + suc n ≡ i + 1 + n = omega arith in
      let all : outer_positions c (components_between c i (i + suc n)) ≡ orbit c.code false (start_of c.code j) ++ outer_positions c js
      = ap (outer_positions c) (between-next c i (i + suc n) (omega arith) l) ∙ outer-some c j js in
      elim (in_either same_numbers (orbit c.code false (start_of c.code j)) (outer_positions c js) x (subst (λ xs. has xs x ≡ true) all there)) [
        | inl first ↦ orbit-in false (start_of c.code j) (start_in c (w c h) j (component_at c h i (omega (arith, l)))) x first
        | inr more ↦ outer-in (i + 1) n (omega (arith, l)) x (subst (λ e. has (outer_positions c (components_between c (i + 1) e)) x ≡ true) on more)
      ]

  between-in : (from to : ℕ) → to ≤ length c.place_order → (x : ℕ) → has (outer_positions c (components_between c from to)) x ≡ true → x < length c.code.a
  between-in from to l x there =
      elim (cases_lt from to) [
        | inl b ↦
            let e : from + (to - from) ≡ to = omega (arith, b) in
            outer-in from (to - from) (omega (arith, e, l)) x (subst (λ z. has (outer_positions c (components_between c from z)) x ≡ true) (sym e) there)
        | inr g ↦ none-has x (length c.code.a) (subst (λ xs. has xs x ≡ true) (ap (outer_positions c) (between-none c from to g) ∙ outer-none c) there)
      ]

ring-in : (v : OrbitWalk) (x : ℕ) → has (positions_left v) x ≡ true → x < length (orbits.contents_in v).code.a
unfolding positions_left
ring-in v x there =
    let c = orbits.contents_in v in
    walk-in v.left (step c.code v.kind) v.first v.at (length c.code.a) (stays c v.served.whole v.kind) v.within x there

pub face-in : (v : FaceWalk) (x : ℕ) → has (face_positions v) x ≡ true → x < length (contents_in v).code.a
face-in v x there =
    let c = contents_in v in
    elim (in_either same_numbers (positions_left v.ring) (outer_positions c (components_between c v.hole v.end)) x (subst (λ xs. has xs x ≡ true) (face-left v) there)) [
      | inl first ↦ subst (λ (m : Contents). x < length m.code.a) v.same (ring-in v.ring x first)
      | inr more ↦ between-in c v.served.whole v.hole v.end v.ends x more
    ]
