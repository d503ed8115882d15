-- Several edges of a face at once.
use Rattle.std.specs.Prelude.{map}
use Rattle.std.proofs.Common.{◌≡◌, ℕ, ◌+◌, ◌*◌, ◌≤◌, ℤ, List, [], ◌∷◌, ◌++◌, length, length-append, append_assoc, refl, ap, sym, ◌∙◌, arith}
use Rattle.std.proofs.lemmas.List.{map-append}
use Rattle.file_laws.specs.MapOfFile.{signed_at}
use Rattle.navigate.specs.Bound.{line_digits}
use Rattle.navigate.specs.Holes.{components_between, outer_positions}
use Rattle.navigate.specs.OrbitWalk as orbits
use Rattle.navigate.specs.OrbitWalk.{positions_left}
use Rattle.navigate.specs.FaceWalk.{contents_in, rest, price, allowance}
use Rattle.navigate.specs.declared.face_rings.FaceWalk.{FaceWalk}
use Rattle.navigate.specs.declared.orbit_walk.OrbitWalk.{OrbitWalk}
use Rattle.navigate.proofs.FaceLaws.{face-left, rest-is}
use Rattle.navigate.proofs.Resting.{rest-at}
use Rattle.navigate.proofs.RankLists.{allowance-several}

-- the edges of a ring, and what is left of the rings
pub face_several : (w : FaceWalk) (edges : List ℤ) (ring : OrbitWalk) (left : List ℕ) → orbits.contents_in ring ≡ orbits.contents_in w.ring → orbits.rest w.ring ≡ edges ++ orbits.rest ring
    → left ≡ positions_left ring ++ outer_positions (contents_in w) (components_between (contents_in w) w.hole w.end) → rest w ≡ edges ++ map (signed_at (contents_in w)) left
face_several w edges ring left same e f =
    let m = contents_in w in
    let out = outer_positions m (components_between m w.hole w.end) in
    let given = sym (rest-at w.ring m (positions_left w.ring) w.same refl) ∙ e in
    let behind = ap (λ x. x ++ map (signed_at m) out) (rest-at ring m (positions_left ring) (same ∙ w.same) refl) ∙ sym (map-append (signed_at m) (positions_left ring) out) ∙ ap (map (signed_at m)) (sym f) in
    rest-is w ∙ ap (map (signed_at m)) (face-left w) ∙ map-append (signed_at m) (positions_left w.ring) out
    ∙ ap (λ x. x ++ map (signed_at m) out) given ∙ append_assoc edges (orbits.rest ring) (map (signed_at m) out) ∙ ap (λ x. edges ++ x) behind

-- where a position is left there are some
pub some_edges : (w : OrbitWalk) (p : ℕ) (ps : List ℕ) (edges : List ℤ) → positions_left w ≡ p ∷ ps → (edges ≡ [] → orbits.rest w ≡ []) → 1 ≤ length edges
some_edges w p ps [] left none = no_cons _ _ (sym (rest-at w (orbits.contents_in w) (p ∷ ps) refl left) ∙ none refl)
  where
    no_cons : (x : ℤ) (xs : List ℤ) → (x ∷ xs) ≡ [] → 1 ≤ 0
    no_cons x xs h = cc
some_edges w p ps (d ∷ ds) left none = omega arith

-- what they cost
pub several_paid : (w : FaceWalk) (edges later : List ℤ) (ring : OrbitWalk) (first second last : ℕ) → orbits.contents_in ring ≡ orbits.contents_in w.ring → orbits.rest w.ring ≡ edges ++ orbits.rest ring
    → rest w ≡ edges ++ later → 1 ≤ length edges → second + orbits.allowance ring ≤ first + orbits.allowance w.ring → last ≤ second + 2 → last + price (contents_in w) * length later ≤ first + allowance w
unfolding allowance
several_paid w edges later ring first second last same e f some paid more =
    let m = contents_in w in
    let l = line_digits m in
    let n = length edges in
    let given = allowance-several w.ring ring edges same e in
    let price_is = ap (λ x. orbits.price x * n) w.same in
    let all : price m * length (rest w) ≡ price m * n + price m * length later = ap (λ ds. price m * length ds) f ∙ ap (λ k. price m * k) (length-append edges later) ∙ omega arith in
    let both : (15 * l + 136) * n + 2 * n ≡ (15 * l + 138) * n = omega arith in
    omega (arith, given, price_is, all, both, some, paid, more)
