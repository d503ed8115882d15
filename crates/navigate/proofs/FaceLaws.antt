-- How a walk along the rings of a face goes on.
use Rattle.std.specs.Prelude.{drop, take, map, slice_index}
use Rattle.std.proofs.Common.{◌≡◌, ℕ, zero, suc, ◌+◌, ◌-◌, ◌*◌, ◌<◌, ◌≤◌, ℤ, Bool, false, List, [], ◌∷◌, ◌++◌, length, refl, ap, sym, ◌∙◌, arith}
use Rattle.code_laws.specs.Code.{Code, start_of, step}
use Rattle.code_laws.specs.Orbits.{orbit}
use Rattle.file_laws.specs.Contents.{Contents}
use Rattle.file_laws.specs.MapOfFile.{signed_at}
use Rattle.navigate.specs.Bound.{line_digits}
use Rattle.navigate.specs.Holes.{components_between, outer_positions}
use Rattle.navigate.specs.OrbitWalk.{positions_left}
use Rattle.navigate.specs.FaceWalk.{contents_in, face_positions, rest, price, allowance, pass_price}
use Rattle.navigate.specs.declared.face_rings.FaceWalk.{FaceWalk}
use Rattle.navigate.proofs.Walking.{walk-head}

-- entries of a list from one to before another
slice_n : (xs : List ℕ) (i n : ℕ) → i + suc n ≤ length xs → take (suc n) (drop i xs) ≡ slice_index xs i ∷ take n (drop (suc i) xs)
slice_n [] i n l = absurd (omega (arith, l))
slice_n (x ∷ xs) zero n l = refl
slice_n (x ∷ xs) (suc i) n l = slice_n xs i n (omega (arith, l))

pub between-next : (c : Contents) (i e : ℕ) → i < e → e ≤ length c.place_order → components_between c i e ≡ slice_index c.place_order i ∷ components_between c (i + 1) e
between-next c i e l within =
    let n = e - (i + 1) in
    let one : e - i ≡ suc n = omega (arith, l) in
    let on : suc i ≡ i + 1 = omega arith in
    ap (λ k. take k (drop i c.place_order)) one ∙ slice_n c.place_order i n (omega (arith, l, within)) ∙ ap (λ k. slice_index c.place_order i ∷ take n (drop k c.place_order)) on

pub between-none : (c : Contents) (i e : ℕ) → e ≤ i → components_between c i e ≡ []
between-none c i e l = let none : e - i ≡ 0 = omega (arith, l) in ap (λ k. take k (drop i c.place_order)) none

pub orbit-some : (c : Code) (kind : Bool) (p : ℕ) → p < length c.a → orbit c kind p ≡ [] → ⊥
orbit-some c kind p l e =
    let more = walk-head (length c.a) (step c kind) p p (λ z. omega (arith, z, l)) in
    no_cons p (drop 1 (orbit c kind p)) (sym more ∙ e)
  where
    no_cons : (x : ℕ) (xs : List ℕ) → (x ∷ xs) ≡ [] → ⊥
    no_cons x xs h = cc

pub face-left : (w : FaceWalk) → face_positions w ≡ positions_left w.ring ++ outer_positions (contents_in w) (components_between (contents_in w) w.hole w.end)
unfolding face_positions
face-left w = refl

pub outer-none : (c : Contents) → outer_positions c [] ≡ []
unfolding outer_positions
outer-none c = refl

pub outer-some : (c : Contents) (j : ℕ) (js : List ℕ) → outer_positions c (j ∷ js) ≡ orbit c.code false (start_of c.code j) ++ outer_positions c js
unfolding outer_positions
outer-some c j js = refl

-- at the end of a ring the next hole comes
pub hole_next : (c : Contents) (xs ys : List ℕ) (hole end start : ℕ) → xs ≡ [] → hole < end → end ≤ length c.place_order → start ≡ start_of c.code (slice_index c.place_order hole) → ys ≡ orbit c.code false start
    → ys ++ outer_positions c (components_between c (hole + 1) end) ≡ xs ++ outer_positions c (components_between c hole end)
hole_next c xs ys hole end start e l within s g =
    let j = slice_index c.place_order hole in
    let js = components_between c (hole + 1) end in
    ap (λ us. us ++ outer_positions c js) (g ∙ ap (orbit c.code false) s) ∙ sym (outer-some c j js) ∙ ap (outer_positions c) (sym (between-next c hole end l within))
    ∙ ap (λ us. us ++ outer_positions c (components_between c hole end)) (sym e)

pub face_empty : (c : Contents) (xs : List ℕ) (hole end : ℕ) → xs ≡ [] → end ≤ hole → (xs ++ outer_positions c (components_between c hole end)) ≡ []
face_empty c xs hole end e l = ap (λ us. us ++ outer_positions c (components_between c hole end)) e ∙ ap (outer_positions c) (between-none c hole end l) ∙ outer-none c

pub face_end : (w : FaceWalk) → positions_left w.ring ≡ [] → face_positions w ≡ []
face_end w e = face-left w ∙ face_empty (contents_in w) (positions_left w.ring) w.hole w.end e (w.ready e)

pub face_next : (w : FaceWalk) (p : ℕ) (xs ys : List ℕ) → positions_left w.ring ≡ p ∷ xs → ys ≡ xs ++ outer_positions (contents_in w) (components_between (contents_in w) w.hole w.end) → face_positions w ≡ p ∷ ys
face_next w p xs ys e f =
    let c = contents_in w in
    face-left w ∙ ap (λ us. us ++ outer_positions c (components_between c w.hole w.end)) e ∙ ap (λ us. p ∷ us) (sym f)

pub rest-is : (w : FaceWalk) → rest w ≡ map (signed_at (contents_in w)) (face_positions w)
unfolding rest
rest-is w = refl

pub face_rest-none : (w : FaceWalk) → face_positions w ≡ [] → rest w ≡ []
face_rest-none w e = rest-is w ∙ ap (map (signed_at (contents_in w))) e

pub face_rest-some : (w : FaceWalk) (p : ℕ) (d : ℤ) (ys : List ℕ) → face_positions w ≡ p ∷ ys → d ≡ signed_at (contents_in w) p → rest w ≡ d ∷ map (signed_at (contents_in w)) ys
face_rest-some w p d ys e f = rest-is w ∙ ap (map (signed_at (contents_in w))) e ∙ ap (λ x. x ∷ map (signed_at (contents_in w)) ys) (sym f)

pub face_paid : (w : FaceWalk) (d : ℤ) (left : List ℤ) (first last : ℕ) → rest w ≡ d ∷ left → last ≤ first + price (contents_in w) → last + price (contents_in w) * length left ≤ first + allowance w
unfolding allowance
face_paid w d left first last e h =
    let all : price (contents_in w) * length (rest w) ≡ price (contents_in w) * suc (length left) = ap (λ ds. price (contents_in w) * length ds) e in
    omega (arith, all, h)

-- the price of going on and looking across, in either order
pub face_passed_cost : (c : Contents) (xs ys : List ℕ) (p first second last bound : ℕ) → xs ≡ p ∷ ys → first + pass_price c * length xs ≤ bound
    → second ≤ first + (12 * line_digits c + 121) → last ≤ second + (8 * line_digits c + 66) → last + pass_price c * length ys ≤ bound
face_passed_cost c xs ys p first second last bound e b h k =
    let more : pass_price c * suc (length ys) ≡ pass_price c * length ys + pass_price c = omega arith in
    let l : pass_price c * length xs ≡ pass_price c * length ys + pass_price c = ap (λ zs. pass_price c * length zs) e ∙ more in
    omega (arith, l, b, h, k)

pub face_cleared_cost : (c : Contents) (xs ys : List ℕ) (p first second last bound : ℕ) → xs ≡ p ∷ ys → first + pass_price c * length xs ≤ bound
    → second ≤ first + (8 * line_digits c + 66) → last ≤ second + (12 * line_digits c + 121) → last + pass_price c * length ys ≤ bound
face_cleared_cost c xs ys p first second last bound e b h k =
    let more : pass_price c * suc (length ys) ≡ pass_price c * length ys + pass_price c = omega arith in
    let l : pass_price c * length xs ≡ pass_price c * length ys + pass_price c = ap (λ zs. pass_price c * length zs) e ∙ more in
    omega (arith, l, b, h, k)

-- at a position that is left
pub face_peek : (w : FaceWalk) (p : ℕ) (xs : List ℕ) → positions_left w.ring ≡ p ∷ xs → face_positions w ≡ p ∷ drop 1 (face_positions w)
face_peek w p xs e =
    let c = contents_in w in
    let outer = outer_positions c (components_between c w.hole w.end) in
    let all : face_positions w ≡ p ∷ (xs ++ outer) = face-left w ∙ ap (λ us. us ++ outer) e in
    all ∙ ap (λ us. p ∷ drop 1 us) (sym all)
