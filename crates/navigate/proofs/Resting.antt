-- What a walk still gives and may still read, from the positions that are left.
use Rattle.std.specs.Prelude.{map, MatchOption}
use Rattle.std.proofs.Common.{◌≡◌, ℕ, suc, ◌+◌, ◌*◌, ◌≤◌, ℤ, List, [], ◌∷◌, length, ap, sym, ◌∙◌, arith, Option, Some, None}
use Rattle.file_laws.specs.Contents.{Contents}
use Rattle.file_laws.specs.MapOfFile.{signed_at}
use Rattle.navigate.specs.OrbitWalk.{contents_in, positions_left, rest, price, allowance}
use Rattle.navigate.specs.declared.orbit_walk.OrbitWalk.{OrbitWalk}

pub rest-none : (v : OrbitWalk) → positions_left v ≡ [] → rest v ≡ []
unfolding rest
rest-none v e = ap (map (signed_at (contents_in v))) e

pub rest-some : (v w : OrbitWalk) (p : ℕ) (d : ℤ) → contents_in w ≡ contents_in v → positions_left v ≡ p ∷ positions_left w → d ≡ signed_at (contents_in v) p → rest v ≡ d ∷ rest w
unfolding rest
rest-some v w p d same e f = ap (map (signed_at (contents_in v))) e ∙ ap (λ x. x ∷ map (signed_at (contents_in v)) (positions_left w)) (sym f) ∙ ap (λ m. d ∷ map (signed_at m) (positions_left w)) (sym same)

pub allowance-none : (v : OrbitWalk) → rest v ≡ [] → allowance v ≡ 0
unfolding allowance
allowance-none v e = rw e (omega arith)

pub allowance-some : (v w : OrbitWalk) (d : ℤ) → contents_in w ≡ contents_in v → rest v ≡ d ∷ rest w → allowance v ≡ allowance w + price (contents_in v)
unfolding allowance
allowance-some v w d same e =
    let more : price (contents_in v) * suc (length (rest w)) ≡ price (contents_in v) * length (rest w) + price (contents_in v) = omega arith in
    rw e (more ∙ ap (λ m. price m * length (rest w) + price (contents_in v)) (sym same))

pub paid-some : (v w : OrbitWalk) (d : ℤ) (first last : ℕ) → contents_in w ≡ contents_in v → rest v ≡ d ∷ rest w → last ≤ first + price (contents_in v) → last + allowance w ≤ first + allowance v
paid-some v w d first last same e h =
    let a = allowance-some v w d same e in
    omega (arith, a, h)

pub rest-at : (w : OrbitWalk) (m : Contents) (ps : List ℕ) → contents_in w ≡ m → positions_left w ≡ ps → rest w ≡ map (signed_at m) ps
unfolding rest
rest-at w m ps same e = ap (map (signed_at (contents_in w))) e ∙ ap (λ x. map (signed_at x) ps) same

-- a pass where something is left
pub passed : (xs ys zs : List ℕ) (p : ℕ) (r : Option ℕ) → xs ≡ p ∷ zs → MatchOption r (xs ≡ []) (λ q. xs ≡ q ∷ ys) → xs ≡ p ∷ ys
passed xs ys zs p None e h = cc
passed xs ys zs p (Some q) e h =
    let same : q ≡ p = cc in
    h ∙ ap (λ x. x ∷ ys) same

pub passed_some : (xs ys zs : List ℕ) (p : ℕ) (r : Option ℕ) (first last bound : ℕ) → xs ≡ p ∷ zs → MatchOption r (xs ≡ []) (λ q. xs ≡ q ∷ ys)
    → MatchOption r (last ≡ first) (λ _. (first + 1 ≤ last) × (last ≤ first + bound)) → (first + 1 ≤ last) × (last ≤ first + bound)
passed_some xs ys zs p None first last bound e h k = cc
passed_some xs ys zs p (Some q) first last bound e h k = (k.0, k.1)

pub passed_shorter : (xs ys : List ℕ) (p : ℕ) → xs ≡ p ∷ ys → length ys + 1 ≡ length xs
passed_shorter xs ys p e = let l : length xs ≡ suc (length ys) = ap length e in omega (arith, l)
