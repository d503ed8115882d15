-- Walks whose first signed edges are put down before all others.
use Rattle.std.specs.Prelude.{map, if◌then◌else◌, ◌++◌}
use Rattle.std.proofs.Common.{◌≡◌, ℕ, ◌+◌, ◌-◌, ◌*◌, ◌<◌, ◌≤◌, ℤ, Bool, true, false, List, [], length, refl, ap, sym, ◌∙◌, arith, ◌==◌, length-append, append_assoc}
use Rattle.std.proofs.lemmas.List.{map-append}
use Rattle.std.proofs.Math.Nat.{mul-le-mul_left}
use Rattle.plane_model.specs.Lists.{face_edges, shell, ring_if_some}
use Rattle.code_laws.specs.Numbers.{ring_of}
use Rattle.code_laws.specs.Orbits.{orbit}
use Rattle.code_laws.specs.declared.ring_number.RingNumber.TheVariants.{Shell}
use Rattle.file_laws.specs.Contents.{Contents}
use Rattle.file_laws.specs.MapOfFile.{signed_at, face_at_place}
use Rattle.file_laws.specs.Lawful.{is_whole}
use Rattle.navigate.specs.Bound.{map_with, line_digits, line_words}
use Rattle.navigate.specs.Least.{smallest_of, from_smallest}
use Rattle.navigate.specs.Holes.{components_between, outer_positions}
use Rattle.navigate.specs.OrbitWalk as orbits
use Rattle.navigate.specs.FaceWalk as rings
use Rattle.navigate.specs.declared.orbit_walk.OrbitWalk.{OrbitWalk}
use Rattle.navigate.specs.declared.face_rings.FaceWalk.{FaceWalk}
use Rattle.navigate.proofs.Facts.{sound_code}
use Rattle.navigate.proofs.Resting.{rest-at}
use Rattle.navigate.proofs.OrbitLengths.{smallest-length, some_digits}
use Rattle.navigate.proofs.FaceLaws.{rest-is}
use Rattle.navigate.proofs.HoleLaws.{AreAt, shell_at, face_other, outer_rings_at}

-- nothing is put down and nothing is left
pub begun_none : (es ds : List ℤ) → es ≡ [] → ds ≡ [] → es ++ ds ≡ []
begun_none es ds e d = ap (λ x. x ++ ds) e ∙ d

-- a walk over nothing costs nothing
pub begun_none_paid : (v : OrbitWalk) (first bound : ℕ) → orbits.rest v ≡ [] → first + orbits.allowance v ≤ first + bound
unfolding orbits.allowance
begun_none_paid v first bound e =
    let none : orbits.price (orbits.contents_in v) * length (orbits.rest v) ≡ orbits.price (orbits.contents_in v) * 0 = ap (λ ds. orbits.price (orbits.contents_in v) * length ds) e in
    omega (arith, none)

-- what is paid by a length that is another's, behind some words
pub paid_behind : (price n len first second cost last : ℕ) → last ≤ second + price * len → n ≡ len → second ≤ first + cost → last ≤ first + (cost + price * n)
paid_behind price n len first second cost last h e k =
    let same : price * n ≡ price * len = ap (λ x. price * x) e in
    omega (arith, h, same, k)

module _ (c : Contents) (h : is_whole c ≡ true) where
  pub begun_long : (kind : Bool) (p : ℕ) (ds : List ℤ) → p < length c.code.a → smallest_of c kind p < length c.code.a → ds ≡ from_smallest c kind p → length ds ≡ length (orbit c.code kind p)
  begun_long kind p ds l k e = ap length e ∙ smallest-length c (sound_code c h) kind p l k

  -- the shell's signed edges, however they are given
  shell_given : (ds : List ℤ) (p place start : ℕ) → p < length c.code.a → smallest_of c false p < length c.code.a → start ≡ smallest_of c false p → place ≤ length c.faces → (place ≡ 0 → ⊥) → ring_of c.code p ≡ Shell (place - 1)
      → ds ≡ map (signed_at c) (orbit c.code false start)
      → ds ≡ (if face_at_place c place == 0 then [] else ring_if_some (map_with c) (shell (map_with c) (face_at_place c place)))
  shell_given ds p place start l k is up some e given =
      let one : place - 1 + 1 ≡ place = omega (arith, some) in
      let s_in : place - 1 < length c.faces = omega (arith, up, some) in
      let list : map (signed_at c) (orbit c.code false start) ≡ ring_if_some (map_with c) (shell (map_with c) (face_at_place c (place - 1 + 1)))
      = ap (λ x. map (signed_at c) (orbit c.code false x)) is ∙ shell_at c h p (place - 1) l k s_in e in
      given ∙ list ∙ face_other c h (place - 1) s_in
      ∙ ap (λ x. if face_at_place c x == 0 then [] else ring_if_some (map_with c) (shell (map_with c) (face_at_place c x))) one

  pub shell_begun : (ds : List ℤ) (p place : ℕ) → p < length c.code.a → smallest_of c false p < length c.code.a → place ≤ length c.faces → (place ≡ 0 → ⊥) → ring_of c.code p ≡ Shell (place - 1)
      → ds ≡ from_smallest c false p
      → ds ≡ (if face_at_place c place == 0 then [] else ring_if_some (map_with c) (shell (map_with c) (face_at_place c place)))
  shell_begun ds p place l k up some e given = shell_given ds p place (smallest_of c false p) l k refl up some e given

  -- a face's walk is its ring's and then the holes' rings
  face_behind : (f : FaceWalk) (v : OrbitWalk) (outer : List ℕ) → rings.contents_in f ≡ c → orbits.contents_in v ≡ c → rings.face_positions f ≡ orbits.positions_left v ++ outer
      → rings.rest f ≡ orbits.rest v ++ map (signed_at c) outer
  face_behind f v outer same v_same positions =
      let left = rest-at v c (orbits.positions_left v) v_same refl in
      rest-is f ∙ ap (λ x. map (signed_at x) (rings.face_positions f)) same ∙ ap (map (signed_at c)) positions
      ∙ map-append (signed_at c) (orbits.positions_left v) outer
      ∙ ap (λ xs. xs ++ map (signed_at c) outer) (sym left)

  -- all rings of a face, with what is put down before
  pub face_begun : (f : FaceWalk) (v : OrbitWalk) (es : List ℤ) (place hole end : ℕ) → rings.contents_in f ≡ c → orbits.contents_in v ≡ c → place ≤ length c.faces → hole ≤ end → AreAt c place hole end
      → rings.face_positions f ≡ orbits.positions_left v ++ outer_positions c (components_between c hole end)
      → es ++ orbits.rest v ≡ (if face_at_place c place == 0 then [] else ring_if_some (map_with c) (shell (map_with c) (face_at_place c place)))
      → es ++ rings.rest f ≡ face_edges (map_with c) (face_at_place c place)
  face_begun f v es place hole end same v_same up l at positions first =
      let outer = outer_positions c (components_between c hole end) in
      ap (λ xs. es ++ xs) (face_behind f v outer same v_same positions)
      ∙ sym (append_assoc es (orbits.rest v) (map (signed_at c) outer))
      ∙ ap (λ xs. xs ++ map (signed_at c) outer) first
      ∙ ap (λ xs. (if face_at_place c place == 0 then [] else ring_if_some (map_with c) (shell (map_with c) (face_at_place c place))) ++ xs) (outer_rings_at c h place hole end up l at)

  -- what is paid for the ring is paid for the face
  pub face_begun_paid : (f : FaceWalk) (v : OrbitWalk) (es : List ℤ) (outer : List ℕ) (first second third last : ℕ) → rings.contents_in f ≡ c → orbits.contents_in v ≡ c
      → rings.face_positions f ≡ orbits.positions_left v ++ outer
      → second ≤ first + 4 * line_digits c
      → third + orbits.allowance v ≤ second + (6 * line_digits c + 24 + (orbits.rank_price c + orbits.price c) * length (es ++ orbits.rest v))
      → last ≤ third + 2
      → last + rings.allowance f ≤ first + (10 * line_digits c + 26 + (orbits.rank_price c + rings.price c) * length (es ++ rings.rest f))
  unfolding rings.allowance orbits.allowance
  face_begun_paid f v es outer first second third last same v_same positions low ring on =
      let n = length (orbits.rest v) in
      let k = length (map (signed_at c) outer) in
      let e = length es in
      let left : length (rings.rest f) ≡ n + k = ap length (face_behind f v outer same v_same positions) ∙ length-append (orbits.rest v) (map (signed_at c) outer) in
      let ring_all : length (es ++ orbits.rest v) ≡ e + n = length-append es (orbits.rest v) in
      let all : length (es ++ rings.rest f) ≡ e + (n + k) = length-append es (rings.rest f) ∙ ap (λ x. e + x) left in
      let a : rings.price (rings.contents_in f) * length (rings.rest f) ≡ rings.price c * (n + k)
      = ap (λ x. rings.price x * length (rings.rest f)) same ∙ ap (λ x. rings.price c * x) left in
      let b : orbits.price (orbits.contents_in v) * n ≡ orbits.price c * n = ap (λ x. orbits.price x * n) v_same in
      let p : (orbits.rank_price c + orbits.price c) * length (es ++ orbits.rest v) ≡ (orbits.rank_price c + orbits.price c) * (e + n)
      = ap (λ x. (orbits.rank_price c + orbits.price c) * x) ring_all in
      let q : (orbits.rank_price c + rings.price c) * length (es ++ rings.rest f) ≡ (orbits.rank_price c + rings.price c) * (e + (n + k))
      = ap (λ x. (orbits.rank_price c + rings.price c) * x) all in
      omega (arith, a, b, p, q, low, ring, on)

-- what finding a face, and putting down and walking along n signed edges read fits
pub begun_fits : (c : Contents) (n first second last : ℕ) → second ≤ first + (12 * line_digits c + 60)
    → last ≤ second + (10 * line_digits c + 26 + (orbits.rank_price c + rings.price c) * n) → last ≤ first + line_words c n n
begun_fits c n first second last h k =
    let two = some_digits c in
    let each : n * 2 ≤ n * line_digits c = mul-le-mul_left n two in
    omega (arith, each, two, h, k)

-- what finding a node's first position, and putting down and walking along n signed edges read fits
pub node_begun_fits : (c : Contents) (n len first second last : ℕ) → n ≡ len → second ≤ first + (18 * line_digits c + 84)
    → last ≤ second + (orbits.rank_price c + orbits.price c) * len → last ≤ first + line_words c n n
node_begun_fits c n len first second last same h k =
    let two = some_digits c in
    let each : n * 2 ≤ n * line_digits c = mul-le-mul_left n two in
    let all : (orbits.rank_price c + orbits.price c) * n ≡ (orbits.rank_price c + orbits.price c) * len = ap (λ x. (orbits.rank_price c + orbits.price c) * x) same in
    omega (arith, each, two, all, h, k)
