-- The walk along the rings of a face, made.
use Rattle.std.specs.Prelude.{map, find, IsNone, if◌then◌else◌, ◌↔◌, ◌++◌}
use Rattle.std.specs.List.{range_with_len}
use Rattle.std.proofs.Common.{◌≡◌, ℕ, ◌+◌, ◌-◌, ◌*◌, ◌<◌, ◌≤◌, Bool, true, false, List, [], length, refl, ap, sym, ◌∙◌, arith, subst, Option, Some, None, ◌==◌, length-append}
use Rattle.std.proofs.lemmas.Bool.{eqb-true}
use Rattle.std.proofs.lemmas.List.{length-map, map-append}
use Rattle.std.proofs.Math.Nat.{mul-le-mul_left}
use Rattle.bit_words.proofs.Finds.{least-find}
use Rattle.plane_model.specs.Lists.{face_edges, shell, ring_if_some}
use Rattle.code_laws.specs.Code.{Code}
use Rattle.code_laws.specs.Numbers.{ring_of, first_of_shell, is_shell, shell_count}
use Rattle.code_laws.specs.Orbits.{orbit}
use Rattle.code_laws.specs.declared.ring_number.RingNumber.{RingNumber}
use Rattle.code_laws.specs.declared.ring_number.RingNumber.TheVariants.{Outer, Shell}
use Rattle.code_laws.proofs.Selects.{pairs}
use Rattle.code_laws.proofs.Sound.{sound_parts}
use Rattle.file_laws.specs.Contents.{Contents}
use Rattle.file_laws.specs.MapOfFile.{signed_at, face_at_place}
use Rattle.file_laws.specs.Lawful.{is_whole}
use Rattle.file_laws.proofs.Rotation.{shells_many}
use Rattle.navigate.specs.Bound.{map_with, line_digits, line_words}
use Rattle.navigate.specs.Least.{smallest_of}
use Rattle.navigate.specs.Holes.{components_between, outer_positions}
use Rattle.navigate.specs.OrbitWalk as orbits
use Rattle.navigate.specs.FaceWalk as rings
use Rattle.navigate.specs.declared.orbit_walk.OrbitWalk.{OrbitWalk}
use Rattle.navigate.specs.declared.face_rings.FaceWalk.{FaceWalk}
use Rattle.navigate.proofs.Facts.{w, sound_code}
use Rattle.navigate.proofs.Resting.{rest-at}
use Rattle.navigate.proofs.OrbitLengths.{orbit-length, smallest-beside, some_digits}
use Rattle.navigate.proofs.FaceLaws.{rest-is}
use Rattle.navigate.proofs.HoleLaws.{AreAt, shell_at, face_other, outer_rings_at}

shell-of : (s : ℕ) (r : RingNumber) → is_shell s r ≡ true → r ≡ Shell s
shell-of s (Outer j) h = cc
shell-of s (Shell j) h = ap Shell (eqb-true j s h)

pub shell_first : (c : Contents) (k : Code) (s p : ℕ) → k ≡ c.code → Some p ≡ first_of_shell k s → ring_of c.code p ≡ Shell s
unfolding first_of_shell
shell_first c k s p same e =
    let at : find (λ q. is_shell s (ring_of c.code q)) (range_with_len 0 (length c.code.a)) ≡ Some p = sym (e ∙ ap (λ (x : Code). first_of_shell x s) same) in
    shell-of s (ring_of c.code p) (least-find (λ q. is_shell s (ring_of c.code q)) 0 (length c.code.a) p at).passes

-- a search from p costs its orbit, which is as long as the walk
pub searched : (c : Contents) (h : is_whole c ≡ true) (v : OrbitWalk) (kind : Bool) (p start first last : ℕ) → p < length c.code.a → start < length c.code.a → start ≡ smallest_of c kind p
    → orbits.rest v ≡ map (signed_at c) (orbit c.code kind start) → last ≤ first + orbits.rank_price c * length (orbit c.code kind p) → last ≤ first + orbits.rank_price c * length (orbits.rest v)
searched c h v kind p start first last l k is rest cost =
    let k' : smallest_of c kind p < length c.code.a = subst (λ x. x < length c.code.a) is k in
    let long : length (orbits.rest v) ≡ length (orbit c.code kind p)
    = ap length rest ∙ length-map (orbit c.code kind start) (signed_at c) ∙ ap (λ x. length (orbit c.code kind x)) is
    ∙ orbit-length c.code (sound_parts c.code (sound_code c h)) kind p (smallest_of c kind p) l k' (smallest-beside c (sound_code c h) kind p l) in
    let same = ap (λ n. orbits.rank_price c * n) long in
    omega (arith, same, cost)

module _ (c : Contents) (h : is_whole c ≡ true) where
  pub no_shell : (k : Code) (s : ℕ) (o : Option ℕ) → k ≡ c.code → o ≡ None → IsNone o ↔ (shell_count k ≤ s) → s < length c.faces → ⊥
  no_shell k s o same e none l =
      let above = none.0 (subst (λ (x : Option ℕ). IsNone x) (sym e) refl) in
      let count : shell_count k ≡ shell_count c.code = ap (λ (x : Code). shell_count x) same in
      let all = shells_many c (w c h) in
      let half = pairs c.code (sound_parts c.code (sound_code c h)) false in
      absurd (omega (arith, above, l, count, all, half))

  pub shell_list : (v : OrbitWalk) (p place start : ℕ) → p < length c.code.a → start < length c.code.a → start ≡ smallest_of c false p → place ≤ length c.faces → (place ≡ 0 → ⊥) → ring_of c.code p ≡ Shell (place - 1)
      → orbits.rest v ≡ map (signed_at c) (orbit c.code false start)
      → orbits.rest v ≡ (if face_at_place c place == 0 then [] else ring_if_some (map_with c) (shell (map_with c) (face_at_place c place)))
  shell_list v p place start l k is up some e rest =
      let one : place - 1 + 1 ≡ place = omega (arith, some) in
      let s_in : place - 1 < length c.faces = omega (arith, up, some) in
      let list : map (signed_at c) (orbit c.code false start) ≡ ring_if_some (map_with c) (shell (map_with c) (face_at_place c (place - 1 + 1)))
      = ap (λ x. map (signed_at c) (orbit c.code false x)) is ∙ shell_at c h p (place - 1) l (subst (λ x. x < length c.code.a) is k) s_in e in
      rest ∙ list ∙ face_other c h (place - 1) s_in
      ∙ ap (λ x. if face_at_place c x == 0 then [] else ring_if_some (map_with c) (shell (map_with c) (face_at_place c x))) one

  -- all rings of a face
  pub face_list : (f : FaceWalk) (v : OrbitWalk) (place hole end : ℕ) → rings.contents_in f ≡ c → orbits.contents_in v ≡ c → place ≤ length c.faces → hole ≤ end → AreAt c place hole end
      → rings.face_positions f ≡ orbits.positions_left v ++ outer_positions c (components_between c hole end)
      → orbits.rest v ≡ (if face_at_place c place == 0 then [] else ring_if_some (map_with c) (shell (map_with c) (face_at_place c place)))
      → rings.rest f ≡ face_edges (map_with c) (face_at_place c place)
  face_list f v place hole end same v_same up l at positions first =
      let left = rest-at v c (orbits.positions_left v) v_same refl in
      rest-is f ∙ ap (λ x. map (signed_at x) (rings.face_positions f)) same ∙ ap (map (signed_at c)) positions
      ∙ map-append (signed_at c) (orbits.positions_left v) (outer_positions c (components_between c hole end))
      ∙ ap (λ xs. xs ++ map (signed_at c) (outer_positions c (components_between c hole end))) (sym left ∙ first)
      ∙ ap (λ xs. (if face_at_place c place == 0 then [] else ring_if_some (map_with c) (shell (map_with c) (face_at_place c place))) ++ xs) (outer_rings_at c h place hole end up l at)

  pub face_longer : (f : FaceWalk) (v : OrbitWalk) (rest : List ℕ) (first last : ℕ) → rings.contents_in f ≡ c → orbits.contents_in v ≡ c → rings.face_positions f ≡ orbits.positions_left v ++ rest
      → last ≤ first + orbits.rank_price c * length (orbits.rest v) → last ≤ first + orbits.rank_price c * length (rings.rest f)
  face_longer f v rest first last same v_same positions cost =
      let n = ap length (rest-at v c (orbits.positions_left v) v_same refl) ∙ length-map (orbits.positions_left v) (signed_at c) in
      let k = ap length (rest-is f) ∙ length-map (rings.face_positions f) (signed_at (rings.contents_in f)) ∙ ap length positions ∙ length-append (orbits.positions_left v) rest in
      let more : orbits.rank_price c * length (orbits.rest v) ≤ orbits.rank_price c * length (rings.rest f) = mul-le-mul_left (orbits.rank_price c) (omega (arith, n, k)) in
      omega (arith, more, cost)

-- what a face's walk and its search read fits
pub face_fits : (c : Contents) (f : FaceWalk) (first second last : ℕ) → rings.contents_in f ≡ c → second ≤ first + (12 * line_digits c + 60)
    → last ≤ second + (10 * line_digits c + 24 + orbits.rank_price c * length (rings.rest f)) → last + rings.allowance f ≤ first + line_words c (length (rings.rest f)) (length (rings.rest f))
unfolding rings.allowance
face_fits c f first second last same h k =
    let d = line_digits c in
    let n = length (rings.rest f) in
    let walk : rings.price (rings.contents_in f) * n ≡ rings.price c * n = ap (λ x. rings.price x * n) same in
    let two = some_digits c in
    let each : n * 2 ≤ n * d = mul-le-mul_left n two in
    omega (arith, walk, each, two, h, k)
