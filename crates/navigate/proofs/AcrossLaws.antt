-- The faces across the edges of a face, by places and by ids, and what their walk reads.
use Rattle.std.specs.Prelude.{not, map, take, ◌==◌}
use Rattle.std.proofs.Common.{◌≡◌, ℕ, ◌+◌, ◌*◌, ◌<◌, ◌≤◌, inl, inr, true, List, [], ◌∷◌, length, refl, ap, sym, ◌∙◌, arith}
use Rattle.std.proofs.lemmas.Bool.{cases_lt, eqb-true, eq-eqb, or_cases, or_left, or_right}
use Rattle.std.proofs.Math.Nat.{mul-le-mul_left}
use Rattle.bit_words.specs.Digits.{digits}
use Rattle.bit_words.proofs.DigitLaws.{digits-mono}
use Rattle.topo_base.specs.SignedEdge.{reverse}
use Rattle.plane_model.specs.Sets.{has, first_occurrences, first_occurrences_but}
use Rattle.plane_model.specs.PlaneMap.{PlaneMap, side}
use Rattle.plane_model.specs.Lists.{face_edges, adjacent}
use Rattle.code_laws.specs.Code.{mate}
use Rattle.code_laws.proofs.Mates.{mate_laws}
use Rattle.file_laws.specs.Contents.{Contents}
use Rattle.file_laws.specs.MapOfFile.{signed_at, face_at, face_at_place}
use Rattle.file_laws.specs.Agreement.{Agrees}
use Rattle.file_laws.specs.Lawful.{is_whole}
use Rattle.file_laws.proofs.Agreement.{agrees}
use Rattle.file_laws.proofs.Rotation.{ring_place}
use Rattle.navigate.specs.Bound.{map_with, line_digits, line_words}
use Rattle.navigate.specs.Beside.{place_across, others, adjacent_places}
use Rattle.navigate.specs.OrbitWalk.{rank_price}
use Rattle.navigate.specs.FaceWalk.{pass_price}
use Rattle.navigate.specs.AdjacentWalk.{step_price}
use Rattle.navigate.proofs.Facts.{w, sound_code}
use Rattle.navigate.proofs.HoleLaws.{one_place}
use Rattle.navigate.proofs.OrbitLengths.{some_digits}
use Rattle.navigate.proofs.StandingLaws.{occurrences-among, filter-among, given_across}
use Rattle.navigate.proofs.Occurrences.{occurrences-apart, few_below, others-named, occurrences-named}

digits-four : digits 4 ≡ 3
unfolding digits
digits-four = refl

module _ (c : Contents) (h : is_whole c ≡ true) where
  abbrev m : PlaneMap
  m = map_with c

  abbrev a : Agrees c m
  a = agrees c (w c h).seen

  mate-in : (p : ℕ) → p < length c.code.a → mate c.code p < length c.code.a
  mate-in p l = (mate_laws c.code (sound_code c h) p l).within

  across-low : (p : ℕ) → p < length c.code.a → place_across c p ≤ length c.faces
  unfolding place_across
  across-low p l = ring_place c (w c h) (mate c.code p) (mate-in p l)

  across-face : (p : ℕ) → p < length c.code.a → side m (reverse (signed_at c p)) ≡ face_at_place c (place_across c p)
  unfolding place_across face_at
  across-face p l = ap (side m) (sym (a.reversed p l)) ∙ a.sides (mate c.code p) (mate-in p l)

  own : (p : ℕ) (ps : List ℕ) → ((x : ℕ) → has (p ∷ ps) x ≡ true → x < length c.code.a) → p < length c.code.a
  own p ps within = within p (or_left (p == p) (has ps p) (eq-eqb p p refl))

  faces-named : (ps : List ℕ) → ((x : ℕ) → has ps x ≡ true → x < length c.code.a) → map (λ d. side m (reverse d)) (map (signed_at c) ps) ≡ map (face_at_place c) (map (place_across c) ps)
  faces-named [] within = refl
  faces-named (p ∷ ps) within =
      let one = across-face p (own p ps within) in
      let more = faces-named ps (λ x there. within x (or_right (x == p) (has ps x) there)) in
      ap (λ f. f ∷ map (λ d. side m (reverse d)) (map (signed_at c) ps)) one ∙ ap (λ fs. face_at_place c (place_across c p) ∷ fs) more

  pub places-low : (ps : List ℕ) → ((x : ℕ) → has ps x ≡ true → x < length c.code.a) → (y : ℕ) → has (map (place_across c) ps) y ≡ true → y ≤ length c.faces
  places-low [] within y there = let no : has [] y ≡ true = there in cc
  places-low (p ∷ ps) within y there =
      elim (or_cases (y == place_across c p) (has (map (place_across c) ps) y) there) [
        | inl e ↦ let same = eqb-true y (place_across c p) e in let low = across-low p (own p ps within) in omega (arith, same, low)
        | inr more ↦ places-low ps (λ x there. within x (or_right (x == p) (has ps x) there)) y more
      ]

  others-low : (place : ℕ) (ps : List ℕ) → ((x : ℕ) → has ps x ≡ true → x < length c.code.a) → (y : ℕ) → has (others place (map (place_across c) ps)) y ≡ true → y ≤ length c.faces
  others-low place ps within y there = places-low ps within y (filter-among (λ g. not (g == place)) (map (place_across c) ps) y there)

  -- no place stands twice, so there are no more of them than faces, and face 0
  pub few_places : (place : ℕ) (ps : List ℕ) → ((x : ℕ) → has ps x ≡ true → x < length c.code.a) → length (adjacent_places c place ps) ≤ length c.faces + 1
  few_places place ps within =
      let xs = others place (map (place_across c) ps) in
      few_below (first_occurrences xs) (length c.faces) (occurrences-apart [] xs) (λ y there. others-low place ps within y (occurrences-among [] xs y there))

  -- those that were given
  pub given_low : (place count : ℕ) (ps : List ℕ) → ((x : ℕ) → has ps x ≡ true → x < length c.code.a) → (y : ℕ) → has (take count (adjacent_places c place ps)) y ≡ true → y ≤ length c.faces
  given_low place count ps within y there = places-low ps within y (given_across c place ps count y there)

  -- by ids they are the faces that the map has across the edges of the face
  pub adjacent_named : (place f : ℕ) (ps : List ℕ) → place ≤ length c.faces → face_at_place c place ≡ f → ((x : ℕ) → has ps x ≡ true → x < length c.code.a) → map (signed_at c) ps ≡ face_edges m (face_at_place c place)
      → map (face_at_place c) (adjacent_places c place ps) ≡ adjacent m f
  adjacent_named place f ps up is within e =
      let g = face_at_place c in
      let xs = map (place_across c) ps in
      let named = occurrences-named g (length c.faces) (one_place c h) [] (others place xs) (λ y there. none y there) (others-low place ps within) in
      let filtered = others-named g (length c.faces) (one_place c h) place up xs (places-low ps within) in
      sym named ∙ ap (first_occurrences_but []) (sym filtered)
      ∙ ap (λ fs. first_occurrences_but [] (others (g place) fs)) (sym (faces-named ps within) ∙ ap (map (λ d. side m (reverse d))) e)
      ∙ ap (adjacent m) is
    where
      none : (y : ℕ) → has [] y ≡ true → y ≤ length c.faces
      none y there = cc

  -- two digits leave room for no edge
  pub no_edges : line_digits c ≤ 2 → length c.code.a ≡ 0
  no_edges l =
      let s = (w c h).sizes.positions in
      elim (cases_lt 0 (length c.edges)) [
        | inl b ↦ let more = digits-mono 4 (2 * length c.edges + length c.isolated + 2 * length c.regions + 2) (omega (arith, b)) in absurd (omega (arith, more, digits-four, l))
        | inr g ↦ omega (arith, s, g)
      ]

  pub no_positions : (ps : List ℕ) → ((x : ℕ) → has ps x ≡ true → x < length c.code.a) → length c.code.a ≡ 0 → length ps ≡ 0
  no_positions [] within e = refl
  no_positions (p ∷ ps) within e = let l = own p ps within in absurd (omega (arith, l, e))

  -- a look-up of a name, of the shell and of the holes, a search, a walk and a close
  adjacent_fits : (ps : List ℕ) (listed : ℕ) → ((x : ℕ) → has ps x ≡ true → x < length c.code.a) → 34 * line_digits c + 205 + (55 * line_digits c + 512) * length ps ≤ line_words c (length ps) listed
  adjacent_fits ps listed within =
      let d = line_digits c in
      let two = some_digits c in
      elim (cases_lt 2 d) [
        | inl b ↦ many d (length ps) listed b
        | inr g ↦ alone d (length ps) listed two (no_positions ps within (no_edges g))
      ]
    where
      many : (d n listed : ℕ) → 2 < d → 34 * d + 205 + (55 * d + 512) * n ≤ 256 * d * (n + listed + 1) + 128 * d
      many d n listed b = let each : n * (55 * d + 512) ≤ n * (256 * d) = mul-le-mul_left n (omega (arith, b)) in omega (arith, each, b)

      alone : (d n listed : ℕ) → 2 ≤ d → n ≡ 0 → 34 * d + 205 + (55 * d + 512) * n ≤ 256 * d * (n + listed + 1) + 128 * d
      alone d n listed two e = rw e (omega (arith, two))

  pub adjacent_paid : (ps : List ℕ) (left listed first second third last : ℕ) → ((x : ℕ) → has ps x ≡ true → x < length c.code.a) → left ≤ length ps → second ≤ first + (12 * line_digits c + 60)
      → third ≤ second + (10 * line_digits c + 24 + rank_price c * length ps) → last + pass_price c * left ≤ third + (pass_price c * length ps + (12 * line_digits c + 121))
      → last + (step_price c * left + pass_price c * length ps) ≤ first + line_words c (length ps) listed
  adjacent_paid ps left listed first second third last within l one two three =
      let d = line_digits c in
      let fits = adjacent_fits ps listed within in
      let over : (3 * d + 20) * left ≤ (3 * d + 20) * length ps = mul-le-mul_left (3 * d + 20) l in
      omega (arith, fits, over, one, two, three)
