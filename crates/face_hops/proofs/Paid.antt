-- What going round faces and walking over them costs.
use Rattle.std.specs.Prelude.{unwrap_or}
use Rattle.std.proofs.Common.{◌≡◌, ℕ, zero, suc, ◌+◌, ◌*◌, ◌<◌, ◌≤◌, true, List, [], ◌∷◌, length, refl, sym, ap, ◌∙◌, subst, arith}
use Rattle.std.proofs.Math.Nat.{mul-le-mul_left}
use Rattle.std.proofs.lemmas.List.{length-map}
use Rattle.plane_model.specs.Sets.{is_distinct, rising}
use Rattle.plane_model.specs.PlaneMap.{PlaneMap, signed_edges}
use Rattle.plane_model.specs.Lists.{face_edges}
use Rattle.plane_model.specs.Hops.{hops, hops_in}
use Rattle.rotation_check.proofs.RoundWalk.{length-signed}
use Rattle.id_names.specs.Names.{number_of}
use Rattle.file_laws.specs.Contents.{Contents}
use Rattle.file_laws.specs.MapOfFile.{face_at_place, rows_of_contents, edge_row}
use Rattle.file_laws.specs.Lawful.{is_whole}
use Rattle.file_laws.proofs.Consistent.{placed_of}
use Rattle.file_laws.proofs.Lists.{length-rising}
use Rattle.file_laws.proofs.Sizes.{size_is}
use Rattle.navigate.specs.Bound.{map_with, line_digits}
use Rattle.navigate.specs.OrbitWalk as orbits
use Rattle.navigate.specs.FaceWalk as rings
use Rattle.navigate.proofs.Facts.{w, digits_line}
use Rattle.navigate.proofs.OrbitLengths.{some_digits}
use Rattle.face_hops.specs.Prices.{most_hop_words, along, edge_price, start_price, rounds_price, search_price, name_price}
use Rattle.face_hops.specs.Search.{IsSearch}
use Rattle.face_hops.proofs.FaceLengths.{faces_few}
use Rattle.face_hops.proofs.MapFacts.{rows_labelled, place_one, face_known, beside-known, a_path, as_many}
use Rattle.face_hops.proofs.Searching.{firsts, firsts-length, firsts-apart}
use Rattle.face_hops.proofs.Ways.{hops_at, way, few_moves}

-- one face

pub round_begun : (c : Contents) (f n k first last : ℕ) → n ≡ length (face_edges (map_with c) f) → k ≡ length (face_edges (map_with c) f) → last ≤ first + (10 * line_digits c + 24 + orbits.rank_price c * k)
    → last + rings.pass_price c * n ≤ first + rounds_price c (f ∷ [])
unfolding along
round_begun c f n k first last is same l =
    let d = line_digits c in
    let e : edge_price c * n ≡ edge_price c * length (face_edges (map_with c) f) = ap (λ x. edge_price c * x) is in
    let p : orbits.rank_price c * k ≡ orbits.rank_price c * n = ap (λ x. orbits.rank_price c * x) (same ∙ sym is) in
    omega (arith, e, p, l)

-- one face more
pub rounds_more : (c : Contents) (f : ℕ) (fs : List ℕ) (first last start : ℕ) → first ≤ start + rounds_price c fs → last ≤ first + rounds_price c (f ∷ []) → last ≤ start + rounds_price c (f ∷ fs)
unfolding along
rounds_more c f fs first last start l k = omega (arith, l, k)

-- the first of a list that two functions give alike
pub firsts-same : (f g : ℕ → ℕ) (n : ℕ) → ((i : ℕ) → i < n → f i ≡ g i) → firsts f n ≡ firsts g n
firsts-same f g zero same = refl
firsts-same f g (suc n) same = ap (λ x. x ∷ firsts f n) (same n (omega arith)) ∙ ap (λ xs. g n ∷ xs) (firsts-same f g n (λ i l. same i (omega (arith, l))))

-- a walk

pub named_paid : (c : Contents) (xs ys : List ℕ) (f ways first last : ℕ) → xs ≡ f ∷ ys → last ≤ first + name_price c → last + (ways + name_price c * length ys) ≤ first + (ways + name_price c * length xs)
named_paid c xs ys f ways first last e l =
    let n : name_price c * length xs ≡ name_price c * suc (length ys) = ap (λ zs. name_price c * length zs) e in
    omega (arith, n, l)

pub moved_paid : (c : Contents) (ws vs xs ys : List ℕ) (g f first second last : ℕ) → ws ≡ g ∷ vs → xs ≡ f ∷ ys → second ≤ first + rounds_price c (g ∷ []) → last ≤ second + name_price c
    → last + (rounds_price c vs + name_price c * length ys) ≤ first + (rounds_price c ws + name_price c * length xs)
unfolding along
moved_paid c ws vs xs ys g f first second last a b l k =
    let n : name_price c * length xs ≡ name_price c * suc (length ys) = ap (λ zs. name_price c * length zs) b in
    let all : rounds_price c ws ≡ rounds_price c (g ∷ vs) = ap (rounds_price c) a in
    omega (arith, n, all, l, k)

module _ (c : Contents) (h : is_whole c ≡ true) where
  abbrev m : PlaneMap
  m = map_with c

  signed_many : length (signed_edges m) ≡ 2 * length c.edges
  signed_many =
      let rows : length (rows_of_contents c).edges ≡ length c.edges = length-map (rising c.edges) (λ id. edge_row c id (unwrap_or (number_of c.edges id) 0)) ∙ length-rising c.edges in
      length-signed (rows_of_contents c) ∙ ap (λ n. 2 * n) rows

  along_few : (fs : List ℕ) → is_distinct fs ≡ true → along m fs ≤ 2 * length c.edges
  along_few fs apart = let few = faces_few (rows_of_contents c) (rows_labelled c h) (placed_of c h) fs apart in omega (arith, few, signed_many)

  rounds_few : (fs : List ℕ) → is_distinct fs ≡ true → length fs ≤ length c.faces + 1 → rounds_price c fs ≤ search_price c
  rounds_few fs apart few =
      let a : edge_price c * along m fs ≤ edge_price c * (2 * length c.edges) = mul-le-mul_left (edge_price c) (along_few fs apart) in
      let b : start_price c * length fs ≤ start_price c * (length c.faces + 1) = mul-le-mul_left (start_price c) few in
      omega (arith, a, b)

  -- the faces that a search went round
  pub searched_few : (to : ℕ) (number queue : ℕ → ℕ) (head tail first last : ℕ) → IsSearch c to number queue head tail → tail ≤ length c.faces + 1 → last ≤ first + rounds_price c (firsts (λ i. face_at_place c (queue i)) head)
      → last ≤ first + search_price c
  searched_few to number queue head tail first last s few l =
      let face = λ (i : ℕ). face_at_place c (queue i) in
      let within = s.within in
      let apart = firsts-apart face head (λ i j li lj e.
      let a : i < tail = omega (arith, li, within) in
      let b : j < tail = omega (arith, lj, within) in
      s.apart i j a b (place_one c h (queue i) (queue j) (s.place i a) (s.place j b) e)) in
      let long = firsts-length face head in
      let all = rounds_few (firsts face head) apart (omega (arith, long, within, few)) in
      omega (arith, l, all)

  -- the faces of a shortest walk
  pub hops_few : (place to : ℕ) → place ≤ length c.faces → to ≤ length c.faces → (fs : List ℕ) → fs ≡ hops m (face_at_place c place) (face_at_place c to)
      → rounds_price c fs + name_price c * length fs ≤ search_price c + name_price c * (length c.faces + 1)
  hops_few place to low to_low fs e =
      let f = face_at_place c place in
      let g = face_at_place c to in
      let f_in = face_known c h place low in
      let r = a_path c h f g f_in (face_known c h to to_low) in
      let is : fs ≡ hops_in r.0 m f g = e ∙ hops_at m f g r.0 r.1 in
      let it = way m g (beside-known c h) r.0 f f_in r.2 in
      let few = few_moves m g (beside-known c h) r.0 f f_in r.2 in
      let many = as_many c h in
      let long = ap length is ∙ it.long in
      let short : length fs ≤ length c.faces + 1 = omega (arith, long, few, many) in
      let all = rounds_few fs (subst (λ xs. is_distinct xs ≡ true) (sym is) it.apart) short in
      let names : name_price c * length fs ≤ name_price c * (length c.faces + 1) = mul-le-mul_left (name_price c) short in
      omega (arith, all, names)

  -- two look-ups, a search and a walk
  pub hop_words_fit : (first second third fourth last : ℕ) → second ≤ first + (12 * line_digits c + 60) → third ≤ second + (12 * line_digits c + 60) → fourth ≤ third + search_price c
      → last ≤ search_price c + name_price c * (length c.faces + 1) → fourth + last ≤ first + most_hop_words m
  hop_words_fit first second third fourth last one two three four =
      let d = line_digits c in
      let e = length c.edges in
      let size = size_is c (w c h) in
      let words : most_hop_words m ≡ 8192 * d * (2 * e + length c.isolated + 2 * length c.regions + 2 + 2) = ap (λ x. 8192 * x * (Rattle.plane_model.specs.Consistent.size m + 2)) (digits_line c h) ∙ ap (λ x. 8192 * d * (x + 2)) size in
      let faces = (w c h).sizes.faces in
      let low : length c.faces ≤ e = omega (arith, faces) in
      let digits_two = some_digits c in
      let each : e * 2 ≤ e * d = mul-le-mul_left e digits_two in
      let under : d * length c.faces ≤ d * e = mul-le-mul_left d low in
      omega (arith, words, low, digits_two, each, under, one, two, three, four)
