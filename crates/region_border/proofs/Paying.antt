-- What a walk round an outline costs.
use Rattle.std.specs.Prelude.{flat_map, filter, slice_index}
use Rattle.std.proofs.Common.{◌≡◌, ℕ, zero, suc, ◌+◌, ◌-◌, ◌*◌, ◌<◌, ◌≤◌, true, false, ℤ, List, [], ◌∷◌, ◌++◌, length, refl, sym, ap, ◌∙◌, subst, arith}
use Rattle.std.proofs.Math.Nat.{mul-le-mul_left}
use Rattle.std.proofs.lemmas.List.{length-append}
use Rattle.plane_model.specs.Sets.{has_edge}
use Rattle.plane_model.specs.PlaneMap.{PlaneMap, signed_edges, next, turn}
use Rattle.plane_model.specs.Consistent.{size}
use Rattle.plane_model.specs.Border.{is_border, outline, border}
use Rattle.file_laws.specs.Contents.{Contents}
use Rattle.file_laws.specs.Lawful.{is_whole}
use Rattle.file_laws.proofs.Sizes.{size_is}
use Rattle.navigate.specs.Bound.{map_with, line_digits}
use Rattle.navigate.proofs.Facts.{w, digits_line}
use Rattle.navigate.proofs.OrbitLengths.{some_digits}
use Rattle.region_border.specs.Items.{items_of, edges_in}
use Rattle.region_border.specs.Looked.{passed_from, passed, looked}
use Rattle.region_border.specs.Prices.{most_border_words, border_price, next_price, look_price, mark_price, turn_price, scan_price, walk_price}
use Rattle.region_border.specs.declared.item.BorderItem.{BorderItem}
use Rattle.region_border.proofs.BorderParts.{looked_few}
use Rattle.region_border.proofs.MapFacts.{turned, many}
use Rattle.region_border.proofs.Turning.{looked-long, one-passed}
use Rattle.region_border.proofs.Marking.{all_of}

module _ (c : Contents) (r : ℕ) where
  abbrev m : PlaneMap
  m = map_with c

  -- looking for a beginning, with one found and with none
  pub scanned_paid : (seen k first last : ℕ) (items items' : List BorderItem) → seen ≤ k → k < 2 * length c.edges → items' ≡ items → last ≤ first + scan_price c * (k + 1 - seen)
      → last + walk_price c r (k + 1) items' ≤ first + walk_price c r seen items
  scanned_paid seen k first last items items' under l same paid =
      let here = k + 1 - seen in
      let rest = 2 * length c.edges - (k + 1) in
      let all : 2 * length c.edges - seen ≡ here + rest = omega (arith, under, l) in
      let prices = ap (λ n. scan_price c * n) all in
      let sum : scan_price c * (here + rest) ≡ scan_price c * here + scan_price c * rest = omega arith in
      let left = ap (λ xs. turn_price c * length (flat_map (looked m r) (edges_in xs))) same in
      omega (arith, prices, sum, left, paid)

  pub over_paid : (seen end first last : ℕ) (items items' : List BorderItem) → end ≡ 2 * length c.edges → items' ≡ items → last ≤ first + scan_price c * (2 * length c.edges - seen)
      → last + walk_price c r end items' ≤ first + walk_price c r seen items
  over_paid seen end first last items items' e same paid =
      let none : 2 * length c.edges - end ≡ 0 = omega (arith, e) in
      let nothing : scan_price c * 0 ≡ 0 = omega arith in
      let zero_left : scan_price c * (2 * length c.edges - end) ≡ 0 = ap (λ n. scan_price c * n) none ∙ nothing in
      let left = ap (λ xs. turn_price c * length (flat_map (looked m r) (edges_in xs))) same in
      omega (arith, zero_left, left, paid)

  some_looked : (d : ℤ) → 1 ≤ length (looked m r d)
  some_looked d = let long = length-append (passed m r d) (outline m r d ∷ []) in omega (arith, long)

  -- giving a signed edge
  pub edge_paid : (seen first second last : ℕ) (items items' : List BorderItem) (d : ℤ) → edges_in items ≡ d ∷ edges_in items' → second ≤ first + mark_price c → last ≤ second + look_price c * length (looked m r d)
      → last + walk_price c r seen items' ≤ first + walk_price c r seen items
  edge_paid seen first second last items items' d e one two =
      let n = length (looked m r d) in
      let rest = length (flat_map (looked m r) (edges_in items')) in
      let long : length (flat_map (looked m r) (edges_in items)) ≡ n + rest = ap (λ ds. length (flat_map (looked m r) ds)) e ∙ length-append (looked m r d) (flat_map (looked m r) (edges_in items')) in
      let all = ap (λ k. turn_price c * k) long in
      let sum : turn_price c * (n + rest) ≡ turn_price c * n + turn_price c * rest = omega arith in
      let some = some_looked d in
      let least : mark_price c * 1 ≤ mark_price c * n = mul-le-mul_left (mark_price c) some in
      let both : turn_price c * n ≡ look_price c * n + mark_price c * n = omega arith in
      omega (arith, all, sum, least, both, one, two)

  -- and the end of a ring
  pub end_paid : (seen now : ℕ) (items items' : List BorderItem) → edges_in items ≡ edges_in items' → now + walk_price c r seen items' ≤ now + walk_price c r seen items
  end_paid seen now items items' e =
      let left = ap (λ ds. turn_price c * length (flat_map (looked m r) ds)) e in
      omega (arith, left)

  -- looking for the next border edge: at first, past one, and where it is found
  pub search_begun : (d e : ℤ) (first last : ℕ) → e ≡ next m d → last ≤ first + next_price c → last + (look_price c * length (passed_from (length (signed_edges m) - 0) m r e) + border_price c) ≤ first + look_price c * length (looked m r d)
  search_begun d e first last is paid =
      let long = looked-long m r d in
      let whole : length (signed_edges m) - 0 ≡ length (signed_edges m) = omega arith in
      let left = ap (λ n. look_price c * length (passed_from n m r e)) whole in
      let same : look_price c * length (passed_from (length (signed_edges m)) m r e) ≡ look_price c * length (passed m r d) = ap (λ x. look_price c * length (passed_from (length (signed_edges m)) m r x)) is in
      let all : look_price c * length (looked m r d) ≡ look_price c * (length (passed m r d) + 1) = ap (λ n. look_price c * n) long in
      let one : look_price c * (length (passed m r d) + 1) ≡ look_price c * length (passed m r d) + look_price c = omega arith in
      omega (arith, left, same, all, one, paid)

  pub search_on : (i : ℕ) (d e : ℤ) (start first second last : ℕ) → i < length (signed_edges m) → is_border m r d ≡ false → e ≡ turn m d
      → first + (look_price c * length (passed_from (length (signed_edges m) - i) m r d) + border_price c) ≤ start → second ≤ first + border_price c → last ≤ second + next_price c
      → last + (look_price c * length (passed_from (length (signed_edges m) - (i + 1)) m r e) + border_price c) ≤ start
  search_on i d e start first second last l b is left one two =
      let rest = length (passed_from (length (signed_edges m) - (i + 1)) m r e) in
      let all : look_price c * length (passed_from (length (signed_edges m) - i) m r d) ≡ look_price c * (rest + 1) = ap (λ n. look_price c * n) (one-passed m r i d e l b is) in
      let sum : look_price c * (rest + 1) ≡ look_price c * rest + look_price c = omega arith in
      omega (arith, all, sum, left, one, two)

module _ (c : Contents) (h : is_whole c ≡ true) where
  -- the whole walk
  pub walk_fits : (r first last : ℕ) (items : List BorderItem) → items ≡ items_of (border (map_with c) r) → last ≤ first + (12 * line_digits c + 60) → last + walk_price c r 0 items ≤ first + most_border_words (map_with c)
  walk_fits r first last items e paid =
      let m = map_with c in
      let d = line_digits c in
      let n = length c.edges in
      let they = all_of c h r in
      let ds = edges_in (items_of (border m r)) in
      let few = looked_few m r (turned c h) ds they.once (λ x on. sym (they.same x) ∙ on) in
      let long = many c h in
      let low : length (flat_map (looked m r) (edges_in items)) ≤ 2 * n = subst (λ xs. length (flat_map (looked m r) (edges_in xs)) ≤ 2 * n) (sym e) (omega (arith, few, long)) in
      let turns : turn_price c * length (flat_map (looked m r) (edges_in items)) ≤ turn_price c * (2 * n) = mul-le-mul_left (turn_price c) low in
      let words : most_border_words m ≡ 8192 * d * (2 * n + length c.isolated + 2 * length c.regions + 2 + 2) = ap (λ x. 8192 * x * (size m + 2)) (digits_line c h) ∙ ap (λ x. 8192 * d * (x + 2)) (size_is c (w c h)) in
      let whole : 2 * n - 0 ≡ 2 * n = omega arith in
      let scans = ap (λ x. scan_price c * x) whole in
      let two = some_digits c in
      let each : n * 2 ≤ n * d = mul-le-mul_left n two in
      omega (arith, turns, words, scans, two, each, paid)
