-- Signed edges by place: what the names say of a place, and what was looked at there.
use Rattle.std.specs.Prelude.{slice_index, if◌then◌else◌, neg_ℤ}
use Rattle.std.proofs.Common.{◌≡◌, ℕ, zero, suc, ◌+◌, ◌-◌, ◌*◌, ◌<◌, ◌≤◌, inl, inr, ℤ, pos, Bool, true, false, List, length, refl, sym, ap, ◌∙◌, subst, arith}
use Rattle.std.proofs.lemmas.Bool.{cases_Bool, cases_eq}
use Rattle.rank_select.specs.Counts.{counts_of}
use Rattle.rank_select.specs.RankView.{counted}
use Rattle.id_names.specs.RisingNames.{id_at}
use Rattle.id_names.specs.Views.{ids_of, names_in}
use Rattle.id_names.specs.declared.view.NamesView.{NamesView}
use Rattle.id_names.proofs.NameLaws.{length-ids}
use Rattle.region_tree.proofs.RisingIds.{rising_at}
use Rattle.topo_base.specs.SignedEdge.{edge_of, is_forward}
use Rattle.plane_model.specs.Sets.{rising}
use Rattle.plane_model.specs.PlaneMap.{PlaneMap, signed_edges}
use Rattle.plane_model.specs.Answers.{has_signed_edge}
use Rattle.plane_model.specs.Border.{is_border}
use Rattle.file_laws.specs.Contents.{Contents}
use Rattle.file_laws.specs.Lawful.{is_whole}
use Rattle.navigate.specs.Bound.{map_with}
use Rattle.region_border.specs.Numbered.{signed_number, mark_of, is_fresh_border}
use Rattle.region_border.proofs.MapFacts.{known-listed, many, mark_is}
use Rattle.region_border.proofs.Scanning.{at, has_at}

-- the id that a view of names has at a place is that of the ids in rising order
pub rank_id : (v : NamesView) (ids : List ℕ) (place number id : ℕ) → ids_of v ≡ ids → place < length ids → slice_index (ids_of v) number ≡ id_at (names_in v) place → id ≡ slice_index (ids_of v) number → id ≡ slice_index (rising ids) place
rank_id v ids place number id same l is named =
    let long = ap (λ (xs : List ℕ). length xs) same in
    let rises = rising_at (names_in v) (counts_of (counted v.ids.high)) (counts_of (counted v.inverse.marks)) v.right place (omega (arith, l, long, length-ids (names_in v))) in
    subst (λ (xs : List ℕ). id ≡ slice_index (rising xs) place) same (named ∙ is ∙ sym rises)

-- the edge of an id with a direction
pub directed_edge : (forward : Bool) (id : ℕ) → edge_of (if forward then pos id else neg_ℤ (pos id)) ≡ id
directed_edge true id = refl
directed_edge false zero = refl
directed_edge false (suc id) = refl

-- what fails up to a place and at it fails behind it
pub further : (fails : ℕ → Bool) (from place : ℕ) → ((k : ℕ) → from ≤ k → k < place → fails k ≡ false) → fails place ≡ false → (k : ℕ) → from ≤ k → k < place + 1 → fails k ≡ false
further fails from place before here k a b = elim (cases_eq k place) [
  | inl e ↦ ap fails e ∙ here
  | inr n ↦ before k a (omega (arith, b, n))
]

-- looking at one place more is paid
pub one_scanned : (price from place start now next : ℕ) → from ≤ place → now ≤ start + price * (place - from) → next ≤ now + price → next ≤ start + price * (place + 1 - from)
one_scanned price from place start now next l paid one =
    let more : place + 1 - from ≡ place - from + 1 = omega (arith, l) in
    let all = ap (λ n. price * n) more in
    let sum : price * (place - from + 1) ≡ price * (place - from) + price = omega arith in
    omega (arith, all, sum, paid, one)

pub all_scanned : (price from place end start now : ℕ) → place ≡ end → now ≤ start + price * (place - from) → now ≤ start + price * (end - from)
all_scanned price from place end start now e paid = subst (λ (n : ℕ). now ≤ start + price * (n - from)) e paid

module _ (c : Contents) (h : is_whole c ≡ true) where
  abbrev m : PlaneMap
  m = map_with c

  -- at each place stands a signed edge of the map
  pub known_number : (place : ℕ) → place < 2 * length c.edges → has_signed_edge m (signed_number c place) ≡ true
  unfolding signed_number
  known_number place l =
      let long = many c h in
      known-listed c h (at (signed_edges m) place) ∙ has_at (signed_edges m) place (omega (arith, l, long))

  -- its number among the marks, by the number of its edge
  pub mark_at : (place number mark : ℕ) (d : ℤ) → d ≡ signed_number c place → number < length c.edges → slice_index c.edges number ≡ edge_of d → mark ≡ (if is_forward d then 2 * number else 2 * number + 1) → mark ≡ mark_of c (signed_number c place)
  mark_at place number mark d is l named e = e ∙ sym (mark_is c h d number l named) ∙ ap (mark_of c) is

  pub mark_within : (number mark : ℕ) (d : ℤ) → number < length c.edges → mark ≡ (if is_forward d then 2 * number else 2 * number + 1) → mark < 2 * length c.edges
  mark_within number mark d l e = subst (λ y. y < 2 * length c.edges) (sym e) (elim (cases_Bool (is_forward d)) [ inl t ↦ rw t (omega (arith, l)) | inr f ↦ rw f (omega (arith, l)) ])

  -- a signed edge with a mark, or that is no border edge, is not looked for, and each other is
  pub stale_marked : (region place mark : ℕ) (is_marked : ℕ → Bool) → mark ≡ mark_of c (signed_number c place) → is_marked mark ≡ true → is_fresh_border c region is_marked place ≡ false
  stale_marked region place mark is_marked e on =
      let t : is_marked (mark_of c (signed_number c place)) ≡ true = ap is_marked (sym e) ∙ on in
      rw t refl

  pub stale_inside : (region place : ℕ) (is_marked : ℕ → Bool) → is_border m (slice_index c.regions region) (signed_number c place) ≡ false → is_fresh_border c region is_marked place ≡ false
  stale_inside region place is_marked b = elim (cases_Bool (is_marked (mark_of c (signed_number c place)))) [
    | inl t ↦ rw t refl
    | inr f ↦ rw (f, b) refl
  ]

  pub fresh_there : (region place mark : ℕ) (is_marked : ℕ → Bool) → mark ≡ mark_of c (signed_number c place) → is_marked mark ≡ false → is_border m (slice_index c.regions region) (signed_number c place) ≡ true → is_fresh_border c region is_marked place ≡ true
  fresh_there region place mark is_marked e off b =
      let f : is_marked (mark_of c (signed_number c place)) ≡ false = ap is_marked (sym e) ∙ off in
      rw (f, b) refl
