-- The lists of the map by positions.
use Rattle.std.specs.Prelude.{ℤ, map, filter, slice_index, option_map, find, not, if◌then◌else◌, ◌==◌}
use Rattle.std.proofs.Common.{◌≡◌, ℕ, ◌<◌, ◌≤◌, inl, inr, Bool, true, false, List, [], ◌∷◌, length, refl, ap, sym, ◌∙◌, arith, subst, Some}
use Rattle.std.proofs.lemmas.Bool.{cases_Bool, eqb-true, or_left, or_right, or_cases}
use Rattle.orbits.proofs.Lists.{same_tests, from_filter}
use Rattle.topo_base.specs.SignedEdge.{comes_before, reverse}
use Rattle.plane_model.specs.Sets.{has_edge}
use Rattle.plane_model.specs.PlaneMap.{PlaneMap, signed_edges, smallest, origin, side, next as next_edge, leaving, ring, round}
use Rattle.plane_model.specs.Lists.{node_edges, round_from_first}
use Rattle.plane_model.specs.Orders.{is_rising_edges}
use Rattle.plane_model.proofs.SetLaws.{same_edges, same_self}
use Rattle.plane_model.proofs.SortedEdges.{smallest_found, smallest_least, smallest-same, rising_filter}
use Rattle.plane_model.proofs.NodeRounds.{round_leaves}
use Rattle.plane_model.proofs.RotationOrbits.{turn_permutes}
use Rattle.code_laws.specs.Code.{mate, next, step}
use Rattle.code_laws.specs.Numbers.{node_of, node_count}
use Rattle.code_laws.specs.Orbits.{orbit}
use Rattle.code_laws.proofs.Edges.{laws}
use Rattle.code_laws.proofs.Selects.{node_within}
use Rattle.file_laws.specs.Contents.{Contents}
use Rattle.file_laws.specs.MapOfFile.{signed_at, node_at, face_at, joined_count, rows_of_contents}
use Rattle.file_laws.specs.Agreement.{Agrees}
use Rattle.file_laws.specs.Lawful.{is_whole}
use Rattle.file_laws.proofs.Agreement.{agrees, next_mate}
use Rattle.file_laws.proofs.Consistency.{position_of, leaves_head}
use Rattle.file_laws.proofs.Fits.{components_same, node_in}
use Rattle.file_laws.proofs.Whole.{WholeParts, whole_parts}
use Rattle.file_laws.proofs.Orbits.{ring-orbit, round-orbit, round_from}
use Rattle.file_laws.proofs.Rotation.{rotation, signed_rise, at_leaves}
use Rattle.navigate.specs.Bound.{map_with}
use Rattle.navigate.specs.Least.{least, smallest_of, from_smallest}

pub least-smallest : (c : Contents) (p : ℕ) (ps : List ℕ) → signed_at c (least c p ps) ≡ smallest (signed_at c p) (map (signed_at c) ps)
unfolding least smallest
least-smallest c p [] = refl
least-smallest c p (q ∷ qs) =
    let d = signed_at c p in
    let e = signed_at c q in
    elim (cases_Bool (comes_before e d)) [
      | inl w ↦
          ap (λ b. signed_at c (least c (Rattle.std.specs.Prelude.if◌then◌else◌ b q p) qs)) w ∙ least-smallest c q qs
          ∙ sym (ap (λ b. smallest (Rattle.std.specs.Prelude.if◌then◌else◌ b e d) (map (signed_at c) qs)) w)
      | inr o ↦
          ap (λ b. signed_at c (least c (Rattle.std.specs.Prelude.if◌then◌else◌ b q p) qs)) o ∙ least-smallest c p qs
          ∙ sym (ap (λ b. smallest (Rattle.std.specs.Prelude.if◌then◌else◌ b e d) (map (signed_at c) qs)) o)
    ]

-- the first of rising signed edges is the smallest
first_smallest : (d : ℤ) (ds : List ℤ) → is_rising_edges (d ∷ ds) ≡ true → smallest d ds ≡ d
first_smallest d ds rise =
    let found = smallest_found (λ e. true) (d ∷ ds) rise (smallest d ds) (smallest_least d ds) in
    let first : find (λ (e : ℤ). true) (d ∷ ds) ≡ Some d = refl in
    one (sym found ∙ first)
  where
    one : {x y : ℤ} → Some x ≡ Some y → x ≡ y
    one e = cc

none_there : (ds : List ℤ) → ((d : ℤ) → has_edge ds d ≡ true → ⊥) → ds ≡ []
none_there [] h = refl
none_there (d ∷ ds) h = absurd (h d (or_left _ _ (same_self d)))

pub record Leaves (c : Contents) (x : ℕ) (d : ℤ) : Type 0 where
  pub position : ℕ
  pub within : position < length c.code.a
  pub at : signed_at c position ≡ d
  pub node : node_of c.code position ≡ x

module _ (c : Contents) (h : is_whole c ≡ true) where
  abbrev m : PlaneMap
  m = map_with c

  w : WholeParts c
  w = whole_parts c h

  abbrev a : Agrees c m
  a = agrees c w.seen

  pub ring_at : (p : ℕ) (d : ℤ) → p < length c.code.a → signed_at c p ≡ d → map (signed_at c) (orbit c.code false p) ≡ ring m d
  ring_at p d l e = sym (ring-orbit c w p l) ∙ ap (ring m) e

  -- a signed edge that leaves a node is at a position with the node's number
  pub leaves_at : (x : ℕ) → x < length c.nodes → (d : ℤ) → has_edge (leaving m (slice_index c.nodes x)) d ≡ true → Leaves c x d
  unfolding node_at
  leaves_at x l d there =
      let parts = from_filter same_edges (λ d. origin m d == slice_index c.nodes x) (signed_edges m) d there in
      let p = position_of c w.seen d parts.1 in
      let e : node_at c p.0 ≡ slice_index c.nodes x = sym (a.origins p.0 p.1) ∙ ap (origin m) p.2 ∙ eqb-true _ _ parts.0 in
      record { position = p.0; within = p.1; at = p.2; node = w.node_names.distinct (node_of c.code p.0) x (node_in c w p.0 p.1) l e }

  leaving_rise : (n : ℕ) → is_rising_edges (leaving m n) ≡ true
  leaving_rise n = rising_filter (λ d. origin m d == n) (signed_edges m) (signed_rise c w)

  -- the round of a position has the signed edges that leave its node
  same_round : (p : ℕ) (ds : List ℤ) (d : ℤ) → p < length c.code.a → leaving m (node_at c p) ≡ d ∷ ds
      → (x : ℤ) → has_edge (signed_at c p ∷ round m (signed_at c p)) x ≡ has_edge (d ∷ ds) x
  unfolding node_at
  same_round p ds d l e x =
      let n = slice_index c.nodes (node_of c.code p) in
      let own = at_leaves c w p l in
      let there : has_edge (leaving m n) x ≡ has_edge (d ∷ ds) x = ap (λ es. has_edge es x) e in
      same_tests (has_edge (signed_at c p ∷ round m (signed_at c p)) x) (has_edge (leaving m n) x)
      (λ on. elim (or_cases _ (has_edge (round m (signed_at c p)) x) on) [
        | inl is ↦ subst (λ y. has_edge (leaving m n) y ≡ true) (sym (Rattle.plane_model.proofs.SetLaws.same_is x (signed_at c p) is)) own
        | inr more ↦ round_leaves m (leaves_head c w.seen) (turn_permutes (rows_of_contents c) (rotation c w)) n (signed_at c p) x own more
      ])
      (λ on.
      let q = leaves_at (node_of c.code p) (node_in c w p l) x on in
      or_right _ _ (subst (λ y. has_edge (round m (signed_at c p)) y ≡ true) q.at (round_from c w p q.position l q.within (sym q.node))))
      ∙ there

  round_of : (p : ℕ) (es : List ℤ) → p < length c.code.a → smallest_of c true p < length c.code.a → leaving m (node_at c p) ≡ es → from_smallest c true p ≡ round_from_first m es
  round_of p [] l k e =
      let own : has_edge [] (signed_at c p) ≡ true = subst (λ es. has_edge es (signed_at c p) ≡ true) e (at_leaves c w p l) in
      cc
  round_of p (d ∷ ds) l k e =
      let rise : is_rising_edges (d ∷ ds) ≡ true = subst (λ es. is_rising_edges es ≡ true) e (leaving_rise (node_at c p)) in
      let same = smallest-same (signed_at c p) d (round m (signed_at c p)) ds (same_round p ds d l e) in
      let first : signed_at c (smallest_of c true p) ≡ d
      = least-smallest c p (orbit c.code true p) ∙ ap (smallest (signed_at c p)) (sym (round-orbit c w p l)) ∙ same ∙ first_smallest d ds rise in
      sym (round-orbit c w (smallest_of c true p) k) ∙ ap (round m) first

  -- round a node from its smallest signed edge
  pub node_list : (p n : ℕ) → p < length c.code.a → smallest_of c true p < length c.code.a → node_at c p ≡ n → from_smallest c true p ≡ node_edges m n
  node_list p n l k e = round_of p (leaving m (node_at c p)) l k refl ∙ ap (node_edges m) e

  -- none leaves an isolated node
  pub node_alone : (x n : ℕ) → x < length c.nodes → slice_index c.nodes x ≡ n → node_count c.code ≤ x → node_edges m n ≡ []
  node_alone x n l e above =
      let none = none_there (leaving m (slice_index c.nodes x)) (λ d there.
      let p = leaves_at x l d there in
      let b = node_within c.code w.seen.sound p.position p.within in
      absurd (omega (arith, b, p.node, above))) in
      ap (node_edges m) (sym e) ∙ ap (round_from_first m) none

  pub joined : joined_count c ≡ node_count c.code
  joined = let k = components_same c w in let s = w.sizes.nodes in omega (arith, k, s)

  -- steps, ends and sides
  pub next_at : (p : ℕ) (d : ℤ) → p < length c.code.a → signed_at c p ≡ d → signed_at c (next c.code p) ≡ next_edge m d
  next_at p d l e = sym (a.nexts p l) ∙ ap (next_edge m) e

  pub origin_at : (p : ℕ) (d : ℤ) → p < length c.code.a → signed_at c p ≡ d → node_at c p ≡ origin m d
  origin_at p d l e = sym (a.origins p l) ∙ ap (origin m) e

  pub side_at : (p : ℕ) (d : ℤ) → p < length c.code.a → signed_at c p ≡ d → face_at c p ≡ side m d
  side_at p d l e = sym (a.sides p l) ∙ ap (side m) e

  pub reversed_at : (p : ℕ) (d : ℤ) → p < length c.code.a → signed_at c p ≡ d → signed_at c (mate c.code p) ≡ reverse d
  reversed_at p d l e = a.reversed p l ∙ ap reverse e

  -- the edge's two positions, of which the first is the signed edge's own or not
  pub other_at : (first : ℕ) (own : Bool) (d : ℤ) → first < length c.code.a → signed_at c (if own then first else mate c.code first) ≡ d
      → signed_at c (if own then mate c.code first else first) ≡ reverse d
  other_at first true d l e = reversed_at first d l e
  other_at first false d l e =
      let k = laws c.code w.seen.sound first l in
      ap (signed_at c) (sym k.back) ∙ reversed_at (mate c.code first) d k.within e

  -- what follows on the ring of the one that is its own
  pub next_of : (first : ℕ) (own : Bool) (d : ℤ) → first < length c.code.a → signed_at c (if own then first else mate c.code first) ≡ d
      → signed_at c (step c.code (not own) first) ≡ next_edge m d
  next_of first true d l e = next_at first d l e
  next_of first false d l e =
      let k = laws c.code w.seen.sound first l in
      ap (signed_at c) (sym (next_mate c.code first k)) ∙ next_at (mate c.code first) d k.within e
