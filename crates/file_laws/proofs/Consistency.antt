-- Parts of consistency of the map of whole contents.
use Rattle.std.specs.Prelude.{ℤ, slice_index}
use Rattle.std.proofs.Common.{◌≡◌, ℕ, ◌<◌, Bool, true, List, [], ◌∷◌, length, refl, ap, sym, ◌∙◌, arith, subst, ◌==◌, IsTrue}
use Rattle.std.specs.List.{list_all}
use Rattle.std.proofs.lemmas.Bool.{and_from, eq-eqb, or_left, or_right}
use Rattle.plane_model.specs.Sets.{has_edge}
use Rattle.plane_model.specs.PlaneMap.{PlaneMap, map_of, signed_edges, origin, head, side, next as next_edge}
use Rattle.plane_model.specs.Faces.{is_labelled}
use Rattle.code_laws.specs.Code.{mate, next, turn}
use Rattle.code_laws.specs.Numbers.{node_of}
use Rattle.code_laws.proofs.Beside.{next_ring, turn_node}
use Rattle.code_laws.proofs.Edges.{laws}
use Rattle.file_laws.specs.Contents.{Contents}
use Rattle.file_laws.specs.MapOfFile.{signed_at, node_at, face_at, face_at_place, place_of_ring, rows_of_contents}
use Rattle.file_laws.specs.Lawful.{is_whole}
use Rattle.file_laws.proofs.Bridge.{IsSeen}
use Rattle.plane_model.proofs.SetLaws.{same_self}
use Rattle.file_laws.proofs.Lists.{position_in}
use Rattle.file_laws.proofs.Agreement.{whole_seen, agrees, next_mate}

-- what holds of each member holds of all
all-from : (test : ℤ → Bool) (ds : List ℤ) → ((d : ℤ) → has_edge ds d ≡ true → test d ≡ true) → list_all test ds ≡ true
all-from test [] h = refl
all-from test (x ∷ ds) h = and_from _ _ (h x (or_left _ _ (same_self x))) (all-from test ds (λ d m. h d (or_right _ _ m)))

module _ (c : Contents) (w : IsSeen c) where
  abbrev m : PlaneMap
  m = map_of (rows_of_contents c)

  pub position_of : (d : ℤ) → has_edge (signed_edges m) d ≡ true → (p : ℕ) × (p < length c.code.a) × (signed_at c p ≡ d)
  position_of d h = let r = position_in (signed_at c) 0 (length c.code.a) d ((agrees c w).every d h) in (r.0, omega (arith, r.2), r.3)

  -- what holds at each position holds of each signed edge
  pub at_all : (test : ℤ → Bool) → ((p : ℕ) → p < length c.code.a → test (signed_at c p) ≡ true) → list_all test (signed_edges m) ≡ true
  at_all test h = all-from test (signed_edges m) (λ d x. let p = position_of d x in subst (λ y. test y ≡ true) p.2 (h p.0 p.1))

  same_face : (p : ℕ) → p < length c.code.a → face_at c (next c.code p) ≡ face_at c p
  unfolding face_at
  same_face p l = ap (λ r. face_at_place c (place_of_ring c r)) (next_ring c.code w.sound p l).1

  -- all signed edges of a ring have one face on their left
  pub labelled : is_labelled m ≡ true
  labelled =
      at_all (λ d. side m (next_edge m d) == side m d) (λ p l.
      let a = agrees c w in
      let n = next_ring c.code w.sound p l in
      let left : side m (next_edge m (signed_at c p)) ≡ face_at c (next c.code p) = ap (side m) (a.nexts p l) ∙ a.sides (next c.code p) n.0 in
      eq-eqb _ _ (left ∙ same_face p l ∙ sym (a.sides p l)))

  next_turn : (p : ℕ) → p < length c.code.a → next c.code p ≡ turn c.code (mate c.code p)
  next_turn p l =
      let k = laws c.code w.sound p l in
      let q = laws c.code w.sound (mate c.code p) k.within in
      ap (next c.code) (sym k.back) ∙ next_mate c.code (mate c.code p) q

  same_node : (p : ℕ) → p < length c.code.a → node_at c (next c.code p) ≡ node_at c (mate c.code p)
  unfolding node_at
  same_node p l =
      let k = laws c.code w.sound p l in
      ap (λ x. slice_index c.nodes x) (ap (node_of c.code) (next_turn p l) ∙ (turn_node c.code w.sound (mate c.code p) k.within).1)

  -- the next of a signed edge leaves its head
  pub leaves_head : list_all (λ d. origin m (next_edge m d) == head m d) (signed_edges m) ≡ true
  leaves_head =
      at_all (λ d. origin m (next_edge m d) == head m d) (λ p l.
      let a = agrees c w in
      let k = laws c.code w.sound p l in
      let n = next_ring c.code w.sound p l in
      let left : origin m (next_edge m (signed_at c p)) ≡ node_at c (next c.code p) = ap (origin m) (a.nexts p l) ∙ a.origins (next c.code p) n.0 in
      let right : head m (signed_at c p) ≡ node_at c (mate c.code p) = ap (origin m) (sym (a.reversed p l)) ∙ a.origins (mate c.code p) k.within in
      eq-eqb _ _ (left ∙ same_node p l ∙ sym right))

pub whole_labelled : (c : Contents) → IsTrue (is_whole c) → IsTrue (is_labelled (map_of (rows_of_contents c)))
whole_labelled c h = labelled c (whole_seen c h)
