-- Where components are depends on edges and faces alone.
use Rattle.std.proofs.Common.{◌≡◌, ℕ, ℤ, Bool, true, not, ◌||◌, ◌&&◌, ◌==◌, ◌+◌, List, [], ◌∷◌, map, length, refl, sym, ap, ◌∙◌, subst, inl, inr, None}
use Rattle.std.specs.Prelude.{find, option_map, is_none}
use Rattle.std.specs.List.{list_any, list_all}
use Rattle.std.proofs.lemmas.Bool.{and_parts, cases_Bool}
use Rattle.topo_base.specs.SignedEdge.{edge_of}
use Rattle.topo_base.specs.declared.refusal.Refusal.TheVariants as refusal
use Rattle.plane_model.specs.declared.rows.NodeRow.{NodeRow}
use Rattle.plane_model.specs.declared.rows.EdgeRow.{EdgeRow}
use Rattle.plane_model.specs.declared.rows.FaceRow.{FaceRow}
use Rattle.plane_model.specs.Rows.{Rows}
use Rattle.plane_model.specs.Sets.{has_edge, is_distinct, or_else}
use Rattle.plane_model.specs.PlaneMap.{map_of, signed_edges, side, rings}
use Rattle.plane_model.specs.Rotation.{is_face, is_face_or_none, node_face, is_rotation, is_rotation_system, has_faces}
use Rattle.plane_model.specs.Component.{component, components}
use Rattle.plane_model.specs.Faces.{is_reached, is_on_ring, is_placed, outer_rings}
use Rattle.plane_model.specs.Faults.{unless, unplaced, bare_face, face_cycle, placement_fault}
use Rattle.plane_model.proofs.Alone.{signed-alone, rings-alone, component-alone, components-alone, outer-alone}
use Rattle.plane_model.proofs.AllFaults.{none-placement_fault}
use Rattle.rotation_check.specs.Darts.{RotationRows, rotation_rows}
use Rattle.islands.specs.Placed.{AreFacesOf, map_with_faces, rows_with_faces}

any-ext : (p q : ℤ → Bool) → ((x : ℤ) → p x ≡ q x) → (xs : List ℤ) → list_any p xs ≡ list_any q xs
any-ext p q same [] = refl
any-ext p q same (x ∷ xs) = ap (λ b. b || list_any p xs) (same x) ∙ ap (λ b. q x || b) (any-ext p q same xs)

find-ext : {X : Type 0} (p q : X → Bool) → ((x : X) → p x ≡ q x) → (xs : List X) → find p xs ≡ find q xs
find-ext p q same [] = refl
find-ext p q same (x ∷ xs) = elim (cases_Bool (q x)) [ inl e ↦ rw (same x ∙ e, e) refl | inr e ↦ rw (same x ∙ e, e) (find-ext p q same xs) ]

-- the map of a rotation and a face table, and that of all tables
module _ (t : Rows) where
  same_signed : signed_edges (map_with_faces (rotation_rows t) t.faces) ≡ signed_edges (map_of t)
  same_signed = sym (signed-alone (rows_with_faces (rotation_rows t) t.faces)) ∙ signed-alone t

  same_rings : rings (map_with_faces (rotation_rows t) t.faces) ≡ rings (map_of t)
  same_rings = sym (rings-alone (rows_with_faces (rotation_rows t) t.faces)) ∙ rings-alone t

  same_component : (d : ℤ) → component (map_with_faces (rotation_rows t) t.faces) d ≡ component (map_of t) d
  same_component d = sym (component-alone (rows_with_faces (rotation_rows t) t.faces) d) ∙ component-alone t d

  same_components : components (map_with_faces (rotation_rows t) t.faces) ≡ components (map_of t)
  same_components = sym (components-alone (rows_with_faces (rotation_rows t) t.faces)) ∙ components-alone t

  pub same_outer : outer_rings (map_with_faces (rotation_rows t) t.faces) ≡ outer_rings (map_of t)
  same_outer = sym (outer-alone (rows_with_faces (rotation_rows t) t.faces)) ∙ outer-alone t

  same_reached : (d : ℤ) → is_reached (map_with_faces (rotation_rows t) t.faces) d ≡ is_reached (map_of t) d
  same_reached d =
      let m = map_with_faces (rotation_rows t) t.faces in
      any-ext (λ r. has_edge (component m r) d) (λ r. has_edge (component (map_of t) r) d) (λ r. ap (λ ds. has_edge ds d) (same_component r)) (outer_rings m) ∙ ap (list_any (λ r. has_edge (component (map_of t) r) d)) same_outer

  same_on_ring : (f : ℕ) → is_on_ring (map_with_faces (rotation_rows t) t.faces) f ≡ is_on_ring (map_of t) f
  same_on_ring f = ap (list_any (λ d. side (map_of t) d == f)) same_signed

  same_unplaced : unplaced (map_with_faces (rotation_rows t) t.faces) ≡ unplaced (map_of t)
  same_unplaced =
      let m = map_with_faces (rotation_rows t) t.faces in
      ap (option_map (λ d. refusal.Unplaced (edge_of d)))
      (find-ext (λ d. not (is_reached m d)) (λ d. not (is_reached (map_of t) d)) (λ d. ap not (same_reached d)) (components m) ∙ ap (find (λ d. not (is_reached (map_of t) d))) same_components)

  same_bare : bare_face (map_with_faces (rotation_rows t) t.faces) ≡ bare_face (map_of t)
  same_bare =
      let m = map_with_faces (rotation_rows t) t.faces in
      ap (option_map refusal.BareFace) (find-ext (λ f. not (is_on_ring m f)) (λ f. not (is_on_ring (map_of t) f)) (λ f. ap not (same_on_ring f)) m.faces)

  same_cycle : face_cycle (map_with_faces (rotation_rows t) t.faces) ≡ face_cycle (map_of t)
  same_cycle =
      let m = map_of t in
      let k = components (map_with_faces (rotation_rows t) t.faces) in
      ap (λ rs. unless (length rs == length m.faces + length k) (refusal.FaceCycle (length rs) (length m.faces + 1) (length k))) same_rings
      ∙ ap (λ cs. unless (length (rings m) == length m.faces + length cs) (refusal.FaceCycle (length (rings m)) (length m.faces + 1) (length cs))) same_components

  pub same_fault : placement_fault (map_with_faces (rotation_rows t) t.faces) ≡ placement_fault (map_of t)
  same_fault =
      let m = map_with_faces (rotation_rows t) t.faces in
      ap (λ o. or_else o (or_else (bare_face m) (or_else (face_cycle m) None))) same_unplaced
      ∙ ap (λ o. or_else (unplaced (map_of t)) (or_else o (or_else (face_cycle m) None))) same_bare
      ∙ ap (λ o. or_else (unplaced (map_of t)) (or_else (bare_face (map_of t)) (or_else o None))) same_cycle

  pub same_placed : is_placed (map_with_faces (rotation_rows t) t.faces) ≡ is_placed (map_of t)
  same_placed = sym (none-placement_fault (map_with_faces (rotation_rows t) t.faces)) ∙ ap is_none same_fault ∙ none-placement_fault (map_of t)

  pub faces_of_system : is_rotation_system t ≡ true → AreFacesOf (rotation_rows t) t.faces
  faces_of_system system =
      let m = map_of t in
      let sides : Bool = list_all (λ d. is_face m (side m d)) (signed_edges m) in
      let inside : Bool = list_all (λ n. is_face_or_none m (node_face m n)) m.nodes.keys in
      let nodes : Bool = is_distinct (map (λ r. r.id) t.nodes) in
      let edges : Bool = is_distinct (map (λ r. r.id) t.edges) in
      let faces : Bool = is_distinct (map (λ r. r.id) t.faces) in
      let all = and_parts ((nodes && edges && faces) && is_rotation m) (has_faces m) system in
      let ids = (and_parts (nodes && edges && faces) (is_rotation m) all.0).0 in
      record {
        distinct = (and_parts (nodes && edges) faces ids).1;
        there = subst (λ ds. list_all (λ d. is_face m (side m d)) ds ≡ true) (sym same_signed) (and_parts sides inside all.1).0;
      }

-- what `check` says of a rotation is what is asked of its faces
pub faces_of_checked : (r : RotationRows) (faces : List FaceRow) (t : Rows) → is_rotation_system t ≡ true → r.nodes ≡ t.nodes → r.edges ≡ t.edges → faces ≡ t.faces → AreFacesOf r faces
faces_of_checked r faces t system nodes edges same =
    subst (λ (fs : List FaceRow). AreFacesOf r fs) (sym same)
    (subst (λ (ns : List NodeRow). AreFacesOf (record { nodes = ns; edges = r.edges }) t.faces) (sym nodes) (subst (λ (es : List EdgeRow). AreFacesOf (record { nodes = t.nodes; edges = es }) t.faces) (sym edges) (faces_of_system t system)))
