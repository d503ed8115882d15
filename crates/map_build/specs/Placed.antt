-- What stands in faces, in the order of rows or of components, and the regions that faces are in.
use Rattle.std.specs.Prelude.{◌≡◌, ℕ, ◌+◌, ◌<◌, ◌⊎◌, ⊤, IsTrue, List, ◌∷◌, ◌++◌, ◌==◌, map, find, length, slice_index, Option, None, Some, option_map, unwrap_or}
use Rattle.std.specs.List.{filter_map, range_with_len}
use Rattle.plane_model.specs.declared.rows.NodeRow.{NodeRow}
use Rattle.plane_model.specs.Sets.{has}
use Rattle.map_build.specs.declared.standing.Standing.{Standing}
use Rattle.std.specs.List.Sorted.{IsPermutation}
use Rattle.plane_model.specs.Rows.{Rows}
use Rattle.map_build.specs.DartRows.{key_of_dart}
use Rattle.file_laws.specs.Contents.{Contents}
use Rattle.region_tree.specs.Parts.{member_places, region_bits, region_ids}
use Rattle.region_tree.specs.declared.parts.MemberPlace.{MemberPlace}
use Rattle.region_tree.specs.declared.parts.RegionParts.{RegionParts}
use Rattle.plane_model.specs.PlaneMap.{map_of}
use Rattle.map_build.specs.Made.{place_of, member_number}
use Rattle.map_build.specs.Tours.{code_of_tour}
use Rattle.spanning_pair.specs.declared.places.Tour.{Tour}
use Rattle.map_build.specs.declared.names.Names.{Names}
use Rattle.map_build.specs.Standing.{AreInOrder}
use Rattle.map_build.specs.declared.building.Placed.{Placed}
use Rattle.map_build.specs.declared.checked.Walked.{Walked}

-- face 0, or a face of these
abbrev pub IsKnown : List ℕ → ℕ → Type 0
IsKnown faces f = (f ≡ 0) ⊎ IsTrue (has faces f)

abbrev pub IsKnownOrNone : List ℕ → Option ℕ → Type 0
IsKnownOrNone faces None = ⊤
IsKnownOrNone faces (Some f) = IsKnown faces f

-- a node in its face
abbrev pub placed_node : List ℕ → NodeRow → Option Standing
placed_node faces n = option_map (λ f. record { place = place_of faces f; key = n.id; component = 0 }) n.face

abbrev pub placed_nodes : List ℕ → List NodeRow → List Standing
placed_nodes faces nodes = filter_map (placed_node faces) nodes

-- a component in its face
abbrev pub placed_component : List ℕ → List ℕ → ℕ → Standing
placed_component places keys j = record { place = slice_index places j; key = slice_index keys j; component = j }

abbrev pub placed_components : List ℕ → List ℕ → List Standing
placed_components places keys = map (placed_component places keys) (range_with_len 0 (length places))

-- all components, by place, and in one place by key
pub record AreOrdered (places keys order : List ℕ) : Type 0 where
  pub all : (j : ℕ) → has order j ≡ has (range_with_len 0 (length places)) j
  pub rises : (i : ℕ) → i + 1 < length order → let j = slice_index order i in let k = slice_index order (i + 1) in
      (slice_index places j < slice_index places k) ⊎ ((slice_index places j ≡ slice_index places k) × (slice_index keys j < slice_index keys k))

-- the keys of components, which grow in the order of signed edges
abbrev pub start_keys : Rows → Walked → List ℕ
start_keys t w = map (key_of_dart t.edges) w.placement.starts

-- the region of a face by its member: 0 where it has none, and else 1 + the region's number
abbrev pub member_region : List MemberPlace → ℕ → ℕ
member_region members f = unwrap_or (option_map (λ p. p.region + 1) (find (λ p. p.face == f) members)) 0

-- the regions of tables by number
pub record AreRegionsOf (t : Rows) (r : RegionParts) : Type 0 where
  pub bits : r.bits.items ≡ region_bits (map_of t)
  pub ids : r.ids.items ≡ region_ids (map_of t)
  pub members : r.members.items ≡ member_places (map_of t)

-- what stands in the faces of a walk of tables, and their regions
pub record ArePlaced (t : Rows) (w : Walked) (faces : List ℕ) (p : Placed) : Type 0 where
  pub places : p.places.items ≡ map (place_of faces) w.placement.faces
  pub order : AreOrdered p.places.items (start_keys t w) p.order.items
  pub isolated : IsPermutation (placed_nodes faces t.nodes) p.isolated.items
  pub isolated_order : AreInOrder p.isolated.items
  pub members : p.members.items ≡ map (member_number (map_of t)) (0 ∷ faces)

-- the contents that hold what a walk comes to, what stands in its faces, and regions
abbrev pub joined_contents : Tour → Names → Placed → RegionParts → Contents
joined_contents tour n p r =
    record {
      code = code_of_tour tour;
      forward = n.forward.items;
      nodes = n.nodes.items ++ map (λ s. s.key) p.isolated.items;
      edges = n.edges.items;
      faces = n.faces.items;
      regions = r.ids.items;
      places = p.places.items;
      place_order = p.order.items;
      isolated = map (λ s. s.place) p.isolated.items;
      region_bits = r.bits.items;
      members = p.members.items;
    }
