-- The regions of a map by number: in preorder, roots and children rising by id.
use Rattle.std.specs.Prelude.{ℕ, Bool, List, map, filter, length, is_none, unwrap_or}
use Rattle.bit_words.specs.Lists.{is_at}
use Rattle.id_names.specs.Names.{number_of}
use Rattle.plane_model.specs.PlaneMap.{PlaneMap}
use Rattle.plane_model.specs.Regions.{parent}
use Rattle.region_tree.specs.Preorder.{preorder, brackets}
use Rattle.region_tree.specs.declared.parts.MemberPlace.{MemberPlace}

-- the regions that have no parent, rising
abbrev pub roots : PlaneMap → List ℕ
roots m = filter (λ r. is_none (parent m r)) m.regions.keys

-- the regions whose parent is p, rising
abbrev pub children : PlaneMap → ℕ → List ℕ
children m p = filter (λ r. is_at (parent m r) p) m.regions.keys

-- the ids of the regions, by number
unfoldable pub region_ids : PlaneMap → List ℕ
region_ids m = preorder (length m.regions.keys) (children m) (roots m)

-- the regions as parentheses
unfoldable pub region_bits : PlaneMap → List Bool
region_bits m = brackets (length m.regions.keys) (children m) (roots m)

-- a face and the number of its region
abbrev pub member_place : PlaneMap → ℕ → MemberPlace
member_place m f = record { face = f; region = unwrap_or (number_of (region_ids m) (unwrap_or (m.members.at f) 0)) 0 }

-- the faces in regions, rising
unfoldable pub member_places : PlaneMap → List MemberPlace
member_places m = map (member_place m) m.members.keys
