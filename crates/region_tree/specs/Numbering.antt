-- Regions by number that give a map's regions and members back.
use Rattle.std.specs.Prelude.{ℕ, ◌≡◌, ◌+◌, ◌*◌, ◌<◌, ◌==◌, Bool, true, List, length, map, find, slice_get, slice_index, Option, Some, option_map, IsTrue}
use Rattle.bit_words.specs.Bits.{rank}
use Rattle.parens.specs.Matching.{is_balanced}
use Rattle.plane_model.specs.Sets.{has}
use Rattle.plane_model.specs.PlaneMap.{PlaneMap}
use Rattle.plane_model.specs.Regions.{parent}
use Rattle.id_names.specs.Names.{AreDistinctIds}
use Rattle.topo_base.specs.declared.id.TheConstants.{LARGEST_ID}
use Rattle.region_tree.specs.Nesting.{parent_number}
use Rattle.region_tree.specs.declared.parts.MemberPlace.{MemberPlace}

-- each region of the map has one number, and its parent is the region of the innermost pair round it
pub record RegionsAreNumbered (m : PlaneMap) (bits : List Bool) (ids : List ℕ) : Type 0 where
  pub balanced : IsTrue (is_balanced bits 0 (length bits))
  pub places : length bits ≡ 2 * length ids
  pub opens : rank true bits (length bits) ≡ length ids
  pub names : AreDistinctIds (LARGEST_ID + 1) ids
  pub many : length ids ≡ length m.regions.keys
  pub regions : (r : ℕ) → has ids r ≡ has m.regions.keys r
  pub parents : (x : ℕ) → x < length ids → parent m (slice_index ids x) ≡ option_map (slice_index ids) (parent_number bits x)

-- each member of the map is there once, rising by face, with the number of its region
pub record AreMembers (m : PlaneMap) (ids : List ℕ) (members : List MemberPlace) : Type 0 where
  pub faces : map (λ p. p.face) members ≡ m.members.keys
  pub within : (k : ℕ) (p : MemberPlace) → slice_get members k ≡ Some p → p.region < length ids
  pub regions : (f : ℕ) → m.members.at f ≡ option_map (λ p. slice_index ids p.region) (find (λ p. p.face == f) members)
