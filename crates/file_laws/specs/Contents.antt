-- What a file's sections hold, whatever its form. The map that a file stands for is made from this alone.
use Rattle.std.specs.Prelude.{ℕ, Bool, List, length}
use Rattle.code_laws.specs.Code.{Code}

pub record Contents : Type 0 where
  pub code : Code
  -- for each edge number, whether its first position is the forward one
  pub forward : List Bool
  -- the ids of nodes, edges, faces and regions, by number
  pub nodes : List ℕ
  pub edges : List ℕ
  pub faces : List ℕ
  pub regions : List ℕ
  -- for each component the face that contains it: 0 for face 0, and else 1 + the number of the face
  pub places : List ℕ
  -- the components, rising by place and then by the signed edge at their start
  pub place_order : List ℕ
  -- for each isolated node the face that contains it
  pub isolated : List ℕ
  -- regions as parentheses
  pub region_bits : List Bool
  -- for face 0 and each face by number: 0 for no region, and else 1 + the number of its region
  pub members : List ℕ

abbrev pub component_count : Contents → ℕ
component_count c = length c.places

-- contents with these fields
abbrev pub contents_with : Code → List Bool → List ℕ → List ℕ → List ℕ → List ℕ → List ℕ → List ℕ → List ℕ → List Bool → List ℕ → Contents
contents_with code forward nodes edges faces regions places place_order isolated region_bits members =
    record {
      code = code;
      forward = forward;
      nodes = nodes;
      edges = edges;
      faces = faces;
      regions = regions;
      places = places;
      place_order = place_order;
      isolated = isolated;
      region_bits = region_bits;
      members = members;
    }
