-- How many of each a file's map has.
use Rattle.std.specs.Prelude.{◌≡◌, length}
use Rattle.plane_model.specs.PlaneMap.{PlaneMap}
use Rattle.plane_model.specs.Component.{components}
use Rattle.file_laws.specs.Contents.{Contents, component_count}

-- a map has as many of each as these contents
pub record HasCounts (c : Contents) (m : PlaneMap) : Type 0 where
  pub nodes : length m.nodes.keys ≡ length c.nodes
  pub edges : length m.edges.keys ≡ length c.edges
  pub faces : length m.faces ≡ length c.faces
  pub components : length (components m) ≡ component_count c
  pub regions : length m.regions.keys ≡ length c.regions
