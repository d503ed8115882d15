-- What stands at a position.
use Rattle.std.specs.Prelude.{ℕ, ◌≡◌}
use Rattle.code_laws.specs.Code.{Code, component_of, is_first, is_tree}
use Rattle.code_laws.specs.Numbers.{edge_of, node_of, ring_of}
use Rattle.code_laws.specs.Tour.{ring_code}
use Rattle.code_tour.specs.declared.passed.Passed.{Passed}

-- these are the numbers at the position
pub record IsPassed (c : Code) (p : ℕ) (passed : Passed) : Type 0 where
  pub edge : passed.edge ≡ edge_of c p
  pub node : passed.node ≡ node_of c p
  pub ring : passed.ring ≡ ring_code (ring_of c p)
  pub component : passed.component ≡ component_of c p
  pub first : passed.first ≡ is_first c p
  pub tree : passed.tree ≡ is_tree c p
