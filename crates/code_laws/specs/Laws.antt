-- What the mate of a position has, and what steps have.
use Rattle.std.specs.Prelude.{ℕ, ◌≡◌, ◌≢◌, ◌<◌, Bool, not, length}
use Rattle.code_laws.specs.Code.{Code, is_tree, is_first, mate, component_of, step, step_back}
use Rattle.code_laws.specs.Numbers.{edge_of, enclosing_pair}

-- the mate of a position is the other position of its edge, in the same component
pub record MateLaws (c : Code) (p : ℕ) : Type 0 where
  pub within : mate c p < length c.a
  pub other : mate c p ≢ p
  pub back : mate c (mate c p) ≡ p
  pub kind : is_tree c (mate c p) ≡ is_tree c p
  pub first : is_first c (mate c p) ≡ not (is_first c p)
  pub edge : edge_of c (mate c p) ≡ edge_of c p
  pub component : component_of c (mate c p) ≡ component_of c p

-- a step and a step back undo each other, and stay in the component and at the number
pub record StepLaws (c : Code) (kind : Bool) (p : ℕ) : Type 0 where
  pub within : step c kind p < length c.a
  pub within_back : step_back c kind p < length c.a
  pub back : step_back c kind (step c kind p) ≡ p
  pub forth : step c kind (step_back c kind p) ≡ p
  pub component : component_of c (step c kind p) ≡ component_of c p
  pub number : enclosing_pair c kind (step c kind p) ≡ enclosing_pair c kind p
