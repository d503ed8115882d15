use Rattle.spanning_pair.proofs.PlaneTour.{component_nests, nests_exactly_where_plane}
use Rattle.spanning_pair.proofs.laws.nested_where_plane.Goals as goal

pub returns-clause-component : goal.returns-clause-component
returns-clause-component c = λ r start dart tree first from to is h w. component_nests r is start dart tree first from to h w

pub returns-clause-tour : goal.returns-clause-tour
returns-clause-tour c = λ r starts darts tree first places is are t. nests_exactly_where_plane r is starts are darts tree first places t
