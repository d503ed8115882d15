use Rattle.spanning_pair.proofs.ComponentDarts.{from_component, to_component}
use Rattle.spanning_pair.proofs.laws.components_of_signed_edges.Goals as goal

pub returns : goal.returns
returns c = λ r start dart is h k. (to_component r is start dart h, from_component r is start dart h k)
