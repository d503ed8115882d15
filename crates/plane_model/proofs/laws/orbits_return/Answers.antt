use Rattle.orbits.proofs.Orbits.{orbit_returns}
use Rattle.plane_model.proofs.SetLaws.{same_edges}
use Rattle.plane_model.proofs.laws.orbits_return.Goals as goal

pub returns : goal.returns
returns c = orbit_returns same_edges
