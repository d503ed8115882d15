use Rattle.euler_check.proofs.Lengths.{component_lengths, orbit_lengths, ring_lengths}
use Rattle.euler_check.proofs.laws.lengths_sum.Goals as goal

pub returns : goal.returns
returns c = record { orbits = orbit_lengths; rings = ring_lengths; components = component_lengths }
