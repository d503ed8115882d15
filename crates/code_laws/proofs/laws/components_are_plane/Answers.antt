use Rattle.std.proofs.Common.{arith}
use Rattle.code_laws.proofs.Sound.{sound_parts}
use Rattle.code_laws.proofs.Counted.{nodes_counted, rings_counted, edges_counted}
use Rattle.code_laws.proofs.laws.components_are_plane.Goals as goal

pub returns-clause-nodes : goal.returns-clause-nodes
returns-clause-nodes c = λ code h j l. nodes_counted code (sound_parts code h) j l

pub returns-clause-rings : goal.returns-clause-rings
returns-clause-rings c = λ code h j l. rings_counted code (sound_parts code h) j l

pub returns-clause-edges : goal.returns-clause-edges
returns-clause-edges c = λ code h j l. edges_counted code (sound_parts code h) j l

pub returns-clause-euler : goal.returns-clause-euler
returns-clause-euler c = λ code h j l.
    let s = sound_parts code h in
    let nodes = nodes_counted code s j l in
    let rings = rings_counted code s j l in
    let edges = edges_counted code s j l in
    omega (arith, nodes, rings, edges)
