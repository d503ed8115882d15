use Rattle.std.proofs.Common.{true, false}
use Rattle.code_laws.proofs.Sound.{sound_parts}
use Rattle.code_laws.proofs.Turned.{orbit_on}
use Rattle.code_laws.proofs.Numbered.{ring-beside, beside-ring, node-beside, beside-node, in_orbit, of_orbit}
use Rattle.code_laws.proofs.laws.numbers_are_orbits.Goals as goal

pub returns-clause-orbits : goal.returns-clause-orbits
returns-clause-orbits c = λ code h kind p l. orbit_on code (sound_parts code h) kind p l

pub returns-clause-rings : goal.returns-clause-rings
returns-clause-rings c = λ code h p q l m.
    let s = sound_parts code h in
    (λ e. in_orbit code s false p q l m (ring-beside code s p q l m e), λ k. beside-ring code s p q l m (of_orbit code s false p q l k))

pub returns-clause-nodes : goal.returns-clause-nodes
returns-clause-nodes c = λ code h p q l m.
    let s = sound_parts code h in
    (λ e. in_orbit code s true p q l m (node-beside code s p q l m e), λ k. beside-node code s p q l m (of_orbit code s true p q l k))
