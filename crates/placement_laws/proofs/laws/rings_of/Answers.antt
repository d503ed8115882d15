use Rattle.plane_model.specs.PlaneMap.{map_of, smallest, ring}
use Rattle.placement_laws.proofs.Parts.{parts_of, ring_alike, ring_name-there, ring_name-on, ring_name-same, ring_within, ring_side, ring_component, rings-one, rings-apart}
use Rattle.placement_laws.proofs.laws.rings_of.Goals as goal

pub returns-clause-named : goal.returns-clause-named
returns-clause-named c = λ t d h k.
    let g = parts_of t h in
    let on = ring_name-on (map_of t) g d k in
    (ring_name-there (map_of t) g d k, on, ring_component (map_of t) g d (smallest d (ring (map_of t) d)) k on, ring_side (map_of t) g d (smallest d (ring (map_of t) d)) k on)

pub returns-clause-one_name : goal.returns-clause-one_name
returns-clause-one_name c = λ t d e h k on.
    let g = parts_of t h in
    (ring_within (map_of t) g d e k on, ring_name-same (map_of t) g d e k on, ring_side (map_of t) g d e k on, ring_component (map_of t) g d e k on)

pub returns-clause-alike : goal.returns-clause-alike
returns-clause-alike c = λ t d e h k l. ring_alike (map_of t) (parts_of t h) d e k l

pub returns-clause-differ : goal.returns-clause-differ
returns-clause-differ c = λ t r q h k l on. rings-one (map_of t) (parts_of t h) r q k l on

pub returns-clause-apart : goal.returns-clause-apart
returns-clause-apart c = λ t h. rings-apart (map_of t) (parts_of t h)
