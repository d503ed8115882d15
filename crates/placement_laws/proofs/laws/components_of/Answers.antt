use Rattle.plane_model.specs.PlaneMap.{map_of}
use Rattle.placement_laws.proofs.Parts.{parts_of, component_alike, components-rings, component_self, component_name-there, component_name-in, component_name-same, component_within, component_sym, component_sub, components-apart}
use Rattle.placement_laws.proofs.laws.components_of.Goals as goal

pub returns-clause-holds : goal.returns-clause-holds
returns-clause-holds c = λ t d h k. (component_self (map_of t) d k, component_name-there (map_of t) (parts_of t h) d k, component_name-in (map_of t) d k)

pub returns-clause-same : goal.returns-clause-same
returns-clause-same c = λ t d e h k on.
    let g = parts_of t h in
    (component_within (map_of t) g d e k on, component_sym (map_of t) g d e k on, component_name-same (map_of t) g d e k on)

pub returns-clause-alike : goal.returns-clause-alike
returns-clause-alike c = λ t d e h k l. component_alike (map_of t) (parts_of t h) d e k l

pub returns-clause-name_rings : goal.returns-clause-name_rings
returns-clause-name_rings c = λ t x h k. components-rings (map_of t) (parts_of t h) x k

pub returns-clause-within : goal.returns-clause-within
returns-clause-within c = λ t d e x h k on more. component_sub (map_of t) (parts_of t h) d e x k on more

pub returns-clause-apart : goal.returns-clause-apart
returns-clause-apart c = λ t h. components-apart (map_of t) (parts_of t h)
