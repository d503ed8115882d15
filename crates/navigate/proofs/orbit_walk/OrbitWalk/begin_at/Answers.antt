use Rattle.std.proofs.Common.{ap, ◌∙◌, length}
use Rattle.code_laws.specs.Code.{Code, step}
use Rattle.code_laws.specs.Orbits.{walk}
use Rattle.navigate.specs.OrbitWalk.{contents_in, edge_names, positions_left}
use Rattle.navigate.proofs.orbit_walk.OrbitWalk.begin_at.Goals as goal

pub invariant_of-self : goal.invariant_of-self
invariant_of-self c = let w = c.args.self.now in record { within = λ _. c.requires; ids = w.ids; right = c.turn_to.ensures (edge_names w) (contents_in w) w.kind w.right }

pub returns-clause-positions : goal.returns-clause-positions
unfolding positions_left
returns-clause-positions c =
    let w = c.args.self.now in
    let code = (contents_in w).code in
    ap (λ n. walk n (step code w.kind) c.args.p c.args.p) (c.len-self.ensures.len ∙ ap (λ (k : Code). length k.a) c.code.ensures.code)
