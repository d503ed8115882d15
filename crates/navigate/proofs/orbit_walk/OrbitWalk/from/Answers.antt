use Rattle.std.proofs.Common.{ap, ◌∙◌, length}
use Rattle.code_laws.specs.Code.{Code, step}
use Rattle.code_laws.specs.Orbits.{walk}
use Rattle.id_names.specs.Views.{names_in}
use Rattle.pemb_file.specs.Served.{contents_of_view}
use Rattle.navigate.specs.OrbitWalk.{positions_left}
use Rattle.navigate.proofs.orbit_walk.OrbitWalk.from.Goals as goal

pub invariant_of-result : goal.invariant_of-result
invariant_of-result c = record { within = λ _. c.requires; ids = c.edges.ensures; right = c.none.ensures (names_in c.edges.result.now) (contents_of_view c.args.served) c.args.kind }

pub returns-clause-positions : goal.returns-clause-positions
unfolding positions_left
returns-clause-positions c =
    let code = (contents_of_view c.args.served).code in
    ap (λ n. walk n (step code c.args.kind) c.args.p c.args.p) (c.len.ensures.len ∙ ap (λ (k : Code). length k.a) c.code.ensures.code)
