use Rattle.topo_cli.proofs.tests.long_cycle.a_ring_of_a_million_edges_is_answered.Given as goal

-- the counter's own name and parts
abbrev pub ghosts-answers_ring : goal.ghosts-answers_ring
ghosts-answers_ring g a = record { name = a.blank.name; parts = a.blank.parts }
