use Rattle.topo_cli.proofs.tests.many_regions_are_answered.Given as goal

-- the counter's own name and parts
abbrev pub ghosts-answers_many_regions : goal.ghosts-answers_many_regions
ghosts-answers_many_regions g a = record { name = a.blank.name; parts = a.blank.parts }
