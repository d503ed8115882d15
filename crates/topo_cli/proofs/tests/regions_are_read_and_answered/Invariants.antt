use Rattle.topo_cli.proofs.tests.regions_are_read_and_answered.Given as goal

-- the counter's own name and parts
abbrev pub ghosts-first_wrong_region : goal.ghosts-first_wrong_region
ghosts-first_wrong_region g a = record { name = a.blank.name; parts = a.blank.parts }
