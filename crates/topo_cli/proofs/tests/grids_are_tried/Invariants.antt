use Rattle.topo_cli.proofs.tests.grids_are_tried.Given as goal

-- the counter's own name and parts
abbrev pub ghosts-tries_well : goal.ghosts-tries_well
ghosts-tries_well g a = record { name = a.blank.name; parts = a.blank.parts }
