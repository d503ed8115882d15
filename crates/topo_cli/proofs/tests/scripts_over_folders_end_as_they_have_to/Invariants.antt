use Rattle.topo_cli.proofs.tests.scripts_over_folders_end_as_they_have_to.Given as goal

-- the counter's own name and parts
abbrev pub ghosts-first_wrong : goal.ghosts-first_wrong
ghosts-first_wrong g a = record { name = a.blank.name; parts = a.blank.parts }
