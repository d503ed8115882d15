use Rattle.topo_cli.proofs.tests.builds_end_as_they_have_to.Given as goal

-- the counter's own name and parts
abbrev pub ghosts-first_wrong_build : goal.ghosts-first_wrong_build
ghosts-first_wrong_build g a = record { name = a.blank.name; parts = a.blank.parts }
