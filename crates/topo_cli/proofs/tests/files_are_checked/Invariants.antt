use Rattle.topo_cli.proofs.tests.files_are_checked.Given as goal

-- the counter's own name and parts
abbrev pub ghosts-first_wrong_file : goal.ghosts-first_wrong_file
ghosts-first_wrong_file g a = record { name = a.blank.name; parts = a.blank.parts }
