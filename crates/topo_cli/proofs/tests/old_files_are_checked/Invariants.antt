use Rattle.topo_cli.proofs.tests.old_files_are_checked.Given as goal

-- the counter's own name and parts
abbrev pub ghosts-first_wrong_old_file : goal.ghosts-first_wrong_old_file
ghosts-first_wrong_old_file g a = record { name = a.blank.name; parts = a.blank.parts }
