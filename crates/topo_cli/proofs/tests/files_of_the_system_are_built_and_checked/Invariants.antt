use Rattle.topo_cli.proofs.tests.files_of_the_system_are_built_and_checked.Given as goal

-- the counter's own name and parts
abbrev pub ghosts-built_and_checked : goal.ghosts-built_and_checked
ghosts-built_and_checked g a = record { name = a.blank.name; parts = a.blank.parts }
