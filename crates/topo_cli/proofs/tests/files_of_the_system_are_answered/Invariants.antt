use Rattle.topo_cli.proofs.tests.files_of_the_system_are_answered.Given as goal

-- the counter's own name and parts
abbrev pub ghosts-answers_from_files : goal.ghosts-answers_from_files
ghosts-answers_from_files g a = record { name = a.blank.name; parts = a.blank.parts }
