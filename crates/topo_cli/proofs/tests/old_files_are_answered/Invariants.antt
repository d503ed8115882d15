use Rattle.topo_cli.proofs.tests.old_files_are_answered.Given as goal

-- the counter's own name and parts
abbrev pub ghosts-answers_old_isle : goal.ghosts-answers_old_isle
ghosts-answers_old_isle g a = record { name = a.blank.name; parts = a.blank.parts }
