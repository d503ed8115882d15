use Rattle.topo_cli.proofs.tests.queries_leave_fronts_of_answers.Given as goal

-- the counter's own name and parts
abbrev pub ghosts-fails_well : goal.ghosts-fails_well
ghosts-fails_well g a = record { name = a.blank.name; parts = a.blank.parts }
