use Rattle.topo_cli.proofs.tests.faults_of_the_outside_end_the_run.Given as goal

-- the counter's own name and parts
abbrev pub ghosts-ends_failing : goal.ghosts-ends_failing
ghosts-ends_failing g a = record { name = a.blank.name; parts = a.blank.parts }
