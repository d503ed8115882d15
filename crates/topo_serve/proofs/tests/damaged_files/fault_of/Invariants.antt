use Rattle.topo_serve.proofs.tests.damaged_files.fault_of.Given as goal

abbrev pub ghosts-fault_counted : goal.ghosts-fault_counted
ghosts-fault_counted a = record { name = a.blank.name; parts = a.blank.parts }
