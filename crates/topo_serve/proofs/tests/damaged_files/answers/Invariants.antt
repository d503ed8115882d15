use Rattle.topo_serve.proofs.tests.damaged_files.answers.Given as goal

abbrev pub ghosts-served : goal.ghosts-served
ghosts-served a = record { name = a.blank.name; parts = a.blank.parts }
