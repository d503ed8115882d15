use Rattle.topo_serve.proofs.tests.lines_after_bad_ones_are_answered.Given as goal

abbrev pub ghosts-served : goal.ghosts-served
ghosts-served g a = record { name = a.blank.name; parts = a.blank.parts }
