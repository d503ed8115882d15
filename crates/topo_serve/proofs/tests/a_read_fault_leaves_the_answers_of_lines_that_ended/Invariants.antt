use Rattle.topo_serve.proofs.tests.a_read_fault_leaves_the_answers_of_lines_that_ended.Given as goal

abbrev pub ghosts-served : goal.ghosts-served
ghosts-served g a = record { name = a.blank.name; parts = a.blank.parts }
