use Rattle.topo_serve.proofs.tests.each_failing_write_leaves_a_front_of_the_answers.Given as goal

abbrev pub ghosts-served : goal.ghosts-served
ghosts-served g a = record { name = a.blank.name; parts = a.blank.parts }
