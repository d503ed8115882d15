use Rattle.topo_serve.proofs.tests.pieces_of_each_size_give_the_same_answers.Given as goal

abbrev pub ghosts-served : goal.ghosts-served
ghosts-served g a = record { name = a.blank.name; parts = a.blank.parts }
