use Rattle.topo_serve.proofs.tests.a_file_of_form_1_gives_the_same_answers.Given as goal

abbrev pub ghosts-served : goal.ghosts-served
ghosts-served g a = record { name = a.blank.name; parts = a.blank.parts }
