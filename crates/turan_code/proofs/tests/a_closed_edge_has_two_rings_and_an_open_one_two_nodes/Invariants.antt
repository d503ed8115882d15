use Rattle.turan_code.proofs.tests.a_closed_edge_has_two_rings_and_an_open_one_two_nodes.Given as goal

abbrev pub ghosts-examined : goal.ghosts-examined
ghosts-examined g a = record { name = a.blank.name; parts = a.blank.parts }
