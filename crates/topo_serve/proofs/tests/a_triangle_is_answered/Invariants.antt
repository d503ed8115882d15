use Rattle.topo_serve.proofs.tests.a_triangle_is_answered.Given as goal

abbrev pub ghosts-served : goal.ghosts-served
ghosts-served g a = record { name = a.blank.name; parts = a.blank.parts }
