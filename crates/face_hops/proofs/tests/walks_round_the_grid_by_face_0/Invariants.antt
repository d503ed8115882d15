use Rattle.face_hops.proofs.tests.walks_round_the_grid_by_face_0.Given as goal

abbrev pub ghosts-walk_between : goal.ghosts-walk_between
ghosts-walk_between g a = record { name = a.blank.name; parts = a.blank.parts }
