use Rattle.face_hops.proofs.tests.walks_over_the_nested_island.Given as goal

abbrev pub ghosts-walk_between : goal.ghosts-walk_between
ghosts-walk_between g a = record { name = a.blank.name; parts = a.blank.parts }
