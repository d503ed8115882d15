use Rattle.map_totals.proofs.tests.a_triangle_has_six_ends_and_two_neighbours.Given as goal

abbrev pub ghosts-totals_twice : goal.ghosts-totals_twice
ghosts-totals_twice g a = record { name = a.blank.name; parts = a.blank.parts }
