use Rattle.map_totals.proofs.tests.a_grid_has_the_totals_of_its_size.Given as goal

abbrev pub ghosts-totals_twice : goal.ghosts-totals_twice
ghosts-totals_twice g a = record { name = a.blank.name; parts = a.blank.parts }
