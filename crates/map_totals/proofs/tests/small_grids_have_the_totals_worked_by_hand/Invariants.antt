use Rattle.map_totals.proofs.tests.small_grids_have_the_totals_worked_by_hand.Given as goal

abbrev pub ghosts-totals_twice : goal.ghosts-totals_twice
ghosts-totals_twice g a = record { name = a.blank.name; parts = a.blank.parts }
