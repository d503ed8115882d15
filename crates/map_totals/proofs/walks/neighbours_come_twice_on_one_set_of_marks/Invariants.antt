use Rattle.map_totals.proofs.walks.neighbours_come_twice_on_one_set_of_marks.Given as goal

abbrev pub ghosts-neighbours : goal.ghosts-neighbours
ghosts-neighbours g a = record { name = a.blank.name; parts = a.blank.parts }
