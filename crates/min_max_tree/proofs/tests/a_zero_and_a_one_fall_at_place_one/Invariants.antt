use Rattle.min_max_tree.proofs.tests.a_zero_and_a_one_fall_at_place_one.Given as goal

abbrev pub ghosts-falls_of_two : goal.ghosts-falls_of_two
ghosts-falls_of_two g a = record { name = a.blank.name; parts = a.blank.parts }
