use Rattle.min_max_tree.proofs.tests.excesses_falls_and_least_excesses_are_those_of_plain_counting.Given as goal

abbrev pub ghosts-examined : goal.ghosts-examined
ghosts-examined g a = record { name = a.blank.name; parts = a.blank.parts }
