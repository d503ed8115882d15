use Rattle.min_max_tree.proofs.tests.the_first_wrong_word_is_named.Given as goal

abbrev pub ghosts-examined : goal.ghosts-examined
ghosts-examined g a = record { name = a.blank.name; parts = a.blank.parts }
