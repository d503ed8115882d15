use Rattle.rank_select.proofs.tests.the_first_wrong_count_is_named.Given as goal

abbrev pub ghosts-open : goal.ghosts-open
ghosts-open g a = record { name = a.blank.name; parts = a.blank.parts }
