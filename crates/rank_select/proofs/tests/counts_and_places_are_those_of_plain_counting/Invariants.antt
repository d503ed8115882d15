use Rattle.rank_select.proofs.tests.counts_and_places_are_those_of_plain_counting.Given as goal

abbrev pub ghosts-open : goal.ghosts-open
ghosts-open g a = record { name = a.blank.name; parts = a.blank.parts }

abbrev pub ghosts-agrees : goal.ghosts-agrees
ghosts-agrees g a = record { name = a.blank.name; parts = a.blank.parts }
