use Rattle.rank_select.proofs.tests.six_bits_are_counted_and_found.Given as goal

abbrev pub ghosts-open : goal.ghosts-open
ghosts-open g a = record { name = a.blank.name; parts = a.blank.parts }

abbrev pub ghosts-six_bits : goal.ghosts-six_bits
ghosts-six_bits g a = record { name = a.blank.name; parts = a.blank.parts }
