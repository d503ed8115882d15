use Rattle.parens.proofs.tests.the_first_unmatched_place_is_named.Given as goal

abbrev pub ghosts-balance : goal.ghosts-balance
ghosts-balance g a = record { name = a.blank.name; parts = a.blank.parts }
