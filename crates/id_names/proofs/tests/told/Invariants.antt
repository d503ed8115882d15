use Rattle.id_names.proofs.tests.told.Given as goal

abbrev pub ghosts-open : goal.ghosts-open
ghosts-open a = record { name = a.blank.name; parts = a.blank.parts }
