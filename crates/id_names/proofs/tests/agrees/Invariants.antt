use Rattle.id_names.proofs.tests.agrees.Given as goal

abbrev pub ghosts-open : goal.ghosts-open
ghosts-open a = record { name = a.blank.name; parts = a.blank.parts }

abbrev pub ghosts-has_ids : goal.ghosts-has_ids
ghosts-has_ids a = record { name = a.blank.name; parts = a.blank.parts }
