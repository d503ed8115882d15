use Rattle.id_names.proofs.tests.need_no_walks.Given as goal

abbrev pub ghosts-open : goal.ghosts-open
ghosts-open a = record { name = a.blank.name; parts = a.blank.parts }

abbrev pub ghosts-is_counted : goal.ghosts-is_counted
ghosts-is_counted a = record { name = a.blank.name; parts = a.blank.parts }
