use Rattle.file_parts.proofs.tests.an_old_island_is_upgraded.Given as goal

abbrev pub ghosts-upgraded_counted : goal.ghosts-upgraded_counted
ghosts-upgraded_counted g a = record { name = a.blank.name; parts = a.blank.parts }
