use Rattle.file_parts.proofs.opened.the_file_of_an_island_is_opened.Given as goal

abbrev pub ghosts-examined_counted : goal.ghosts-examined_counted
ghosts-examined_counted g a = record { name = a.blank.name; parts = a.blank.parts }
