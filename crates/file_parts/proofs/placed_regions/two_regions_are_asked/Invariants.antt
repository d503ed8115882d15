use Rattle.file_parts.proofs.placed_regions.two_regions_are_asked.Given as goal

abbrev pub ghosts-answers : goal.ghosts-answers
ghosts-answers g a = record { name = a.blank.name; parts = a.blank.parts }
