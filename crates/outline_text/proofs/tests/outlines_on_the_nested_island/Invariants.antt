use Rattle.outline_text.proofs.tests.outlines_on_the_nested_island.Given as goal

abbrev pub ghosts-are_told : goal.ghosts-are_told
ghosts-are_told g a = record { name = a.blank.name; parts = a.blank.parts }
