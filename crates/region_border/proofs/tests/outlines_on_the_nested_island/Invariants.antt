use Rattle.region_border.proofs.tests.outlines_on_the_nested_island.Given as goal

abbrev pub ghosts-three_walks : goal.ghosts-three_walks
ghosts-three_walks g a = record { name = a.blank.name; parts = a.blank.parts }
