use Rattle.map_build.proofs.tests.a_grid_of_a_hundred_thousand_edges_builds_and_opens.Given as goal

abbrev pub ghosts-counts_counted : goal.ghosts-counts_counted
ghosts-counts_counted g a = record { name = a.blank.name; parts = a.blank.parts }
