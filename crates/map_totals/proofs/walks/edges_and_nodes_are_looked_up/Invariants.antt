use Rattle.map_totals.proofs.walks.edges_and_nodes_are_looked_up.Given as goal

abbrev pub ghosts-look_ups : goal.ghosts-look_ups
ghosts-look_ups g a = record { name = a.blank.name; parts = a.blank.parts }
