use Rattle.map_totals.proofs.walks.a_triangle_is_an_island_and_a_ring.Given as goal

abbrev pub ghosts-islands : goal.ghosts-islands
ghosts-islands g a = record { name = a.blank.name; parts = a.blank.parts }

abbrev pub ghosts-ring_of_one : goal.ghosts-ring_of_one
ghosts-ring_of_one g a = record { name = a.blank.name; parts = a.blank.parts }
