use Rattle.map_totals.proofs.long_walks.walks_in_turn_over_a_hundred_thousand_edges.Given as goal

abbrev pub ghosts-agree : goal.ghosts-agree
ghosts-agree g a = record { name = a.blank.name; parts = a.blank.parts }
