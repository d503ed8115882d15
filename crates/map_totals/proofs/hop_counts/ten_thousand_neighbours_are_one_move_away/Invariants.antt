use Rattle.map_totals.proofs.hop_counts.ten_thousand_neighbours_are_one_move_away.Given as goal

abbrev pub ghosts-moves_over_holes : goal.ghosts-moves_over_holes
ghosts-moves_over_holes g a = record { name = a.blank.name; parts = a.blank.parts }
