use Rattle.map_totals.proofs.hop_counts.moves_on_a_grid_go_by_rows_and_columns_or_round_it.Given as goal

abbrev pub ghosts-first_wrong : goal.ghosts-first_wrong
ghosts-first_wrong g a = record { name = a.blank.name; parts = a.blank.parts }
