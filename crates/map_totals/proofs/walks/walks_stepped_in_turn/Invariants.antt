use Rattle.map_totals.proofs.walks.walks_stepped_in_turn.Given as goal

abbrev pub ghosts-stepped_in_turn : goal.ghosts-stepped_in_turn
ghosts-stepped_in_turn g a = record { name = a.blank.name; parts = a.blank.parts }
