use Rattle.map_totals.proofs.many_holes.ten_thousand_holes_come_by_their_edges.Given as goal

abbrev pub ghosts-has_ten_thousand_holes : goal.ghosts-has_ten_thousand_holes
ghosts-has_ten_thousand_holes g a = record { name = a.blank.name; parts = a.blank.parts }
