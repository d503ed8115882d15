use Rattle.map_totals.proofs.walks.regions_are_walked_up_and_shared.Given as goal

abbrev pub ghosts-regions_up : goal.ghosts-regions_up
ghosts-regions_up g a = record { name = a.blank.name; parts = a.blank.parts }

abbrev pub ghosts-shared : goal.ghosts-shared
ghosts-shared g a = record { name = a.blank.name; parts = a.blank.parts }
