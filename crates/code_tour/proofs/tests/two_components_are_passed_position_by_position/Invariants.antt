use Rattle.code_tour.proofs.tests.two_components_are_passed_position_by_position.Given as goal

abbrev pub ghosts-gives : goal.ghosts-gives
ghosts-gives g a = record { name = a.blank.name; parts = a.blank.parts }
