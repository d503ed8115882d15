use Rattle.map_totals.proofs.early_close.no_mark_is_left_after_any_number_of_steps.Given as goal

abbrev pub ghosts-closes_after_each : goal.ghosts-closes_after_each
ghosts-closes_after_each g a = record { name = a.blank.name; parts = a.blank.parts }
