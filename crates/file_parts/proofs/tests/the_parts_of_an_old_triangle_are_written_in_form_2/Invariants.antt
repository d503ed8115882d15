use Rattle.file_parts.proofs.tests.the_parts_of_an_old_triangle_are_written_in_form_2.Given as goal

abbrev pub ghosts-rewritten_counted : goal.ghosts-rewritten_counted
ghosts-rewritten_counted g a = record { name = a.blank.name; parts = a.blank.parts }
