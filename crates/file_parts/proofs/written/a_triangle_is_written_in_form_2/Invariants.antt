use Rattle.file_parts.proofs.written.a_triangle_is_written_in_form_2.Given as goal

abbrev pub ghosts-edges_of_lawful : goal.ghosts-edges_of_lawful
ghosts-edges_of_lawful g a = record { name = a.blank.name; parts = a.blank.parts }
