use Rattle.turan_code.proofs.tests.a_sound_code_is_told_and_each_fault_is_named.Given as goal

abbrev pub ghosts-told : goal.ghosts-told
ghosts-told g a = record { name = a.blank.name; parts = a.blank.parts }
