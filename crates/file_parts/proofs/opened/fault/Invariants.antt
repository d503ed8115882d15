use Rattle.file_parts.proofs.opened.fault.Given as goal

abbrev pub ghosts-fault_counted : goal.ghosts-fault_counted
ghosts-fault_counted a = record { name = a.blank.name; parts = a.blank.parts }
