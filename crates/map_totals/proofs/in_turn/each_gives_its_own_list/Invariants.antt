use Rattle.map_totals.proofs.in_turn.each_gives_its_own_list.Given as goal

abbrev pub ghosts-give_their_lists-C-Ledger : goal.ghosts-give_their_lists-C-Ledger
ghosts-give_their_lists-C-Ledger g a = record { name = a.blank.name; parts = a.blank.parts }

abbrev pub ghosts-give_their_lists-D-Ledger : goal.ghosts-give_their_lists-D-Ledger
ghosts-give_their_lists-D-Ledger g a = record { name = a.other.name; parts = a.other.parts }
