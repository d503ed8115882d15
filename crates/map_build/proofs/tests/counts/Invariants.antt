use Rattle.map_build.proofs.tests.counts.Given as goal

abbrev pub ghosts-counts_counted : goal.ghosts-counts_counted
ghosts-counts_counted a = record { name = a.blank.name; parts = a.blank.parts }
