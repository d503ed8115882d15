use Rattle.topo_cli.proofs.tests.outlines.outlines_are_told_ring_by_ring.Given as goal

-- the counter's own name and parts
abbrev pub ghosts-all_outlined_well : goal.ghosts-all_outlined_well
ghosts-all_outlined_well g a = record { name = a.blank.name; parts = a.blank.parts }
