use Rattle.file_parts.proofs.placed_regions.a_long_chain_and_a_wide_region_are_built_and_asked.Given as goal

abbrev pub ghosts-sampled : goal.ghosts-sampled
ghosts-sampled g a = record { name = a.blank.name; parts = a.blank.parts }
