use Rattle.topo_cli.proofs.main.Given as goal

-- the counter's own name and parts
abbrev pub ghosts-run_uncounted : goal.ghosts-run_uncounted
ghosts-run_uncounted a = record { name = a.blank.name; parts = a.blank.parts }
