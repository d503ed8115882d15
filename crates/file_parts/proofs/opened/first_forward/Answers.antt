use Rattle.std.proofs.Common.{arith}
use Rattle.pemb_file.specs.Served.{contents_of_view}
use Rattle.pemb_file.proofs.MadeCounts.{many}
use Rattle.file_parts.proofs.opened.first_forward.Goals as goal

pub forward-requires : goal.forward-requires
forward-requires g c = let forward = (many (contents_of_view c.args.served) c.code-code.ensures.whole).forward in omega (arith, forward, c.counts.ensures.edges)
