use Rattle.std.proofs.Common.{arith}
use Rattle.pemb_file.specs.Served.{contents_of_view}
use Rattle.pemb_file.proofs.MadeCounts.{many}
use Rattle.file_parts.proofs.opened.first_places.Goals as goal

pub place_order-requires : goal.place_order-requires
place_order-requires g c = let orders = (many (contents_of_view c.args.served) c.code-code.ensures.whole).orders in omega (arith, orders, c.counts.ensures.components)
