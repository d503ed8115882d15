use Rattle.pemb_file.specs.Served.{contents_of_view}
use Rattle.file_laws.proofs.Whole.{whole_parts}
use Rattle.file_laws.proofs.RegionNumbers.{region_opens}
use Rattle.pemb_file.proofs.served.Served.regions.Goals as goal

pub new-requires-clause-count : goal.new-requires-clause-count
new-requires-clause-count c = let v = c.args.self.now in region_opens (contents_of_view v) (whole_parts (contents_of_view v) v.whole)

pub new-requires-clause-fit : goal.new-requires-clause-fit
new-requires-clause-fit c k l = let v = c.args.self.now in (whole_parts (contents_of_view v) v.whole).members k
