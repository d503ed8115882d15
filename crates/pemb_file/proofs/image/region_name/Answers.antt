use Rattle.std.proofs.Common.{ap, ◌∙◌, Some}
use Rattle.file_laws.specs.Faults.{told_in}
use Rattle.file_laws.specs.declared.fault.FileFault.TheVariants as fault
use Rattle.pemb_file.proofs.Wrong.{ok-map, err-map}
use Rattle.pemb_file.proofs.image.region_name.Goals as goal

pub returns-in-Ok : goal.returns-in-Ok
returns-in-Ok c o h = ok-map (told_in fault.RegionPart c.args.number) o c.args.found _ c.in-Ok.is h

pub returns-in-Err : goal.returns-in-Err
returns-in-Err c o h = err-map (told_in fault.RegionPart c.args.number) o c.args.found _ c.in-Err.is h ∙ ap Some (c.told_in-section.ensures fault.RegionPart)
