use Rattle.file_laws.proofs.Lengths.{no_faults}
use Rattle.pemb_file.proofs.opening.open_lawful.Goals as goal

pub open_unchecked-requires : goal.open_unchecked-requires
open_unchecked-requires g c =
    let n = no_faults c.args.bytes.now c.requires.lawful in
    record { right = record { front = n.front; counts = n.counts; content = n.content } }
