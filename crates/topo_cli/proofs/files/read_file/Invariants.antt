use Rattle.std.proofs.Common.{◌≡◌, ◌≤◌, ◌-◌, vec_len, length}
use Rattle.topo_cli.specs.Files.{IsFront}
use Rattle.topo_cli.proofs.files.read_file.Given as goal

abbrev pub invariant-loop-buffer : goal.invariant-loop-buffer
invariant-loop-buffer g l =
    record {
      front : IsFront (g.H.Shelf.files l.fn.shelf) l.name l.bytes.items;
      kept : g.H.Shelf.files l.shelf ≡ g.H.Shelf.files l.fn.shelf;
      faults : g.H.Shelf.faults l.fn.shelf ≤ g.H.Shelf.faults l.shelf;
      misses : g.H.Shelf.misses l.fn.shelf ≤ g.H.Shelf.misses l.shelf;
      write_faults : g.H.Shelf.write_faults l.shelf ≡ g.H.Shelf.write_faults l.fn.shelf;
      bound : vec_len l.bytes ≤ 1_073_807_360;
      same : vec_len l.bytes ≡ length l.bytes.items;
    }

abbrev pub decreases-loop-buffer : goal.decreases-loop-buffer
decreases-loop-buffer g l = 1_073_741_825 - vec_len l.bytes
