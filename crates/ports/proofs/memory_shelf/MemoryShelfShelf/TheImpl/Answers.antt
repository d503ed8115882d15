use Rattle.std.proofs.Common.{ap, Some}
use Rattle.ports.specs.MemoryShelf.{shelf_files}
use Rattle.ports.proofs.Results.{held_on_ok, held_extended, on_err_stays, rose_by_one}
use Rattle.ports.proofs.memory_shelf.MemoryShelfShelf.TheImpl.Goals as goal

pub read_at-tells : goal.read_at-tells
read_at-tells g c = record {
  within = c.ensures.within;
  read = c.ensures.read;
  no_fault = c.ensures.no_fault;
  no_miss = c.ensures.no_miss;
  no_write_fault = c.ensures.no_write_fault;
  missing = λ e. let told = c.ensures.missing e in (rose_by_one _ _ told.0, told.1);
  missing_alone = c.ensures.missing_alone;
  failed = λ e. rose_by_one _ _ (c.ensures.failed e);
  failed_alone = c.ensures.failed_alone;
  kept = ap Some c.ensures.kept;
  never_falls = c.ensures.never_falls;
  misses_never_fall = c.ensures.misses_never_fall;
}

pub start-tells : goal.start-tells
start-tells g c = record {
  started = c.ensures.started;
  held = held_on_ok _ _ _ c.ensures.started;
  left = on_err_stays _ _ _ _ c.ensures.kept;
  others = c.ensures.others;
  counted = c.ensures.counted;
  no_fault = c.ensures.no_fault;
  no_miss = c.ensures.no_miss;
}

pub append-tells : goal.append-tells
append-tells g c = record {
  appended = c.ensures.appended;
  held = held_extended _ c.args.name.now c.args.bytes.now (shelf_files c.args.self.now) (shelf_files c.new.self.now) c.ensures.appended;
  prefix = c.ensures.prefix;
  others = c.ensures.others;
  counted = c.ensures.counted;
  no_fault = c.ensures.no_fault;
  no_miss = c.ensures.no_miss;
}
