use Rattle.std.proofs.Common.{refl}
use Rattle.ports.proofs.Results.{ok_of_all, on_ok_always, on_err_always, rose_by_one}
use Rattle.ports.proofs.file_shelf.FileShelfShelf.TheImpl.Goals as goal

pub read_at-tells : goal.read_at-tells
read_at-tells g c = record {
  within = c.ensures.within;
  read = ok_of_all _ _ (λ k. tt);
  no_fault = c.ensures.no_fault;
  no_miss = c.ensures.no_miss;
  no_write_fault = c.ensures.no_write_fault;
  missing = λ e. (rose_by_one _ _ (c.ensures.missing e), tt);
  missing_alone = c.ensures.missing_alone;
  failed = λ e. rose_by_one _ _ (c.ensures.failed e);
  failed_alone = c.ensures.failed_alone;
  kept = refl;
  never_falls = c.ensures.never_falls;
  misses_never_fall = c.ensures.misses_never_fall;
}

pub start-tells : goal.start-tells
start-tells g c = record {
  started = on_ok_always _ tt;
  held = on_ok_always _ tt;
  left = on_err_always _ tt;
  others = tt;
  counted = c.ensures.counted;
  no_fault = c.ensures.no_fault;
  no_miss = c.ensures.no_miss;
}

pub append-tells : goal.append-tells
append-tells g c = record {
  appended = on_ok_always _ tt;
  held = on_ok_always _ tt;
  prefix = on_err_always _ tt;
  others = tt;
  counted = c.ensures.counted;
  no_fault = c.ensures.no_fault;
  no_miss = c.ensures.no_miss;
}
