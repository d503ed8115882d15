use Rattle.std.proofs.Common.{◌≡◌, ◌+◌, ◌-◌, ◌*◌, ◌<◌, ◌≤◌, length}
use Rattle.scratch_region.specs.Numbers.{numbers_of}
use Rattle.code_tour.specs.Tour.{code_in, position_of}
use Rattle.pemb_file.specs.Served.{contents_of_view}
use Rattle.table_dump.specs.Sweep.{AreSwept}
use Rattle.table_dump.proofs.sweep.fill_ends.Given as goal

abbrev pub invariant-loop-passed : goal.invariant-loop-passed
invariant-loop-passed g l =
    let c = contents_of_view l.served in
    record {
      code : code_in l.tour ≡ c.code;
      within : position_of l.tour ≤ length c.code.a;
      room : length (numbers_of l.ends) ≡ 6 * length c.edges;
      end : l.behind.end < 2 * length c.edges;
      swept : AreSwept c l.edges (position_of l.tour) (numbers_of l.ends) l.behind;
      read : l.fn.steps ≤ l.steps;
      paid : l.steps ≤ l.fn.steps + 9 * position_of l.tour;
    }

abbrev pub decreases-loop-passed : goal.decreases-loop-passed
decreases-loop-passed g l = length (code_in l.tour).a - position_of l.tour
