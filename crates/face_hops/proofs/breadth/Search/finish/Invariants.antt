use Rattle.std.specs.Prelude.{slice_index}
use Rattle.std.proofs.Common.{◌≡◌, ◌≤◌, ◌+◌, ◌-◌, length}
use Rattle.scratch_region.specs.Numbers.{numbers_of}
use Rattle.file_laws.specs.MapOfFile.{face_at_place}
use Rattle.pemb_file.specs.Served.{contents_of_view}
use Rattle.face_hops.specs.Prices.{rounds_price}
use Rattle.face_hops.specs.Searching.{IsSearching}
use Rattle.face_hops.proofs.Searching.{firsts}
use Rattle.face_hops.proofs.breadth.Search.finish.Given as goal

abbrev pub invariant-loop-self : goal.invariant-loop-self
invariant-loop-self g l =
    record {
      served : l.self.served ≡ l.fn.self.served;
      from : l.self.from ≡ l.fn.self.from;
      searching : IsSearching l.self;
      grows : l.fn.steps ≤ l.steps;
      paid : l.steps ≤ l.fn.steps + rounds_price (contents_of_view l.fn.self.served) (firsts (λ i. face_at_place (contents_of_view l.fn.self.served) (slice_index (numbers_of l.self.queue) i)) l.self.head);
    }

abbrev pub decreases-loop-self : goal.decreases-loop-self
decreases-loop-self g l = length (contents_of_view l.fn.self.served).faces + 1 - l.self.head
