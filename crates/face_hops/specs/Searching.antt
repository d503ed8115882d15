-- A search whose lists have a number for each place.
use Rattle.std.specs.Prelude.{◌≡◌, ◌+◌, ◌≤◌, length, slice_index}
use Rattle.scratch_region.specs.Numbers.{numbers_of}
use Rattle.pemb_file.specs.Served.{contents_of_view}
use Rattle.face_hops.specs.Search.{IsSearch}
use Rattle.face_hops.specs.declared.breadth.Search.{Search}

pub record IsSearching (s : Search) : Type 0 where
  pub numbers_long : length (numbers_of s.numbers) ≡ length (contents_of_view s.served).faces + 1
  pub queue_long : length (numbers_of s.queue) ≡ length (contents_of_view s.served).faces + 1
  pub from_in : s.from ≤ length (contents_of_view s.served).faces
  pub search : IsSearch (contents_of_view s.served) s.from (slice_index (numbers_of s.numbers)) (slice_index (numbers_of s.queue)) s.head s.tail
