-- Where regions open, from the region right round each.
use Rattle.std.specs.Prelude.{ℕ, ◌+◌, ◌-◌, ◌*◌, List, slice_index, Option, Some, None}

-- Where a region opens, from where those before it do. Each place before it opens or closes one of them: a root stands
-- behind closed pairs alone, and between another region and its parent stand closed pairs alone.
abbrev pub opened_by : List ℕ → ℕ → Option ℕ → ℕ
opened_by openings region None = 2 * region
opened_by openings region (Some parent) = slice_index openings parent + 2 * (region - parent) - 1
