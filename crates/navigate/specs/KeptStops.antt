-- What a walk keeps of the positions that it came by.
use Rattle.std.specs.Prelude.{ℕ, ◌≡◌, ◌<◌, Bool, length, slice_index_or}
use Rattle.code_laws.specs.Code.{over}
use Rattle.id_names.specs.RisingNames.{RisingNames}
use Rattle.file_laws.specs.Contents.{Contents}
use Rattle.file_laws.specs.MapOfFile.{signed_at}
use Rattle.navigate.specs.Ranked.{IsRankOf}
use Rattle.navigate.specs.declared.ranked.RankedEdge.{RankedEdge}
use Rattle.navigate.specs.declared.kept_stops.KeptStop.{KeptStop}
use Rattle.navigate.specs.declared.kept_stops.KeptStops.{KeptStops}

-- where a walk of this kind goes on from a position, and the signed edge there by its rank
pub record IsSeen (names : RisingNames) (m : Contents) (kind : Bool) (p mate : ℕ) (ranked : RankedEdge) : Type 0 where
  pub over : mate ≡ over m.code kind p
  pub over_within : mate < length m.code.a
  pub edge : IsRankOf names ranked (signed_at m p)

-- what is kept of a position was seen there
abbrev pub IsKept : RisingNames → Contents → Bool → KeptStop → Type 0
IsKept names m kind kept = IsSeen names m kind kept.at kept.over kept.edge

-- all that is kept was seen where it says
abbrev pub AreKept : RisingNames → Contents → Bool → KeptStops → Type 0
AreKept names m kind kept = (j : ℕ) (d : KeptStop) → j < kept.count → IsKept names m kind (slice_index_or kept.stops j d)
