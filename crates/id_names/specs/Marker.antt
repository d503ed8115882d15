-- What a walk along a cycle knows and has marked when it has passed one member more.
use Rattle.std.specs.Prelude.{ℕ, ◌+◌, ◌==◌, Bool, if◌then◌else◌, List, slice_set, Option, Some}
use Rattle.id_names.specs.declared.cycles.Marker.{Marker}

-- whether the next member is to be marked
abbrev pub is_due : Marker → Bool
is_due marker = marker.since + 1 == marker.stride

-- the marker behind a member
abbrev pub marker_past : Marker → ℕ → Marker
marker_past marker member = if is_due marker then record { stride = marker.stride; last = member; since = 0 } else record { stride = marker.stride; last = marker.last; since = marker.since + 1 }

-- the pointers behind a member
abbrev pub marks_past : Marker → ℕ → List (Option ℕ) → List (Option ℕ)
marks_past marker member marks = if is_due marker then slice_set marks member (Some marker.last) else marks
