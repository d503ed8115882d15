-- What came of looking for a shortest walk, by cases.
use Rattle.std.specs.Prelude.{Bool, true, false}
use Rattle.scratch_region.specs.declared.region.Short.{Short}
use Rattle.face_hops.specs.declared.walk.HopWalk.{HopWalk}
use Rattle.face_hops.specs.declared.found.Found as found
use Rattle.face_hops.specs.declared.found.Found.TheVariants as came

abbrev pub is_short : found.Found → Bool
is_short (came.Walk w) = false
is_short came.Unknown = false
is_short (came.Short s) = true

abbrev pub is_walk : found.Found → Bool
is_walk (came.Walk w) = true
is_walk came.Unknown = false
is_walk (came.Short s) = false

abbrev pub IfShort : found.Found → (Short → Type 0) → Type 0
IfShort (came.Walk w) P = Unit {0}
IfShort came.Unknown P = Unit {0}
IfShort (came.Short s) P = P s

abbrev pub IfUnknown : found.Found → Type 0 → Type 0
IfUnknown (came.Walk w) P = Unit {0}
IfUnknown came.Unknown P = P
IfUnknown (came.Short s) P = Unit {0}

abbrev pub IfWalk : found.Found → (HopWalk → Type 0) → Type 0
IfWalk (came.Walk w) P = P w
IfWalk came.Unknown P = Unit {0}
IfWalk (came.Short s) P = Unit {0}
