-- The darts that code numbers.
use Rattle.plane_model.specs.PlaneMap.{PlaneMap, map_of}
use Rattle.plane_model.specs.Rows.{Rows, rows_of}
use Rattle.rotation_check.specs.declared.darts.Darts.{Darts}
use Rattle.rotation_check.specs.Darts.{AreDarts}

-- the rows that darts are of
abbrev pub rows_of_darts : Darts → Rows
rows_of_darts d = rows_of d.tables.now

-- the map that they are of
abbrev pub map_of_darts : Darts → PlaneMap
map_of_darts d = map_of (rows_of d.tables.now)

-- each dart has its next and its node
abbrev pub IsNumbered : Darts → Type 0
IsNumbered d = AreDarts (rows_of d.tables.now) d.next.items d.node.items
