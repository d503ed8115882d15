-- Tables of regions, members and faces alone.
use Rattle.std.specs.Prelude.{List, []}
use Rattle.plane_model.specs.declared.rows.FaceRow.{FaceRow}
use Rattle.plane_model.specs.declared.rows.RegionRow.{RegionRow}
use Rattle.plane_model.specs.declared.rows.MemberRow.{MemberRow}
use Rattle.plane_model.specs.Rows.{Rows}
use Rattle.plane_model.specs.PlaneMap.{PlaneMap, map_of}

abbrev pub region_tables : List RegionRow → List MemberRow → List FaceRow → Rows
region_tables regions members faces = record { nodes = []; edges = []; faces = faces; regions = regions; members = members }

-- and their map
abbrev pub region_map : List RegionRow → List MemberRow → List FaceRow → PlaneMap
region_map regions members faces = map_of (region_tables regions members faces)
