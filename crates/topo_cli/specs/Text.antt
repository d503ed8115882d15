-- The lines that the program itself writes.
use Rattle.std.specs.Prelude.{ℕ, ℤ, Bool, ◌&&◌, List, [], ◌∷◌, ◌++◌, map, Option, codes, decimal, unwrap_or}
use Rattle.std.specs.Fmt.{signed_decimal}
use Rattle.topo_base.specs.declared.refusal.Table.{Table}
use Rattle.topo_base.specs.declared.refusal.Table.TheVariants as table
use Rattle.topo_base.specs.declared.refusal.Column.{Column}
use Rattle.topo_base.specs.declared.refusal.Refusal.{Refusal}
use Rattle.topo_base.specs.declared.refusal.Refusal.TheVariants as refusal
use Rattle.plane_model.specs.Reading.{column_name}
use Rattle.plane_model.specs.PlaneMap.{PlaneMap}
use Rattle.plane_model.specs.Rotation.{is_face}
use Rattle.plane_model.specs.Hops.{distance, hops}
use Rattle.plane_model.specs.Answers.{after_colon, items, where_known}
use Rattle.topo_base.specs.Script.{Item, Query}
use Rattle.code_laws.specs.declared.seq_fault.SeqFault.{SeqFault}
use Rattle.code_laws.specs.declared.seq_fault.SeqFault.TheVariants as seq
use Rattle.pemb_file.specs.declared.counts.Counts.{Counts}
use Rattle.file_laws.specs.declared.fault.FileFault.{FileFault}
use Rattle.file_laws.specs.declared.fault.FileFault.TheVariants as file
use Rattle.map_totals.specs.Totals.{adjacent_total, face_total, node_total}
use Rattle.topo_cli.specs.Tables.{Ending}

abbrev pub table_name : Table → List ℕ
table_name table.Node = codes "node"
table_name table.Edge = codes "edge"
table_name table.Face = codes "face"
table_name table.Region = codes "region"
table_name table.Member = codes "member"

-- what stands in a line behind a space, a name and '='
abbrev pub shown : List ℕ → List ℕ → List ℕ
shown name value = codes " " ++ name ++ codes "=" ++ value

abbrev pub shown_table : Table → List ℕ
shown_table t = shown (codes "table") (table_name t)

abbrev pub shown_column : Column → List ℕ
shown_column c = shown (codes "column") (column_name c)

abbrev pub shown_number : List ℕ → ℕ → List ℕ
shown_number name n = shown name (decimal n)

abbrev pub shown_edge : List ℕ → ℤ → List ℕ
shown_edge name d = shown name (signed_decimal d)

-- the number of a refusal, and its fields in order
abbrev pub refusal_text : Refusal → List ℕ
refusal_text (refusal.ColumnMissing t c) = codes "F1" ++ shown_table t ++ shown_column c
refusal_text (refusal.ColumnTwice t c) = codes "F2" ++ shown_table t ++ shown_column c
refusal_text (refusal.RowShape t row fields wanted) = codes "F3" ++ shown_table t ++ shown_number (codes "row") row ++ shown_number (codes "fields") fields ++ shown_number (codes "wanted") wanted
refusal_text (refusal.BadNumber t row c) = codes "F4" ++ shown_table t ++ shown_number (codes "row") row ++ shown_column c
refusal_text (refusal.EmptyNumber t row c) = codes "F5" ++ shown_table t ++ shown_number (codes "row") row ++ shown_column c
refusal_text (refusal.TooMany t) = codes "F6" ++ shown_table t
refusal_text (refusal.IdTwice t id) = codes "F7" ++ shown_table t ++ shown_number (codes "id") id
refusal_text (refusal.NoNode edge node) = codes "F8" ++ shown_number (codes "edge") edge ++ shown_number (codes "node") node
refusal_text (refusal.NoEdge edge next) = codes "F9" ++ shown_number (codes "edge") edge ++ shown_edge (codes "next") next
refusal_text (refusal.NoFace t id face) = codes "F10" ++ shown_table t ++ shown_number (codes "id") id ++ shown_number (codes "face") face
refusal_text (refusal.WrongEnd edge next) = codes "F11" ++ shown_edge (codes "edge") edge ++ shown_edge (codes "next") next
refusal_text (refusal.NextTwice next) = codes "F12" ++ shown_edge (codes "next") next
refusal_text (refusal.SplitNode node) = codes "F13" ++ shown_number (codes "node") node
refusal_text (refusal.NodeFace node) = codes "F14" ++ shown_number (codes "node") node
refusal_text (refusal.MixedRing edge next) = codes "F15" ++ shown_edge (codes "edge") edge ++ shown_edge (codes "next") next
refusal_text (refusal.Euler edge nodes edges rings) =
    codes "F16" ++ shown_number (codes "edge") edge ++ shown_number (codes "nodes") nodes ++ shown_number (codes "edges") edges ++ shown_number (codes "rings") rings
refusal_text (refusal.FaceCycle rings faces components) = codes "F17" ++ shown_number (codes "rings") rings ++ shown_number (codes "faces") faces ++ shown_number (codes "components") components
refusal_text (refusal.Unplaced edge) = codes "F18" ++ shown_number (codes "edge") edge
refusal_text (refusal.BareFace face) = codes "F19" ++ shown_number (codes "face") face
refusal_text (refusal.NoRegion t id region) = codes "F20" ++ shown_table t ++ shown_number (codes "id") id ++ shown_number (codes "region") region
refusal_text (refusal.RegionCycle region) = codes "F21" ++ shown_number (codes "region") region
refusal_text (refusal.MemberTwice face) = codes "F22" ++ shown_number (codes "face") face

-- what stands of a fault of the sequences behind its number
abbrev pub seq_text : SeqFault → List ℕ
seq_text (seq.Starts index) = codes " starts" ++ shown_number (codes "index") index
seq_text (seq.Ones found) = codes " ones" ++ shown_number (codes "found") found
seq_text (seq.Tree component) = codes " tree" ++ shown_number (codes "component") component
seq_text (seq.Dual component) = codes " dual" ++ shown_number (codes "component") component

-- the number of a fault of a file, and its fields in order
abbrev pub file_fault_text : FileFault → List ℕ
file_fault_text (file.NotWords bytes) = codes "G1" ++ shown_number (codes "bytes") bytes
file_fault_text (file.NotPemb words) = codes "G2" ++ shown_number (codes "words") words
file_fault_text (file.UnknownForm form) = codes "G3" ++ shown_number (codes "form") form
file_fault_text (file.Length want have) = codes "G4" ++ shown_number (codes "want") want ++ shown_number (codes "have") have
file_fault_text (file.Digest at) = codes "G5" ++ shown_number (codes "at") at
file_fault_text (file.Count word found) = codes "G6" ++ shown_number (codes "word") word ++ shown_number (codes "found") found
file_fault_text (file.Sequence e) = codes "G7" ++ seq_text e
file_fault_text (file.Directory section at want found) =
    codes "G8" ++ shown_number (codes "section") section ++ shown_number (codes "at") at ++ shown_number (codes "want") want ++ shown_number (codes "found") found
file_fault_text (file.Name section at) = codes "G9" ++ shown_number (codes "section") section ++ shown_number (codes "at") at
file_fault_text (file.Place section at) = codes "G10" ++ shown_number (codes "section") section ++ shown_number (codes "at") at
file_fault_text (file.Start component) = codes "G11" ++ shown_number (codes "component") component
file_fault_text (file.RegionPart section at) = codes "G12" ++ shown_number (codes "section") section ++ shown_number (codes "at") at
file_fault_text (file.Padding word) = codes "G13" ++ shown_number (codes "word") word

-- the five counts that are shown
abbrev pub five : Counts → List ℕ
five counts = counts.nodes ∷ counts.edges ∷ counts.faces ∷ counts.components ∷ counts.regions ∷ []

-- a word and the five counts of a map
abbrev pub counts_line : List ℕ → PlaneMap → List ℕ
counts_line word m = word ++ after_colon (items m Query.Counts) ++ 10 ∷ []

abbrev pub built_line : PlaneMap → List ℕ
built_line m = counts_line (codes "built") m

abbrev pub lawful_line : PlaneMap → List ℕ
lawful_line m = counts_line (codes "lawful") m

abbrev pub upgraded_line : PlaneMap → List ℕ
upgraded_line m = counts_line (codes "upgraded") m

abbrev pub dumped_line : PlaneMap → List ℕ
dumped_line m = counts_line (codes "dumped") m

-- a word and one number
abbrev pub number_line : List ℕ → ℕ → List ℕ
number_line word n = word ++ codes " " ++ decimal n ++ 10 ∷ []

-- what `trial` writes of the map of a grid: its size, its counts, and how many items the questions on all its faces and
-- nodes have
abbrev pub trial_text : ℕ → PlaneMap → List ℕ
trial_text n m =
    number_line (codes "trial") n
    ++ counts_line (codes "counts") m
    ++ number_line (codes "face") (face_total m)
    ++ number_line (codes "node") (node_total m)
    ++ number_line (codes "adjacent") (adjacent_total m)

-- whether a map has both faces
abbrev pub has_both_faces : PlaneMap → ℕ → ℕ → Bool
has_both_faces m f g = is_face m f && is_face m g

-- the fewest moves from one face to another
abbrev pub moves_between : PlaneMap → ℕ → ℕ → ℕ
moves_between m f g = unwrap_or (distance m f g) 0

-- the moves and the faces of the shortest walk, or nothing where the map lacks one of the faces
abbrev pub hop_items : PlaneMap → ℕ → ℕ → Option (List Item)
hop_items m f g = where_known (has_both_faces m f g) (map Item.Number (moves_between m f g ∷ hops m f g))

-- the word and the faces that were asked for, before the colon
abbrev pub hops_text : ℕ → ℕ → List ℕ
hops_text f g = codes "hops " ++ decimal f ++ codes " " ++ decimal g

-- the line of a shortest walk
abbrev pub hops_line : PlaneMap → ℕ → ℕ → List ℕ
hops_line m f g = hops_text f g ++ codes ":" ++ after_colon (hop_items m f g) ++ 10 ∷ []

-- the line that the program writes where nothing is served: of the words, the missing name or the first fault
abbrev pub status_line : Ending → List ℕ
status_line Ending.NoForm = codes "usage" ++ 10 ∷ []
status_line (Ending.Missing name) = codes "missing " ++ name ++ 10 ∷ []
-- a table or a file that is too long has no line
status_line Ending.Long = []
status_line (Ending.Refused e) = codes "refused " ++ refusal_text e ++ 10 ∷ []
status_line (Ending.Unlawful e) = codes "refused " ++ file_fault_text e ++ 10 ∷ []
