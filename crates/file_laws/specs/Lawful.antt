-- Lawful files, and the tables that they stand for.
use Rattle.std.specs.Prelude.{ℕ, ◌+◌, ◌*◌, ◌^◌, ◌==◌, nat_le, nat_lt, Bool, List, [], ◌∷◌, length, Option, is_none, option_map}
use Rattle.std.specs.List.{list_all}
use Rattle.topo_base.specs.declared.id.TheConstants.{LARGEST_ID}
use Rattle.plane_model.specs.Rows.{Rows}
use Rattle.plane_model.specs.PlaneMap.{Same}
use Rattle.plane_model.specs.Sets.{or_else}
use Rattle.bit_words.specs.Lists.{first_some}
use Rattle.parens.specs.Matching.{balance_fault}
use Rattle.code_laws.specs.Numbers.{tree_edges}
use Rattle.code_laws.specs.SeqFault.{seq_fault, is_sound}
use Rattle.id_names.specs.Names.{is_names}
use Rattle.file_laws.specs.Layout.{HeaderCounts, counts_in, words_of, id_bits}
use Rattle.file_laws.specs.Contents.{Contents, component_count}
use Rattle.file_laws.specs.Held.{contents_of}
use Rattle.file_laws.specs.MapOfFile.{rows_of_contents}
use Rattle.file_laws.specs.Faults.{front_fault, digest_fault, count_fault, directories_fault, all_names_fault, places_fault, start_fault, member_fault, regions_fault, padding_fault, most}
use Rattle.file_laws.specs.declared.fault.FileFault.{FileFault}
use Rattle.file_laws.specs.declared.fault.FileFault.TheVariants as fault

-- all of some tests
abbrev pub all_of : List Bool → Bool
all_of tests = list_all (λ b. b) tests

-- as many of each as there must be
abbrev pub size_tests : Contents → List Bool
size_tests c =
    (length c.code.a == 2 * length c.edges)
    ∷ (length c.code.starts == component_count c + 1)
    ∷ (length c.forward == length c.edges)
    ∷ (length c.nodes == component_count c + tree_edges c.code + length c.isolated)
    ∷ (length c.faces + tree_edges c.code == length c.edges)
    ∷ (length c.place_order == component_count c)
    ∷ (length c.region_bits == 2 * length c.regions)
    ∷ (length c.members == length c.faces + 1)
    ∷ nat_le (component_count c) (length c.edges)
    ∷ nat_le (length c.edges) most
    ∷ nat_le (length c.nodes) most
    ∷ nat_le (length c.regions) most
    ∷ []

unfoldable pub has_sizes : Contents → Bool
has_sizes c = all_of (size_tests c)

abbrev pub whole_tests : Contents → List Bool
whole_tests c =
    has_sizes c
    ∷ is_sound c.code
    ∷ is_names (LARGEST_ID + 1) c.nodes
    ∷ is_names (LARGEST_ID + 1) c.edges
    ∷ is_names (LARGEST_ID + 1) c.faces
    ∷ is_names (LARGEST_ID + 1) c.regions
    ∷ is_none (places_fault c)
    ∷ is_none (start_fault c)
    ∷ is_none (balance_fault c.region_bits 0 (length c.region_bits))
    ∷ is_none (member_fault c)
    ∷ []

-- Contents that a lawful file of form 2 can have. Writers ask it of what they write.
unfoldable pub is_whole : Contents → Bool
is_whole c = all_of (whole_tests c)

-- a file of this form has room for each of these ids
abbrev pub has_room : ℕ → List ℕ → Bool
has_room form ids = list_all (λ id. nat_lt id (2 ^ id_bits form)) ids

-- a file of this form has room for the ids of these contents
unfoldable pub has_room_for : ℕ → Contents → Bool
has_room_for form c = all_of (has_room form c.nodes ∷ has_room form c.edges ∷ has_room form c.faces ∷ has_room form c.regions ∷ [])

-- the first fault of words whose number is right, in what the sections hold
unfoldable pub content_fault : List ℕ → Option FileFault
content_fault words =
    let c = contents_of words in
    first_some (
    option_map fault.Sequence (seq_fault c.code)
    ∷ directories_fault words c.code
    ∷ all_names_fault words
    ∷ places_fault c
    ∷ start_fault c
    ∷ regions_fault words c
    ∷ padding_fault words
    ∷ [])

-- the first fault of a file
unfoldable pub first_fault : List ℕ → Option FileFault
first_fault bytes =
    let words = words_of bytes in
    let digest = digest_fault bytes in
    let counts = count_fault (counts_in words) in
    let content = content_fault words in
    or_else (front_fault bytes) (or_else digest (or_else counts content))

abbrev pub is_lawful : List ℕ → Bool
is_lawful bytes = is_none (first_fault bytes)

-- the tables that a file stands for, rising by id and without a row for face 0
unfoldable pub map_of_file : List ℕ → Rows
map_of_file bytes = rows_of_contents (contents_of (words_of bytes))

abbrev pub StandsFor : List ℕ → Rows → Type 0
StandsFor bytes t = Same (map_of_file bytes) t

-- what bounds on steps are measured by
abbrev pub file_size : HeaderCounts → ℕ
file_size c = 2 * c.edges + c.isolated + 2 * c.regions + 2
