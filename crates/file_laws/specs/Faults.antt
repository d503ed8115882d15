-- What is wrong with a file, each part by itself.
use Rattle.std.specs.Prelude.{ℕ, ◌+◌, ◌-◌, ◌/◌, ◌%◌, ◌^◌, ◌==◌, Bool, true, not, ◌&&◌, ◌||◌, nat_le, nat_lt, if◌then◌else◌, List, [], ◌∷◌, find, length, drop, slice_index, Option, Some, None, option_map, unwrap_or}
use Rattle.std.specs.List.{range_with_len, list_all}
use Rattle.sha2.specs.Sha256.{sha256}
use Rattle.topo_base.specs.SignedEdge.{comes_before}
use Rattle.bit_words.specs.WrongEntry.{first_wrong}
use Rattle.bit_words.specs.Lists.{first_some}
use Rattle.rank_select.specs.Counts.{counts_of}
use Rattle.min_max_tree.specs.Tree.{nodes_of}
use Rattle.parens.specs.Matching.{balance_fault}
use Rattle.code_laws.specs.Code.{Code, positions, start_of}
use Rattle.code_laws.specs.Numbers.{ring_of, is_outer, first_of_edge, tree_edges}
use Rattle.id_names.specs.Faults.{name_fault}
use Rattle.id_names.specs.declared.fault.NameFault.{NameFault}
use Rattle.id_names.specs.declared.fault.NameFault.TheVariants.{HighCounts, Ones, Rising, MarkCounts, MarkOnes, Order}
use Rattle.file_laws.specs.Layout.{HeaderCounts, counts_in, node_count, face_count, Section, sections, section_bits, section_words, file_words, header_words, words_of, part, fields_at}
use Rattle.file_laws.specs.Contents.{Contents, component_count}
use Rattle.file_laws.specs.Held.{names_at}
use Rattle.file_laws.specs.MapOfFile.{signed_at}
use Rattle.file_laws.specs.declared.fault.FileFault.{FileFault}
use Rattle.file_laws.specs.declared.fault.FileFault.TheVariants as fault

abbrev pub unless : Bool → FileFault → Option FileFault
unless fine e = if fine then None else Some e

-- the first word: the bytes of PEMBTOPO, the first of them lowest
abbrev pub magic : ℕ
magic = 0x4f504f54424d4550

-- how many words the counts ask for: those of the header, where it isn't there
abbrev pub wanted_words : List ℕ → ℕ
wanted_words words = if nat_le header_words (length words) then file_words (counts_in words) else header_words

-- the length, the first words, and the number of words that the counts ask for
unfoldable pub front_fault : List ℕ → Option FileFault
front_fault bytes =
    let words = words_of bytes in
    first_some (
    unless (length bytes % 8 == 0) (fault.NotWords (length bytes))
    ∷ unless (nat_le 11 (length words) && (slice_index words 0 == magic)) (fault.NotPemb (length words))
    ∷ unless ((slice_index words 1 == 1) || (slice_index words 1 == 2)) (fault.UnknownForm (slice_index words 1))
    ∷ unless (length words == wanted_words words) (fault.Length (wanted_words words) (length words))
    ∷ [])

-- the first byte of the digest that differs
unfoldable pub digest_fault : List ℕ → Option FileFault
digest_fault bytes =
    let digest = sha256 (drop 48 bytes) in
    option_map fault.Digest (find (λ i. not (slice_index bytes (16 + i) == slice_index digest i)) (range_with_len 0 32))

-- the most edges, nodes or regions that a file may have
abbrev pub most : ℕ
most = 16777216

unfoldable pub count_fault : HeaderCounts → Option FileFault
count_fault c =
    first_some (
    unless (nat_le c.edges most) (fault.Count 6 c.edges)
    ∷ unless (nat_le c.tree_edges c.edges) (fault.Count 7 c.tree_edges)
    ∷ unless (nat_le c.components c.edges && ((c.edges == 0) || nat_lt 0 c.components)) (fault.Count 8 c.components)
    ∷ unless (nat_le (node_count c) most) (fault.Count 9 c.isolated)
    ∷ unless (nat_le c.regions most) (fault.Count 10 c.regions)
    ∷ unless (nat_le c.node_back (node_count c)) (fault.Count 11 c.node_back)
    ∷ unless (nat_le c.edge_back c.edges) (fault.Count 12 c.edge_back)
    ∷ unless (nat_le c.face_back (face_count c)) (fault.Count 13 c.face_back)
    ∷ unless (nat_le c.region_back c.regions) (fault.Count 14 c.region_back)
    ∷ [])

-- a wrong entry of a section
abbrev pub directory_fault : ℕ → List ℕ → List ℕ → Option FileFault
directory_fault number want found = option_map (λ w. fault.Directory number w.at w.want w.found) (first_wrong want found)

unfoldable pub directories_fault : List ℕ → Code → Option FileFault
directories_fault words c =
    first_some (
    directory_fault 2 (counts_of c.a) (fields_at words 2)
    ∷ directory_fault 4 (counts_of c.tree) (fields_at words 4)
    ∷ directory_fault 5 (nodes_of c.tree) (part words 5)
    ∷ directory_fault 7 (counts_of c.dual) (fields_at words 7)
    ∷ directory_fault 8 (nodes_of c.dual) (part words 8)
    ∷ [])

-- the first fault of the names in the sections behind this number
unfoldable pub names_fault : List ℕ → ℕ → Option NameFault
names_fault words number = name_fault (names_at words number) (fields_at words (number + 2)) (fields_at words (number + 6))

-- a fault of names in the sections behind this number: in which section, and what it names there
abbrev pub told_in : (ℕ → ℕ → FileFault) → ℕ → NameFault → FileFault
told_in told number (HighCounts at) = told (number + 2) at
told_in told number (Ones found) = told (number + 1) found
told_in told number (Rising at) = told (number + 3) at
told_in told number (MarkCounts at) = told (number + 6) at
told_in told number (MarkOnes found) = told (number + 5) found
told_in told number (Order at) = told (number + 4) at

unfoldable pub all_names_fault : List ℕ → Option FileFault
all_names_fault words =
    first_some (
    option_map (told_in fault.Name 30) (names_fault words 30)
    ∷ option_map (told_in fault.Name 40) (names_fault words 40)
    ∷ option_map (told_in fault.Name 50) (names_fault words 50)
    ∷ [])

-- a place is face 0 or the number of a face, and 1 more
abbrev pub is_place : Contents → ℕ → Bool
is_place c place = nat_le place (length c.faces)

-- the shell of the face at a place begins before position p
abbrev pub begins_before : Contents → ℕ → ℕ → Bool
begins_before c place p = if place == 0 then true else nat_lt (unwrap_or (first_of_edge c.code (tree_edges c.code + (place - 1))) 0) p

-- the first component whose place is none, or is the shell of an edge that does not begin before the component
unfoldable pub place_fault : Contents → Option ℕ
place_fault c =
    find (λ j. not (is_place c (slice_index c.places j) && begins_before c (slice_index c.places j) (start_of c.code j))) (range_with_len 0 (component_count c))

-- component j stands in the order before component i: by place, and then by the signed edge at the start
abbrev pub precedes : Contents → ℕ → ℕ → Bool
precedes c i j =
    let p = slice_index c.places i in
    let q = slice_index c.places j in
    nat_lt p q || ((p == q) && comes_before (signed_at c (start_of c.code i)) (signed_at c (start_of c.code j)))

-- entry j of the order is a component, and follows the entry before it
abbrev pub is_ordered : Contents → ℕ → Bool
is_ordered c j =
    nat_lt (slice_index c.place_order j) (component_count c)
    && (if j == 0 then true else precedes c (slice_index c.place_order (j - 1)) (slice_index c.place_order j))

unfoldable pub order_fault : Contents → Option ℕ
order_fault c = find (λ j. not (is_ordered c j)) (range_with_len 0 (component_count c))

-- isolated node j has a place, and follows the one before it, by place and then by id
abbrev pub isolated_id : Contents → ℕ → ℕ
isolated_id c j = slice_index c.nodes (length c.nodes - length c.isolated + j)

abbrev pub isolated_precedes : Contents → ℕ → ℕ → Bool
isolated_precedes c i j =
    let p = slice_index c.isolated i in
    let q = slice_index c.isolated j in
    nat_lt p q || ((p == q) && nat_lt (isolated_id c i) (isolated_id c j))

abbrev pub is_isolated : Contents → ℕ → Bool
is_isolated c j = is_place c (slice_index c.isolated j) && (if j == 0 then true else isolated_precedes c (j - 1) j)

unfoldable pub isolated_fault : Contents → Option ℕ
isolated_fault c = find (λ j. not (is_isolated c j)) (range_with_len 0 (length c.isolated))

unfoldable pub places_fault : Contents → Option FileFault
places_fault c =
    first_some (option_map (fault.Place 17) (place_fault c) ∷ option_map (fault.Place 18) (order_fault c) ∷ option_map (fault.Place 19) (isolated_fault c) ∷ [])

-- no position of the outer ring of component j has a smaller signed edge than its start
abbrev pub is_smallest : Contents → ℕ → Bool
is_smallest c j =
    let d = signed_at c (start_of c.code j) in
    list_all (λ p. not (is_outer j (ring_of c.code p) && comes_before (signed_at c p) d)) (positions c.code)

unfoldable pub start_fault : Contents → Option FileFault
start_fault c = option_map fault.Start (find (λ j. not (is_smallest c j)) (range_with_len 0 (component_count c)))

-- the first face with a region that is none
unfoldable pub member_fault : Contents → Option ℕ
member_fault c = find (λ x. not (nat_le (slice_index c.members x) (length c.regions))) (range_with_len 0 (length c.members))

unfoldable pub regions_fault : List ℕ → Contents → Option FileFault
regions_fault words c =
    first_some (
    option_map (fault.RegionPart 20) (balance_fault c.region_bits 0 (length c.region_bits))
    ∷ option_map (λ w. fault.RegionPart 21 w.at) (first_wrong (counts_of c.region_bits) (fields_at words 21))
    ∷ option_map (λ w. fault.RegionPart 22 w.at) (first_wrong (nodes_of c.region_bits) (part words 22))
    ∷ option_map (told_in fault.RegionPart 60) (names_fault words 60)
    ∷ option_map (fault.RegionPart 25) (member_fault c)
    ∷ [])

-- past so many bits, the last word of a section is 0
abbrev pub is_padded : List ℕ → ℕ → Bool
is_padded words n = (n % 64 == 0) || nat_lt (slice_index words (n / 64)) (2 ^ (n % 64))

-- the first section, of those from word `from` on, that is not; its last word
unfoldable pub padding_from : List ℕ → ℕ → List Section → Option ℕ
padding_from words from [] = None
padding_from words from (s ∷ more) =
    let rest = padding_from words (from + section_words s) more in
    if is_padded (drop from words) (section_bits s) then rest else Some (from + section_bits s / 64)

unfoldable pub padding_fault : List ℕ → Option FileFault
padding_fault words = option_map fault.Padding (padding_from words header_words (sections (counts_in words)))
