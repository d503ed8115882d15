-- What the worked files hold, as parts.
use Rattle.std.proofs.Common.{[], ◌∷◌, true, false, refl, IsTrue}
use Rattle.bit_words.specs.Lists.{tabulate, first_some}
use Rattle.bit_words.specs.Bits.{rank, select, excess}
use Rattle.parens.specs.Matching.{close_of, open_of, mate_of, pair_number, falling, innermost, balance_fault}
use Rattle.code_laws.specs.Code.{is_first, mate, component_of, after, before}
use Rattle.code_laws.specs.Numbers.{edge_of, node_of, ring_of, enclosing_pair, first_of_edge, first_of_node, first_of_shell}
use Rattle.code_laws.specs.SeqFault.{seq_fault}
use Rattle.code_laws.specs.Tour.{picked, code_of}
use Rattle.id_names.specs.Names.{number_of, is_names}
use Rattle.file_laws.specs.Contents.{Contents, contents_with}
use Rattle.file_laws.specs.MapOfFile.{signed_at}
use Rattle.file_laws.specs.Faults.{place_fault, order_fault, isolated_fault, places_fault, start_fault, member_fault}
use Rattle.file_laws.specs.Lawful.{is_whole, has_sizes, has_room_for}

-- a triangle
abbrev pub triangle : Contents
triangle =
    contents_with (code_of (true ∷ true ∷ false ∷ true ∷ true ∷ false ∷ []) (true ∷ true ∷ true ∷ false ∷ false ∷ false ∷ []) (0 ∷ 6 ∷ []))
    (false ∷ false ∷ false ∷ []) (2 ∷ 1 ∷ 3 ∷ []) (1 ∷ 3 ∷ 2 ∷ []) (1 ∷ []) [] (0 ∷ []) (0 ∷ []) [] [] (0 ∷ 0 ∷ [])

-- the same with a closed edge and a node inside it, and two regions
abbrev pub island : Contents
island =
    contents_with (code_of (true ∷ true ∷ false ∷ true ∷ true ∷ false ∷ false ∷ false ∷ []) (true ∷ true ∷ true ∷ false ∷ false ∷ false ∷ true ∷ false ∷ []) (0 ∷ 6 ∷ 8 ∷ []))
    (false ∷ false ∷ false ∷ false ∷ []) (2 ∷ 4 ∷ 1 ∷ 3 ∷ 5 ∷ []) (1 ∷ 3 ∷ 2 ∷ 4 ∷ []) (1 ∷ 2 ∷ []) (1 ∷ 2 ∷ []) (0 ∷ 1 ∷ []) (0 ∷ 1 ∷ []) (2 ∷ [])
    (true ∷ true ∷ false ∷ false ∷ []) (0 ∷ 2 ∷ 1 ∷ [])

pub triangle_whole : IsTrue (is_whole triangle)
unfolding picked rank select excess tabulate close_of open_of mate_of pair_number falling innermost balance_fault is_first mate component_of after before edge_of enclosing_pair node_of ring_of first_of_edge first_of_node first_of_shell first_some seq_fault number_of is_names is_whole has_sizes signed_at place_fault order_fault isolated_fault places_fault start_fault member_fault
triangle_whole = refl

pub triangle_room : IsTrue (has_room_for 1 triangle)
unfolding has_room_for
triangle_room = refl

pub island_whole : IsTrue (is_whole island)
unfolding picked rank select excess tabulate close_of open_of mate_of pair_number falling innermost balance_fault is_first mate component_of after before edge_of enclosing_pair node_of ring_of first_of_edge first_of_node first_of_shell first_some seq_fault number_of is_names is_whole has_sizes signed_at place_fault order_fault isolated_fault places_fault start_fault member_fault
island_whole = refl

pub island_room : IsTrue (has_room_for 1 island)
unfolding has_room_for
island_room = refl
