use Rattle.std.proofs.Common.{refl}
use Rattle.bit_words.specs.Digits.{digits}
use Rattle.bit_words.specs.Lists.{tabulate, first_some}
use Rattle.bit_words.specs.Words.{words_in}
use Rattle.bit_words.specs.WrongEntry.{first_wrong}
use Rattle.bit_words.specs.Bits.{rank, select, excess, is_set, word_bits, bit_of, bits_in, stream, field_at, fields_in}
use Rattle.rank_select.specs.Counts.{counts_of}
use Rattle.min_max_tree.specs.Tree.{span_at, size_at, start_at, least, total_of, least_of, node, levels, nodes_of, sizes_from, tree_size}
use Rattle.parens.specs.Matching.{close_of, open_of, mate_of, pair_number, falling, innermost, balance_fault}
use Rattle.code_laws.specs.Code.{is_first, mate, component_of, after, before}
use Rattle.code_laws.specs.Numbers.{edge_of, node_of, ring_of, enclosing_pair, first_of_edge, first_of_node, first_of_shell}
use Rattle.code_laws.specs.SeqFault.{seq_fault}
use Rattle.id_names.specs.Names.{number_of, is_names}
use Rattle.id_names.specs.Faults as name_faults
use Rattle.id_names.specs.Inverse.{walk}
use Rattle.id_names.specs.Rising.{high_part, rising_at}
use Rattle.id_names.specs.RisingNames.{ids_by_number}
use Rattle.id_names.specs.Making as making
use Rattle.id_names.specs.Cycles.{mark_at, mark_of}
use Rattle.sha2.specs.Sha256.{sha256, first_words, schedule, rounds, compress, hash_after, digest_bytes}
use Rattle.orbits.specs.Walks as walks
use Rattle.orbits.specs.Components as sets
use Rattle.plane_model.specs.Sets.{put, rising}
use Rattle.plane_model.specs.PlaneMap.{signed_edges, smallest}
use Rattle.plane_model.specs.Faces.{reached_through}
use Rattle.plane_model.specs.Regions.{upward}
use Rattle.region_tree.specs.Nesting.{parent_number}
use Rattle.file_laws.specs.Layout.{words_of, sections, section_words, total_words, file_words, words_before, section, section_from, part, bits_at, fields_at}
use Rattle.file_laws.specs.Held.{names_at, ids_at, contents_of}
use Rattle.file_laws.specs.Image.{bytes_of, joined, packed, filled, image_of}
use Rattle.file_laws.specs.MapOfFile.{signed_at, node_at, face_at, forward_position}
use Rattle.file_laws.specs.Faults.{front_fault, digest_fault, count_fault, directories_fault, names_fault, all_names_fault, place_fault, order_fault, isolated_fault, places_fault, start_fault, member_fault, regions_fault, padding_from, padding_fault}
use Rattle.file_laws.specs.Lawful.{content_fault, map_of_file, first_fault, is_whole, has_sizes, has_room_for}
use Rattle.file_laws.proofs.worked.smallest_file.Goals as goal

pub returns-clause-empty_length : goal.returns-clause-empty_length
unfolding digits tabulate words_in first_wrong rank select excess is_set word_bits bit_of bits_in stream field_at fields_in counts_of span_at size_at start_at least total_of least_of node levels nodes_of sizes_from tree_size close_of open_of mate_of pair_number falling innermost balance_fault is_first mate component_of after before edge_of node_of ring_of enclosing_pair first_of_edge first_of_node first_of_shell seq_fault first_some number_of is_names name_faults.name_fault walk high_part rising_at ids_by_number making.places_of making.rising making.high_bits mark_at mark_of sha256 first_words schedule rounds compress hash_after digest_bytes walks.until_return sets.grown_by put rising signed_edges smallest reached_through upward parent_number words_of bytes_of joined packed signed_at node_at face_at forward_position digest_fault place_fault order_fault isolated_fault places_fault start_fault member_fault sections section_words total_words file_words words_before section section_from part bits_at fields_at names_at ids_at contents_of front_fault count_fault directories_fault names_fault all_names_fault regions_fault padding_from padding_fault content_fault map_of_file first_fault is_whole has_sizes has_room_for filled image_of
returns-clause-empty_length c = refl

pub returns-clause-empty_lawful : goal.returns-clause-empty_lawful
unfolding digits tabulate words_in first_wrong rank select excess is_set word_bits bit_of bits_in stream field_at fields_in counts_of span_at size_at start_at least total_of least_of node levels nodes_of sizes_from tree_size close_of open_of mate_of pair_number falling innermost balance_fault is_first mate component_of after before edge_of node_of ring_of enclosing_pair first_of_edge first_of_node first_of_shell seq_fault first_some number_of is_names name_faults.name_fault walk high_part rising_at ids_by_number making.places_of making.rising making.high_bits mark_at mark_of sha256 first_words schedule rounds compress hash_after digest_bytes walks.until_return sets.grown_by put rising signed_edges smallest reached_through upward parent_number words_of bytes_of joined packed signed_at node_at face_at forward_position digest_fault place_fault order_fault isolated_fault places_fault start_fault member_fault sections section_words total_words file_words words_before section section_from part bits_at fields_at names_at ids_at contents_of front_fault count_fault directories_fault names_fault all_names_fault regions_fault padding_from padding_fault content_fault map_of_file first_fault is_whole has_sizes has_room_for filled image_of
returns-clause-empty_lawful c = refl

pub returns-clause-empty_image : goal.returns-clause-empty_image
unfolding digits tabulate words_in first_wrong rank select excess is_set word_bits bit_of bits_in stream field_at fields_in counts_of span_at size_at start_at least total_of least_of node levels nodes_of sizes_from tree_size close_of open_of mate_of pair_number falling innermost balance_fault is_first mate component_of after before edge_of node_of ring_of enclosing_pair first_of_edge first_of_node first_of_shell seq_fault first_some number_of is_names name_faults.name_fault walk high_part rising_at ids_by_number making.places_of making.rising making.high_bits mark_at mark_of sha256 first_words schedule rounds compress hash_after digest_bytes walks.until_return sets.grown_by put rising signed_edges smallest reached_through upward parent_number words_of bytes_of joined packed signed_at node_at face_at forward_position digest_fault place_fault order_fault isolated_fault places_fault start_fault member_fault sections section_words total_words file_words words_before section section_from part bits_at fields_at names_at ids_at contents_of front_fault count_fault directories_fault names_fault all_names_fault regions_fault padding_from padding_fault content_fault map_of_file first_fault is_whole has_sizes has_room_for filled image_of
returns-clause-empty_image c = refl

pub returns-clause-empty_map : goal.returns-clause-empty_map
unfolding digits tabulate words_in first_wrong rank select excess is_set word_bits bit_of bits_in stream field_at fields_in counts_of span_at size_at start_at least total_of least_of node levels nodes_of sizes_from tree_size close_of open_of mate_of pair_number falling innermost balance_fault is_first mate component_of after before edge_of node_of ring_of enclosing_pair first_of_edge first_of_node first_of_shell seq_fault first_some number_of is_names name_faults.name_fault walk high_part rising_at ids_by_number making.places_of making.rising making.high_bits mark_at mark_of sha256 first_words schedule rounds compress hash_after digest_bytes walks.until_return sets.grown_by put rising signed_edges smallest reached_through upward parent_number words_of bytes_of joined packed signed_at node_at face_at forward_position digest_fault place_fault order_fault isolated_fault places_fault start_fault member_fault sections section_words total_words file_words words_before section section_from part bits_at fields_at names_at ids_at contents_of front_fault count_fault directories_fault names_fault all_names_fault regions_fault padding_from padding_fault content_fault map_of_file first_fault is_whole has_sizes has_room_for filled image_of
returns-clause-empty_map c = refl

pub returns-clause-empty_want : goal.returns-clause-empty_want
unfolding digits tabulate words_in first_wrong rank select excess is_set word_bits bit_of bits_in stream field_at fields_in counts_of span_at size_at start_at least total_of least_of node levels nodes_of sizes_from tree_size close_of open_of mate_of pair_number falling innermost balance_fault is_first mate component_of after before edge_of node_of ring_of enclosing_pair first_of_edge first_of_node first_of_shell seq_fault first_some number_of is_names name_faults.name_fault walk high_part rising_at ids_by_number making.places_of making.rising making.high_bits mark_at mark_of sha256 first_words schedule rounds compress hash_after digest_bytes walks.until_return sets.grown_by put rising signed_edges smallest reached_through upward parent_number words_of bytes_of joined packed signed_at node_at face_at forward_position digest_fault place_fault order_fault isolated_fault places_fault start_fault member_fault sections section_words total_words file_words words_before section section_from part bits_at fields_at names_at ids_at contents_of front_fault count_fault directories_fault names_fault all_names_fault regions_fault padding_from padding_fault content_fault map_of_file first_fault is_whole has_sizes has_room_for filled image_of
returns-clause-empty_want c = refl

pub returns-clause-empty_wide_want : goal.returns-clause-empty_wide_want
unfolding digits tabulate words_in first_wrong rank select excess is_set word_bits bit_of bits_in stream field_at fields_in counts_of span_at size_at start_at least total_of least_of node levels nodes_of sizes_from tree_size close_of open_of mate_of pair_number falling innermost balance_fault is_first mate component_of after before edge_of node_of ring_of enclosing_pair first_of_edge first_of_node first_of_shell seq_fault first_some number_of is_names name_faults.name_fault walk high_part rising_at ids_by_number making.places_of making.rising making.high_bits mark_at mark_of sha256 first_words schedule rounds compress hash_after digest_bytes walks.until_return sets.grown_by put rising signed_edges smallest reached_through upward parent_number words_of bytes_of joined packed signed_at node_at face_at forward_position digest_fault place_fault order_fault isolated_fault places_fault start_fault member_fault sections section_words total_words file_words words_before section section_from part bits_at fields_at names_at ids_at contents_of front_fault count_fault directories_fault names_fault all_names_fault regions_fault padding_from padding_fault content_fault map_of_file first_fault is_whole has_sizes has_room_for filled image_of
returns-clause-empty_wide_want c = refl
