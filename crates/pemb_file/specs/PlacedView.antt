-- What is needed of a file's contents to check places.
use Rattle.std.specs.Prelude.{[]}
use Rattle.bit_words.specs.BitView.{bits_of}
use Rattle.bit_words.specs.PackedView.{fields_of}
use Rattle.turan_code.specs.TuranView.{code_of_view}
use Rattle.id_names.specs.Views.{ids_of}
use Rattle.file_laws.specs.Contents.{Contents, contents_with}
use Rattle.pemb_file.specs.declared.places.Placed.{Placed}

-- the contents of these views, without regions
abbrev pub contents_of_placed : Placed → Contents
contents_of_placed s =
    contents_with (code_of_view s.code) (bits_of s.forward) (ids_of s.nodes) (ids_of s.edges) (ids_of s.faces) []
    (fields_of s.places) (fields_of s.place_order) (fields_of s.isolated) [] []
