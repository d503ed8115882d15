-- What the views of an open file stand for.
use Rattle.bit_words.specs.BitView.{bits_of}
use Rattle.bit_words.specs.PackedView.{fields_of}
use Rattle.parens.specs.ParenView.{parens_of}
use Rattle.turan_code.specs.TuranView.{code_of_view}
use Rattle.id_names.specs.Views.{ids_of}
use Rattle.file_laws.specs.Contents.{Contents, contents_with}
use Rattle.pemb_file.specs.declared.open_file.OpenFile.{OpenFile}

-- what the sections of an open file hold
abbrev pub contents_of_file : OpenFile → Contents
contents_of_file s =
    contents_with (code_of_view s.code) (bits_of s.forward) (ids_of s.nodes) (ids_of s.edges) (ids_of s.faces) (ids_of s.regions)
    (fields_of s.places) (fields_of s.place_order) (fields_of s.isolated) (parens_of s.region_tree) (fields_of s.members)
