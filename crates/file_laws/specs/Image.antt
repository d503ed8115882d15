-- The one image that is written of contents: the bytes as a function of what the sections hold.
use Rattle.std.specs.Prelude.{ℕ, ◌+◌, ◌*◌, ◌/◌, ◌%◌, ◌^◌, Bool, if◌then◌else◌, List, [], ◌∷◌, ◌++◌, map, flat_map, length}
use Rattle.byteorder.specs.Endian.{little_bytes}
use Rattle.sha2.specs.Sha256.{sha256}
use Rattle.bit_words.specs.Lists.{tabulate}
use Rattle.rank_select.specs.Counts.{counts_of}
use Rattle.min_max_tree.specs.Tree.{nodes_of}
use Rattle.code_laws.specs.Code.{Code}
use Rattle.code_laws.specs.Numbers.{tree_edges}
use Rattle.id_names.specs.RisingNames.{RisingNames}
use Rattle.id_names.specs.Making.{made, place_width}
use Rattle.file_laws.specs.Layout.{HeaderCounts, Section, low_width}
use Rattle.file_laws.specs.Contents.{Contents, component_count}
use Rattle.file_laws.specs.Faults.{magic}

-- the names that are made of these ids in a form
abbrev pub names_for : ℕ → List ℕ → RisingNames
names_for form ids = made (low_width form (length ids)) ids

-- a form with the counts of these contents in it
abbrev pub counts_of_contents : ℕ → Contents → HeaderCounts
counts_of_contents form c =
    record {
      form = form;
      edges = length c.edges;
      tree_edges = tree_edges c.code;
      components = component_count c;
      isolated = length c.isolated;
      regions = length c.regions;
      node_back = length (names_for form c.nodes).back;
      edge_back = length (names_for form c.edges).back;
      face_back = length (names_for form c.faces).back;
      region_back = length (names_for form c.regions).back;
    }

-- numbers of one width as the digits of one number, the first lowest
unfoldable pub joined : ℕ → List ℕ → ℕ
joined width [] = 0
joined width (item ∷ more) = item + 2 ^ width * joined width more

-- the words of these numbers, with bits of 0 behind the last of them
unfoldable pub packed : ℕ → List ℕ → List ℕ
packed width items = tabulate ((length items * width + 63) / 64) (λ k. joined width items / 2 ^ (64 * k) % 2 ^ 64)

-- A section with its fields.
pub record Filled : Type 0 where
  pub number : ℕ
  pub width : ℕ
  pub items : List ℕ

abbrev pub section_of : Filled → Section
section_of f = record { number = f.number; count = length f.items; width = f.width }

abbrev pub words_of_filled : Filled → List ℕ
words_of_filled f = packed f.width f.items

-- bits as fields of one bit
abbrev pub ones : List Bool → List ℕ
ones bits = map (λ bit. if bit then 1 else 0) bits

abbrev pub with_bits : ℕ → List Bool → Filled
with_bits number bits = record { number = number; width = 1; items = ones bits }

abbrev pub with_fields : ℕ → List ℕ → Filled
with_fields number items = record { number = number; width = 32; items = items }

abbrev pub with_words : ℕ → List ℕ → Filled
with_words number words = record { number = number; width = 64; items = words }

-- bits with their counts, and with their tree besides
abbrev pub with_counts : ℕ → List Bool → List Filled
with_counts number bits = with_bits number bits ∷ with_fields (number + 1) (counts_of bits) ∷ []

abbrev pub with_tree : ℕ → List Bool → List Filled
with_tree number bits = with_bits number bits ∷ with_fields (number + 1) (counts_of bits) ∷ with_words (number + 2) (nodes_of bits) ∷ []

-- fields of a width
abbrev pub with_width : ℕ → ℕ → List ℕ → Filled
with_width number width items = record { number = number; width = width; items = items }

-- the seven parts of names, behind this number
abbrev pub with_parts : ℕ → ℕ → RisingNames → List Filled
with_parts number c p =
    with_counts (number + 1) p.high ++ with_width (number + 3) p.low p.lows ∷ with_width (number + 4) (place_width c) p.places ∷ []
    ++ with_counts (number + 5) p.marks ++ with_width (number + 7) (place_width c) p.back ∷ []

-- the names that are made of these ids
abbrev pub with_names : ℕ → ℕ → List ℕ → List Filled
with_names form number ids = with_parts number (length ids) (names_for form ids)

-- the sections of a code
abbrev pub code_sections : Code → List Filled
code_sections c = with_counts 1 c.a ++ with_tree 3 c.tree ++ with_tree 6 c.dual ++ with_fields 9 c.starts ∷ []

-- all sections with what they hold, in their order
unfoldable pub filled : ℕ → Contents → List Filled
filled form c =
    code_sections c.code ++ with_bits 10 c.forward ∷ []
    ++ with_names form 30 c.nodes ++ with_names form 40 c.edges ++ with_names form 50 c.faces
    ++ with_fields 17 c.places ∷ with_fields 18 c.place_order ∷ with_fields 19 c.isolated ∷ []
    ++ with_tree 20 c.region_bits ++ with_names form 60 c.regions ++ with_fields 25 c.members ∷ []

-- the words behind the digest: the counts, and the sections
abbrev pub counts_words : HeaderCounts → List ℕ
counts_words n =
    n.edges ∷ n.tree_edges ∷ n.components ∷ n.isolated ∷ n.regions ∷ n.node_back ∷ n.edge_back ∷ n.face_back ∷ n.region_back ∷ []

abbrev pub content_words : ℕ → Contents → List ℕ
content_words form c = counts_words (counts_of_contents form c) ++ flat_map words_of_filled (filled form c)

-- the bytes of words, the lowest byte of each first
unfoldable pub bytes_of : List ℕ → List ℕ
bytes_of words = flat_map (little_bytes 8) words

-- the first word, the form, the digest of what follows it, the counts and the sections
unfoldable pub image_of : ℕ → Contents → List ℕ
image_of form c = let content = bytes_of (content_words form c) in bytes_of (magic ∷ form ∷ []) ++ sha256 content ++ content
