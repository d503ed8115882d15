-- Small files, and what is wrong with files like them.
use Rattle.std.specs.Prelude.{ℕ, ◌+◌, ◌*◌, ◌^◌, ℤ, pos, neg_ℤ, List, [], ◌∷◌, ◌++◌, Some, None, take, drop, replicate}
use Rattle.bit_words.specs.Words.{words_in}
use Rattle.sha2.specs.Sha256.{sha256}
use Rattle.plane_model.specs.Rows.{Rows}
use Rattle.plane_model.specs.declared.rows.NodeRow.{NodeRow}
use Rattle.file_laws.specs.Layout.{HeaderCounts}
use Rattle.file_laws.specs.Contents.{Contents}
use Rattle.file_laws.specs.Held.{contents_of}
use Rattle.file_laws.specs.Faults.{magic}
use Rattle.file_laws.specs.Image.{bytes_of}

-- two fields of 32 bits in one word, the first one lowest
abbrev pub two : ℕ → ℕ → ℕ
two x y = x + 2 ^ 32 * y

-- the file of a triangle in form 1, with 0 in place of its digest
abbrev pub tri : List ℕ
tri =
    magic ∷ 1 ∷ 0 ∷ 0 ∷ 0 ∷ 0 ∷ 3 ∷ 2 ∷ 1 ∷ 0 ∷ 0 ∷ 0 ∷ 0 ∷ 0 ∷ 0 ∷ 27 ∷ 17179869184 ∷ 3 ∷ 8589934592 ∷ 0 ∷ 1
    ∷ 4294967296 ∷ 0 ∷ 25769803776 ∷ 0 ∷ 7 ∷ 12884901888 ∷ 864691129528877057 ∷ 0 ∷ 33 ∷ 0 ∷ 0 ∷ 7 ∷ 12884901888
    ∷ 864691129528877057 ∷ 0 ∷ 24 ∷ 0 ∷ 0 ∷ 1 ∷ 4294967296 ∷ 1 ∷ 0 ∷ 0 ∷ 0 ∷ 0 ∷ 0 ∷ 0 ∷ 0 ∷ 0 ∷ 0 ∷ 0 ∷ []

-- the same in form 2
abbrev pub wide_tri : List ℕ
wide_tri =
    magic ∷ 2 ∷ 0 ∷ 0 ∷ 0 ∷ 0 ∷ 3 ∷ 2 ∷ 1 ∷ 0 ∷ 0 ∷ 0 ∷ 0 ∷ 0 ∷ 0 ∷ 27 ∷ 17179869184 ∷ 3 ∷ 8589934592 ∷ 0 ∷ 1
    ∷ 4294967296 ∷ 0 ∷ 25769803776 ∷ 0 ∷ 7 ∷ 12884901888 ∷ 4611686018427387905 ∷ 864691128455135232 ∷ 0 ∷ 33 ∷ 0 ∷ 0
    ∷ 7 ∷ 12884901888 ∷ 4611686018427387905 ∷ 864691128455135232 ∷ 0 ∷ 24 ∷ 0 ∷ 0 ∷ 1 ∷ 4294967296 ∷ 1 ∷ 0 ∷ 0 ∷ 0 ∷ 0
    ∷ 0 ∷ 0 ∷ 0 ∷ 0 ∷ 0 ∷ 0 ∷ []

abbrev pub with_word : ℕ → ℕ → List ℕ
with_word i word = take i tri ++ word ∷ drop (i + 1) tri

abbrev pub wide_with : ℕ → ℕ → List ℕ
wide_with i word = take i wide_tri ++ word ∷ drop (i + 1) wide_tri

-- a form, and counts without back pointers: edges, tree edges, components, isolated nodes and regions
abbrev pub counts_with : ℕ → ℕ → ℕ → ℕ → ℕ → ℕ → HeaderCounts
counts_with form edges tree_edges components isolated regions =
    record {
      form = form;
      edges = edges;
      tree_edges = tree_edges;
      components = components;
      isolated = isolated;
      regions = regions;
      node_back = 0;
      edge_back = 0;
      face_back = 0;
      region_back = 0;
    }

abbrev pub minus : ℕ → ℤ
minus n = neg_ℤ (pos n)

abbrev pub node_row : ℕ → NodeRow
node_row n = record { id = n; face = None }

abbrev pub tri_rows : Rows
tri_rows =
    record {
      nodes = node_row 1 ∷ node_row 2 ∷ node_row 3 ∷ [];
      edges =
          record { id = 1; start = 1; end = 2; next_left = pos 2; next_right = minus 3; left_face = 1; right_face = 0 }
          ∷ record { id = 2; start = 2; end = 3; next_left = pos 3; next_right = minus 1; left_face = 1; right_face = 0 }
          ∷ record { id = 3; start = 3; end = 1; next_left = pos 1; next_right = minus 2; left_face = 1; right_face = 0 }
          ∷ [];
      faces = record { id = 1 } ∷ [];
      regions = [];
      members = [];
    }

abbrev pub digest_words : List ℕ → List ℕ
digest_words words = words_in 4 (sha256 (drop 48 (bytes_of words)))

-- with the right digest
abbrev pub sealed : List ℕ → List ℕ
sealed words = bytes_of (take 2 words ++ digest_words words ++ drop 6 words)

-- three tables without rows
abbrev pub empty : List ℕ
empty = magic ∷ 1 ∷ replicate 31 0

-- the triangle, and a closed edge and a node inside it, with two regions
abbrev pub isle : List ℕ
isle =
    magic ∷ 1 ∷ 0 ∷ 0 ∷ 0 ∷ 0 ∷ 4 ∷ 2 ∷ 2 ∷ 1 ∷ 2 ∷ 2 ∷ 0 ∷ 0 ∷ 0 ∷ 27 ∷ 17179869184 ∷ 3 ∷ 8589934592 ∷ 0 ∷ 5
    ∷ 8589934592 ∷ 0 ∷ 25769803776 ∷ 8 ∷ 0 ∷ 31 ∷ 21474836480 ∷ 216172782650654721 ∷ 1407374887747584 ∷ 0 ∷ 17433 ∷ 5
    ∷ 8589934592 ∷ 2 ∷ 15 ∷ 17179869184 ∷ 216172782650654721 ∷ 4194304 ∷ 1616 ∷ 0 ∷ 0 ∷ 3 ∷ 8589934592 ∷ 1073741825
    ∷ 4 ∷ 0 ∷ 0 ∷ 4294967296 ∷ 4294967296 ∷ 2 ∷ 3 ∷ 8589934592 ∷ 0 ∷ 3 ∷ 8589934592 ∷ 1073741825 ∷ 4 ∷ 0 ∷ 0
    ∷ 8589934592 ∷ 1 ∷ []

abbrev pub isle_with : ℕ → ℕ → List ℕ
isle_with i word = take i isle ++ word ∷ drop (i + 1) isle

abbrev pub isle_rows : Rows
isle_rows =
    record {
      nodes = node_row 1 ∷ node_row 2 ∷ node_row 3 ∷ node_row 4 ∷ record { id = 5; face = Some 2 } ∷ [];
      edges =
          record { id = 1; start = 1; end = 2; next_left = pos 2; next_right = minus 3; left_face = 1; right_face = 0 }
          ∷ record { id = 2; start = 2; end = 3; next_left = pos 3; next_right = minus 1; left_face = 1; right_face = 0 }
          ∷ record { id = 3; start = 3; end = 1; next_left = pos 1; next_right = minus 2; left_face = 1; right_face = 0 }
          ∷ record { id = 4; start = 4; end = 4; next_left = pos 4; next_right = minus 4; left_face = 2; right_face = 1 }
          ∷ [];
      faces = record { id = 1 } ∷ record { id = 2 } ∷ [];
      regions = record { id = 1; parent = None } ∷ record { id = 2; parent = Some 1 } ∷ [];
      members = record { region = 2; face = 1 } ∷ record { region = 1; face = 2 } ∷ [];
    }

-- the same without regions
abbrev pub plain : List ℕ
plain = take 10 isle ++ 0 ∷ take 3 (drop 11 isle) ++ 0 ∷ take 36 (drop 15 isle) ++ replicate 6 0

abbrev pub plain_with : ℕ → ℕ → List ℕ
plain_with i word = take i plain ++ word ∷ drop (i + 1) plain

abbrev pub plain_rows : Rows
plain_rows = record isle_rows { regions = []; members = [] }

-- what these files hold
abbrev pub tri_contents : Contents
tri_contents = contents_of tri

abbrev pub plain_contents : Contents
plain_contents = contents_of plain
