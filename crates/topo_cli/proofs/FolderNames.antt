-- The names of a folder's tables, and what stands under them.
use Rattle.std.specs.Prelude.{bytes_eq}
use Rattle.std.proofs.Common.{◌≡◌, ◌∙◌, ℕ, true, false, List, [], ◌∷◌, ◌++◌, refl, sym, ap, codes}
use Rattle.std.proofs.lemmas.Bool.{false≢true}
use Rattle.std.proofs.lemmas.List.{append_cancel_left}
use Rattle.topo_base.specs.declared.refusal.Table.TheVariants as table
use Rattle.plane_model.specs.PlaneMap.{PlaneMap}
use Rattle.plane_model.specs.Texts.{table_text}
use Rattle.table_dump.specs.Dumped.{AreApart, NamedText}
use Rattle.topo_cli.specs.Outcome.{folder_of}
use Rattle.topo_cli.specs.Words.{node_table, edge_table, face_table, region_table, member_table}

-- the names of a folder's tables, in the order in which they are written
abbrev pub folder_names : List ℕ → List (List ℕ)
folder_names dir = node_table dir ∷ edge_table dir ∷ face_table dir ∷ region_table dir ∷ member_table dir ∷ []

apart_names : (dir first second : List ℕ) → bytes_eq first first ≡ true → bytes_eq first second ≡ false → dir ++ first ≡ dir ++ second → ⊥
apart_names dir first second itself other same = false≢true (sym other ∙ ap (bytes_eq first) (sym (append_cancel_left dir first second same)) ∙ itself)

-- no two are one
pub names_apart : (dir : List ℕ) → AreApart (folder_names dir)
names_apart dir = (
  (apart_names dir (codes "/node.csv") (codes "/edge.csv") refl refl, (apart_names dir (codes "/node.csv") (codes "/face.csv") refl refl, (apart_names dir (codes "/node.csv") (codes "/region.csv") refl refl, (apart_names dir (codes "/node.csv") (codes "/member.csv") refl refl, tt)))),
  (
    (apart_names dir (codes "/edge.csv") (codes "/face.csv") refl refl, (apart_names dir (codes "/edge.csv") (codes "/region.csv") refl refl, (apart_names dir (codes "/edge.csv") (codes "/member.csv") refl refl, tt))),
    (
      (apart_names dir (codes "/face.csv") (codes "/region.csv") refl refl, (apart_names dir (codes "/face.csv") (codes "/member.csv") refl refl, tt)),
      (
        (apart_names dir (codes "/region.csv") (codes "/member.csv") refl refl, tt),
        (tt, tt),
      ),
    ),
  ),
)

-- these are the names of a folder's tables
pub record AreFolderNames (dir n e f r m : List ℕ) : Type 0 where
  pub node : n ≡ node_table dir
  pub edge : e ≡ edge_table dir
  pub face : f ≡ face_table dir
  pub region : r ≡ region_table dir
  pub member : m ≡ member_table dir

pub names_are : (dir n e f r m : List ℕ) → AreFolderNames dir n e f r m → AreApart (n ∷ e ∷ f ∷ r ∷ m ∷ [])
names_are dir n e f r m h = rw (h.node, h.edge, h.face, h.region, h.member) (names_apart dir)

-- the tables of a map under names
abbrev pub texts_under : (node edge face region member : List ℕ) → PlaneMap → List NamedText
texts_under n e f r k m =
    record { name = n; bytes = table_text m table.Node }
    ∷ record { name = e; bytes = table_text m table.Edge }
    ∷ record { name = f; bytes = table_text m table.Face }
    ∷ record { name = r; bytes = table_text m table.Region }
    ∷ record { name = k; bytes = table_text m table.Member }
    ∷ []

pub files_are : (dir n e f r k : List ℕ) (m : PlaneMap) → AreFolderNames dir n e f r k → texts_under n e f r k m ≡ folder_of dir m
files_are dir n e f r k m h = rw (h.node, h.edge, h.face, h.region, h.member) refl
