-- What a shelf holds after the tables of a map were written, where it tells its files.
use Rattle.std.specs.Prelude.{◌≡◌, ◌≢◌, ℕ, List, [], ◌∷◌, ◌++◌, map, Some, ⊤}
use Rattle.topo_base.specs.declared.refusal.Table.TheVariants as table
use Rattle.plane_model.specs.PlaneMap.{PlaneMap}
use Rattle.plane_model.specs.Texts.{table_text}
use Rattle.ports.specs.Outside.{Files, IsFrontAtMost}
use Rattle.table_dump.specs.declared.file_names.DumpNames.{DumpNames}

-- a file to be written
pub record NamedText : Type 0 where
  pub name : List ℕ
  pub bytes : List ℕ

-- the names of the tables, in the order in which they are written
abbrev pub names_in : DumpNames → List (List ℕ)
names_in n = n.node.now ∷ n.edge.now ∷ n.face.now ∷ n.region.now ∷ n.member.now ∷ []

-- the tables of a map under these names, in this order
abbrev pub dumped_files : DumpNames → PlaneMap → List NamedText
dumped_files n m =
    record { name = n.node.now; bytes = table_text m table.Node }
    ∷ record { name = n.edge.now; bytes = table_text m table.Edge }
    ∷ record { name = n.face.now; bytes = table_text m table.Face }
    ∷ record { name = n.region.now; bytes = table_text m table.Region }
    ∷ record { name = n.member.now; bytes = table_text m table.Member }
    ∷ []

-- the name is none of these
abbrev pub IsOther : List (List ℕ) → List ℕ → Type 0
IsOther [] name = ⊤
IsOther (n ∷ ns) name = (name ≢ n) × IsOther ns name

-- no two of these names are one
abbrev pub AreApart : List (List ℕ) → Type 0
AreApart [] = ⊤
AreApart (n ∷ ns) = IsOther ns n × AreApart ns

abbrev pub names_of : List NamedText → List (List ℕ)
names_of ts = map (λ t. t.name) ts

-- each name holds its text
abbrev pub AreHeld : List NamedText → Files → Type 0
AreHeld [] files = ⊤
AreHeld (t ∷ ts) files = (files t.name ≡ Some t.bytes) × AreHeld ts files

-- all names but these are as before
abbrev pub AllOthersStay : List (List ℕ) → Files → Files → Type 0
AllOthersStay names before after = (other : List ℕ) → IsOther names other → after other ≡ before other

-- each name holds its text, and all other names are as before
pub record AreWritten (texts : List NamedText) (before after : Files) : Type 0 where
  pub held : AreHeld texts after
  pub others : AllOthersStay (names_of texts) before after

-- those before one of these files hold their text; that one holds what it held, or nothing, or a front of its text; all
-- other names are as before
pub record AreWrittenInPart (texts : List NamedText) (before after : Files) : Type 0 where
  pub done : List NamedText
  pub at : NamedText
  pub more : List NamedText
  pub order : done ++ (at ∷ more) ≡ texts
  pub held : AreHeld done after
  pub part : IsFrontAtMost at.name at.bytes before after
  pub others : AllOthersStay (names_of (done ++ (at ∷ []))) before after
