-- The names of whole contents in a form that has room for them.
use Rattle.std.specs.Prelude.{slice_index, nat_lt}
use Rattle.std.proofs.Common.{◌≡◌, ℕ, zero, suc, ◌+◌, ◌^◌, ◌<◌, ◌||◌, ◌==◌, true, List, [], ◌∷◌, length, refl, arith, IsTrue}
use Rattle.std.proofs.lemmas.Bool.{and_parts, ltb-true}
use Rattle.topo_base.specs.declared.id.TheConstants.{LARGEST_ID}
use Rattle.id_names.specs.Names.{AreDistinctIds}
use Rattle.file_laws.specs.Layout.{id_bits}
use Rattle.file_laws.specs.Contents.{Contents}
use Rattle.file_laws.specs.Lawful.{is_whole, has_room, has_room_for}
use Rattle.file_laws.proofs.Agreement.{test_at}
use Rattle.file_laws.proofs.Whole.{whole_parts}
use Rattle.pemb_file.specs.Form.{number_of}
use Rattle.pemb_file.specs.Written.{HoldAllNames}
use Rattle.pemb_file.specs.declared.form.Form.{Form}
use Rattle.pemb_file.specs.declared.form.Form.TheVariants.{One, Two}
use Rattle.pemb_file.specs.declared.writing.AllNames.{AllNames}
use Rattle.pemb_file.proofs.MadeCounts.{AllNamed}

room_at : (form : ℕ) (ids : List ℕ) → has_room form ids ≡ true → (k : ℕ) → k < length ids → slice_index ids k < 2 ^ id_bits form
room_at form [] h k l = absurd (omega arith)
room_at form (id ∷ ids) h zero l = ltb-true id (2 ^ id_bits form) (and_parts (nat_lt id (2 ^ id_bits form)) (has_room form ids) h).0
room_at form (id ∷ ids) h (suc k) l = room_at form ids (and_parts (nat_lt id (2 ^ id_bits form)) (has_room form ids) h).1 k (omega (arith, l))

with_room : (form : ℕ) (ids : List ℕ) → AreDistinctIds (LARGEST_ID + 1) ids → has_room form ids ≡ true → AreDistinctIds (2 ^ id_bits form) ids
with_room form ids d h = record { in_range = λ k l. ((d.in_range k l).0, room_at form ids h k l); distinct = d.distinct }

-- the ids of whole contents, and where a form has room for them
pub record AllDistinct (bound : ℕ) (c : Contents) : Type 0 where
  pub nodes : AreDistinctIds bound c.nodes
  pub edges : AreDistinctIds bound c.edges
  pub faces : AreDistinctIds bound c.faces
  pub regions : AreDistinctIds bound c.regions

pub ids_with_room : (form : ℕ) (c : Contents) → IsTrue (is_whole c) → IsTrue (has_room_for form c) → AllDistinct (2 ^ id_bits form) c
unfolding has_room_for
ids_with_room form c w r =
    let d = whole_parts c w in
    let tests = has_room form c.nodes ∷ has_room form c.edges ∷ has_room form c.faces ∷ has_room form c.regions ∷ [] in
    record {
      nodes = with_room form c.nodes d.node_names (test_at tests 0 r);
      edges = with_room form c.edges d.edge_names (test_at tests 1 r);
      faces = with_room form c.faces d.face_names (test_at tests 2 r);
      regions = with_room form c.regions d.region_names (test_at tests 3 r);
    }

pub all_named : (form : ℕ) (c : Contents) (names : AllNames) → HoldAllNames form c names → AllNamed form c
all_named form c names h = record { nodes = h.nodes.named; edges = h.edges.named; faces = h.faces.named; regions = h.regions.named }

pub known_form : (form : Form) → IsTrue ((number_of form == 1) || (number_of form == 2))
known_form One = refl
known_form Two = refl
