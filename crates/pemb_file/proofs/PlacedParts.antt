-- The contents that places are checked in.
use Rattle.std.proofs.Common.{◌≡◌, ℕ, ◌+◌, ◌*◌, Bool, List, [], length, refl, sym, ◌∙◌, arith, None}
use Rattle.bit_words.specs.Digits.{digits}
use Rattle.code_laws.specs.Code.{Code}
use Rattle.file_laws.specs.Layout.{counts_in, bits_at, fields_at}
use Rattle.file_laws.specs.Contents.{Contents, contents_with}
use Rattle.file_laws.specs.Held.{ids_at, contents_of}
use Rattle.file_laws.specs.MapOfFile.{signed_at}
use Rattle.pemb_file.specs.Costs.{placed_cost}
use Rattle.pemb_file.specs.PlacedFits.{PlacedFits}
use Rattle.file_laws.specs.Faults.{count_fault, places_fault, place_fault, order_fault, isolated_fault, start_fault}
use Rattle.file_laws.proofs.Sections.{sections_have, counts_fit}

abbrev pub without_regions : List ℕ → Contents
without_regions words =
    contents_with (contents_of words).code (bits_at words 10) (ids_at words 30) (ids_at words 40) (ids_at words 50) [] (fields_at words 17) (fields_at words 18) (fields_at words 19) [] []

fits : (words : List ℕ) → count_fault (counts_in words) ≡ None → PlacedFits (without_regions words)
unfolding contents_of
fits words few =
    let s = sections_have words in
    let k = counts_fit (counts_in words) few in
    record {
      positions = omega (arith, s.a, s.edges);
      edges = omega (arith, s.a, s.edges);
      forward = omega (arith, s.a, s.forward);
      faces = omega (arith, s.a, s.tree, s.faces, k.tree);
      places = omega (arith, s.places, s.starts);
      order = s.place_order ∙ sym s.places;
      isolated = omega (arith, s.isolated, s.nodes);
      few = omega (arith, s.edges, k.edges);
      few_places = omega (arith, s.places, k.components, k.edges);
    }

pub parts-are : (words : List ℕ) (code : Code) (forward : List Bool) (nodes edges faces places order isolated : List ℕ)
    → code ≡ (contents_of words).code → forward ≡ bits_at words 10 → nodes ≡ ids_at words 30 → edges ≡ ids_at words 40 → faces ≡ ids_at words 50 → places ≡ fields_at words 17 → order ≡ fields_at words 18 → isolated ≡ fields_at words 19
    → contents_with code forward nodes edges faces [] places order isolated [] [] ≡ without_regions words
parts-are words code forward nodes edges faces places order isolated a b c d e f g h = rw (a, b, c, d, e, f, g, h) refl

pub parts-fit : (words : List ℕ) (c : Contents) → c ≡ without_regions words → count_fault (counts_in words) ≡ None → PlacedFits c
parts-fit words c e few = rw e (fits words few)

pub same_places : (words : List ℕ) (c : Contents) → c ≡ without_regions words → places_fault (contents_of words) ≡ places_fault c
unfolding places_fault place_fault order_fault isolated_fault signed_at contents_of
same_places words c e = rw e refl

pub same_starts : (words : List ℕ) (c : Contents) → c ≡ without_regions words → start_fault (contents_of words) ≡ start_fault c
unfolding start_fault signed_at contents_of
same_starts words c e = rw e refl

pub placed-cost : (words : List ℕ) (c : Contents) → c ≡ without_regions words
    → length c.code.a * (7 * digits (length c.code.a + 2) + 84) + length c.places * 4 + (length c.places * (38 * digits (length c.code.a + 2) + 292) + length c.isolated * (6 * digits (length c.nodes + 2) + 44))
    ≡ placed_cost (counts_in words)
unfolding contents_of
placed-cost words c e =
    let s = sections_have words in
    rw e (rw (s.a, s.places, s.isolated, s.nodes) (omega arith))
