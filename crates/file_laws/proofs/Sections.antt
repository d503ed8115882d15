-- What the sections of a lawful file hold is whole, and has room in the file's form.
use Rattle.std.specs.Prelude.{nat_lt, is_none, option_map}
use Rattle.std.proofs.Common.{◌≡◌, ℕ, ◌+◌, ◌*◌, ◌^◌, ◌≤◌, true, List, length, refl, ap, ◌∙◌, arith, subst, Option, None, ◌==◌, IsTrue}
use Rattle.std.proofs.lemmas.Bool.{and_from, eq-eqb, le-leb, lt-ltb, leb-true, and_parts}
use Rattle.std.proofs.lemmas.List.FromFn.{length-map-range_with_len}
use Rattle.topo_base.specs.declared.id.TheConstants.{LARGEST_ID}
use Rattle.bit_words.specs.Lists.{tabulate}
use Rattle.bit_words.specs.Bits.{bits_in, fields_in}
use Rattle.bit_words.specs.Digits.{digits}
use Rattle.bit_words.proofs.Finds.{first_none}
use Rattle.parens.specs.Matching.{balance_fault}
use Rattle.code_laws.specs.SeqFault.{seq_fault, is_sound}
use Rattle.code_laws.specs.Numbers.{tree_edges}
use Rattle.id_names.specs.Names.{AreDistinctIds, is_names}
use Rattle.id_names.specs.RisingNames.{ids_by_number}
use Rattle.id_names.proofs.NameLaws.{right_names}
use Rattle.id_names.proofs.NumberLaws.{names_pass}
use Rattle.file_laws.specs.Layout.{HeaderCounts, counts_in, words_of, sections, section, bits_at, fields_at, face_count, node_count, id_bits, low_width}
use Rattle.file_laws.specs.Contents.{Contents, component_count}
use Rattle.file_laws.specs.Held.{names_at, ids_at, contents_of}
use Rattle.file_laws.specs.Faults.{count_fault, directories_fault, names_fault, all_names_fault, places_fault, start_fault, member_fault, regions_fault, padding_fault, told_in}
use Rattle.file_laws.specs.Lawful.{is_lawful, is_whole, has_sizes, has_room_for, content_fault}
use Rattle.file_laws.specs.declared.fault.FileFault.TheVariants as fault
use Rattle.file_laws.proofs.Lengths.{no_faults, unless-true}
use Rattle.file_laws.proofs.Whole.{option_none}
use Rattle.file_laws.proofs.Rooms.{bound_is, bound_small, names_wide, room_of, rooms_of}

pub length-bits : (words : List ℕ) (number : ℕ) → length (bits_at words number) ≡ (section (counts_in words) number).count
unfolding bits_at bits_in tabulate
length-bits words number = length-map-range_with_len _ 0 (section (counts_in words) number).count

pub length-fields : (words : List ℕ) (number : ℕ) → length (fields_at words number) ≡ (section (counts_in words) number).count
unfolding fields_at fields_in tabulate
length-fields words number = length-map-range_with_len _ 0 (section (counts_in words) number).count

-- as many ids as places
pub length-ids : (words : List ℕ) (number : ℕ) → length (ids_at words number) ≡ (section (counts_in words) (number + 4)).count
unfolding ids_at names_at ids_by_number tabulate
length-ids words number = length-map-range_with_len _ 0 (length (fields_at words (number + 4))) ∙ length-fields words (number + 4)

-- how many fields each section has
pub record SectionsHave (words : List ℕ) (c : HeaderCounts) : Type 0 where
  pub a : length (bits_at words 1) ≡ 2 * c.edges
  pub tree : length (bits_at words 3) ≡ 2 * c.tree_edges
  pub dual : length (bits_at words 6) ≡ 2 * face_count c
  pub starts : length (fields_at words 9) ≡ c.components + 1
  pub forward : length (bits_at words 10) ≡ c.edges
  pub nodes : length (ids_at words 30) ≡ node_count c
  pub edges : length (ids_at words 40) ≡ c.edges
  pub faces : length (ids_at words 50) ≡ face_count c
  pub places : length (fields_at words 17) ≡ c.components
  pub place_order : length (fields_at words 18) ≡ c.components
  pub isolated : length (fields_at words 19) ≡ c.isolated
  pub region_bits : length (bits_at words 20) ≡ 2 * c.regions
  pub regions : length (ids_at words 60) ≡ c.regions
  pub members : length (fields_at words 25) ≡ face_count c + 1

pub sections_have : (words : List ℕ) → SectionsHave words (counts_in words)
unfolding section sections
sections_have words =
    record {
      a = length-bits words 1;
      tree = length-bits words 3;
      dual = length-bits words 6;
      starts = length-fields words 9;
      forward = length-bits words 10;
      nodes = length-ids words 30;
      edges = length-ids words 40;
      faces = length-ids words 50;
      places = length-fields words 17;
      place_order = length-fields words 18;
      isolated = length-fields words 19;
      region_bits = length-bits words 20;
      regions = length-ids words 60;
      members = length-fields words 25;
    }

-- what holds of counts without fault
pub record CountsFit (c : HeaderCounts) : Type 0 where
  pub edges : c.edges ≤ 16777216
  pub tree : c.tree_edges ≤ c.edges
  pub components : c.components ≤ c.edges
  pub nodes : node_count c ≤ 16777216
  pub regions : c.regions ≤ 16777216
  pub node_back : c.node_back ≤ node_count c
  pub edge_back : c.edge_back ≤ c.edges
  pub face_back : c.face_back ≤ face_count c
  pub region_back : c.region_back ≤ c.regions

pub counts_fit : (c : HeaderCounts) → count_fault c ≡ None → CountsFit c
unfolding count_fault
counts_fit c h =
    let f6 = first_none _ _ h in
    let f7 = first_none _ _ f6.1 in
    let f8 = first_none _ _ f7.1 in
    let f9 = first_none _ _ f8.1 in
    let f10 = first_none _ _ f9.1 in
    let f11 = first_none _ _ f10.1 in
    let f12 = first_none _ _ f11.1 in
    let f13 = first_none _ _ f12.1 in
    let f14 = first_none _ _ f13.1 in
    record {
      edges = leb-true _ _ (unless-true _ _ f6.0);
      tree = leb-true _ _ (unless-true _ _ f7.0);
      components = leb-true _ _ (and_parts _ _ (unless-true _ _ f8.0)).0;
      nodes = leb-true _ _ (unless-true _ _ f9.0);
      regions = leb-true _ _ (unless-true _ _ f10.0);
      node_back = leb-true _ _ (unless-true _ _ f11.0);
      edge_back = leb-true _ _ (unless-true _ _ f12.0);
      face_back = leb-true _ _ (unless-true _ _ f13.0);
      region_back = leb-true _ _ (unless-true _ _ f14.0);
    }

-- the parts of the last faults
pub record ContentFits (words : List ℕ) : Type 0 where
  pub sequence : seq_fault (contents_of words).code ≡ None
  pub directories : directories_fault words (contents_of words).code ≡ None
  pub names : all_names_fault words ≡ None
  pub places : places_fault (contents_of words) ≡ None
  pub start : start_fault (contents_of words) ≡ None
  pub regions : regions_fault words (contents_of words) ≡ None
  pub padding : padding_fault words ≡ None

pub content_fits : (words : List ℕ) → content_fault words ≡ None → ContentFits words
unfolding content_fault
content_fits words h =
    let c = contents_of words in
    let a = first_none (option_map fault.Sequence (seq_fault c.code)) _ h in
    let b = first_none (directories_fault words c.code) _ a.1 in
    let d = first_none (all_names_fault words) _ b.1 in
    let e = first_none (places_fault c) _ d.1 in
    let f = first_none (start_fault c) _ e.1 in
    let g = first_none (regions_fault words c) _ f.1 in
    let i = first_none (padding_fault words) _ g.1 in
    record { sequence = option_none fault.Sequence (seq_fault c.code) a.0; directories = b.0; names = d.0; places = e.0; start = f.0; regions = g.0; padding = i.0 }

-- the ids of c names without fault are below the bound of their form
names_right : (words : List ℕ) (form number c : ℕ) → (section (counts_in words) (number + 4)).count ≡ c → (section (counts_in words) (number + 3)).width ≡ low_width form c → c ≤ 16777216
    → names_fault words number ≡ None → AreDistinctIds (2 ^ id_bits form) (ids_at words number)
unfolding names_fault ids_at names_at
names_right words form number c many wide few h =
    let places : length (fields_at words (number + 4)) ≡ c = length-fields words (number + 4) ∙ many in
    let names = right_names (names_at words number) (fields_at words (number + 2)) (fields_at words (number + 6)) h in
    subst (λ bound. AreDistinctIds bound (ids_at words number))
    (ap (λ n. 2 ^ (digits n + (section (counts_in words) (number + 3)).width)) places ∙ ap (λ w. 2 ^ (digits c + w)) wide ∙ bound_is form c few) names

-- the ids of the four kinds of names of some words
pub record NamesFit (form : ℕ) (words : List ℕ) : Type 0 where
  pub nodes : AreDistinctIds (2 ^ id_bits form) (ids_at words 30)
  pub edges : AreDistinctIds (2 ^ id_bits form) (ids_at words 40)
  pub faces : AreDistinctIds (2 ^ id_bits form) (ids_at words 50)
  pub regions : AreDistinctIds (2 ^ id_bits form) (ids_at words 60)

pub none-is : {X : Type 0} (o : Option X) → o ≡ None → is_none o ≡ true
none-is o h = rw h refl

pub whole_from : (c : Contents) → has_sizes c ≡ true → is_sound c.code ≡ true → is_names (LARGEST_ID + 1) c.nodes ≡ true → is_names (LARGEST_ID + 1) c.edges ≡ true → is_names (LARGEST_ID + 1) c.faces ≡ true → is_names (LARGEST_ID + 1) c.regions ≡ true
    → places_fault c ≡ None → start_fault c ≡ None → balance_fault c.region_bits 0 (length c.region_bits) ≡ None → member_fault c ≡ None → is_whole c ≡ true
unfolding is_whole
whole_from c sizes sound nodes edges faces regions places start balance members =
    and_from _ _ sizes (and_from _ _ sound (and_from _ _ nodes (and_from _ _ edges (and_from _ _ faces (and_from _ _ regions
    (and_from _ _ (none-is _ places) (and_from _ _ (none-is _ start) (and_from _ _ (none-is _ balance) (and_from _ _ (none-is _ members) refl)))))))))

pub sizes_from : (c : Contents) → length c.code.a ≡ 2 * length c.edges → length c.code.starts ≡ component_count c + 1 → length c.forward ≡ length c.edges
    → length c.nodes ≡ component_count c + tree_edges c.code + length c.isolated → length c.faces + tree_edges c.code ≡ length c.edges → length c.place_order ≡ component_count c
    → length c.region_bits ≡ 2 * length c.regions → length c.members ≡ length c.faces + 1 → component_count c ≤ length c.edges → length c.edges ≤ 16777216 → length c.nodes ≤ 16777216
    → length c.regions ≤ 16777216 → has_sizes c ≡ true
unfolding has_sizes
sizes_from c a b d e f g h i j k l m =
    and_from _ _ (eq-eqb (length c.code.a) _ a) (and_from _ _ (eq-eqb (length c.code.starts) _ b) (and_from _ _ (eq-eqb (length c.forward) _ d) (and_from _ _ (eq-eqb (length c.nodes) _ e)
    (and_from _ _ (eq-eqb (length c.faces + tree_edges c.code) _ f) (and_from _ _ (eq-eqb (length c.place_order) _ g) (and_from _ _ (eq-eqb (length c.region_bits) _ h) (and_from _ _ (eq-eqb (length c.members) _ i)
    (and_from _ _ (le-leb (component_count c) _ j) (and_from _ _ (le-leb (length c.edges) _ k) (and_from _ _ (le-leb (length c.nodes) _ l) (and_from _ _ (le-leb (length c.regions) _ m) refl)))))))))))

module _ (words : List ℕ) (counts : CountsFit (counts_in words)) (content : ContentFits words) where
  have : SectionsHave words (counts_in words)
  have = sections_have words

  sizes_pass : has_sizes (contents_of words) ≡ true
  unfolding contents_of
  sizes_pass =
      let s = have in
      let k = counts in
      sizes_from (contents_of words) (omega (arith, s.a, s.edges)) (omega (arith, s.starts, s.places)) (omega (arith, s.forward, s.edges)) (omega (arith, s.nodes, s.places, s.tree, s.isolated))
      (omega (arith, s.faces, s.tree, s.edges, k.tree)) (omega (arith, s.place_order, s.places)) (omega (arith, s.region_bits, s.regions)) (omega (arith, s.members, s.faces))
      (omega (arith, s.places, s.edges, k.components)) (omega (arith, s.edges, k.edges)) (omega (arith, s.nodes, k.nodes)) (omega (arith, s.regions, k.regions))

  some_start : nat_lt 0 (length (contents_of words).code.starts) ≡ true
  unfolding contents_of
  some_start = let s = have in lt-ltb _ _ (omega (arith, s.starts))

  each_position : (length (contents_of words).code.tree + length (contents_of words).code.dual == length (contents_of words).code.a) ≡ true
  unfolding contents_of
  each_position = let s = have in let k = counts in eq-eqb _ _ (omega (arith, s.tree, s.dual, s.a, k.tree))

  sound : is_sound (contents_of words).code ≡ true
  sound = and_from _ _ (and_from _ _ some_start each_position) (none-is _ content.sequence)

  names_fit : NamesFit (counts_in words).form words
  unfolding all_names_fault regions_fault section sections
  names_fit =
      let form = (counts_in words).form in
      let k = counts in
      let c = contents_of words in
      let n30 = first_none (option_map (told_in fault.Name 30) (names_fault words 30)) _ content.names in
      let n40 = first_none (option_map (told_in fault.Name 40) (names_fault words 40)) _ n30.1 in
      let n50 = first_none (option_map (told_in fault.Name 50) (names_fault words 50)) _ n40.1 in
      let r20 = first_none (option_map (fault.RegionPart 20) (balance_fault c.region_bits 0 (length c.region_bits))) _ content.regions in
      let r21 = first_none _ _ r20.1 in
      let r22 = first_none _ _ r21.1 in
      let r60 = first_none (option_map (told_in fault.RegionPart 60) (names_fault words 60)) _ r22.1 in
      record {
        nodes = names_right words form 30 (node_count (counts_in words)) refl refl k.nodes (option_none (told_in fault.Name 30) (names_fault words 30) n30.0);
        edges = names_right words form 40 (counts_in words).edges refl refl k.edges (option_none (told_in fault.Name 40) (names_fault words 40) n40.0);
        faces = names_right words form 50 (face_count (counts_in words)) refl refl (omega (arith, k.edges)) (option_none (told_in fault.Name 50) (names_fault words 50) n50.0);
        regions = names_right words form 60 (counts_in words).regions refl refl k.regions (option_none (told_in fault.RegionPart 60) (names_fault words 60) r60.0);
      }

  pub whole_words : is_whole (contents_of words) ≡ true
  unfolding contents_of regions_fault
  whole_words =
      let c = contents_of words in
      let ids = λ (xs : List ℕ) (names : AreDistinctIds (2 ^ id_bits (counts_in words).form) xs). names_pass (LARGEST_ID + 1) xs (names_wide _ _ xs (bound_small (counts_in words).form) names) in
      let n = names_fit in
      let r20 = first_none (option_map (fault.RegionPart 20) (balance_fault c.region_bits 0 (length c.region_bits))) _ content.regions in
      let r21 = first_none _ _ r20.1 in
      let r22 = first_none _ _ r21.1 in
      let r60 = first_none _ _ r22.1 in
      let r25 = first_none (option_map (fault.RegionPart 25) (member_fault c)) _ r60.1 in
      whole_from c sizes_pass sound (ids (ids_at words 30) n.nodes) (ids (ids_at words 40) n.edges) (ids (ids_at words 50) n.faces) (ids (ids_at words 60) n.regions)
      content.places content.start
      (option_none (fault.RegionPart 20) (balance_fault c.region_bits 0 (length c.region_bits)) r20.0)
      (option_none (fault.RegionPart 25) (member_fault c) r25.0)

  pub room_words : has_room_for (counts_in words).form (contents_of words) ≡ true
  unfolding contents_of
  room_words =
      let form = (counts_in words).form in
      let n = names_fit in
      rooms_of form (contents_of words) (room_of form (ids_at words 30) n.nodes) (room_of form (ids_at words 40) n.edges) (room_of form (ids_at words 50) n.faces) (room_of form (ids_at words 60) n.regions)

pub lawful_whole : (bytes : List ℕ) → IsTrue (is_lawful bytes) → IsTrue (is_whole (contents_of (words_of bytes)))
lawful_whole bytes h =
    let n = no_faults bytes h in
    whole_words (words_of bytes) (counts_fit (counts_in (words_of bytes)) n.counts) (content_fits (words_of bytes) n.content)

-- what a lawful file holds has room in the file's form
pub lawful_room : (bytes : List ℕ) → IsTrue (is_lawful bytes) → IsTrue (has_room_for (counts_in (words_of bytes)).form (contents_of (words_of bytes)))
lawful_room bytes h =
    let n = no_faults bytes h in
    room_words (words_of bytes) (counts_fit (counts_in (words_of bytes)) n.counts) (content_fits (words_of bytes) n.content)

pub old_room : (bytes : List ℕ) → IsTrue (is_lawful bytes) → (counts_in (words_of bytes)).form ≡ 1 → IsTrue (has_room_for 1 (contents_of (words_of bytes)))
old_room bytes h one = subst (λ form. IsTrue (has_room_for form (contents_of (words_of bytes)))) one (lawful_room bytes h)
