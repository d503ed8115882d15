-- The image of whole contents is lawful, and its sections hold the contents.
use Rattle.std.specs.Prelude.{slice_index, map, is_none, find, unwrap_or, option_map, flat_map, nat_lt, nat_le}
use Rattle.std.proofs.Common.{◌≡◌, ℕ, ◌+◌, ◌*◌, ◌/◌, ◌%◌, ◌^◌, ◌<◌, ◌≤◌, Bool, true, List, [], ◌∷◌, ◌++◌, length, take, drop, refl, ap, sym, ◌∙◌, arith, IsTrue, Option, None, ◌==◌, ◌&&◌, ◌||◌, subst, inl, inr, length-append, append_assoc, lit<, zero, suc}
use Rattle.std.proofs.lemmas.Bool.{and_parts, and_from, or_cases, eqb-true, eq-eqb, le-leb}
use Rattle.std.proofs.lemmas.List.{get_or-append-add, get_or_append_left, length-map}
use Rattle.std.proofs.Math.Seq.{drop-append_seam, drop-append-add}
use Rattle.sha2.specs.Sha256.{sha256, digest_bytes}
use Rattle.bit_words.specs.Bits.{bits_in, fields_in}
use Rattle.bit_words.specs.Words.{words_in}
use Rattle.bit_words.specs.WrongEntry.{first_wrong}
use Rattle.bit_words.specs.Lists.{first_some}
use Rattle.bit_words.proofs.FirstWrong.{first_wrong-none}
use Rattle.bit_words.proofs.WordLists.{length-words_in}
use Rattle.rank_select.specs.Counts.{counts_of}
use Rattle.min_max_tree.specs.Tree.{nodes_of}
use Rattle.code_laws.specs.Code.{Code, code_with}
use Rattle.code_laws.specs.SeqFault.{seq_fault, is_sound}
use Rattle.id_names.specs.RisingNames.{RisingNames, ids_by_number}
use Rattle.id_names.specs.Faults.{name_fault}
use Rattle.id_names.specs.Making.{place_width}
use Rattle.file_laws.specs.Layout.{sections, section, section_from, section_words, counts_in, low_width, words_of, part, bits_at, fields_at, header_words, file_words, total_words, words_before, no_section}
use Rattle.file_laws.specs.Contents.{Contents, contents_with}
use Rattle.file_laws.specs.Held.{names_at, ids_at, contents_of}
use Rattle.file_laws.specs.Faults.{front_fault, digest_fault, count_fault, directories_fault, all_names_fault, names_fault, told_in, places_fault, start_fault, regions_fault, padding_fault, padding_from, magic, directory_fault, unless, wanted_words}
use Rattle.file_laws.specs.Lawful.{is_lawful, is_whole, first_fault, content_fault, whole_tests}
use Rattle.file_laws.specs.Image.{Filled, counts_of_contents, counts_words, content_words, filled, section_of, words_of_filled, with_bits, with_fields, with_width, with_words, packed, ones, bytes_of, image_of, names_for}
use Rattle.pemb_file.specs.Written.{AllFit, AreNamed}
use Rattle.pemb_file.specs.Sealed.{LacksOnlyDigest}
use Rattle.file_laws.specs.declared.fault.FileFault.{FileFault}
use Rattle.file_laws.specs.declared.fault.FileFault.TheVariants as fault
use Rattle.file_laws.proofs.Agreement.{test_at}
use Rattle.file_laws.proofs.Largest.{whole_counts_fit}
use Rattle.file_laws.proofs.Lengths.{none-is_none}
use Rattle.pemb_file.proofs.FrontFaults.{first-none, first-end}
use Rattle.pemb_file.proofs.DigestFault.{digest-right}
use Rattle.pemb_file.proofs.Packed.{bits-packed, fields-packed, whole_packed, packed-below}
use Rattle.pemb_file.proofs.FilledSections.{filled_of, filled-fit, section-filled, part-filled, length-all, padding-filled}
use Rattle.pemb_file.proofs.ImageBytes.{length-bytes_of, words_in-bytes_of, words_in-append}
use Rattle.pemb_file.proofs.MadeCounts.{Many, many, AllNamed, fine, no_count_fault, sections_filled}
use Rattle.pemb_file.proofs.NameSizes.{high_bits, mark_bits}

pub length-sha256 : (m : List ℕ) → length (sha256 m) ≡ 32
unfolding sha256 digest_bytes
length-sha256 m = refl

-- the words of an image, with this digest
abbrev pub image_words : List ℕ → ℕ → Contents → List ℕ
image_words digest form c = magic ∷ form ∷ words_in 4 digest ++ content_words form c

counts_are : (digest : List ℕ) (form : ℕ) (c : Contents) → counts_in (image_words digest form c) ≡ counts_of_contents form c
unfolding words_in
counts_are digest form c = refl

sections_are : (digest : List ℕ) (form : ℕ) (c : Contents) → drop 15 (image_words digest form c) ≡ flat_map words_of_filled (filled form c)
unfolding words_in
sections_are digest form c = refl

same_parts : (high high' marks marks' : List Bool) (lows lows' places places' back back' : List ℕ) (low low' : ℕ)
    → high ≡ high' → lows ≡ lows' → low ≡ low' → places ≡ places' → marks ≡ marks' → back ≡ back'
    → ◌≡◌ {A = RisingNames} (record { high = high; lows = lows; low = low; places = places; marks = marks; back = back }) (record { high = high'; lows = lows'; low = low'; places = places'; marks = marks'; back = back' })
same_parts high high' marks marks' lows lows' places places' back back' low low' e0 e1 e2 e3 e4 e5 = cc

module _ (digest : List ℕ) (form : ℕ) (c : Contents) (m : Many c) (n : AllNamed form c) (fit : AllFit (filled form c)) where
  abbrev words : List ℕ
  words = image_words digest form c

  section_is : (number : ℕ) → section (counts_in words) number ≡ section_of (filled_of number (filled form c))
  unfolding section
  section_is number = ap (λ k. section k number) (counts_are digest form c) ∙ ap (λ ss. unwrap_or (find (λ s. s.number == number) ss) no_section) (sections_filled form c m n) ∙ section-filled number (filled form c)

  from_is : (number : ℕ) → section_from (counts_in words) number ≡ 15 + words_before number (map section_of (filled form c))
  unfolding section_from
  from_is number = ap (λ k. section_from k number) (counts_are digest form c) ∙ ap (λ ss. 15 + words_before number ss) (sections_filled form c m n)

  drop_is : (k : ℕ) → drop (15 + k) words ≡ drop k (flat_map words_of_filled (filled form c))
  unfolding words_in
  drop_is k = drop-append-add (magic ∷ form ∷ words_in 4 digest ++ counts_words (counts_of_contents form c)) (flat_map words_of_filled (filled form c)) k

  part_is : (number : ℕ) → part words number ≡ words_of_filled (filled_of number (filled form c))
  unfolding part
  part_is number =
      ap (λ s. take (section_words s) (drop (section_from (counts_in words) number) words)) (section_is number)
      ∙ ap (λ k. take (section_words (section_of (filled_of number (filled form c)))) (drop k words)) (from_is number)
      ∙ ap (take (section_words (section_of (filled_of number (filled form c))))) (drop_is (words_before number (map section_of (filled form c))))
      ∙ part-filled number (filled form c)

  bits_are : (number : ℕ) (bits : List Bool) → filled_of number (filled form c) ≡ with_bits number bits → length bits ≤ 2147483647 → bits_at words number ≡ bits
  unfolding bits_at
  bits_are number bits e few =
      ap (λ s. bits_in (part words number) s.count) (section_is number ∙ ap section_of e)
      ∙ ap (λ ws. bits_in ws (length (ones bits))) (part_is number ∙ ap words_of_filled e)
      ∙ ap (bits_in (packed 1 (ones bits))) (rw length-map refl) ∙ bits-packed bits few

  -- the numbers of a section have its width
  small : (number width : ℕ) (items : List ℕ) → filled_of number (filled form c) ≡ with_width number width items → (k : ℕ) → slice_index items k < 2 ^ width
  small number width items e = subst (λ f. (k : ℕ) → slice_index f.items k < 2 ^ f.width) e (filled-fit number (filled form c) fit)

  fields_are : (number width : ℕ) (items : List ℕ) → filled_of number (filled form c) ≡ with_width number width items → fields_at words number ≡ items
  unfolding fields_at
  fields_are number width items e =
      ap (λ s. fields_in (part words number) s.count s.width) (section_is number ∙ ap section_of e)
      ∙ ap (λ ws. fields_in ws (length items) width) (part_is number ∙ ap words_of_filled e)
      ∙ fields-packed width items (small number width items e)

  words_are : (number : ℕ) (items : List ℕ) → filled_of number (filled form c) ≡ with_words number items → part words number ≡ items
  words_are number items e = part_is number ∙ ap words_of_filled e ∙ whole_packed items (small number 64 items e)

  -- names behind a number
  pub record HaveNames (number : ℕ) (ids : List ℕ) : Type 0 where
    pub names : names_at words number ≡ names_for form ids
    pub high_counts : fields_at words (number + 2) ≡ counts_of (names_for form ids).high
    pub mark_counts : fields_at words (number + 6) ≡ counts_of (names_for form ids).marks

  -- the sections behind a number are those of these names
  record AreFilled (number : ℕ) (ids : List ℕ) : Type 0 where
    high : filled_of (number + 1) (filled form c) ≡ with_bits (number + 1) (names_for form ids).high
    high_counts : filled_of (number + 2) (filled form c) ≡ with_fields (number + 2) (counts_of (names_for form ids).high)
    lows : filled_of (number + 3) (filled form c) ≡ with_width (number + 3) (low_width form (length ids)) (names_for form ids).lows
    places : filled_of (number + 4) (filled form c) ≡ with_width (number + 4) (place_width (length ids)) (names_for form ids).places
    marks : filled_of (number + 5) (filled form c) ≡ with_bits (number + 5) (names_for form ids).marks
    mark_counts : filled_of (number + 6) (filled form c) ≡ with_fields (number + 6) (counts_of (names_for form ids).marks)
    back : filled_of (number + 7) (filled form c) ≡ with_width (number + 7) (place_width (length ids)) (names_for form ids).back

  have_names : (number : ℕ) (ids : List ℕ) → AreNamed form ids → AreFilled number ids → HaveNames number ids
  unfolding names_at
  have_names number ids h f =
      let P = names_for form ids in
      record {
        names =
            same_parts _ _ _ _ _ _ _ _ _ _ _ _
            (bits_are (number + 1) P.high f.high (high_bits form ids h))
            (fields_are (number + 3) (low_width form (length ids)) P.lows f.lows)
            (ap (λ s. s.width) (section_is (number + 3) ∙ ap section_of f.lows))
            (fields_are (number + 4) (place_width (length ids)) P.places f.places)
            (bits_are (number + 5) P.marks f.marks (mark_bits form ids h))
            (fields_are (number + 7) (place_width (length ids)) P.back f.back);
        high_counts = fields_are (number + 2) 32 (counts_of P.high) f.high_counts;
        mark_counts = fields_are (number + 6) 32 (counts_of P.marks) f.mark_counts;
      }

  -- what each section holds
  pub record Held : Type 0 where
    pub a : bits_at words 1 ≡ c.code.a
    pub a_counts : fields_at words 2 ≡ counts_of c.code.a
    pub tree : bits_at words 3 ≡ c.code.tree
    pub tree_counts : fields_at words 4 ≡ counts_of c.code.tree
    pub tree_nodes : part words 5 ≡ nodes_of c.code.tree
    pub dual : bits_at words 6 ≡ c.code.dual
    pub dual_counts : fields_at words 7 ≡ counts_of c.code.dual
    pub dual_nodes : part words 8 ≡ nodes_of c.code.dual
    pub starts : fields_at words 9 ≡ c.code.starts
    pub forward : bits_at words 10 ≡ c.forward
    pub nodes : HaveNames 30 c.nodes
    pub edges : HaveNames 40 c.edges
    pub faces : HaveNames 50 c.faces
    pub places : fields_at words 17 ≡ c.places
    pub place_order : fields_at words 18 ≡ c.place_order
    pub isolated : fields_at words 19 ≡ c.isolated
    pub region_bits : bits_at words 20 ≡ c.region_bits
    pub region_counts : fields_at words 21 ≡ counts_of c.region_bits
    pub region_nodes : part words 22 ≡ nodes_of c.region_bits
    pub regions : HaveNames 60 c.regions
    pub members : fields_at words 25 ≡ c.members

  pub held : Held
  unfolding filled
  held =
      let positions = m.positions in
      let tree = m.tree in
      let dual = m.dual in
      let forward = m.forward in
      let region_bits = m.region_bits in
      let few_edges = m.few_edges in
      let few_tree = m.few_tree in
      let few_regions = m.few_regions in
      record {
        a = bits_are 1 c.code.a refl (omega (arith, positions, few_edges));
        a_counts = fields_are 2 32 (counts_of c.code.a) refl;
        tree = bits_are 3 c.code.tree refl (omega (arith, tree, few_tree, few_edges));
        tree_counts = fields_are 4 32 (counts_of c.code.tree) refl;
        tree_nodes = words_are 5 (nodes_of c.code.tree) refl;
        dual = bits_are 6 c.code.dual refl (omega (arith, dual, few_edges));
        dual_counts = fields_are 7 32 (counts_of c.code.dual) refl;
        dual_nodes = words_are 8 (nodes_of c.code.dual) refl;
        starts = fields_are 9 32 c.code.starts refl;
        forward = bits_are 10 c.forward refl (omega (arith, forward, few_edges));
        nodes = have_names 30 c.nodes n.nodes (record { high = refl; high_counts = refl; lows = refl; places = refl; marks = refl; mark_counts = refl; back = refl });
        edges = have_names 40 c.edges n.edges (record { high = refl; high_counts = refl; lows = refl; places = refl; marks = refl; mark_counts = refl; back = refl });
        faces = have_names 50 c.faces n.faces (record { high = refl; high_counts = refl; lows = refl; places = refl; marks = refl; mark_counts = refl; back = refl });
        places = fields_are 17 32 c.places refl;
        place_order = fields_are 18 32 c.place_order refl;
        isolated = fields_are 19 32 c.isolated refl;
        region_bits = bits_are 20 c.region_bits refl (omega (arith, region_bits, few_regions));
        region_counts = fields_are 21 32 (counts_of c.region_bits) refl;
        region_nodes = words_are 22 (nodes_of c.region_bits) refl;
        regions = have_names 60 c.regions n.regions (record { high = refl; high_counts = refl; lows = refl; places = refl; marks = refl; mark_counts = refl; back = refl });
        members = fields_are 25 32 c.members refl;
      }

  pub padded : padding_fault words ≡ None
  unfolding padding_fault
  padded =
      ap (option_map fault.Padding)
      (ap (λ k. padding_from words header_words (sections k)) (counts_are digest form c)
      ∙ ap (padding_from words header_words) (sections_filled form c m n)
      ∙ padding-filled words header_words (filled form c) fit (sections_are digest form c))

  pub long : length words ≡ file_words (counts_in words)
  unfolding file_words
  long =
      let w = length-words_in 4 digest in
      let l = length-append (words_in 4 digest) (content_words form c) in
      let a = length-all (filled form c) in
      let e : total_words (map section_of (filled form c)) ≡ total_words (sections (counts_of_contents form c)) = ap total_words (sym (sections_filled form c m n)) in
      let f : total_words (sections (counts_in words)) ≡ total_words (sections (counts_of_contents form c)) = ap (λ k. total_words (sections k)) (counts_are digest form c) in
      omega (arith, w, l, a, e, f)

same_code : (a b d a' b' d' : List Bool) (s s' : List ℕ) → a ≡ a' → b ≡ b' → d ≡ d' → s ≡ s' → code_with a b d s ≡ code_with a' b' d' s'
same_code a b d a' b' d' s s' e f g h = cc

pub same_contents : (k k' : Code) (f f' r r' : List Bool) (n n' e e' s s' g g' p p' o o' i i' m m' : List ℕ)
    → k ≡ k' → f ≡ f' → n ≡ n' → e ≡ e' → s ≡ s' → g ≡ g' → p ≡ p' → o ≡ o' → i ≡ i' → r ≡ r' → m ≡ m'
    → contents_with k f n e s g p o i r m ≡ contents_with k' f' n' e' s' g' p' o' i' r' m'
same_contents k k' f f' r r' n n' e e' s s' g g' p p' o o' i i' m m' q0 q1 q2 q3 q4 q5 q6 q7 q8 q9 q10 = cc

-- the ids of names come back
ids_back : (ws : List ℕ) (form number : ℕ) (ids : List ℕ) → names_at ws number ≡ names_for form ids → AreNamed form ids → ids_at ws number ≡ ids
unfolding ids_at
ids_back ws form number ids e h = ap ids_by_number e ∙ h.same

pub contents_back : (digest : List ℕ) (form : ℕ) (c : Contents) (m : Many c) (n : AllNamed form c) (fit : AllFit (filled form c)) → contents_of (image_words digest form c) ≡ c
unfolding contents_of
contents_back digest form c m n fit =
    let words = image_words digest form c in
    let h = held digest form c m n fit in
    same_contents _ _ _ _ _ _ _ _ _ _ _ _ _ _ _ _ _ _ _ _ _ _
    (same_code _ _ _ _ _ _ _ _ h.a h.tree h.dual h.starts) h.forward
    (ids_back words form 30 c.nodes h.nodes.names n.nodes) (ids_back words form 40 c.edges h.edges.names n.edges)
    (ids_back words form 50 c.faces h.faces.names n.faces) (ids_back words form 60 c.regions h.regions.names n.regions)
    h.places h.place_order h.isolated h.region_bits h.members

abbrev pub parts_of : List ℕ → Contents → List (Option FileFault)
parts_of words c =
    option_map fault.Sequence (seq_fault c.code)
    ∷ directories_fault words c.code
    ∷ all_names_fault words
    ∷ places_fault c
    ∷ start_fault c
    ∷ regions_fault words c
    ∷ padding_fault words
    ∷ []

all_none : {X : Type 0} (o : Option X) (os : List (Option X)) → o ≡ None → first_some os ≡ None → first_some (o ∷ os) ≡ None
all_none o os e f = first-none o os e ∙ f

sound_none : (c : Code) → is_sound c ≡ true → seq_fault c ≡ None
sound_none c h = none-is_none _ (and_parts (nat_lt 0 (length c.starts) && (length c.tree + length c.dual == length c.a)) (is_none (seq_fault c)) h).1

no_directory : (number : ℕ) (want found : List ℕ) → found ≡ want → directory_fault number want found ≡ None
no_directory number want found e = ap (option_map (λ w. fault.Directory number w.at w.want w.found)) (first_wrong-none want found e)

no_entry : (number : ℕ) (want found : List ℕ) → found ≡ want → option_map (λ w. fault.RegionPart number w.at) (first_wrong want found) ≡ None
no_entry number want found e = ap (option_map (λ w. fault.RegionPart number w.at)) (first_wrong-none want found e)

-- names that are made have no fault
no_names : (digest : List ℕ) (form : ℕ) (c : Contents) (m : Many c) (n : AllNamed form c) (fit : AllFit (filled form c)) (number : ℕ) (ids : List ℕ)
    → HaveNames digest form c m n fit number ids → AreNamed form ids → names_fault (image_words digest form c) number ≡ None
unfolding names_fault
no_names digest form c m n fit number ids h named =
    let words = image_words digest form c in
    ap (λ p. name_fault p (fields_at words (number + 2)) (fields_at words (number + 6))) h.names
    ∙ ap (λ counts. name_fault (names_for form ids) counts (fields_at words (number + 6))) h.high_counts
    ∙ ap (name_fault (names_for form ids) (counts_of (names_for form ids).high)) h.mark_counts ∙ named.right

module _ (digest : List ℕ) (form : ℕ) (c : Contents) (w : IsTrue (is_whole c)) (n : AllNamed form c) (fit : AllFit (filled form c)) where
  abbrev image : List ℕ
  image = image_words digest form c

  h : Held digest form c (many c w) n fit
  h = held digest form c (many c w) n fit

  named : (number : ℕ) (ids : List ℕ) → HaveNames digest form c (many c w) n fit number ids → AreNamed form ids → names_fault image number ≡ None
  named = no_names digest form c (many c w) n fit

  directories_none : directories_fault image c.code ≡ None
  unfolding directories_fault
  directories_none =
      all_none _ _ (no_directory 2 _ _ h.a_counts)
      (all_none _ _ (no_directory 4 _ _ h.tree_counts)
      (all_none _ _ (no_directory 5 _ _ h.tree_nodes)
      (all_none _ _ (no_directory 7 _ _ h.dual_counts)
      (all_none _ _ (no_directory 8 _ _ h.dual_nodes) first-end))))

  names_none : all_names_fault image ≡ None
  unfolding all_names_fault
  names_none =
      all_none _ _ (ap (option_map (told_in fault.Name 30)) (named 30 c.nodes h.nodes n.nodes))
      (all_none _ _ (ap (option_map (told_in fault.Name 40)) (named 40 c.edges h.edges n.edges))
      (all_none _ _ (ap (option_map (told_in fault.Name 50)) (named 50 c.faces h.faces n.faces)) first-end))

  regions_none : regions_fault image c ≡ None
  unfolding regions_fault is_whole
  regions_none =
      all_none _ _ (ap (option_map (fault.RegionPart 20)) (none-is_none _ (test_at (whole_tests c) 8 w)))
      (all_none _ _ (no_entry 21 _ _ h.region_counts)
      (all_none _ _ (no_entry 22 _ _ h.region_nodes)
      (all_none _ _ (ap (option_map (told_in fault.RegionPart 60)) (named 60 c.regions h.regions n.regions))
      (all_none _ _ (ap (option_map (fault.RegionPart 25)) (none-is_none _ (test_at (whole_tests c) 9 w))) first-end))))

  content_none : content_fault image ≡ None
  unfolding content_fault is_whole
  content_none =
      ap (λ k. first_some (parts_of image k)) (contents_back digest form c (many c w) n fit)
      ∙ all_none _ _ (ap (option_map fault.Sequence) (sound_none c.code (test_at (whole_tests c) 1 w)))
      (all_none _ _ directories_none
      (all_none _ _ names_none
      (all_none _ _ (none-is_none _ (test_at (whole_tests c) 6 w))
      (all_none _ _ (none-is_none _ (test_at (whole_tests c) 7 w))
      (all_none _ _ regions_none
      (all_none _ _ (padded digest form c (many c w) n fit) first-end))))))

below_counts : (form : ℕ) (c : Contents) → IsTrue (is_whole c) → (k : ℕ) → slice_index (counts_words (counts_of_contents form c)) k < 2 ^ 64
below_counts form c w zero = let f = whole_counts_fit form c w in omega (arith, f.edges)
below_counts form c w (suc zero) = let f = whole_counts_fit form c w in omega (arith, f.edges, f.tree)
below_counts form c w (suc (suc zero)) = let f = whole_counts_fit form c w in omega (arith, f.edges, f.components)
below_counts form c w (suc (suc (suc zero))) = let f = whole_counts_fit form c w in omega (arith, f.nodes)
below_counts form c w (suc (suc (suc (suc zero)))) = let f = whole_counts_fit form c w in omega (arith, f.regions)
below_counts form c w (suc (suc (suc (suc (suc zero))))) = let f = whole_counts_fit form c w in omega (arith, f.nodes, f.node_back)
below_counts form c w (suc (suc (suc (suc (suc (suc zero)))))) = let f = whole_counts_fit form c w in omega (arith, f.edges, f.edge_back)
below_counts form c w (suc (suc (suc (suc (suc (suc (suc zero))))))) = let f = whole_counts_fit form c w in omega (arith, f.edges, f.face_back)
below_counts form c w (suc (suc (suc (suc (suc (suc (suc (suc zero)))))))) = let f = whole_counts_fit form c w in omega (arith, f.regions, f.region_back)
below_counts form c w (suc (suc (suc (suc (suc (suc (suc (suc (suc k))))))))) = lit< tt

-- words that follow each other are below 2 ^ 64 where each is
below_both : (xs ys : List ℕ) → ((k : ℕ) → slice_index xs k < 2 ^ 64) → ((k : ℕ) → slice_index ys k < 2 ^ 64) → (k : ℕ) → slice_index (xs ++ ys) k < 2 ^ 64
below_both [] ys a b k = b k
below_both (x ∷ xs) ys a b zero = a 0
below_both (x ∷ xs) ys a b (suc k) = below_both xs ys (λ j. a (suc j)) b k

below_sections : (fs : List Filled) (k : ℕ) → slice_index (flat_map words_of_filled fs) k < 2 ^ 64
below_sections [] k = lit< tt
below_sections (f ∷ fs) k = below_both (words_of_filled f) (flat_map words_of_filled fs) (packed-below f.width f.items) (below_sections fs) k

-- what is wrong with the front of some bytes, by their words
abbrev front_parts : List ℕ → List ℕ → List (Option FileFault)
front_parts bytes words =
    unless (length bytes % 8 == 0) (fault.NotWords (length bytes))
    ∷ unless (nat_le 11 (length words) && (slice_index words 0 == magic)) (fault.NotPemb (length words))
    ∷ unless ((slice_index words 1 == 1) || (slice_index words 1 == 2)) (fault.UnknownForm (slice_index words 1))
    ∷ unless (length words == wanted_words words) (fault.Length (wanted_words words) (length words))
    ∷ []

-- the bytes of contents in a form, with these in the place of the digest
abbrev pub image_with : List ℕ → ℕ → Contents → List ℕ
image_with digest form c = bytes_of (magic ∷ form ∷ []) ++ digest ++ bytes_of (content_words form c)

-- whatever stands in the place of the digest: nothing else is wrong, and the sections hold the contents
module _ (digest : List ℕ) (size : length digest ≡ 32) (form : ℕ) (known : IsTrue ((form == 1) || (form == 2))) (c : Contents) (w : IsTrue (is_whole c)) (n : AllNamed form c) (fit : AllFit (filled form c)) where
  head_bytes : length (bytes_of (magic ∷ form ∷ [])) ≡ 16
  head_bytes = length-bytes_of (magic ∷ form ∷ [])

  bytes_are : image_with digest form c ≡ bytes_of (magic ∷ form ∷ []) ++ (digest ++ bytes_of (content_words form c))
  bytes_are = append_assoc (bytes_of (magic ∷ form ∷ [])) digest (bytes_of (content_words form c))

  bytes_len : length (image_with digest form c) ≡ 8 * (6 + length (content_words form c))
  bytes_len =
      let a = head_bytes in
      let d = length-bytes_of (content_words form c) in
      let e = ap length bytes_are ∙ length-append (bytes_of (magic ∷ form ∷ [])) (digest ++ bytes_of (content_words form c)) in
      let f = length-append digest (bytes_of (content_words form c)) in
      omega (arith, a, size, d, e, f)

  -- the words of the bytes
  pub words_are_those : words_of (image_with digest form c) ≡ image_words digest form c
  unfolding words_of
  words_are_those =
      let content = bytes_of (content_words form c) in
      let len = length (content_words form c) in
      let l : length (image_with digest form c) / 8 ≡ 2 + (4 + len) = let e = bytes_len in omega (arith, e) in
      let tail : length (digest ++ content) ≡ 8 * (4 + len) = let d = length-bytes_of (content_words form c) in let f = length-append digest content in omega (arith, size, d, f) in
      let small : (k : ℕ) → slice_index (content_words form c) k < 2 ^ 64 = below_both (counts_words (counts_of_contents form c)) (flat_map words_of_filled (filled form c)) (below_counts form c w) (below_sections (filled form c)) in
      ap (λ k. words_in k (image_with digest form c)) l ∙ ap (words_in (2 + (4 + len))) bytes_are
      ∙ words_in-append 2 (4 + len) (bytes_of (magic ∷ form ∷ [])) (digest ++ content) head_bytes tail
      ∙ ap (λ ws. ws ++ words_in (4 + len) (digest ++ content)) (words_in-bytes_of (magic ∷ form ∷ []) small_head)
      ∙ ap (λ ws. magic ∷ form ∷ ws) (words_in-append 4 len digest content size (length-bytes_of (content_words form c))
      ∙ ap (λ ws. words_in 4 digest ++ ws) (words_in-bytes_of (content_words form c) small))
    where
      small_form : form < 2 ^ 64
      small_form = elim (or_cases (form == 1) (form == 2) known) [
        | inl e ↦ let f = eqb-true form 1 e in omega (arith, f)
        | inr e ↦ let f = eqb-true form 2 e in omega (arith, f)
      ]

      small_head : (k : ℕ) → slice_index (magic ∷ form ∷ []) k < 2 ^ 64
      small_head zero = lit< tt
      small_head (suc zero) = small_form
      small_head (suc (suc k)) = lit< tt

  front_none : front_fault (image_with digest form c) ≡ None
  unfolding front_fault
  front_none =
      let words = image_words digest form c in
      let l : length words ≡ 6 + length (content_words form c) = let e = length-append (words_in 4 digest) (content_words form c) in let f = length-words_in 4 digest in omega (arith, e, f) in
      let k : length (content_words form c) ≡ 9 + length (flat_map words_of_filled (filled form c)) = length-append (counts_words (counts_of_contents form c)) (flat_map words_of_filled (filled form c)) in
      let there : nat_le header_words (length words) ≡ true = le-leb _ _ (omega (arith, l, k)) in
      let wanted : wanted_words words ≡ file_words (counts_in words) = rw there refl in
      ap (λ ws. first_some (front_parts (image_with digest form c) ws)) words_are_those
      ∙ all_none _ _ (fine _ _ (eq-eqb _ _ (let e = bytes_len in omega (arith, e))))
      (all_none _ _ (fine _ _ (and_from _ _ (le-leb _ _ (omega (arith, l))) refl))
      (all_none _ _ (fine _ _ known)
      (all_none _ _ (fine _ _ (eq-eqb _ _ (long digest form c (many c w) n fit ∙ sym wanted))) first-end)))

  pub only_digest : LacksOnlyDigest (image_with digest form c)
  only_digest = record {
    front = front_none;
    counts = ap (λ ws. count_fault (counts_in ws)) words_are_those ∙ ap count_fault (counts_are digest form c) ∙ no_count_fault form c w;
    content = ap content_fault words_are_those ∙ content_none digest form c w n fit;
  }

  pub contents_held : contents_of (words_of (image_with digest form c)) ≡ c
  contents_held = ap contents_of words_are_those ∙ contents_back digest form c (many c w) n fit

module _ (form : ℕ) (known : IsTrue ((form == 1) || (form == 2))) (c : Contents) (w : IsTrue (is_whole c)) (n : AllNamed form c) (fit : AllFit (filled form c)) where
  abbrev content : List ℕ
  content = bytes_of (content_words form c)

  abbrev own_digest : List ℕ
  own_digest = sha256 content

  image_is : image_of form c ≡ image_with own_digest form c
  unfolding image_of
  image_is = refl

  content_is : drop 48 (image_with own_digest form c) ≡ content
  content_is =
      let l : 48 ≡ length (bytes_of (magic ∷ form ∷ []) ++ own_digest) =
      let a = length-bytes_of (magic ∷ form ∷ []) in
      let b = length-sha256 content in
      let e = length-append (bytes_of (magic ∷ form ∷ [])) own_digest in
      omega (arith, a, b, e) in
      ap (λ n. drop n ((bytes_of (magic ∷ form ∷ []) ++ own_digest) ++ content)) l
      ∙ drop-append_seam (bytes_of (magic ∷ form ∷ []) ++ own_digest) content

  digest_at : (k : ℕ) → k < 32 → slice_index (image_with own_digest form c) (16 + k) ≡ slice_index own_digest k
  digest_at k l =
      let b = length-sha256 content in
      ap (λ bytes. slice_index bytes (16 + k)) (append_assoc (bytes_of (magic ∷ form ∷ [])) own_digest content)
      ∙ ap (λ n. slice_index (bytes_of (magic ∷ form ∷ []) ++ (own_digest ++ content)) (n + k)) (sym (length-bytes_of (magic ∷ form ∷ [])))
      ∙ get_or-append-add (bytes_of (magic ∷ form ∷ [])) (own_digest ++ content) k 0
      ∙ get_or_append_left own_digest content 0 k (omega (arith, l, b))

  digest_none : digest_fault (image_with own_digest form c) ≡ None
  digest_none = digest-right (image_with own_digest form c) own_digest (ap sha256 (sym content_is)) digest_at

  lawful : IsTrue (is_lawful (image_with own_digest form c))
  unfolding first_fault
  lawful =
      let f = only_digest own_digest (length-sha256 content) form known c w n fit in
      rw (f.front, digest_none, f.counts, f.content) refl

  pub image_lawful : IsTrue (is_lawful (image_of form c))
  image_lawful = subst (λ bytes. IsTrue (is_lawful bytes)) (sym image_is) lawful

  pub image_contents : contents_of (words_of (image_of form c)) ≡ c
  image_contents = ap (λ bytes. contents_of (words_of bytes)) image_is ∙ contents_held own_digest (length-sha256 content) form known c w n fit
