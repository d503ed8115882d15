-- The text of a query, and what it says.
use Rattle.std.proofs.Common.{◌≡◌, ℕ, suc, ◌≤◌, true, false, List, [], ◌∷◌, ◌++◌, length, Option, Some, None, refl, sym, ap, subst, ◌∙◌, arith, inl, inr, decimal, codes, find, bytes_eq, length-append, append_assoc}
use Rattle.std.specs.Prelude.{ℤ, pos, negsuc, ◌==◌, nat_lt, option_map, option_and_then}
use Rattle.std.specs.List.{list_all}
use Rattle.std.specs.Fmt.{signed_decimal}
use Rattle.std.proofs.lemmas.Bool.{cases_Bool, lt-leb}
use Rattle.std.proofs.lemmas.Bool.Decides.{nat_tests}
use Rattle.std.proofs.lemmas.List.Folds.{list_all-append}
use Rattle.std.proofs.lemmas.Fmt.{length-decimal-le}
use Rattle.topo_base.specs.Script as script
use Rattle.topo_base.specs.Script.{words, query, line, short_line, text, item_text, without_cr, is_comment, ask_or_bad}
use Rattle.topo_base.specs.SignedEdge.{IsSignedEdge}
use Rattle.topo_base.specs.Spelling.{id_number, positive_number, signed_number}
use Rattle.topo_base.specs.declared.id.TheConstants.{LARGEST_ID}
use Rattle.topo_base.proofs.Spelled.{id_text, id_within, id_reads, positive_text, positive_within, positive_reads, signed_text, signed_within, signed_reads}
use Rattle.query_text.specs.declared.form.Form.{Form}
use Rattle.query_text.specs.declared.form.Form.TheVariants.{Node, Ring, Next, Ends, Sides, Face, Adjacent, Contains, Islands, Regions, Common, Counts}
use Rattle.query_text.specs.Forms.{word_of, all_forms, form_query, two_faces, word_query}
use Rattle.query_text.specs.Lines.{HasIdsInRange, HasNumbersInRange}
use Rattle.query_text.proofs.Words.{lacks, words_whole, words_space, words_some, words_one, words_more}
use Rattle.query_text.proofs.Queries.{decimal_lacks, signed_lacks, by_form, alone, known, unknown}
use Rattle.query_text.proofs.Returns.{kept}

decimal_short : (n : ℕ) → n ≤ LARGEST_ID → length (decimal n) ≤ 19
decimal_short n high = length-decimal-le 19 n (omega arith) (omega arith) (omega arith)

signed_short : (d : ℤ) → IsSignedEdge d → length (signed_decimal d) ≤ 20
signed_short (pos n) h = let high : n ≤ LARGEST_ID = grind (arith, nat_tests) in omega (arith, decimal_short n high)
signed_short (negsuc n) h = let high : suc n ≤ LARGEST_ID = grind (arith, nat_tests) in omega (arith, decimal_short (suc n) high)

short : (word rest : List ℕ) → length word ≤ 9 → length rest ≤ 20 → length (word ++ rest) ≤ 46
short word rest h l = omega (arith, length-append word rest)

-- the text of a query with ids in range has at most 46 bytes
pub text_short : (q : script.Query) → HasIdsInRange q → length (text q) ≤ 46
text_short (script.Node n) h = short (codes "node ") (decimal n) (omega arith) (omega (arith, decimal_short n h.1))
text_short (script.Ring d) h = short (codes "ring ") (signed_decimal d) (omega arith) (signed_short d h)
text_short (script.Next d) h = short (codes "next ") (signed_decimal d) (omega arith) (signed_short d h)
text_short (script.Ends d) h = short (codes "ends ") (signed_decimal d) (omega arith) (signed_short d h)
text_short (script.Sides d) h = short (codes "sides ") (signed_decimal d) (omega arith) (signed_short d h)
text_short (script.Face f) h = short (codes "face ") (decimal f) (omega arith) (omega (arith, decimal_short f h))
text_short (script.Adjacent f) h = short (codes "adjacent ") (decimal f) (omega arith) (omega (arith, decimal_short f h))
text_short (script.Contains n) h = short (codes "contains ") (decimal n) (omega arith) (omega (arith, decimal_short n h.1))
text_short (script.Islands f) h = short (codes "islands ") (decimal f) (omega arith) (omega (arith, decimal_short f h))
text_short (script.Regions f) h = short (codes "regions ") (decimal f) (omega arith) (omega (arith, decimal_short f h))
text_short (script.Common f g) h =
    omega (
      arith,
      length-append (codes "common " ++ decimal f ++ codes " ") (decimal g),
      length-append (codes "common " ++ decimal f) (codes " "),
      length-append (codes "common ") (decimal f),
      decimal_short f h.0,
      decimal_short g h.1,
    )
text_short script.Counts h = omega arith

-- an item with numbers in range has at most 21 bytes
pub item_short : (i : script.Item) → HasNumbersInRange i → length (item_text i) ≤ 21
item_short (script.Signed_edge d) h = omega (arith, length-append (codes " ") (signed_decimal d), signed_short d h)
item_short (script.Number n) h = omega (arith, length-append (codes " ") (decimal n), decimal_short n h)
item_short (script.Island_node n) h = omega (arith, length-append (codes " n") (decimal n), decimal_short n h)

-- what the text of each form is known by
record IsWord (word : List ℕ) : Type 0 where
  no_space : lacks 32 word ≡ true
  no_return : lacks 13 word ≡ true
  short : length word ≤ 8
  no_spaces : (rest : List ℕ) → list_all (λ b. b == 32) (word ++ rest) ≡ false
  no_comment : (rest : List ℕ) → is_comment (word ++ rest) ≡ false

is_word : (form : Form) → IsWord (word_of form)
is_word Node = record { no_space = refl; no_return = refl; short = omega arith; no_spaces = λ _. refl; no_comment = λ _. refl }
is_word Ring = record { no_space = refl; no_return = refl; short = omega arith; no_spaces = λ _. refl; no_comment = λ _. refl }
is_word Next = record { no_space = refl; no_return = refl; short = omega arith; no_spaces = λ _. refl; no_comment = λ _. refl }
is_word Ends = record { no_space = refl; no_return = refl; short = omega arith; no_spaces = λ _. refl; no_comment = λ _. refl }
is_word Sides = record { no_space = refl; no_return = refl; short = omega arith; no_spaces = λ _. refl; no_comment = λ _. refl }
is_word Face = record { no_space = refl; no_return = refl; short = omega arith; no_spaces = λ _. refl; no_comment = λ _. refl }
is_word Adjacent = record { no_space = refl; no_return = refl; short = omega arith; no_spaces = λ _. refl; no_comment = λ _. refl }
is_word Contains = record { no_space = refl; no_return = refl; short = omega arith; no_spaces = λ _. refl; no_comment = λ _. refl }
is_word Islands = record { no_space = refl; no_return = refl; short = omega arith; no_spaces = λ _. refl; no_comment = λ _. refl }
is_word Regions = record { no_space = refl; no_return = refl; short = omega arith; no_spaces = λ _. refl; no_comment = λ _. refl }
is_word Common = record { no_space = refl; no_return = refl; short = omega arith; no_spaces = λ _. refl; no_comment = λ _. refl }
is_word Counts = record { no_space = refl; no_return = refl; short = omega arith; no_spaces = λ _. refl; no_comment = λ _. refl }

-- a line that is neither long nor blank
asks : (bytes : List ℕ) (q : script.Query) → lacks 13 bytes ≡ true → length bytes ≤ 255 → list_all (λ b. b == 32) bytes ≡ false → is_comment bytes ≡ false → query (words bytes) ≡ Some q
    → line bytes ≡ script.Ask q
asks bytes q no_return short no_spaces no_comment is =
    rw (kept bytes no_return, lt-leb 256 (length bytes) (omega arith), no_spaces, no_comment, is) refl

asks_form : (form : Form) (rest : List ℕ) (q : script.Query) → lacks 13 rest ≡ true → length rest ≤ 42 → form_query form rest ≡ Some q → line (word_of form ++ 32 ∷ rest) ≡ script.Ask q
asks_form form rest q no_return short is =
    let w = is_word form in
    asks (word_of form ++ 32 ∷ rest) q
    (list_all-append _ (word_of form) (32 ∷ rest) ∙ rw (w.no_return, no_return) refl)
    (omega (arith, length-append (word_of form) (32 ∷ rest), w.short))
    (w.no_spaces (32 ∷ rest)) (w.no_comment (32 ∷ rest))
    (ap query (words_space (word_of form) rest w.no_space) ∙ by_form form rest ∙ is)

id_line : (form : Form) (n : ℕ) (q : script.Query) → n ≤ LARGEST_ID → form_query form (decimal n) ≡ Some q → line (word_of form ++ 32 ∷ decimal n) ≡ script.Ask q
id_line form n q high is = asks_form form (decimal n) q (decimal_lacks 13 n (omega arith) high) (omega (arith, decimal_short n high)) is

signed_line : (form : Form) (d : ℤ) (q : script.Query) → IsSignedEdge d → form_query form (signed_decimal d) ≡ Some q → line (word_of form ++ 32 ∷ signed_decimal d) ≡ script.Ask q
signed_line form d q h is = asks_form form (signed_decimal d) q (signed_lacks 13 d (omega arith) h) (omega (arith, signed_short d h)) is

common_text : (f g : ℕ) → codes "common " ++ decimal f ++ codes " " ++ decimal g ≡ codes "common " ++ (decimal f ++ 32 ∷ decimal g)
common_text f g = append_assoc (codes "common " ++ decimal f) (codes " ") (decimal g) ∙ append_assoc (codes "common ") (decimal f) (32 ∷ decimal g)

common_line : (f g : ℕ) → f ≤ LARGEST_ID → g ≤ LARGEST_ID → line (codes "common " ++ decimal f ++ codes " " ++ decimal g) ≡ script.Ask (script.Common f g)
common_line f g high_f high_g =
    ap line (common_text f g)
    ∙ asks_form Common (decimal f ++ 32 ∷ decimal g) (script.Common f g)
    (list_all-append _ (decimal f) (32 ∷ decimal g) ∙ rw (decimal_lacks 13 f (omega arith) high_f, decimal_lacks 13 g (omega arith) high_g) refl)
    (omega (arith, length-append (decimal f) (32 ∷ decimal g), decimal_short f high_f, decimal_short g high_g))
    (ap two_faces (words_space (decimal f) (decimal g) (decimal_lacks 32 f (omega arith) high_f) ∙ ap (λ ps. decimal f ∷ ps) (words_whole (decimal g) (decimal_lacks 32 g (omega arith) high_g)))
    ∙ rw (id_reads f high_f, id_reads g high_g) refl)

counts_line : line (codes "counts") ≡ script.Ask script.Counts
unfolding words
counts_line = refl

-- a query with ids in range is what its text says
pub reads : (q : script.Query) → HasIdsInRange q → line (text q) ≡ script.Ask q
reads (script.Node n) h = id_line Node n (script.Node n) h.1 (ap (option_map script.Node) (positive_reads n h.0 h.1))
reads (script.Ring d) h = signed_line Ring d (script.Ring d) h (ap (option_map script.Ring) (signed_reads d h))
reads (script.Next d) h = signed_line Next d (script.Next d) h (ap (option_map script.Next) (signed_reads d h))
reads (script.Ends d) h = signed_line Ends d (script.Ends d) h (ap (option_map script.Ends) (signed_reads d h))
reads (script.Sides d) h = signed_line Sides d (script.Sides d) h (ap (option_map script.Sides) (signed_reads d h))
reads (script.Face f) h = id_line Face f (script.Face f) h (ap (option_map script.Face) (id_reads f h))
reads (script.Adjacent f) h = id_line Adjacent f (script.Adjacent f) h (ap (option_map script.Adjacent) (id_reads f h))
reads (script.Contains n) h = id_line Contains n (script.Contains n) h.1 (ap (option_map script.Contains) (positive_reads n h.0 h.1))
reads (script.Islands f) h = id_line Islands f (script.Islands f) h (ap (option_map script.Islands) (id_reads f h))
reads (script.Regions f) h = id_line Regions f (script.Regions f) h (ap (option_map script.Regions) (id_reads f h))
reads (script.Common f g) h = common_line f g h.0 h.1
reads script.Counts h = counts_line

-- what is read is the query's text, with ids in range
record IsSaid (bytes : List ℕ) (q : script.Query) : Type 0 where
  text : bytes ≡ text q
  in_range : HasIdsInRange q

record IsMade {A : Type 0} (make : A → script.Query) (o : Option A) (q : script.Query) : Type 0 where
  value : A
  is : o ≡ Some value
  made : make value ≡ q

made_of : {A : Type 0} (make : A → script.Query) (o : Option A) (q : script.Query) → option_map make o ≡ Some q → IsMade make o q
made_of make None q e = cc
made_of make (Some a) q e = record { value = a; is = refl; made = cc }

said_positive : (word : List ℕ) (make : ℕ → script.Query) (rest : List ℕ) (q : script.Query) → ((n : ℕ) → text (make n) ≡ word ++ 32 ∷ decimal n)
    → ((n : ℕ) → 1 ≤ n → n ≤ LARGEST_ID → HasIdsInRange (make n)) → option_map make (positive_number rest) ≡ Some q → IsSaid (word ++ 32 ∷ rest) q
said_positive word make rest q shown ranged e =
    let m = made_of make (positive_number rest) q e in
    let r = positive_within rest m.value m.is in
    subst (IsSaid (word ++ 32 ∷ rest)) m.made
    (record { text = ap (λ t. word ++ 32 ∷ t) (positive_text rest m.value m.is) ∙ sym (shown m.value); in_range = ranged m.value r.0 r.1 })

said_id : (word : List ℕ) (make : ℕ → script.Query) (rest : List ℕ) (q : script.Query) → ((n : ℕ) → text (make n) ≡ word ++ 32 ∷ decimal n)
    → ((n : ℕ) → n ≤ LARGEST_ID → HasIdsInRange (make n)) → option_map make (id_number rest) ≡ Some q → IsSaid (word ++ 32 ∷ rest) q
said_id word make rest q shown ranged e =
    let m = made_of make (id_number rest) q e in
    subst (IsSaid (word ++ 32 ∷ rest)) m.made
    (record { text = ap (λ t. word ++ 32 ∷ t) (id_text rest m.value m.is) ∙ sym (shown m.value); in_range = ranged m.value (id_within rest m.value m.is) })

said_signed : (word : List ℕ) (make : ℤ → script.Query) (rest : List ℕ) (q : script.Query) → ((d : ℤ) → text (make d) ≡ word ++ 32 ∷ signed_decimal d)
    → ((d : ℤ) → IsSignedEdge d → HasIdsInRange (make d)) → option_map make (signed_number rest) ≡ Some q → IsSaid (word ++ 32 ∷ rest) q
said_signed word make rest q shown ranged e =
    let m = made_of make (signed_number rest) q e in
    subst (IsSaid (word ++ 32 ∷ rest)) m.made
    (record { text = ap (λ t. word ++ 32 ∷ t) (signed_text rest m.value m.is) ∙ sym (shown m.value); in_range = ranged m.value (signed_within rest m.value m.is) })

said_two : (first second : List ℕ) (f : Option ℕ) (q : script.Query) → id_number first ≡ f → option_and_then (λ n. option_map (script.Common n) (id_number second)) f ≡ Some q
    → IsSaid (codes "common" ++ 32 ∷ (first ++ 32 ∷ second)) q
said_two first second None q is e = cc
said_two first second (Some n) q is e =
    let m = made_of (script.Common n) (id_number second) q e in
    subst (IsSaid (codes "common" ++ 32 ∷ (first ++ 32 ∷ second))) m.made
    (record {
      text = (λ i. codes "common" ++ 32 ∷ (id_text first n is i ++ 32 ∷ id_text second m.value m.is i)) ∙ sym (common_text n m.value);
      in_range = (id_within first n is, id_within second m.value m.is);
    })

said_common : (rest : List ℕ) (q : script.Query) (pieces : List (List ℕ)) → words rest ≡ pieces → two_faces pieces ≡ Some q → IsSaid (codes "common" ++ 32 ∷ rest) q
said_common rest q [] is e = cc
said_common rest q (first ∷ []) is e = cc
said_common rest q (first ∷ second ∷ []) is e =
    let b = words_more rest first second [] is in
    let s : second ≡ b.rest = words_one b.rest second b.pieces in
    let t : first ++ 32 ∷ second ≡ rest = ap (λ x. first ++ 32 ∷ x) s ∙ sym b.text in
    subst (λ x. IsSaid (codes "common" ++ 32 ∷ x) q) t (said_two first second (id_number first) q refl e)
said_common rest q (first ∷ second ∷ third ∷ more) is e = cc

said_form : (form : Form) (rest : List ℕ) (q : script.Query) → form_query form rest ≡ Some q → IsSaid (word_of form ++ 32 ∷ rest) q
said_form Node rest q e = said_positive (codes "node") script.Node rest q (λ _. refl) (λ n low high. (low, high)) e
said_form Ring rest q e = said_signed (codes "ring") script.Ring rest q (λ _. refl) (λ d h. h) e
said_form Next rest q e = said_signed (codes "next") script.Next rest q (λ _. refl) (λ d h. h) e
said_form Ends rest q e = said_signed (codes "ends") script.Ends rest q (λ _. refl) (λ d h. h) e
said_form Sides rest q e = said_signed (codes "sides") script.Sides rest q (λ _. refl) (λ d h. h) e
said_form Face rest q e = said_id (codes "face") script.Face rest q (λ _. refl) (λ n h. h) e
said_form Adjacent rest q e = said_id (codes "adjacent") script.Adjacent rest q (λ _. refl) (λ n h. h) e
said_form Contains rest q e = said_positive (codes "contains") script.Contains rest q (λ _. refl) (λ n low high. (low, high)) e
said_form Islands rest q e = said_id (codes "islands") script.Islands rest q (λ _. refl) (λ n h. h) e
said_form Regions rest q e = said_id (codes "regions") script.Regions rest q (λ _. refl) (λ n h. h) e
said_form Common rest q e = said_common rest q (words rest) refl e
said_form Counts rest q e = cc

said_alone : (form : Form) (q : script.Query) → word_query form ≡ Some q → IsSaid (word_of form) q
said_alone Node q e = cc
said_alone Ring q e = cc
said_alone Next q e = cc
said_alone Ends q e = cc
said_alone Sides q e = cc
said_alone Face q e = cc
said_alone Adjacent q e = cc
said_alone Contains q e = cc
said_alone Islands q e = cc
said_alone Regions q e = cc
said_alone Common q e = cc
said_alone Counts q e = let f : script.Counts ≡ q = cc in subst (IsSaid (codes "counts")) f (record { text = refl; in_range = tt })

said_with : (bytes word : List ℕ) (more : List (List ℕ)) (form : Form) (q : script.Query) → words bytes ≡ word ∷ more → word ≡ word_of form → query (word ∷ more) ≡ Some q → IsSaid bytes q
said_with bytes word [] form q is w e =
    let b : word_of form ≡ bytes = sym w ∙ words_one bytes word is in
    subst (λ x. IsSaid x q) b (said_alone form q (sym (alone form) ∙ ap (λ x. query (x ∷ [])) (sym w) ∙ e))
said_with bytes word (piece ∷ more) form q is w e =
    let b = words_more bytes word piece more is in
    let t : word_of form ++ 32 ∷ b.rest ≡ bytes = ap (λ x. x ++ 32 ∷ b.rest) (sym w) ∙ sym b.text in
    let f : query (word_of form ∷ words b.rest) ≡ query (word ∷ piece ∷ more) = (λ i. query (sym w i ∷ b.pieces i)) in
    subst (λ x. IsSaid x q) t (said_form form b.rest q (sym (by_form form b.rest) ∙ f ∙ e))

said_pieces : (bytes : List ℕ) (pieces : List (List ℕ)) (q : script.Query) → words bytes ≡ pieces → query pieces ≡ Some q → IsSaid bytes q
said_pieces bytes [] q is e = absurd (words_some bytes is)
said_pieces bytes (word ∷ more) q is e = said_word (find (λ form. bytes_eq word (word_of form)) all_forms) refl
  where
    said_word : (o : Option Form) → find (λ form. bytes_eq word (word_of form)) all_forms ≡ o → IsSaid bytes q
    said_word None none = let f = unknown word none more in cc
    said_word (Some form) some = said_with bytes word more form q is (known word form some) e

asked : (o : Option script.Query) (q : script.Query) → ask_or_bad o ≡ script.Ask q → o ≡ Some q
asked None q e = cc
asked (Some p) q e = cc

said_short : (bytes : List ℕ) (q : script.Query) → short_line bytes ≡ script.Ask q → IsSaid bytes q
said_short bytes q e =
    elim (cases_Bool (list_all (λ b. b == 32) bytes)) [
      | inl h ↦ let f = rw h at e in cc
      | inr h ↦ let f = rw h at e in
          elim (cases_Bool (is_comment bytes)) [ inl k ↦ let g = rw k at f in cc | inr k ↦ said_pieces bytes (words bytes) q refl (asked (query (words bytes)) q (rw k at f)) ]
    ]

said : (bytes : List ℕ) (q : script.Query) → line bytes ≡ script.Ask q → IsSaid (without_cr bytes) q
said bytes q e =
    elim (cases_Bool (nat_lt 255 (length (without_cr bytes)))) [ inl h ↦ let f = rw h at e in cc | inr h ↦ said_short (without_cr bytes) q (rw h at e) ]

pub said_text : (bytes : List ℕ) (q : script.Query) → line bytes ≡ script.Ask q → without_cr bytes ≡ text q
said_text bytes q e = (said bytes q e).text

pub said_in_range : (bytes : List ℕ) (q : script.Query) → line bytes ≡ script.Ask q → HasIdsInRange q
said_in_range bytes q e = (said bytes q e).in_range
