-- What the pieces of a line spell.
use Rattle.std.proofs.Common.{◌≡◌, ℕ, zero, suc, ◌<◌, ◌≤◌, Bool, true, false, List, [], ◌∷◌, Option, Some, None, refl, sym, ap, subst, ◌∙◌, arith, inl, inr, decimal, find, bytes_eq, codes, Bor}
use Rattle.std.specs.Prelude.{ℤ, pos, negsuc, ◌==◌, option_map, option_and_then, slice_get, MatchOption}
use Rattle.std.specs.Fmt.{signed_decimal}
use Rattle.std.specs.Str.Parse.{AllDigits}
use Rattle.std.proofs.lemmas.Bool.{cases_Bool}
use Rattle.std.proofs.lemmas.Bool.Decides.{nat_tests}
use Rattle.std.proofs.lemmas.Str.Parse.{digit_from_value}
use Rattle.std.specs.Cmp.Lexicographic.{bytes_decides}
use Rattle.std.proofs.lemmas.Fmt.{decimal_is_IsNumeral}
use Rattle.topo_base.specs.Script as script
use Rattle.topo_base.specs.Script.{words, query, one_id}
use Rattle.topo_base.specs.SignedEdge.{IsSignedEdge}
use Rattle.topo_base.specs.Spelling.{id_number, positive_number, signed_number}
use Rattle.topo_base.specs.declared.id.TheConstants.{LARGEST_ID}
use Rattle.topo_base.proofs.Spelled.{id_text, id_within, positive_text, positive_within, signed_text, signed_within}
use Rattle.query_text.specs.declared.form.Form.{Form}
use Rattle.query_text.specs.declared.form.Form.TheVariants.{Node, Ring, Next, Ends, Sides, Face, Adjacent, Contains, Islands, Regions, Common, Counts}
use Rattle.query_text.specs.Forms.{word_of, all_forms, form_query, two_faces, word_query}
use Rattle.query_text.proofs.Words.{lacks, words_whole, words_one, words_some}

digits_lack : (x : ℕ) (ds : List ℕ) → x < 45 → AllDigits 10 ds → lacks x ds ≡ true
digits_lack x [] low all = refl
digits_lack x (d ∷ ds) low all =
    let r = digit_from_value d all.0 in
    let e : (d == x) ≡ false = grind (arith, nat_tests) in
    rw (e, digits_lack x ds low all.1) refl

pub decimal_lacks : (x n : ℕ) → x < 45 → n ≤ LARGEST_ID → lacks x (decimal n) ≡ true
decimal_lacks x n low high = digits_lack x (decimal n) low (decimal_is_IsNumeral n (omega arith)).0.1

pub signed_lacks : (x : ℕ) (d : ℤ) → x < 45 → IsSignedEdge d → lacks x (signed_decimal d) ≡ true
signed_lacks x (pos n) low h = decimal_lacks x n low (grind (arith, nat_tests))
signed_lacks x (negsuc n) low h =
    let e : (45 == x) ≡ false = grind (arith, nat_tests) in
    rw (e, decimal_lacks x (suc n) low (grind (arith, nat_tests))) refl

-- what spells a number is one piece
record IsSpelling {A : Type 0} (number : List ℕ → Option A) : Type 0 where
  whole : (bytes : List ℕ) (a : A) → number bytes ≡ Some a → lacks 32 bytes ≡ true

id_spelling : IsSpelling id_number
id_spelling = record { whole = λ bytes n e. subst (λ t. lacks 32 t ≡ true) (sym (id_text bytes n e)) (decimal_lacks 32 n (omega arith) (id_within bytes n e)) }

positive_spelling : IsSpelling positive_number
positive_spelling = record { whole = λ bytes n e. subst (λ t. lacks 32 t ≡ true) (sym (positive_text bytes n e)) (decimal_lacks 32 n (omega arith) (positive_within bytes n e).1) }

signed_spelling : IsSpelling signed_number
signed_spelling = record { whole = λ bytes d e. subst (λ t. lacks 32 t ≡ true) (sym (signed_text bytes d e)) (signed_lacks 32 d (omega arith) (signed_within bytes d e)) }

many : {A : Type 0} (number : List ℕ → Option A) → IsSpelling number → (bytes first second : List ℕ) (more : List (List ℕ)) (o : Option A) → number bytes ≡ o
    → words bytes ≡ first ∷ second ∷ more → number bytes ≡ None
many number s bytes first second more None is e = is
many number s bytes first second more (Some a) is e = let f = words_whole bytes (s.whole bytes a is) in cc

single_from : {A : Type 0} (number : List ℕ → Option A) → IsSpelling number → (make : A → script.Query) (word rest : List ℕ) → bytes_eq word (codes "common") ≡ false
    → ((id : List ℕ) → one_id word id ≡ option_map make (number id)) → (pieces : List (List ℕ)) → words rest ≡ pieces → query (word ∷ pieces) ≡ option_map make (number rest)
single_from number s make word rest other one [] is = absurd (words_some rest is)
single_from number s make word rest other one (id ∷ []) is = one id ∙ ap (λ t. option_map make (number t)) (words_one rest id is)
single_from number s make word rest other one (first ∷ second ∷ []) is = rw other (sym (ap (option_map make) (many number s rest first second [] (number rest) refl is)))
single_from number s make word rest other one (first ∷ second ∷ third ∷ more) is = sym (ap (option_map make) (many number s rest first second (third ∷ more) (number rest) refl is))

single : {A : Type 0} (number : List ℕ → Option A) → IsSpelling number → (make : A → script.Query) (word rest : List ℕ) → bytes_eq word (codes "common") ≡ false
    → ((id : List ℕ) → one_id word id ≡ option_map make (number id)) → query (word ∷ words rest) ≡ option_map make (number rest)
single number s make word rest other one = single_from number s make word rest other one (words rest) refl

common_pieces : (pieces : List (List ℕ)) → query (codes "common" ∷ pieces) ≡ two_faces pieces
common_pieces [] = refl
common_pieces (first ∷ []) = refl
common_pieces (first ∷ second ∷ []) = refl
common_pieces (first ∷ second ∷ third ∷ more) = refl

counts_pieces : (pieces : List (List ℕ)) → (pieces ≡ [] → ⊥) → query (codes "counts" ∷ pieces) ≡ None
counts_pieces [] some = absurd (some refl)
counts_pieces (first ∷ []) some = refl
counts_pieces (first ∷ second ∷ []) some = refl
counts_pieces (first ∷ second ∷ third ∷ more) some = refl

-- a form's word, a space and this text
pub by_form : (form : Form) (rest : List ℕ) → query (word_of form ∷ words rest) ≡ form_query form rest
by_form Node rest = single positive_number positive_spelling script.Node (codes "node") rest refl (λ _. refl)
by_form Ring rest = single signed_number signed_spelling script.Ring (codes "ring") rest refl (λ _. refl)
by_form Next rest = single signed_number signed_spelling script.Next (codes "next") rest refl (λ _. refl)
by_form Ends rest = single signed_number signed_spelling script.Ends (codes "ends") rest refl (λ _. refl)
by_form Sides rest = single signed_number signed_spelling script.Sides (codes "sides") rest refl (λ _. refl)
by_form Face rest = single id_number id_spelling script.Face (codes "face") rest refl (λ _. refl)
by_form Adjacent rest = single id_number id_spelling script.Adjacent (codes "adjacent") rest refl (λ _. refl)
by_form Contains rest = single positive_number positive_spelling script.Contains (codes "contains") rest refl (λ _. refl)
by_form Islands rest = single id_number id_spelling script.Islands (codes "islands") rest refl (λ _. refl)
by_form Regions rest = single id_number id_spelling script.Regions (codes "regions") rest refl (λ _. refl)
by_form Common rest = common_pieces (words rest)
by_form Counts rest = counts_pieces (words rest) (words_some rest)

-- a form's word alone
pub alone : (form : Form) → query (word_of form ∷ []) ≡ word_query form
alone Node = refl
alone Ring = refl
alone Next = refl
alone Ends = refl
alone Sides = refl
alone Face = refl
alone Adjacent = refl
alone Contains = refl
alone Islands = refl
alone Regions = refl
alone Common = refl
alone Counts = refl

-- the first piece of a line, and what is behind its space
abbrev pub IsCut : List ℕ → List ℕ → Option (Bor (List ℕ)) → Type 0
IsCut bytes word o = MatchOption o (words bytes ≡ word ∷ []) (λ rest. words bytes ≡ word ∷ words rest.now)

pub with_rest : (bytes word : List ℕ) (o : Option (Bor (List ℕ))) (rest : Bor (List ℕ)) (form : Form) → IsCut bytes word o → o ≡ Some rest → word ≡ word_of form
    → query (words bytes) ≡ form_query form rest.now
with_rest bytes word o rest form cut is w =
    let e : words bytes ≡ word ∷ words rest.now = subst (IsCut bytes word) is cut in rw (e, w) (by_form form rest.now)

pub with_none : (bytes word : List ℕ) (o : Option (Bor (List ℕ))) (form : Form) → IsCut bytes word o → o ≡ None → word ≡ word_of form
    → query (words bytes) ≡ word_query form
with_none bytes word o form cut is w =
    let e : words bytes ≡ word ∷ [] = subst (IsCut bytes word) is cut in rw (e, w) (alone form)

pub with_unknown : (bytes word : List ℕ) (o : Option (Bor (List ℕ))) → IsCut bytes word o → ((pieces : List (List ℕ)) → query (word ∷ pieces) ≡ None) → query (words bytes) ≡ None
with_unknown bytes word None cut none = rw cut (none [])
with_unknown bytes word (Some rest) cut none = rw cut (none (words rest.now))

none_at : (p : Form → Bool) (forms : List Form) → find p forms ≡ None → (k : ℕ) (form : Form) → slice_get forms k ≡ Some form → p form ≡ false
none_at p [] e k form is = cc
none_at p (first ∷ forms) e zero form is =
    elim (cases_Bool (p first)) [ inl h ↦ let f = rw h at e in cc | inr h ↦ (let f : first ≡ form = cc in subst (λ x. p x ≡ false) f h) ]
none_at p (first ∷ forms) e (suc k) form is =
    elim (cases_Bool (p first)) [ inl h ↦ let f = rw h at e in cc | inr h ↦ none_at p forms (rw h at e) k form is ]

-- a word that no form has
pub unknown : (word : List ℕ) → find (λ form. bytes_eq word (word_of form)) all_forms ≡ None → (pieces : List (List ℕ)) → query (word ∷ pieces) ≡ None
unknown word e pieces =
    let at = none_at (λ form. bytes_eq word (word_of form)) all_forms e in
    elim pieces as (λ ps. query (word ∷ ps) ≡ None) [
      | [] ↦ rw (at 11 Counts refl) refl
      | id ∷ more ↦ elim more as (λ ps. query (word ∷ id ∷ ps) ≡ None) [
        | [] ↦ rw (at 0 Node refl, at 1 Ring refl, at 2 Next refl, at 3 Ends refl, at 4 Sides refl, at 5 Face refl, at 6 Adjacent refl, at 7 Contains refl, at 8 Islands refl, at 9 Regions refl) refl
        | second ∷ others ↦ elim others as (λ ps. query (word ∷ id ∷ second ∷ ps) ≡ None) [ [] ↦ rw (at 10 Common refl) refl | third ∷ rest ↦ refl ]
      ]
    ]

find_passes : (p : Form → Bool) (forms : List Form) (form : Form) → find p forms ≡ Some form → p form ≡ true
find_passes p [] form e = cc
find_passes p (first ∷ forms) form e =
    elim (cases_Bool (p first)) [ inl h ↦ let f : first ≡ form = (let g = rw h at e in cc) in subst (λ x. p x ≡ true) f h | inr h ↦ find_passes p forms form (rw h at e) ]

pub known : (word : List ℕ) (form : Form) → find (λ form. bytes_eq word (word_of form)) all_forms ≡ Some form → word ≡ word_of form
known word form e = (bytes_decides word (word_of form)).0 (find_passes (λ form. bytes_eq word (word_of form)) all_forms form e)

faces_at : (face rest : List ℕ) (pieces : List (List ℕ)) → words rest ≡ pieces
    → two_faces (face ∷ pieces) ≡ option_and_then (λ f. option_map (script.Common f) (id_number rest)) (id_number face)
faces_at face rest [] is = absurd (words_some rest is)
faces_at face rest (other ∷ []) is = rw (words_one rest other is) refl
faces_at face rest (first ∷ second ∷ more) is =
    let gone = many id_number id_spelling rest first second more (id_number rest) refl is in
    rw gone (nothing (id_number face))
  where
    nothing : (o : Option ℕ) → None ≡ option_and_then (λ f. option_map (script.Common f) None) o
    nothing None = refl
    nothing (Some f) = refl

-- two faces from the first piece and the rest
pub two_faces_from : (face rest : List ℕ) → two_faces (face ∷ words rest) ≡ option_and_then (λ f. option_map (script.Common f) (id_number rest)) (id_number face)
two_faces_from face rest = faces_at face rest (words rest) refl

pub two_faces_cut : (text face : List ℕ) (o : Option (Bor (List ℕ))) (rest : Bor (List ℕ)) (first : ℕ) (second : Option ℕ) → IsCut text face o → o ≡ Some rest
    → id_number face ≡ Some first → id_number rest.now ≡ second → two_faces (words text) ≡ option_map (script.Common first) second
two_faces_cut text face o rest first second cut is f g =
    let e : words text ≡ face ∷ words rest.now = subst (IsCut text face) is cut in
    rw e (two_faces_from face rest.now ∙ ap (option_and_then (λ n. option_map (script.Common n) (id_number rest.now))) f ∙ ap (option_map (script.Common first)) g)
