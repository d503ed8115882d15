-- The bytes of one answer.
use Rattle.std.proofs.Common.{◌≡◌, ℕ, ◌+◌, ◌≤◌, OnOk, List, [], ◌∷◌, ◌++◌, flat_map, map, Bool, true, false, Result, Ok, Err, sym, ap, ◌∙◌, append_assoc}
use Rattle.std.specs.Prelude.{codes, IsErrAnd}
use Rattle.topo_base.specs.Script as script
use Rattle.topo_base.specs.Script.{Item, Line, item_text, line, text, without_cr}
use Rattle.plane_model.specs.PlaneMap.{PlaneMap}
use Rattle.plane_model.specs.Answers.{where_known, after_colon, items, answer_to, line_walked, items_listed}
use Rattle.query_text.specs.Lines.{IsAsk, IfAsk}
use Rattle.query_text.proofs.Texts.{said_text}
use Rattle.navigate.specs.Bound.{most_words}
use Rattle.topo_serve.specs.Gathering.{Out, Writes}
use Rattle.topo_serve.specs.Serving.{found_for, found_in, words_of_query}
use Rattle.topo_serve.proofs.Writing.{writes_more, writes_failed}

-- the same bytes, written in another way
pub same_bytes : {X E : Type 0} (r : Result X E) (a b : Out) (xs ys : List ℕ) → xs ≡ ys → Writes r a b xs → Writes r a b ys
same_bytes r a b xs ys e w = rw (← e) w

pub written_known : {X E : Type 0} (r : Result X E) (a b : Out) (known : Bool) (xs : List Item) (bytes : List ℕ) → true ≡ known → bytes ≡ flat_map item_text xs → Writes r a b bytes → Writes r a b (after_colon (where_known known xs))
written_known r a b known xs bytes k e w = rw (← k) (same_bytes r a b bytes (flat_map item_text xs) e w)

pub written_unknown : {X E : Type 0} (r : Result X E) (a b : Out) (known : Bool) (xs : List Item) → false ≡ known → Writes r a b (codes " unknown") → Writes r a b (after_colon (where_known known xs))
written_unknown r a b known xs k w = rw (← k) w

pub two_numbers : (a b c d : ℕ) → a ≡ c → b ≡ d → flat_map item_text (map Item.Number (a ∷ b ∷ [])) ≡ flat_map item_text (map Item.Number (c ∷ d ∷ []))
two_numbers a b c d e f = ap (λ x. flat_map item_text (map Item.Number (x ∷ b ∷ []))) e ∙ ap (λ y. flat_map item_text (map Item.Number (c ∷ y ∷ []))) f

-- the text of a query is the line that asks it
pub head_text : (l : Line) (bytes : List ℕ) → l ≡ line bytes → IfAsk l (λ q. without_cr bytes ++ codes ":" ≡ text q ++ codes ":")
head_text script.Long bytes e = tt
head_text script.Blank bytes e = tt
head_text script.Bad bytes e = tt
head_text (script.Ask q) bytes e = ap (λ z. z ++ codes ":") (said_text bytes q (sym e))

-- the head of an answer, its items and its end
pub query_written : {X E Y F : Type 0} (x : Y) (r : Result X E) (m : PlaneMap) (l : Line) (a b c d : Out) (head : List ℕ) → IsAsk l → IfAsk l (λ q. head ≡ text q ++ codes ":")
    → Writes {X = Y} {E = F} (Ok x) a b head → IfAsk l (λ q. Writes {X = Y} {E = F} (Ok x) b c (after_colon (items m q))) → Writes r c d (10 ∷ []) → Writes r a d (answer_to m l)
query_written x r m script.Long a b c d head is e p q w = absurd is
query_written x r m script.Blank a b c d head is e p q w = absurd is
query_written x r m script.Bad a b c d head is e p q w = absurd is
query_written {X = X} {E = E} {Y = Y} {F = F} x r m (script.Ask s) a b c d head is e p q w =
    let front : Writes {X = Y} {E = F} (Ok x) a c (head ++ after_colon (items m s)) = writes_more x (Ok x) a b c head (after_colon (items m s)) p q in
    same_bytes r a d ((head ++ after_colon (items m s)) ++ 10 ∷ []) (answer_to m (script.Ask s)) (ap (λ z. (z ++ after_colon (items m s)) ++ 10 ∷ []) e)
    (writes_more x r a c d (head ++ after_colon (items m s)) (10 ∷ []) front w)

pub head_failed : {X E Y F : Type 0} (r : Result X E) (P : E → Type 0) (f : F) (m : PlaneMap) (l : Line) (a b : Out) (head : List ℕ) → IsAsk l → IfAsk l (λ q. head ≡ text q ++ codes ":")
    → IsErrAnd r P → Writes {X = Y} {E = F} (Err f) a b head → Writes r a b (answer_to m l)
head_failed r P f m script.Long a b head is e err w = absurd is
head_failed r P f m script.Blank a b head is e err w = absurd is
head_failed r P f m script.Bad a b head is e err w = absurd is
head_failed r P f m (script.Ask s) a b head is e err w =
    same_bytes r a b (head ++ (after_colon (items m s) ++ 10 ∷ [])) (answer_to m (script.Ask s)) (sym (append_assoc head (after_colon (items m s)) (10 ∷ [])) ∙ ap (λ z. (z ++ after_colon (items m s)) ++ 10 ∷ []) e)
    (writes_failed r P f a b head (after_colon (items m s) ++ 10 ∷ []) err w)

pub items_failed : {X E Y F G : Type 0} (y : Y) (r : Result X E) (P : E → Type 0) (f : F) (m : PlaneMap) (l : Line) (a b c : Out) (head : List ℕ) → IsAsk l → IfAsk l (λ q. head ≡ text q ++ codes ":")
    → IsErrAnd r P → Writes {X = Y} {E = G} (Ok y) a b head → IfAsk l (λ q. Writes {X = Y} {E = F} (Err f) b c (after_colon (items m q))) → Writes r a c (answer_to m l)
items_failed y r P f m script.Long a b c head is e err p w = absurd is
items_failed y r P f m script.Blank a b c head is e err p w = absurd is
items_failed y r P f m script.Bad a b c head is e err p w = absurd is
items_failed {Y = Y} {F = F} y r P f m (script.Ask s) a b c head is e err p w =
    let front : Writes {X = Y} {E = F} (Err f) a c (head ++ after_colon (items m s)) = writes_more y (Err f) a b c head (after_colon (items m s)) p w in
    same_bytes r a c ((head ++ after_colon (items m s)) ++ 10 ∷ []) (answer_to m (script.Ask s)) (ap (λ z. (z ++ after_colon (items m s)) ++ 10 ∷ []) e)
    (writes_failed r P f a c (head ++ after_colon (items m s)) (10 ∷ []) err front)

-- what is found and read for a query is what is found and read for its line
pub found_asked : {X E : Type 0} (r : Result X E) (m : PlaneMap) (l : Line) (s t : ℕ) → IsAsk l → IfAsk l (λ q. OnOk r (s + found_for m q ≤ t)) → OnOk r (s + found_in m l ≤ t)
found_asked r m script.Long s t is p = absurd is
found_asked r m script.Blank s t is p = absurd is
found_asked r m script.Bad s t is p = absurd is
found_asked r m (script.Ask q) s t is p = p

pub words_asked : (m : PlaneMap) (l : Line) (s t : ℕ) → IsAsk l → IfAsk l (λ q. t ≤ s + words_of_query m q) → t ≤ s + most_words m (line_walked m l) (items_listed m l)
words_asked m script.Long s t is p = absurd is
words_asked m script.Blank s t is p = absurd is
words_asked m script.Bad s t is p = absurd is
words_asked m (script.Ask q) s t is p = p
