-- Bytes that are put behind what a name holds, or gathered for it, one after another.
use Rattle.std.specs.Prelude.{IsErrAnd}
use Rattle.std.proofs.Common.{◌≡◌, ◌⊎◌, inl, inr, ℕ, ◌+◌, ◌≤◌, List, [], ◌++◌, Option, None, Some, Result, Ok, Err, OnOk, OnErr, refl, sym, ap, ◌∙◌, append_assoc, append-nil, arith, subst}
use Rattle.ports.specs.Outside.{Files, CountsWrite, IsExtended, IsExtendedInPart, IsHeld, IsStarted, IsStartedAtMost, OthersStay, WhereTold, Holds, HoldsFront}
use Rattle.table_dump.specs.Gathering.{Out, out_at, Extends, ExtendsInPart, Writes}

-- what holds of the files from one moment to the next, where they are told
pub told_on : {P Q R : Files → Files → Type 0} → ((a b c : Files) → P a b → Q b c → R a c) → (x y z : Option Files) → WhereTold P x y → WhereTold Q y z → WhereTold R x z
told_on on None y z p q = tt
told_on on (Some a) None z p q = absurd p
told_on on (Some a) (Some b) None p q = absurd q
told_on on (Some a) (Some b) (Some c) p q = on a b c p q

pub told_as : {P Q : Files → Files → Type 0} → ((a b : Files) → P a b → Q a b) → (x y : Option Files) → WhereTold P x y → WhereTold Q x y
told_as lift None y p = tt
told_as lift (Some a) None p = absurd p
told_as lift (Some a) (Some b) p = lift a b p

pub told_both : {P Q R : Files → Files → Type 0} → ((a b : Files) → P a b → Q a b → R a b) → (x y : Option Files) → WhereTold P x y → WhereTold Q x y → WhereTold R x y
told_both both None y p q = tt
told_both both (Some a) None p q = absurd p
told_both both (Some a) (Some b) p q = both a b p q

-- one count of failed writes after another
pub counts_more : {X Y E F : Type 0} (x : Y) (r : Result X E) (a b c : ℕ) → CountsWrite {X = Y} {E = F} (Ok x) a b → CountsWrite r b c → CountsWrite r a c
counts_more x (Ok y) a b c p q = record { stays = q.stays ∙ p.stays; rises = tt; never_falls = omega (arith, p.never_falls, q.never_falls) }
counts_more x (Err e) a b c p q = record { stays = tt; rises = omega (arith, p.never_falls, q.rises); never_falls = omega (arith, p.never_falls, q.never_falls) }

pub counts_same : {X E : Type 0} (x : X) (a b : ℕ) → b ≡ a → CountsWrite {X = X} {E = E} (Ok x) a b
counts_same x a b e = record { stays = e; rises = tt; never_falls = omega (arith, e) }

pub counts_ok : {X Y E F : Type 0} (x : X) (y : Y) (a b : ℕ) → CountsWrite {X = X} {E = E} (Ok x) a b → CountsWrite {X = Y} {E = F} (Ok y) a b
counts_ok x y a b w = record { stays = w.stays; rises = tt; never_falls = w.never_falls }

-- a failure that is handed on
pub counts_failed : {X E Y F : Type 0} (r : Result X E) (P : E → Type 0) (f : F) (a b : ℕ) → IsErrAnd r P → CountsWrite {X = Y} {E = F} (Err f) a b → CountsWrite r a b
counts_failed (Ok x) P f a b is w = absurd is
counts_failed (Err e) P f a b is w = record { stays = tt; rises = w.rises; never_falls = w.never_falls }

-- what is said of a failure is said of each that is handed on
pub on_failure : {X E : Type 0} {A : Type 0} (r : Result X E) (P : E → Type 0) → IsErrAnd r P → A → OnErr r A
on_failure (Ok x) P is a = absurd is
on_failure (Err e) P is a = a

-- a name that is held holds nothing behind what it holds
extends_nothing : (name : List ℕ) (x : Option Files) → IsHeld x name → WhereTold (Extends name []) x x
extends_nothing name None held = tt
extends_nothing name (Some f) held = record { extended = (held.0, held.1, held.1 ∙ ap Some (sym (append-nil held.0))); others = λ other apart. refl }

extends_more : (name xs ys : List ℕ) (a b c : Files) → Extends name xs a b → Extends name ys b c → Extends name (xs ++ ys) a c
extends_more name xs ys a b c p q =
    let same : Some (p.extended.0 ++ xs) ≡ Some q.extended.0 = sym p.extended.2 ∙ q.extended.1 in
    let is : p.extended.0 ++ xs ≡ q.extended.0 = some_one same in
    record {
      extended = (p.extended.0, p.extended.1, q.extended.2 ∙ ap (λ z. Some (z ++ ys)) (sym is) ∙ ap Some (append_assoc p.extended.0 xs ys));
      others = λ other apart. q.others other apart ∙ p.others other apart;
    }
  where
    some_one : {A : Type 0} {x y : A} → Some x ≡ Some y → x ≡ y
    some_one e = cc

-- nothing was written
pub writes_nothing : {X E : Type 0} (x : X) (name : List ℕ) (files : Option Files) (faults : ℕ) (text left : List ℕ) → left ≡ text → IsHeld files name → Writes {X = X} {E = E} (Ok x) name (out_at files faults text) (out_at files faults left) []
writes_nothing x name files faults text left e held = record {
  gained = ([], e ∙ sym (append-nil text), extends_nothing name files held);
  held = held;
  part = tt;
  counted = counts_same x faults faults refl;
}

-- all that was gathered was put
pub put_all : {X E Y F : Type 0} (x : X) (y : Y) (name : List ℕ) (before after : Option Files) (n k : ℕ) (bytes text left : List ℕ) → bytes ≡ text → left ≡ [] → WhereTold (IsExtended name bytes) before after
    → WhereTold (OthersStay name) before after → IsHeld after name → CountsWrite {X = Y} {E = F} (Ok y) n k → Writes {X = X} {E = E} (Ok x) name (out_at before n text) (out_at after k left) []
put_all x y name before after n k bytes text left same e extended others held counted = record {
  gained = (
    text,
    ap (λ z. text ++ z) e,
    subst (λ xs. WhereTold (Extends name xs) before after) same (told_both (λ a b p q. record { extended = p; others = q }) before after extended others),
  );
  held = held;
  part = tt;
  counted = counts_ok y x n k counted;
}

-- not all was put
pub put_failed : {X E Y F : Type 0} (r : Result X E) (P : E → Type 0) (f : F) (name : List ℕ) (before after : Option Files) (n k : ℕ) (text left : List ℕ) → IsErrAnd r P
    → WhereTold (IsExtendedInPart name text) before after → WhereTold (OthersStay name) before after → CountsWrite {X = Y} {E = F} (Err f) n k → Writes r name (out_at before n text) (out_at after k left) []
put_failed (Ok x) P f name before after n k text left is extended others counted = absurd is
put_failed (Err e) P f name before after n k text left is extended others counted = record {
  gained = tt;
  held = tt;
  part = told_both (λ a b p q. record { extended = subst (λ xs. IsExtendedInPart name xs a b) (sym (append-nil text)) p; others = q }) before after extended others;
  counted = counts_failed (Err e) P f n k is counted;
}

-- bytes are gathered behind what was
pub gathered_behind : {X E Y F : Type 0} (x : X) (y : Y) (name : List ℕ) (a : Out) (files : Option Files) (faults : ℕ) (text left bytes : List ℕ) → left ≡ text ++ bytes
    → Writes {X = X} {E = E} (Ok x) name a (out_at files faults text) [] → Writes {X = Y} {E = F} (Ok y) name a (out_at files faults left) bytes
gathered_behind x y name a files faults text left bytes e w = record {
  gained = (
    w.gained.0,
    ap (λ z. w.gained.0 ++ z) e ∙ sym (append_assoc w.gained.0 text bytes) ∙ ap (λ z. z ++ bytes) (w.gained.1 ∙ append-nil a.text),
    w.gained.2,
  );
  held = w.held;
  part = tt;
  counted = counts_ok x y a.faults faults w.counted;
}

-- where a write failed, whatever stands behind what was to be written
in_part_of_more : (name xs ys : List ℕ) (a b : Files) → ExtendsInPart name xs a b → ExtendsInPart name (xs ++ ys) a b
in_part_of_more name xs ys a b p =
    record {
      extended = (p.extended.0, p.extended.1 ++ ys, sym (append_assoc p.extended.0 p.extended.1 ys) ∙ ap (λ z. z ++ ys) p.extended.2, p.extended.3);
      others = p.others;
    }

pub writes_failed : {X E Y F : Type 0} (r : Result X E) (P : E → Type 0) (f : F) (name : List ℕ) (a b : Out) (bytes : List ℕ) → IsErrAnd r P → Writes {X = Y} {E = F} (Err f) name a b [] → Writes r name a b bytes
writes_failed (Ok x) P f name a b bytes is w = absurd is
writes_failed (Err e) P f name a b bytes is w = record {
  gained = tt;
  held = tt;
  part = subst (λ z. WhereTold (ExtendsInPart name (z ++ bytes)) a.files b.files) (append-nil a.text) (told_as (in_part_of_more name (a.text ++ []) bytes) a.files b.files w.part);
  counted = counts_failed (Err e) P f a.faults b.faults is w.counted;
}

-- a table on its way: with what is gathered and what is left, what its name holds is all of it
pub record IsOnWay (name whole left text : List ℕ) (before after : Files) : Type 0 where
  pub put : List ℕ
  pub all : put ++ (text ++ left) ≡ whole
  pub held : after name ≡ Some put
  pub others : OthersStay name before after

pub begun : (name whole text : List ℕ) (x y : Option Files) → text ≡ [] → WhereTold (IsStarted name) x y → WhereTold (OthersStay name) x y → WhereTold (IsOnWay name whole whole text) x y
begun name whole text x y e started others = told_both (λ a b p q. record { put = []; all = ap (λ z. z ++ whole) e; held = p; others = q }) x y started others

put_on : (name whole left more text text' bytes put : List ℕ) (a b c : Files) → left ≡ bytes ++ more → put ++ text' ≡ text ++ bytes → IsOnWay name whole left text a b → Extends name put b c → IsOnWay name whole more text' a c
put_on name whole left more text text' bytes put a b c split gained p q =
    let same : q.extended.0 ≡ p.put = some_one (sym q.extended.1 ∙ p.held) in
    record {
      put = p.put ++ put;
      all =
          append_assoc p.put put (text' ++ more) ∙ ap (λ z. p.put ++ z) (sym (append_assoc put text' more) ∙ ap (λ z. z ++ more) gained ∙ append_assoc text bytes more ∙ ap (λ z. text ++ z) (sym split)) ∙ p.all;
      held = q.extended.2 ∙ ap (λ z. Some (z ++ put)) same;
      others = λ other apart. q.others other apart ∙ p.others other apart;
    }
  where
    some_one : {A : Type 0} {x y : A} → Some x ≡ Some y → x ≡ y
    some_one e = cc

-- what is next was put or gathered
pub went_on : {X E : Type 0} (x : X) (name whole left more bytes : List ℕ) (start files files' : Option Files) (n k : ℕ) (text text' : List ℕ) → left ≡ bytes ++ more
    → WhereTold (IsOnWay name whole left text) start files → Writes {X = X} {E = E} (Ok x) name (out_at files n text) (out_at files' k text') bytes → WhereTold (IsOnWay name whole more text') start files'
went_on x name whole left more bytes start files files' n k text text' split p w =
    told_on (λ a b c. put_on name whole left more text text' bytes w.gained.0 a b c split w.gained.1) start files files' p w.gained.2

front_of : (name whole left more text bytes : List ℕ) (a b c : Files) → left ≡ bytes ++ more → IsOnWay name whole left text a b → ExtendsInPart name (text ++ bytes) b c → HoldsFront name whole a c
front_of name whole left more text bytes a b c split p q =
    let part = q.extended.0 in
    let rest = q.extended.1 in
    let same : q.extended.3.0 ≡ p.put = some_one (sym q.extended.3.1 ∙ p.held) in
    let all : (p.put ++ part) ++ (rest ++ more) ≡ whole
    = append_assoc p.put part (rest ++ more)
    ∙ ap (λ z. p.put ++ z) (sym (append_assoc part rest more) ∙ ap (λ z. z ++ more) q.extended.2 ∙ append_assoc text bytes more ∙ ap (λ z. text ++ z) (sym split))
    ∙ p.all in
    record {
      held = inr (inr (p.put ++ part, rest ++ more, all, q.extended.3.2 ∙ ap (λ z. Some (z ++ part)) same));
      others = λ other apart. q.others other apart ∙ p.others other apart;
    }
  where
    some_one : {A : Type 0} {x y : A} → Some x ≡ Some y → x ≡ y
    some_one e = cc

-- a write of what is next failed
pub stopped : {Y F : Type 0} (f : F) (name whole left more bytes : List ℕ) (start files files' : Option Files) (n k : ℕ) (text text' : List ℕ) → left ≡ bytes ++ more
    → WhereTold (IsOnWay name whole left text) start files → Writes {X = Y} {E = F} (Err f) name (out_at files n text) (out_at files' k text') bytes → WhereTold (HoldsFront name whole) start files'
stopped f name whole left more bytes start files files' n k text text' split p w =
    told_on (λ a b c. front_of name whole left more text bytes a b c split) start files files' p w.part

-- nothing was begun
pub not_begun : (name whole : List ℕ) (x y : Option Files) → WhereTold (IsStartedAtMost name) x y → WhereTold (OthersStay name) x y → WhereTold (HoldsFront name whole) x y
not_begun name whole x y left others = told_both (λ a b p q. record { held = at_most a b p; others = q }) x y left others
  where
    at_most : (a b : Files) → IsStartedAtMost name a b → (b name ≡ a name) ⊎ (b name ≡ None) ⊎ ((part : List ℕ) × (rest : List ℕ) × (part ++ rest ≡ whole) × (b name ≡ Some part))
    at_most a b (inl same) = inl same
    at_most a b (inr (inl none)) = inr (inl none)
    at_most a b (inr (inr empty)) = inr (inr ([], whole, refl, empty))

ended : (name whole left text : List ℕ) (a b : Files) → left ≡ [] → text ≡ [] → IsOnWay name whole left text a b → Holds name whole a b
ended name whole left text a b none empty p = record {
  held = p.held ∙ ap Some (sym (append-nil p.put) ∙ ap (λ z. p.put ++ z) (sym (ap (λ z. z ++ left) empty ∙ none)) ∙ p.all);
  others = p.others;
}

-- the last of it was put
pub ended_ok : {X E : Type 0} (r : Result X E) (name whole left : List ℕ) (start files files' : Option Files) (n k : ℕ) (text text' : List ℕ) → left ≡ []
    → WhereTold (IsOnWay name whole left text) start files → Writes r name (out_at files n text) (out_at files' k text') [] → OnOk r (text' ≡ []) → OnOk r (WhereTold (Holds name whole) start files')
ended_ok (Ok x) name whole left start files files' n k text text' none p w empty =
    told_as (λ a b. ended name whole left text' a b none empty) start files' (went_on x name whole left left [] start files files' n k text text' refl p w)
ended_ok (Err e) name whole left start files files' n k text text' none p w empty = tt

-- or not
pub ended_err : {X E : Type 0} (r : Result X E) (name whole left : List ℕ) (start files files' : Option Files) (n k : ℕ) (text text' : List ℕ)
    → WhereTold (IsOnWay name whole left text) start files → Writes r name (out_at files n text) (out_at files' k text') [] → OnErr r (WhereTold (HoldsFront name whole) start files')
ended_err (Ok x) name whole left start files files' n k text text' p w = tt
ended_err (Err e) name whole left start files files' n k text text' p w = stopped e name whole left left [] start files files' n k text text' refl p w

-- what follows on success, and on failure
pub on_ok_as : {X E A B : Type 0} (r : Result X E) → (A → B) → OnOk r A → OnOk r B
on_ok_as (Ok x) f a = f a
on_ok_as (Err e) f a = tt

pub on_err_as : {X E A B : Type 0} (r : Result X E) → (A → B) → OnErr r A → OnErr r B
on_err_as (Ok x) f a = tt
on_err_as (Err e) f a = f a

-- each place was read at
pub places_read : {X E : Type 0} (r : Result X E) (start place n last : ℕ) → start + place ≤ last → n ≤ place → OnOk r (start + n ≤ last)
places_read (Ok x) start place n last a b = omega (arith, a, b)
places_read (Err e) start place n last a b = tt

-- and each edge among all
pub edges_read : {X E : Type 0} (r : Result X E) (start nodes edges faces regions last many keys : ℕ) → keys ≡ many → start ≤ nodes → nodes + many ≤ edges → edges ≤ faces → faces ≤ regions → regions ≤ last → OnOk r (start + keys ≤ last)
edges_read (Ok x) start nodes edges faces regions last many keys same a b f g l = omega (arith, same, a, b, f, g, l)
edges_read (Err e) start nodes edges faces regions last many keys same a b f g l = tt
