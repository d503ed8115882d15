-- What follows from a result of either kind.
use Rattle.std.proofs.Common.{◌≡◌, ℕ, List, [], ◌++◌, take, drop, Option, Result, Ok, Err, Some, OnOk, OnErr, IfOk, refl, sym, ◌∙◌, append-nil, arith, inl, ap, ◌≤◌}
use Rattle.std.proofs.lemmas.List.{take-append-drop}
use Rattle.ports.specs.Outside.{CountsWrite, Files, GainsPart, IsExtended, IsExtendedInPart, IsHeld, IsStartedAtMost, Rose, one_more}

-- what holds of every value holds of the one in `Ok`
pub ok_of_all : {X E : Type 0} (r : Result X E) (P : X → Type 0) → ((x : X) → P x) → IfOk r P
ok_of_all (Ok x) P all = all x
ok_of_all (Err e) P all = tt

-- nothing was appended
pub gains_nothing : {X E : Type 0} (r : Result X E) (before after bytes : List ℕ) → OnErr r (after ≡ before) → OnErr r (GainsPart (Some before) (Some after) bytes)
gains_nothing (Ok x) before after bytes p = tt
gains_nothing (Err e) before after bytes p = ([], bytes, refl, p ∙ sym (append-nil before))

-- the first n bytes were appended, or nothing
pub gains_front : {X E : Type 0} (r : Result X E) (before after bytes : List ℕ) (n : ℕ) → OnOk r (after ≡ before ++ take n bytes) → OnErr r (after ≡ before) → GainsPart (Some before) (Some after) bytes
gains_front (Ok x) before after bytes n p q = (take n bytes, drop n bytes, take-append-drop n bytes, p)
gains_front (Err e) before after bytes n p q = ([], bytes, refl, q ∙ sym (append-nil before))

pub rose_by_one : (before after : ℕ) → after ≡ one_more before → Rose before after
rose_by_one before after e = omega (arith, e)

-- what always holds holds on success
pub on_ok_always : {X E P : Type 0} (r : Result X E) → P → OnOk r P
on_ok_always (Ok x) p = p
on_ok_always (Err e) p = tt

-- what always holds holds on failure
pub on_err_always : {X E P : Type 0} (r : Result X E) → P → OnErr r P
on_err_always (Ok x) p = tt
on_err_always (Err e) p = p

-- what is there holds some bytes
pub held_on_ok : {X E : Type 0} (r : Result X E) (bytes : List ℕ) (there : Option (List ℕ)) → OnOk r (there ≡ Some bytes) → OnOk r ((held : List ℕ) × (there ≡ Some held))
held_on_ok (Ok x) bytes there is = (bytes, is)
held_on_ok (Err e) bytes there is = tt

-- what was put behind a name's bytes leaves the name held
pub held_extended : {X E : Type 0} (r : Result X E) (name bytes : List ℕ) (before after : Files) → OnOk r (IsExtended name bytes before after) → OnOk r (IsHeld (Some after) name)
held_extended (Ok x) name bytes before after is = (is.0 ++ bytes, is.2)
held_extended (Err e) name bytes before after is = tt

-- what stays is as it was, or nothing, or started
pub on_err_stays : {X E : Type 0} (r : Result X E) (name : List ℕ) (before after : Files) → OnErr r (after ≡ before) → OnErr r (IsStartedAtMost name before after)
on_err_stays (Ok x) name before after p = tt
on_err_stays (Err e) name before after p = inl (ap (λ files. files name) p)

-- the first n bytes were put behind a name's, or nothing
pub extends_front : {X E : Type 0} (r : Result X E) (name bytes : List ℕ) (n : ℕ) (before after : Files) → IsHeld (Some before) name → OnOk r (IsExtended name (take n bytes) before after) → OnErr r (after name ≡ before name) → IsExtendedInPart name bytes before after
extends_front (Ok x) name bytes n before after held p q = (take n bytes, drop n bytes, take-append-drop n bytes, p)
extends_front (Err e) name bytes n before after held p q = ([], bytes, refl, (held.0, held.1, q ∙ held.1 ∙ ap Some (sym (append-nil held.0))))

-- nothing was put behind a name's
pub extends_nothing : {X E : Type 0} (r : Result X E) (name bytes : List ℕ) (before after : Files) → IsHeld (Some before) name → OnErr r (after name ≡ before name) → OnErr r (IsExtendedInPart name bytes before after)
extends_nothing (Ok x) name bytes before after held q = tt
extends_nothing (Err e) name bytes before after held q = ([], bytes, refl, (held.0, held.1, q ∙ held.1 ∙ ap Some (sym (append-nil held.0))))

-- a write that failed is counted
pub counts_failure : {X E : Type 0} (e : E) (before after : ℕ) → after ≡ one_more before → before ≤ after → CountsWrite {X = X} {E = E} (Err e) before after
counts_failure e before after counted rose = record {
  stays = tt;
  rises = rose_by_one before after counted;
  never_falls = rose;
}

-- a failed write after another write is counted
pub counts_failure_after : {X E Y F : Type 0} (e : E) (r : Result Y F) (before between after : ℕ) → CountsWrite r before between → after ≡ one_more between → between ≤ after → CountsWrite {X = X} {E = E} (Err e) before after
counts_failure_after e r before between after first counted rose = record {
  stays = tt;
  rises = omega (arith, first.never_falls, counted);
  never_falls = omega (arith, first.never_falls, rose);
}
