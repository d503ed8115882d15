-- Bytes that are put or gathered, one after another.
use Rattle.std.proofs.Common.{◌≡◌, ℕ, ◌≤◌, List, [], ◌++◌, Option, Result, Ok, Err, refl, sym, ap, ◌∙◌, append_assoc, append-nil, arith}
use Rattle.std.specs.Prelude.{IsErrAnd}
use Rattle.ports.specs.Outside.{Rose}
use Rattle.ports.proofs.Written.{appends_nothing, appends_more}
use Rattle.topo_serve.specs.Gathering.{Out, out_at, Writes}

joined : (put xs ys a b c : List ℕ) (more : List ℕ) → put ++ b ≡ a ++ xs → more ++ c ≡ b ++ ys → (put ++ more) ++ c ≡ a ++ (xs ++ ys)
joined put xs ys a b c more p q = append_assoc put more c ∙ ap (λ z. put ++ z) q ∙ sym (append_assoc put b ys) ∙ ap (λ z. z ++ ys) p ∙ append_assoc a xs ys

pub rose_later : (a b c : ℕ) → a ≤ b → Rose b c → Rose a c
rose_later a b c p q = omega (arith, p, q)

-- nothing was written
pub writes_nothing : {X E : Type 0} (x : X) (a : Out) → Writes {X = X} {E = E} (Ok x) a a []
writes_nothing x a = record {
  gained = ([], sym (append-nil a.text), appends_nothing a.held);
  stays = refl;
  part = tt;
  cause = tt;
  never_falls = omega arith;
}

-- bytes behind others that were written
pub writes_more : {X E Y F : Type 0} (x : Y) (r : Result X E) (a b c : Out) (xs ys : List ℕ) → Writes {X = Y} {E = F} (Ok x) a b xs → Writes r b c ys → Writes r a c (xs ++ ys)
writes_more x (Ok y) a b c xs ys p q = record {
  gained = (p.gained.0 ++ q.gained.0, joined p.gained.0 xs ys a.text b.text c.text q.gained.0 p.gained.1 q.gained.1, appends_more a.held b.held c.held p.gained.0 q.gained.0 p.gained.2 q.gained.2);
  stays = q.stays ∙ p.stays;
  part = tt;
  cause = tt;
  never_falls = omega (arith, p.never_falls, q.never_falls);
}
writes_more x (Err e) a b c xs ys p q = record {
  gained = tt;
  stays = tt;
  part = (p.gained.0 ++ q.part.0, q.part.1, joined p.gained.0 xs ys a.text b.text q.part.1 q.part.0 p.gained.1 q.part.2, appends_more a.held b.held c.held p.gained.0 q.part.0 p.gained.2 q.part.3);
  cause = rose_later a.faults b.faults c.faults p.never_falls q.cause;
  never_falls = omega (arith, p.never_falls, q.never_falls);
}

-- where the write failed, whatever stands behind what was to be written
pub writes_failed : {X E Y F : Type 0} (r : Result X E) (P : E → Type 0) (f : F) (a b : Out) (xs ys : List ℕ) → IsErrAnd r P → Writes {X = Y} {E = F} (Err f) a b xs → Writes r a b (xs ++ ys)
writes_failed (Ok x) P f a b xs ys is w = absurd is
writes_failed (Err e) P f a b xs ys is w = record {
  gained = tt;
  stays = tt;
  part = (w.part.0, w.part.1 ++ ys, sym (append_assoc w.part.0 w.part.1 ys) ∙ ap (λ z. z ++ ys) w.part.2 ∙ append_assoc a.text xs ys, w.part.3);
  cause = w.cause;
  never_falls = w.never_falls;
}

-- what is said of a success or a failure is said of each other one
pub writes_ok : {X E Y F : Type 0} (x : X) (y : Y) (a b : Out) (xs : List ℕ) → Writes {X = X} {E = E} (Ok x) a b xs → Writes {X = Y} {E = F} (Ok y) a b xs
writes_ok x y a b xs w = record { gained = w.gained; stays = w.stays; part = tt; cause = tt; never_falls = w.never_falls }

-- where nothing is gathered before, and after
pub from_nothing : {X E : Type 0} (r : Result X E) (held : Option (List ℕ)) (faults : ℕ) (text : List ℕ) (b : Out) (xs : List ℕ) → text ≡ [] → Writes r (out_at held faults text) b xs → Writes r (out_at held faults []) b xs
from_nothing r held faults text b xs e w = rw (← e) w

pub to_nothing : {X E : Type 0} (r : Result X E) (held : Option (List ℕ)) (faults : ℕ) (text : List ℕ) (a : Out) (xs : List ℕ) → text ≡ [] → Writes r a (out_at held faults text) xs → Writes r a (out_at held faults []) xs
to_nothing r held faults text a xs e w = rw (← e) w
