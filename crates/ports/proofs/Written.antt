-- What a writer gained of some bytes, a piece at a time.
use Rattle.std.proofs.Common.{◌≡◌, ℕ, List, [], ◌++◌, ◌-◌, length, take, drop, Option, None, Some, refl, sym, ap, ◌∙◌, append_assoc, append-nil}
use Rattle.std.proofs.lemmas.List.{take-append-drop, take_rest}
use Rattle.std.specs.Io.KnownBytes.{Appends, Keeps}
use Rattle.ports.specs.Outside.{GainsPart}

-- all but the rest of the bytes was appended
abbrev pub IsWrittenTo : Option (List ℕ) → Option (List ℕ) → List ℕ → List ℕ → Type 0
IsWrittenTo before after rest bytes = (part : List ℕ) × (part ++ rest ≡ bytes) × Appends before after part

pub appends_nothing : (known : Option (List ℕ)) → Appends known known []
appends_nothing None = tt
appends_nothing (Some xs) = sym (append-nil xs)

pub appends_more : (a b c : Option (List ℕ)) (xs ys : List ℕ) → Appends a b xs → Appends b c ys → Appends a c (xs ++ ys)
appends_more None b c xs ys p q = tt
appends_more (Some a) None c xs ys p q = absurd p
appends_more (Some a) (Some b) None xs ys p q = absurd q
appends_more (Some a) (Some b) (Some c) xs ys p q = q ∙ ap (λ z. z ++ ys) p ∙ append_assoc a xs ys

appends_and_keeps : (a b c : Option (List ℕ)) (xs : List ℕ) → Appends a b xs → Keeps b c → Appends a c xs
appends_and_keeps None b c xs p q = tt
appends_and_keeps (Some a) None c xs p q = absurd p
appends_and_keeps (Some a) (Some b) None xs p q = absurd q
appends_and_keeps (Some a) (Some b) (Some c) xs p q = q ∙ p

pub written_nothing : (known : Option (List ℕ)) (bytes : List ℕ) → IsWrittenTo known known bytes bytes
written_nothing known bytes = ([], refl, appends_nothing known)

pub written_more : (a b c : Option (List ℕ)) (n : ℕ) (rest bytes : List ℕ) → IsWrittenTo a b rest bytes → Appends b c (take n rest) → IsWrittenTo a c (drop n rest) bytes
written_more a b c n rest bytes p q = (
  p.0 ++ take n rest,
  append_assoc p.0 (take n rest) (drop n rest) ∙ ap (λ z. p.0 ++ z) (take-append-drop n rest) ∙ p.1,
  appends_more a b c p.0 (take n rest) p.2 q,
)

-- the rest as the slice behind n bytes
pub written_on : (a b c : Option (List ℕ)) (n : ℕ) (rest bytes : List ℕ) → IsWrittenTo a b rest bytes → Appends b c (take n rest) → IsWrittenTo a c (take (length rest - n) (drop n rest)) bytes
written_on a b c n rest bytes p q = rw take_rest (written_more a b c n rest bytes p q)

pub written_all : (a b : Option (List ℕ)) (rest bytes : List ℕ) → rest ≡ [] → IsWrittenTo a b rest bytes → Appends a b bytes
written_all a b rest bytes e p = rw (← (ap (λ z. p.0 ++ z) (sym e) ∙ p.1)) (rw append-nil p.2)

pub written_part : (a b c : Option (List ℕ)) (rest bytes : List ℕ) → IsWrittenTo a b rest bytes → Keeps b c → GainsPart a c bytes
written_part a b c rest bytes p q = (p.0, rest, p.1, appends_and_keeps a b c p.0 p.2 q)

pub written_part_and_nothing : (a b c : Option (List ℕ)) (rest bytes : List ℕ) → IsWrittenTo a b rest bytes → Appends b c (take 0 rest) → GainsPart a c bytes
written_part_and_nothing a b c rest bytes p q = let more = written_more a b c 0 rest bytes p q in (more.0, drop 0 rest, more.1, more.2)
