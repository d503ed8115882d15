-- Files that are written one after another.
use Rattle.std.proofs.Common.{◌≡◌, ◌≢◌, inl, inr, List, [], ◌∷◌, ◌++◌, ℕ, Option, None, Some, refl, sym, ◌∙◌}
use Rattle.ports.specs.Outside.{Files, OthersStay, WhereTold, Holds, HoldsFront, IsFrontAtMost}
use Rattle.table_dump.specs.Dumped.{AllOthersStay, AreApart, AreHeld, AreWritten, AreWrittenInPart, IsOther, NamedText, names_of}
use Rattle.table_dump.proofs.Putting.{told_on}

-- before the first
pub written_none : (x : Option Files) → WhereTold (AreWritten []) x x
written_none None = tt
written_none (Some f) = record { held = tt; others = λ other apart. refl }

-- a name that is none of some and not one more
other_split : (ts : List NamedText) (t : NamedText) (name : List ℕ) → IsOther (names_of (ts ++ (t ∷ []))) name → IsOther (names_of ts) name × (name ≢ t.name)
other_split [] t name h = (tt, h.0)
other_split (u ∷ ts) t name h = let more = other_split ts t name h.1 in ((h.0, more.0), more.1)

-- what is held stays where another name is written
held_still : (ts : List NamedText) (name : List ℕ) (a b : Files) → IsOther (names_of ts) name → OthersStay name a b → AreHeld ts a → AreHeld ts b
held_still [] name a b apart stay h = tt
held_still (t ∷ ts) name a b apart stay h = (stay t.name (λ e. apart.0 (sym e)) ∙ h.0, held_still ts name a b apart.1 stay h.1)

held_last : (ts : List NamedText) (t : NamedText) (b : Files) → AreHeld ts b → b t.name ≡ Some t.bytes → AreHeld (ts ++ (t ∷ [])) b
held_last [] t b h is = (is, tt)
held_last (u ∷ ts) t b h is = (h.0, held_last ts t b h.1 is)

others_on : (ts : List NamedText) (t : NamedText) (a b c : Files) → AllOthersStay (names_of ts) a b → OthersStay t.name b c → AllOthersStay (names_of (ts ++ (t ∷ []))) a c
others_on ts t a b c p q = λ other apart. let parts = other_split ts t other apart in q other parts.1 ∙ p other parts.0

written_then : (ts : List NamedText) (t : NamedText) (a b c : Files) → IsOther (names_of ts) t.name → AreWritten ts a b → Holds t.name t.bytes b c → AreWritten (ts ++ (t ∷ [])) a c
written_then ts t a b c apart p q = record {
  held = held_last ts t c (held_still ts t.name b c apart q.others p.held) q.held;
  others = others_on ts t a b c p.others q.others;
}

-- one more
pub written_more : (ts : List NamedText) (t : NamedText) (x y z : Option Files) → IsOther (names_of ts) t.name → WhereTold (AreWritten ts) x y → WhereTold (Holds t.name t.bytes) y z → WhereTold (AreWritten (ts ++ (t ∷ []))) x z
written_more ts t x y z apart p q = told_on (λ a b c. written_then ts t a b c apart) x y z p q

front_then : (ts : List NamedText) (t : NamedText) (more all : List NamedText) (a b c : Files) → IsOther (names_of ts) t.name → ts ++ (t ∷ more) ≡ all → AreWritten ts a b → HoldsFront t.name t.bytes b c → AreWrittenInPart all a c
front_then ts t more all a b c apart order p q = record {
  done = ts;
  at = t;
  more = more;
  order = order;
  held = held_still ts t.name b c apart q.others p.held;
  part = part q.held;
  others = others_on ts t a b c p.others q.others;
}
  where
    part : IsFrontAtMost t.name t.bytes b c → IsFrontAtMost t.name t.bytes a c
    part (inl same) = inl (same ∙ p.others t.name apart)
    part (inr rest) = inr rest

-- one more was not written whole
pub written_front : (ts : List NamedText) (t : NamedText) (more all : List NamedText) (x y z : Option Files) → IsOther (names_of ts) t.name → ts ++ (t ∷ more) ≡ all
    → WhereTold (AreWritten ts) x y → WhereTold (HoldsFront t.name t.bytes) y z → WhereTold (AreWrittenInPart all) x z
written_front ts t more all x y z apart order p q = told_on (λ a b c. front_then ts t more all a b c apart order) x y z p q

-- of five names each is none of those before it
pub record AreFive (a b c d e : List ℕ) : Type 0 where
  pub second : IsOther (a ∷ []) b
  pub third : IsOther (a ∷ b ∷ []) c
  pub fourth : IsOther (a ∷ b ∷ c ∷ []) d
  pub fifth : IsOther (a ∷ b ∷ c ∷ d ∷ []) e

pub five_apart : (a b c d e : List ℕ) → AreApart (a ∷ b ∷ c ∷ d ∷ e ∷ []) → AreFive a b c d e
five_apart a b c d e ((ab, (ac, (ad, (ae, x)))), ((bc, (bd, (be, y))), ((cd, (ce, z)), ((de, u), v)))) = record {
  second = ((λ p. ab (sym p)), tt);
  third = ((λ p. ac (sym p)), ((λ p. bc (sym p)), tt));
  fourth = ((λ p. ad (sym p)), ((λ p. bd (sym p)), ((λ p. cd (sym p)), tt)));
  fifth = ((λ p. ae (sym p)), ((λ p. be (sym p)), ((λ p. ce (sym p)), ((λ p. de (sym p)), tt))));
}
