-- Items that are listed one after the other.
use Rattle.std.proofs.Common.{◌≡◌, ◌<◌, ◌+◌, ℕ, List, [], ◌∷◌, ◌++◌, map, flat_map, length, Result, Ok, Err, refl, sym, ap, ◌∙◌, append_assoc, append-nil, arith}
use Rattle.std.proofs.lemmas.Grind.{flat_map-append}
use Rattle.std.proofs.lemmas.List.{drop_more, length-append, map-append}
use Rattle.std.specs.Prelude.{IsErrAnd, ℤ, drop, get_or}
use Rattle.topo_base.specs.Script.{Item, item_text}
use Rattle.topo_serve.specs.Gathering.{Out, Writes}
use Rattle.topo_serve.proofs.Writing.{writes_nothing, writes_more, writes_failed, writes_ok}

-- some items were listed, and these are left
pub record IsListed (all rest : List Item) (before after : Out) : Type 0 where
  pub done : List ℕ
  pub split : done ++ flat_map item_text rest ≡ flat_map item_text all
  pub writes : Writes {X = Unit {0}} {E = Unit {0}} (Ok tt) before after done

pub listed_none : (all : List Item) (out : Out) → IsListed all all out out
listed_none all out = record { done = []; split = refl; writes = writes_nothing tt out }

texts_of : (item : Item) (rest more : List Item) → rest ≡ item ∷ more → flat_map item_text rest ≡ item_text item ++ flat_map item_text more
texts_of item rest more e = ap (λ xs. flat_map item_text xs) e

texts_of_some : (some rest more : List Item) → rest ≡ some ++ more → flat_map item_text rest ≡ flat_map item_text some ++ flat_map item_text more
texts_of_some some rest more e = ap (λ xs. flat_map item_text xs) e ∙ flat_map-append item_text some more

listed_bytes : {X E : Type 0} (x : X) (all rest more : List Item) (bytes : List ℕ) (a b c : Out) → IsListed all rest a b → flat_map item_text rest ≡ bytes ++ flat_map item_text more → Writes {X = X} {E = E} (Ok x) b c bytes → IsListed all more a c
listed_bytes x all rest more bytes a b c p e w = record {
  done = p.done ++ bytes;
  split = append_assoc p.done bytes (flat_map item_text more) ∙ ap (λ z. p.done ++ z) (sym e) ∙ p.split;
  writes = writes_more tt (Ok tt) a b c p.done bytes p.writes (writes_ok x tt b c bytes w);
}

pub listed_more : {X E : Type 0} (x : X) (all rest more : List Item) (item : Item) (a b c : Out) → IsListed all rest a b → rest ≡ item ∷ more → Writes {X = X} {E = E} (Ok x) b c (item_text item) → IsListed all more a c
listed_more x all rest more item a b c p e w = listed_bytes x all rest more (item_text item) a b c p (texts_of item rest more e) w

pub listed_some : {X E : Type 0} (x : X) (all rest more some : List Item) (a b c : Out) → IsListed all rest a b → rest ≡ some ++ more → Writes {X = X} {E = E} (Ok x) b c (flat_map item_text some) → IsListed all more a c
listed_some x all rest more some a b c p e w = listed_bytes x all rest more (flat_map item_text some) a b c p (texts_of_some some rest more e) w

pub listed_all : {X E : Type 0} (x : X) (all rest : List Item) (a b : Out) → IsListed all rest a b → rest ≡ [] → Writes {X = X} {E = E} (Ok x) a b (flat_map item_text all)
listed_all x all rest a b p e = rw (← (sym (append-nil p.done) ∙ ap (λ xs. p.done ++ flat_map item_text xs) (sym e) ∙ p.split)) (writes_ok tt x a b p.done p.writes)

-- the others are listed behind those that were
pub listed_then : {X E : Type 0} (r : Result X E) (all rest : List Item) (a b c : Out) → IsListed all rest a b → Writes r b c (flat_map item_text rest) → Writes r a c (flat_map item_text all)
listed_then r all rest a b c p w = rw (← p.split) (writes_more tt r a b c p.done (flat_map item_text rest) p.writes w)

part_bytes : {X E Y F : Type 0} (r : Result X E) (P : E → Type 0) (f : F) (all rest more : List Item) (bytes : List ℕ) (a b c : Out) → IsListed all rest a b → flat_map item_text rest ≡ bytes ++ flat_map item_text more → IsErrAnd r P → Writes {X = Y} {E = F} (Err f) b c bytes → Writes r a c (flat_map item_text all)
part_bytes r P f all rest more bytes a b c p e is w =
    rw (← (ap (λ z. p.done ++ z) (sym e) ∙ p.split))
    (writes_more tt r a b c p.done (bytes ++ flat_map item_text more) p.writes (writes_failed r P f b c bytes (flat_map item_text more) is w))

pub listed_part : {X E Y F : Type 0} (r : Result X E) (P : E → Type 0) (f : F) (all rest more : List Item) (item : Item) (a b c : Out) → IsListed all rest a b → rest ≡ item ∷ more → IsErrAnd r P → Writes {X = Y} {E = F} (Err f) b c (item_text item) → Writes r a c (flat_map item_text all)
listed_part r P f all rest more item a b c p e is w = part_bytes r P f all rest more (item_text item) a b c p (texts_of item rest more e) is w

pub some_part : {X E Y F : Type 0} (r : Result X E) (P : E → Type 0) (f : F) (all rest more some : List Item) (a b c : Out) → IsListed all rest a b → rest ≡ some ++ more → IsErrAnd r P → Writes {X = Y} {E = F} (Err f) b c (flat_map item_text some) → Writes r a c (flat_map item_text all)
some_part r P f all rest more some a b c p e is w = part_bytes r P f all rest more (flat_map item_text some) a b c p (texts_of_some some rest more e) is w

-- one item alone
pub writes_one : {X E : Type 0} (r : Result X E) (item : Item) (a b : Out) → Writes r a b (item_text item) → Writes r a b (flat_map item_text (item ∷ []))
writes_one r item a b w = rw (append-nil (item_text item)) w

-- how many are left
pub all_left : (rest more some : List Item) → rest ≡ some ++ more → length rest ≡ length some + length more
all_left rest more some e = ap length e ∙ length-append some more

-- what some are as signed edges or numbers, they are as items
pub split_items : {X : Type 0} (item : X → Item) (all some rest : List X) → all ≡ some ++ rest → map item all ≡ map item some ++ map item rest
split_items item all some rest e = ap (map item) e ∙ map-append item some rest

pub none_as_items : {X : Type 0} (item : X → Item) (xs : List X) → map item xs ≡ [] → xs ≡ []
none_as_items item [] e = refl
none_as_items item (x ∷ xs) e = let none : length (map item (x ∷ xs)) ≡ 0 = ap length e in absurd (omega (arith, none))

-- the signed edge at a place is the first of those from there on
pub edge_here : (edges : List ℤ) (i : ℕ) (edge : ℤ) → i < length edges → edge ≡ get_or edges i edge → map Item.Signed_edge (drop i edges) ≡ Item.Signed_edge edge ∷ map Item.Signed_edge (drop (i + 1) edges)
edge_here edges i edge l e = ap (map Item.Signed_edge) (drop_more edges i edge l ∙ ap (λ d. d ∷ drop (i + 1) edges) (sym e))
