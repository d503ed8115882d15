-- The lines that were read ahead are the next that end.
use Rattle.std.proofs.Common.{◌≡◌, ℕ, ◌+◌, ◌≤◌, ◌<◌, List, [], ◌∷◌, ◌++◌, length, take, drop, get_or, refl, sym, ap, subst, ◌∙◌, add-one, arith, length-append, length-drop}
use Rattle.std.proofs.Math.Seq.{drop-length}
use Rattle.std.proofs.lemmas.List.{drop_more}
use Rattle.query_text.specs.Lines.{HasNoFeed}
use Rattle.topo_serve.specs.Ahead.{texts, behind, IsNext, AreNext}
use Rattle.topo_serve.specs.Pieces.{ended_behind, open_behind}
use Rattle.topo_serve.specs.declared.ahead.LineAhead.{LineAhead}
use Rattle.topo_serve.proofs.Ending.{first_ended, open_after}

pub none_next : (bytes : List ℕ) → AreNext [] bytes
unfolding AreNext
none_next bytes = tt

-- one more line is read behind those that are
pub next_more : (ls : List LineAhead) (l : LineAhead) (bytes rest : List ℕ) → AreNext ls bytes → behind ls bytes ≡ rest → IsNext l rest → AreNext (ls ++ l ∷ []) bytes
unfolding AreNext behind
next_more [] l bytes rest are e is = (subst (IsNext l) (sym e) is, tt)
next_more (x ∷ ls) l bytes rest are e is = (are.0, next_more ls l (drop (x.end + 1) bytes) rest are.1 e is)

pub behind_more : (ls : List LineAhead) (l : LineAhead) (bytes rest : List ℕ) → behind ls bytes ≡ rest → behind (ls ++ l ∷ []) bytes ≡ drop (l.end + 1) rest
unfolding behind
behind_more [] l bytes rest e = ap (drop (l.end + 1)) e
behind_more (x ∷ ls) l bytes rest e = behind_more ls l (drop (x.end + 1) bytes) rest e

pub some_more : (ls more : List LineAhead) (l : LineAhead) → more ≡ ls ++ l ∷ [] → 1 ≤ length more
some_more ls more l e = omega (arith, ap length e, length-append ls (l ∷ []))

-- the line at a place of a list, and those behind it
pub line_here : (ls : List LineAhead) (i : ℕ) (l : LineAhead) → i < length ls → l ≡ get_or ls i l → drop i ls ≡ l ∷ drop (i + 1) ls
line_here ls i l low e = drop_more ls i l low ∙ ap (λ x. x ∷ drop (i + 1) ls) (sym e)

pub none_here : (ls : List LineAhead) (i : ℕ) → i ≤ length ls → length ls ≤ i → drop i ls ≡ []
none_here ls i high low = let all : i ≡ length ls = omega arith in ap (λ k. drop k ls) all ∙ drop-length ls

-- the first of them, and the others
pub first_next : (ls : List LineAhead) (l : LineAhead) (others : List LineAhead) (bytes : List ℕ) → ls ≡ l ∷ others → AreNext ls bytes → IsNext l bytes
unfolding AreNext
first_next ls l others bytes e are = let all : AreNext (l ∷ others) bytes = subst (λ z. AreNext z bytes) e are in all.0

pub others_next : (ls : List LineAhead) (l : LineAhead) (others : List LineAhead) (bytes : List ℕ) → ls ≡ l ∷ others → AreNext ls bytes → AreNext others (drop (l.end + 1) bytes)
unfolding AreNext
others_next ls l others bytes e are = let all : AreNext (l ∷ others) bytes = subst (λ z. AreNext z bytes) e are in all.1

pub first_text : (ls : List LineAhead) (l : LineAhead) (others : List LineAhead) (bytes : List ℕ) → ls ≡ l ∷ others → texts ls bytes ≡ take l.end bytes ∷ texts others (drop (l.end + 1) bytes)
unfolding texts
first_text ls l others bytes e = ap (λ z. texts z bytes) e

pub first_behind : (ls : List LineAhead) (l : LineAhead) (others : List LineAhead) (bytes : List ℕ) → ls ≡ l ∷ others → behind ls bytes ≡ behind others (drop (l.end + 1) bytes)
unfolding behind
first_behind ls l others bytes e = ap (λ z. behind z bytes) e

pub no_lines : (ls : List LineAhead) → length ls ≡ 0 → ls ≡ []
no_lines [] none = refl
no_lines (l ∷ ls) none = absurd (omega (arith, none))

pub no_behind : (ls : List LineAhead) (bytes : List ℕ) → ls ≡ [] → behind ls bytes ≡ bytes
unfolding behind
no_behind ls bytes e = ap (λ z. behind z bytes) e

-- where none were read since no line ends
pub none_left : (ls : List LineAhead) (bytes : List ℕ) → ls ≡ [] → HasNoFeed (length (behind ls bytes)) (behind ls bytes) → HasNoFeed (length bytes) bytes
none_left ls bytes e feedless = subst (λ (z : List ℕ). HasNoFeed (length z) z) (no_behind ls bytes e) feedless

pub no_texts : (ls : List LineAhead) (bytes : List ℕ) → ls ≡ [] → texts ls bytes ≡ []
unfolding texts
no_texts ls bytes e = ap (λ z. texts z bytes) e

pub as_many_texts : (ls : List LineAhead) (bytes : List ℕ) → length (texts ls bytes) ≡ length ls
unfolding texts
as_many_texts [] bytes = refl
as_many_texts (l ∷ ls) bytes = omega (arith, as_many_texts ls (drop (l.end + 1) bytes))

-- they end, and then those behind them
pub ended_ahead : (ls : List LineAhead) (bytes : List ℕ) → AreNext ls bytes → ended_behind [] bytes ≡ texts ls bytes ++ ended_behind [] (behind ls bytes)
unfolding AreNext texts behind
ended_ahead [] bytes are = refl
ended_ahead (l ∷ ls) bytes are =
    let first : ended_behind [] bytes ≡ take l.end bytes ∷ ended_behind [] (drop (l.end + 1) bytes) =
    rw (add-one l.end) (first_ended [] bytes l.end are.0.within are.0.feed are.0.first) in
    first ∙ ap (λ z. take l.end bytes ∷ z) (ended_ahead ls (drop (l.end + 1) bytes) are.1)

pub open_ahead : (ls : List LineAhead) (bytes : List ℕ) → AreNext ls bytes → open_behind [] bytes ≡ open_behind [] (behind ls bytes)
unfolding AreNext behind
open_ahead [] bytes are = refl
open_ahead (l ∷ ls) bytes are =
    let first : open_behind [] bytes ≡ open_behind [] (drop (l.end + 1) bytes) =
    rw (add-one l.end) (open_after [] bytes l.end are.0.within are.0.feed are.0.first) in
    first ∙ open_ahead ls (drop (l.end + 1) bytes) are.1

-- less is left behind them
pub behind_within : (ls : List LineAhead) (bytes : List ℕ) → length (behind ls bytes) ≤ length bytes
unfolding behind
behind_within [] bytes = omega arith
behind_within (l ∷ ls) bytes = omega (arith, behind_within ls (drop (l.end + 1) bytes), length-drop (l.end + 1) bytes)

pub behind_shorter : (ls : List LineAhead) (bytes : List ℕ) → AreNext ls bytes → (length ls ≡ 0 → ⊥) → length (behind ls bytes) < length bytes
unfolding AreNext behind
behind_shorter [] bytes are some = absurd (some refl)
behind_shorter (l ∷ ls) bytes are some = omega (arith, are.0.within, behind_within ls (drop (l.end + 1) bytes), length-drop (l.end + 1) bytes)
