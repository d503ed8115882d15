-- Lines that ask for what the map lacks.
use Rattle.std.proofs.Common.{◌≡◌, ℕ, Bool, true, false, List, [], ◌∷◌, ◌++◌, length, refl, sym, ap, ◌∙◌, append_assoc}
use Rattle.std.specs.Prelude.{codes, if◌then◌else◌, unwrap_or}
use Rattle.topo_base.specs.Script as script
use Rattle.topo_base.specs.Script.{Line, line, text, without_cr}
use Rattle.plane_model.specs.PlaneMap.{PlaneMap}
use Rattle.plane_model.specs.Answers.{answer}
use Rattle.query_text.specs.Lines.{IsAsk}
use Rattle.query_text.proofs.Texts.{said_text}
use Rattle.topo_serve.specs.Serving.{found_by_reads, found_in, is_counts}
use Rattle.topo_serve.specs.Unknown.{IsUnknown}

pub unknown_asks : (m : PlaneMap) (l : Line) → IsUnknown m l → IsAsk l
unknown_asks m script.Long h = h
unknown_asks m script.Blank h = h
unknown_asks m (script.Ask q) h = tt
unknown_asks m script.Bad h = h

answer_of : (m : PlaneMap) (bytes : List ℕ) (l : Line) → l ≡ line bytes → IsUnknown m l → without_cr bytes ++ codes ": unknown\n" ≡ answer m bytes
answer_of m bytes script.Long e h = absurd h
answer_of m bytes script.Blank e h = absurd h
answer_of m bytes script.Bad e h = absurd h
answer_of m bytes (script.Ask q) e h =
    rw (← e, h) (ap (λ z. z ++ codes ": unknown\n") (said_text bytes q (sym e)) ∙ sym (append_assoc (text q ++ codes ":") (codes " unknown") (10 ∷ []) ∙ append_assoc (text q) (codes ":") (codes " unknown\n")))

-- the answer to such a line
pub unknown_answer : (m : PlaneMap) (l : Line) (bytes : List ℕ) → l ≡ line bytes → IsUnknown m l → without_cr bytes ++ codes ": unknown\n" ≡ answer m bytes
unknown_answer m l bytes e h = answer_of m bytes l e h

found_none : (m : PlaneMap) (l : Line) → IsUnknown m l → found_in m l ≡ 0
found_none m script.Long h = absurd h
found_none m script.Blank h = absurd h
found_none m script.Bad h = absurd h
found_none m (script.Ask q) h = ap (λ o. if is_counts q then 0 else length (unwrap_or o [])) h ∙ nothing (is_counts q)
  where
    nothing : (b : Bool) → ◌≡◌ {A = ℕ} (if b then 0 else 0) 0
    nothing true = refl
    nothing false = refl

-- and no item of it is found by a read
pub unknown_found : (m : PlaneMap) (l : Line) (bytes : List ℕ) → l ≡ line bytes → IsUnknown m l → found_by_reads m bytes ≡ 0
unknown_found m l bytes e h = rw (← e) (found_none m l h)
