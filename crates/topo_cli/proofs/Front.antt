-- The first bytes of a file grow by what is read behind them.
use Rattle.std.proofs.Common.{◌≡◌, ℕ, List, [], ◌∷◌, ◌++◌, length, take, drop, Option, Some, None, sym, ap, ◌∙◌, append_assoc, arith}
use Rattle.std.proofs.lemmas.List.{take-append-drop}
use Rattle.std.proofs.Math.Seq.{drop-append_seam}
use Rattle.std.proofs.lemmas.Option.{same_Some}
use Rattle.ports.specs.Outside.{Files, IsPartAt}
use Rattle.topo_cli.specs.Files.{IsFront}

pub front_grows : (files : Option Files) (name front part : List ℕ) (at room : ℕ) → at ≡ length front → IsFront files name front → IsPartAt files name at room part → IsFront files name (front ++ part)
front_grows None name front part at room e f p = tt
front_grows (Some files) name [] part at room e f p = λ some.
    (drop (length part) p.0, p.1 ∙ ap Some (sym (ap (λ xs. xs ++ drop (length part) p.0) (p.2 ∙ ap (λ k. take (length part) (drop k p.0)) e) ∙ take-append-drop (length part) p.0)))
front_grows (Some files) name (b ∷ front) part at room e f p = λ some.
    let old = f (omega arith) in
    let whole : p.0 ≡ (b ∷ front) ++ old.0 = same_Some _ _ (sym p.1 ∙ old.1) in
    let is : part ≡ take (length part) old.0 = p.2 ∙ ap (λ k. take (length part) (drop k p.0)) e ∙ ap (λ xs. take (length part) (drop (length (b ∷ front)) xs)) whole ∙ ap (take (length part)) (drop-append_seam (b ∷ front) old.0) in (
      drop (length part) old.0,
      old.1 ∙ ap Some (sym (append_assoc (b ∷ front) part (drop (length part) old.0) ∙ ap (λ xs. (b ∷ front) ++ xs) (ap (λ xs. xs ++ drop (length part) old.0) is ∙ take-append-drop (length part) old.0))),
    )
