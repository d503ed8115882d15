-- The pieces of a line between its spaces.
use Rattle.std.proofs.Common.{◌≡◌, ℕ, zero, suc, ◌+◌, ◌<◌, ◌≤◌, Bool, true, false, List, [], ◌∷◌, ◌++◌, length, get_or, take, drop, Some, None, refl, arith, inl, inr, add-one}
use Rattle.std.specs.Prelude.{not, ◌==◌, position, nat_lt}
use Rattle.std.specs.List.{list_all, position_or_len}
use Rattle.std.proofs.lemmas.Bool.{cases_Bool}
use Rattle.std.proofs.lemmas.Bool.Decides.{nat_tests}
use Rattle.std.proofs.lemmas.List.Quantifiers.{position-Some}
use Rattle.topo_base.specs.Script.{words, onto_first}

-- no byte is this one
abbrev pub lacks : ℕ → List ℕ → Bool
lacks x bytes = list_all (λ b. not (b == x)) bytes

pub words_whole : (bytes : List ℕ) → lacks 32 bytes ≡ true → words bytes ≡ bytes ∷ []
unfolding words
words_whole [] h = refl
words_whole (b ∷ bytes) h =
    elim (cases_Bool (b == 32)) [ inl e ↦ let f = rw e at h in cc | inr e ↦ rw (e, words_whole bytes (rw e at h)) refl ]

pub words_cut : (bytes : List ℕ) (at : ℕ) → at < length bytes → (get_or bytes at 0 == 32) ≡ true → ((k : ℕ) → k < at → (get_or bytes k 0 == 32) ≡ false)
    → words bytes ≡ take at bytes ∷ words (drop (suc at) bytes)
unfolding words
words_cut [] at lt here below = absurd (omega arith)
words_cut (b ∷ bytes) zero lt here below = rw here refl
words_cut (b ∷ bytes) (suc at) lt here below =
    let e : (b == 32) ≡ false = below 0 (omega arith) in
    rw (e, words_cut bytes at (omega arith) here (λ k h. below (suc k) (omega arith))) refl

pub words_at : (bytes : List ℕ) (at : ℕ) → position (λ b. b == 32) bytes ≡ Some at → words bytes ≡ take at bytes ∷ words (drop (at + 1) bytes)
words_at bytes at e = let p = position-Some (λ b. b == 32) bytes at 0 e in rw (add-one at) (words_cut bytes at p.0 p.1 p.2)

words_beyond : (bytes : List ℕ) → length bytes ≤ position_or_len (λ b. b == 32) bytes → words bytes ≡ bytes ∷ []
unfolding words
words_beyond [] h = refl
words_beyond (b ∷ bytes) h =
    elim (cases_Bool (b == 32)) [ inl e ↦ let f = rw e at h in absurd (omega arith) | inr e ↦ let f = rw e at h in rw (e, words_beyond bytes (omega arith)) refl ]

pub words_without : (bytes : List ℕ) → position (λ b. b == 32) bytes ≡ None → words bytes ≡ bytes ∷ []
words_without bytes e =
    elim (cases_Bool (nat_lt (position_or_len (λ b. b == 32) bytes) (length bytes))) [ inl h ↦ let f = rw h at e in cc | inr h ↦ words_beyond bytes (grind (arith, nat_tests)) ]

onto_some : (b : ℕ) (ps : List (List ℕ)) → onto_first b ps ≡ [] → ⊥
onto_some b [] e = cc
onto_some b (p ∷ ps) e = cc

pub words_some : (bytes : List ℕ) → words bytes ≡ [] → ⊥
unfolding words
words_some [] e = cc
words_some (b ∷ bytes) e =
    elim (cases_Bool (b == 32)) [ inl h ↦ let f = rw h at e in cc | inr h ↦ onto_some b (words bytes) (rw h at e) ]

onto_one : (b : ℕ) (bytes piece : List ℕ) (ps : List (List ℕ)) → words bytes ≡ ps → ((p : List ℕ) → words bytes ≡ p ∷ [] → p ≡ bytes) → onto_first b ps ≡ piece ∷ [] → piece ≡ b ∷ bytes
onto_one b bytes piece [] is one e = absurd (words_some bytes is)
onto_one b bytes piece (p ∷ ps) is one e = let f : words bytes ≡ p ∷ [] = cc in let g = one p f in cc

pub words_one : (bytes piece : List ℕ) → words bytes ≡ piece ∷ [] → piece ≡ bytes
unfolding words
words_one [] piece e = cc
words_one (b ∷ bytes) piece e =
    elim (cases_Bool (b == 32)) [ inl h ↦ let f = rw h at e in absurd (words_some bytes (cc)) | inr h ↦ onto_one b bytes piece (words bytes) refl (words_one bytes) (rw h at e) ]

pub words_space : (word rest : List ℕ) → lacks 32 word ≡ true → words (word ++ 32 ∷ rest) ≡ word ∷ words rest
unfolding words
words_space [] rest h = refl
words_space (b ∷ word) rest h =
    elim (cases_Bool (b == 32)) [ inl e ↦ let f = rw e at h in cc | inr e ↦ rw (e, words_space word rest (rw e at h)) refl ]

-- what is behind the first space
pub record IsBehind (bytes word piece : List ℕ) (more : List (List ℕ)) : Type 0 where
  pub rest : List ℕ
  pub text : bytes ≡ word ++ 32 ∷ rest
  pub pieces : words rest ≡ piece ∷ more

onto_more : (b : ℕ) (bytes word piece : List ℕ) (more pieces : List (List ℕ)) → words bytes ≡ pieces
    → ((w : List ℕ) → words bytes ≡ w ∷ piece ∷ more → IsBehind bytes w piece more) → onto_first b pieces ≡ word ∷ piece ∷ more → IsBehind (b ∷ bytes) word piece more
onto_more b bytes word piece more [] is behind e = absurd (words_some bytes is)
onto_more b bytes word piece more (p ∷ ps) is behind e =
    let f : words bytes ≡ p ∷ piece ∷ more = cc in
    let g = behind p f in
    let t = g.text in
    record { rest = g.rest; text = cc; pieces = g.pieces }

pub words_more : (bytes word piece : List ℕ) (more : List (List ℕ)) → words bytes ≡ word ∷ piece ∷ more → IsBehind bytes word piece more
unfolding words
words_more [] word piece more e = cc
words_more (b ∷ bytes) word piece more e =
    elim (cases_Bool (b == 32)) [
      | inl h ↦ let f = rw h at e in let z : b ≡ 32 = grind (arith, nat_tests) in record { rest = bytes; text = cc; pieces = cc }
      | inr h ↦ onto_more b bytes word piece more (words bytes) refl (λ w is. words_more bytes w piece more is) (rw h at e)
    ]
