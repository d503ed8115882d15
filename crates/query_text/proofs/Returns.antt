-- A carriage return at the end of a line.
use Rattle.std.proofs.Common.{◌≡◌, ℕ, suc, ◌+◌, ◌-◌, true, false, List, [], ◌∷◌, length, take, drop, Option, Some, None, refl, arith, inl, inr, bytes_eq, Bor}
use Rattle.std.specs.Prelude.{◌==◌, MatchOption, unwrap_or}
use Rattle.std.proofs.lemmas.Bool.{cases_Bool}
use Rattle.topo_base.specs.Script.{without_cr}
use Rattle.query_text.proofs.Words.{lacks}

cut : (bytes : List ℕ) → bytes_eq (drop (length bytes - 1) bytes) (13 ∷ []) ≡ true → without_cr bytes ≡ take (length bytes - 1) bytes
cut [] h = refl
cut (b ∷ []) h = elim (cases_Bool (b == 13)) [ inl e ↦ rw e refl | inr e ↦ let f = rw e at h in cc ]
cut (b ∷ c ∷ bytes) h =
    let e : length (b ∷ c ∷ bytes) - 1 ≡ suc (length (c ∷ bytes) - 1) = omega arith in
    rw (e, cut (c ∷ bytes) (rw e at h)) refl

whole : (bytes : List ℕ) → bytes_eq (drop (length bytes - 1) bytes) (13 ∷ []) ≡ false → without_cr bytes ≡ bytes
whole [] h = refl
whole (b ∷ []) h = elim (cases_Bool (b == 13)) [ inl e ↦ let f = rw e at h in cc | inr e ↦ rw e refl ]
whole (b ∷ c ∷ bytes) h =
    let e : length (b ∷ c ∷ bytes) - 1 ≡ suc (length (c ∷ bytes) - 1) = omega arith in
    rw (whole (c ∷ bytes) (rw e at h)) refl

abbrev pub IsStripped : List ℕ → Option (Bor (List ℕ)) → Type 0
IsStripped bytes o =
    MatchOption o (bytes_eq (drop (length bytes - 1) bytes) (13 ∷ []) ≡ false)
    (λ x. (bytes_eq (drop (length bytes - 1) bytes) (13 ∷ []) ≡ true) × (x.now ≡ take (length bytes - 1) bytes) × (length x.now + 1 ≡ length bytes))

pub stripped : (bytes : Bor (List ℕ)) (o : Option (Bor (List ℕ))) → IsStripped bytes.now o → (unwrap_or o bytes).now ≡ without_cr bytes.now
stripped bytes None h = let e = whole bytes.now h in cc
stripped bytes (Some x) h = let e = cut bytes.now h.0 in let f = h.1 in cc

pub kept : (bytes : List ℕ) → lacks 13 bytes ≡ true → without_cr bytes ≡ bytes
kept [] h = refl
kept (b ∷ []) h = elim (cases_Bool (b == 13)) [ inl e ↦ let f = rw e at h in cc | inr e ↦ rw e refl ]
kept (b ∷ c ∷ bytes) h = elim (cases_Bool (b == 13)) [ inl e ↦ let f = rw e at h in cc | inr e ↦ rw (kept (c ∷ bytes) (rw e at h)) refl ]
