-- A plain line is the first one of a script.
use Rattle.std.proofs.Common.{◌≡◌, ℕ, zero, suc, ◌+◌, ◌-◌, ◌<◌, inl, inr, true, ◌==◌, List, [], ◌∷◌, ◌++◌, length, take, get_or, refl, sym, ap, subst, ◌∙◌, arith, codes, decimal, length-append}
use Rattle.std.specs.Prelude.{not, ◌≢◌, slice_index}
use Rattle.std.proofs.Math.Seq.{take-append-add}
use Rattle.std.proofs.lemmas.Bool.{cases_Bool}
use Rattle.std.proofs.lemmas.Bool.Decides.{nat_tests}
use Rattle.std.proofs.lemmas.List.{get_or-append-add, get_or-take, length-take-le}
use Rattle.std.proofs.lemmas.List.Folds.{list_all-append}
use Rattle.topo_base.specs.Script as script
use Rattle.topo_base.specs.Script.{Line, line, text}
use Rattle.query_text.specs.Lines.{HasIdsInRange, HasNoFeed, IsText}
use Rattle.query_text.proofs.Words.{lacks}
use Rattle.query_text.proofs.Queries.{decimal_lacks, signed_lacks}
use Rattle.query_text.proofs.Texts.{reads}

-- the text of a query has no line feed
no_feed : (q : script.Query) → HasIdsInRange q → lacks 10 (text q) ≡ true
no_feed (script.Node n) h = decimal_lacks 10 n (omega arith) h.1
no_feed (script.Ring d) h = signed_lacks 10 d (omega arith) h
no_feed (script.Next d) h = signed_lacks 10 d (omega arith) h
no_feed (script.Ends d) h = signed_lacks 10 d (omega arith) h
no_feed (script.Sides d) h = signed_lacks 10 d (omega arith) h
no_feed (script.Face f) h = decimal_lacks 10 f (omega arith) h
no_feed (script.Adjacent f) h = decimal_lacks 10 f (omega arith) h
no_feed (script.Contains n) h = decimal_lacks 10 n (omega arith) h.1
no_feed (script.Islands f) h = decimal_lacks 10 f (omega arith) h
no_feed (script.Regions f) h = decimal_lacks 10 f (omega arith) h
no_feed (script.Common f g) h =
    list_all-append (λ b. not (b == 10)) (codes "common " ++ decimal f ++ codes " ") (decimal g)
    ∙ rw (list_all-append (λ b. not (b == 10)) (codes "common " ++ decimal f) (codes " "), decimal_lacks 10 f (omega arith) h.0, decimal_lacks 10 g (omega arith) h.1) refl
no_feed script.Counts h = refl

lacks_at : (x : ℕ) (bytes : List ℕ) → lacks x bytes ≡ true → (k : ℕ) → k < length bytes → get_or bytes k 0 ≢ x
lacks_at x [] h k lt = absurd (omega (arith, lt))
lacks_at x (b ∷ bytes) h zero lt =
    elim (cases_Bool (b == x)) [ inl e ↦ let f = rw e at h in cc | inr e ↦ (λ same. absurd (grind (arith, nat_tests))) ]
lacks_at x (b ∷ bytes) h (suc k) lt =
    elim (cases_Bool (b == x)) [ inl e ↦ let f = rw e at h in cc | inr e ↦ lacks_at x bytes (rw e at h) k (omega (arith, lt)) ]

-- what a text of a query is known by
record IsAsked (l : Line) (bytes : List ℕ) : Type 0 where
  reads : l ≡ line bytes
  feedless : lacks 10 bytes ≡ true

asked : (l : Line) (bytes : List ℕ) → IsText l bytes → IsAsked l bytes
asked script.Long bytes h = absurd h
asked script.Blank bytes h = absurd h
asked (script.Ask q) bytes h =
    subst (IsAsked (script.Ask q)) (sym h.1) (record { reads = sym (reads q h.0); feedless = no_feed q h.0 })
asked script.Bad bytes h = absurd h

begins_at : (l : Line) (bytes front : List ℕ) (end : ℕ) → end < length bytes → slice_index bytes end ≡ 10 → take end bytes ≡ front → IsText l front
    → (end < length bytes) × (slice_index bytes end ≡ 10) × HasNoFeed end bytes × (l ≡ line (take end bytes))
begins_at l bytes front end lt feed is said =
    let a = asked l (take end bytes) (subst (IsText l) (sym is) said) in
    let len : length (take end bytes) ≡ end = length-take-le end bytes (omega arith) in
    (lt, feed, (λ k below ten. lacks_at 10 (take end bytes) a.feedless k (omega arith) (get_or-take end bytes k 0 below ∙ ten)), a.reads)

-- a word, a space and what ends at a line feed
pub begins : (l : Line) (bytes word rest : List ℕ) (end at : ℕ) → bytes ≡ word ++ 32 ∷ rest → at ≡ length bytes - length rest + end → end < length rest → slice_index rest end ≡ 10
    → IsText l (word ++ 32 ∷ take end rest) → (at < length bytes) × (slice_index bytes at ≡ 10) × HasNoFeed at bytes × (l ≡ line (take at bytes))
begins l bytes word rest end at is place lt feed said =
    let long : length bytes ≡ length word + suc (length rest) = ap length is ∙ length-append word (32 ∷ rest) in
    let here : at ≡ length word + suc end = omega arith in
    begins_at l bytes (word ++ 32 ∷ take end rest) at (omega arith)
    ((λ i. slice_index (is i) (here i)) ∙ get_or-append-add word (32 ∷ rest) (suc end) 0 ∙ feed)
    ((λ i. take (here i) (is i)) ∙ take-append-add word (32 ∷ rest) (suc end))
    said
