-- Lines that end in some bytes.
use Rattle.std.proofs.Common.{◌≡◌, ℕ, zero, suc, ◌<◌, List, [], ◌∷◌, ◌++◌, length, take, drop, Option, None, Some, refl, sym, ap, ◌∙◌, append_assoc, append-nil, arith}
use Rattle.std.specs.Prelude.{◌==◌, false, slice_index, MatchOption}
use Rattle.std.proofs.lemmas.Bool.{ne_eqb, eqb-true}
use Rattle.memchr.specs.Find.{IsFirstByte, Nowhere, Passes, is_byte}
use Rattle.query_text.specs.Lines.{HasNoFeed}
use Rattle.topo_serve.specs.Pieces.{ended_behind, open_behind, last_line}

no_feed : (bytes : List ℕ) (end : ℕ) → Nowhere (Passes (is_byte 10) bytes) 0 end → HasNoFeed end bytes
no_feed bytes end none = λ k low feed. none k (omega arith) low (rw feed refl)

-- the first byte that is a line feed
pub first_feed : (bytes : List ℕ) (found : Option ℕ) → IsFirstByte (is_byte 10) bytes found → MatchOption found (HasNoFeed (length bytes) bytes) (λ end. (end < length bytes) × (slice_index bytes end ≡ 10) × HasNoFeed end bytes)
first_feed bytes None none = no_feed bytes (length bytes) none
first_feed bytes (Some end) first = (first.0.high, eqb-true (slice_index bytes end) 10 first.1, no_feed bytes end first.0.before)

pub first_ended : (front bytes : List ℕ) (i : ℕ) → i < length bytes → slice_index bytes i ≡ 10 → HasNoFeed i bytes → ended_behind front bytes ≡ (front ++ take i bytes) ∷ ended_behind [] (drop (suc i) bytes)
unfolding ended_behind
first_ended front [] i low feed feedless = absurd (omega (arith, low))
first_ended front (b ∷ bytes) zero low feed feedless = rw feed (ap (λ z. z ∷ ended_behind [] bytes) (sym (append-nil front)))
first_ended front (b ∷ bytes) (suc i) low feed feedless =
    let here : (b == 10) ≡ false = ne_eqb b 10 (feedless 0 (omega arith)) in
    rw here (first_ended (front ++ b ∷ []) bytes i (omega (arith, low)) feed (λ k l. feedless (suc k) (omega (arith, l))) ∙ ap (λ z. z ∷ ended_behind [] (drop (suc i) bytes)) (append_assoc front (b ∷ []) (take i bytes)))

pub open_after : (front bytes : List ℕ) (i : ℕ) → i < length bytes → slice_index bytes i ≡ 10 → HasNoFeed i bytes → open_behind front bytes ≡ open_behind [] (drop (suc i) bytes)
unfolding open_behind
open_after front [] i low feed feedless = absurd (omega (arith, low))
open_after front (b ∷ bytes) zero low feed feedless = rw feed refl
open_after front (b ∷ bytes) (suc i) low feed feedless =
    let here : (b == 10) ≡ false = ne_eqb b 10 (feedless 0 (omega arith)) in
    rw here (open_after (front ++ b ∷ []) bytes i (omega (arith, low)) feed (λ k l. feedless (suc k) (omega (arith, l))))

pub none_ended : (front bytes : List ℕ) → HasNoFeed (length bytes) bytes → ended_behind front bytes ≡ []
unfolding ended_behind
none_ended front [] feedless = refl
none_ended front (b ∷ bytes) feedless =
    let here : (b == 10) ≡ false = ne_eqb b 10 (feedless 0 (omega arith)) in
    rw here (none_ended (front ++ b ∷ []) bytes (λ k l. feedless (suc k) (omega (arith, l))))

pub all_open : (front bytes : List ℕ) → HasNoFeed (length bytes) bytes → open_behind front bytes ≡ front ++ bytes
unfolding open_behind
all_open front [] feedless = sym (append-nil front)
all_open front (b ∷ bytes) feedless =
    let here : (b == 10) ≡ false = ne_eqb b 10 (feedless 0 (omega arith)) in
    rw here (all_open (front ++ b ∷ []) bytes (λ k l. feedless (suc k) (omega (arith, l))) ∙ append_assoc front (b ∷ []) bytes)

pub last_none : (line : List ℕ) → length line ≡ 0 → last_line line ≡ []
last_none [] e = refl
last_none (b ∷ bytes) e = absurd (omega (arith, e))

pub last_one : (line : List ℕ) → (length line ≡ 0 → ⊥) → last_line line ≡ line ∷ []
last_one [] some = absurd (some refl)
last_one (b ∷ bytes) some = refl
