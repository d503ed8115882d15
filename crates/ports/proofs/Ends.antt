-- With room for more than nothing, nothing comes exactly at the end of the bytes.
use Rattle.std.proofs.Common.{◌≡◌, ℕ, ◌<◌, ◌≤◌, ◌↔◌, List, [], ◌∷◌, length, drop, Option, None, Some, refl, ap, arith, length-append, length-drop, length-take}
use Rattle.std.specs.Io.KnownBytes.{Consumes}
use Rattle.ports.specs.Outside.{Files, IsEndAt, IsPartAt}

-- a source with no byte left gives none
pub nothing_left : (after : Option (List ℕ)) (part : List ℕ) → Consumes (Some []) after part → length part ≡ 0
nothing_left None part p = absurd p
nothing_left (Some rest) part p = omega (arith, ap length p, length-append part rest)

-- behind the last byte of a file there is none
pub nothing_behind : (files : Files) (name bytes : List ℕ) (at room : ℕ) (part : List ℕ) → files name ≡ Some bytes → length bytes ≤ at → IsPartAt (Some files) name at room part → length part ≡ 0
nothing_behind files name bytes at room part e h p =
    let same : p.0 ≡ bytes = cc in
    let behind : length (drop at p.0) ≡ 0 = omega (arith, length-drop at p.0, ap length same) in
    omega (arith, ap length p.2, length-take (length part) (drop at p.0), behind)

-- what `take` promises makes 0 the sign of an end
pub takes_nothing_at_end : (left : List ℕ) (after : Option (List ℕ)) (room : ℕ) (part : List ℕ) → Consumes (Some left) after part → IsEndAt (Some left) room (length part) → 0 < room → (length part ≡ 0) ↔ (left ≡ [])
takes_nothing_at_end [] after room part p e some = (λ _. refl, λ _. nothing_left after part p)
takes_nothing_at_end (b ∷ left) after room part p e some = (e some, λ no_byte. absurd (omega (arith, ap length no_byte)))

-- what `read_at` promises makes 0 the sign of a place behind the last byte
pub reads_nothing_behind : (files : Files) (name bytes : List ℕ) (at room : ℕ) (part : List ℕ) → files name ≡ Some bytes → IsPartAt (Some files) name at room part → 0 < room → (length part ≡ 0) ↔ (length bytes ≤ at)
reads_nothing_behind files name bytes at room part e p some =
    let same : p.0 ≡ bytes = cc in
    (λ none. omega (arith, p.3 some none, ap length same), λ behind. nothing_behind files name bytes at room part e behind p)
