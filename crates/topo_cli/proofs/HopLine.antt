-- The numbers of a shortest walk as text, and how many they are.
use Rattle.std.specs.Prelude.{flat_map, if◌then◌else◌, map, unwrap_or}
use Rattle.std.proofs.Common.{◌≡◌, ℕ, suc, ◌+◌, ◌≤◌, Bool, true, false, List, ◌∷◌, ◌++◌, length, Option, Some, refl, sym, ap, append_assoc, arith}
use Rattle.std.proofs.lemmas.Bool.{and_parts}
use Rattle.topo_base.specs.Script.{Item, item_text}
use Rattle.plane_model.specs.Rotation.{is_face}
use Rattle.plane_model.specs.Hops.{distance, hops}
use Rattle.file_laws.specs.Contents.{Contents}
use Rattle.file_laws.specs.Lawful.{is_whole}
use Rattle.navigate.specs.Bound.{map_with}
use Rattle.face_hops.proofs.MapFacts.{beside-known}
use Rattle.face_hops.proofs.Ways.{hops_at, nearest, way}
use Rattle.topo_cli.specs.Text.{has_both_faces, moves_between}

-- numbers, each behind a space
abbrev pub spaced : List ℕ → List ℕ
spaced numbers = flat_map item_text (map Item.Number numbers)

-- a walk has one face more than moves
way_length : (c : Contents) → is_whole c ≡ true → (f g n : ℕ) → true ≡ has_both_faces (map_with c) f g → distance (map_with c) f g ≡ Some n → length (hops (map_with c) f g) ≡ n + 1
way_length c whole f g n known moves =
    let m = map_with c in
    let there : is_face m f ≡ true = (and_parts (is_face m f) (is_face m g) (sym known)).0 in
    let long = (way m g (beside-known c whole) n f there (nearest m f g n moves)).long in
    let is = ap length (hops_at m f g n moves) in
    omega (arith, is, long)

-- a walk that reads a word for each face but the first reads one for each move
pub walked_least : (c : Contents) → is_whole c ≡ true → (f g n first last : ℕ) (faces : List ℕ) → true ≡ has_both_faces (map_with c) f g → distance (map_with c) f g ≡ Some n → faces ≡ hops (map_with c) f g
    → first + length faces ≤ last + 1 → first + moves_between (map_with c) f g ≤ last
walked_least c whole f g n first last faces known moves is least =
    let long = way_length c whole f g n known moves in
    let same = ap length is in
    let counted : moves_between (map_with c) f g ≡ n = ap (λ (o : Option ℕ). unwrap_or o 0) moves in
    omega (arith, long, same, counted, least)

-- a step from a face that was given reads a word
pub one_read : (begun : Bool) (first all before after left rest : ℕ) → left ≡ suc rest → (begun ≡ true → before + 1 ≤ after) → before ≤ after
    → first + all ≤ before + left + (if begun then 1 else 0) → first + all ≤ after + rest + 1
one_read true first all before after left rest long read grows least = let r = read refl in omega (arith, long, r, least)
one_read false first all before after left rest long read grows least = omega (arith, long, grows, least)

-- a number put behind a text is the first of those that are left
pub one_more : (text longer left rest : List ℕ) (number : ℕ) → longer ≡ text ++ item_text (Item.Number number) → left ≡ number ∷ rest → longer ++ spaced rest ≡ text ++ spaced left
one_more text longer left rest number is next = rw (is, next) (append_assoc text (item_text (Item.Number number)) (spaced rest))
