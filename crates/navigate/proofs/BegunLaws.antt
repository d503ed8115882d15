-- The walk to the faces across the edges of a face, after the first of them were put down.
use Rattle.std.specs.Prelude.{not, map, ◌==◌, ◌||◌, if◌then◌else◌, take, drop}
use Rattle.std.proofs.Common.{◌≡◌, ℕ, suc, ◌+◌, ◌*◌, ◌-◌, ◌<◌, ◌≤◌, inl, inr, Bool, true, false, List, [], ◌∷◌, ◌++◌, length, refl, ap, sym, ◌∙◌, arith, subst, length-append, length-drop}
use Rattle.std.proofs.lemmas.Bool.{cases_Bool, cases_lt, eqb-true}
use Rattle.std.proofs.lemmas.List.{append-nil, map-append, take-append-drop, length-map}
use Rattle.std.proofs.lemmas.List.Elements.{filter-append}
use Rattle.std.proofs.Math.Nat.{mul-le-mul_left}
use Rattle.std.proofs.Math.Seq.{take-append_seam, drop-append_seam, take-length}
use Rattle.plane_model.specs.Sets.{has, first_occurrences, first_occurrences_but}
use Rattle.file_laws.specs.Contents.{Contents}
use Rattle.file_laws.specs.Lawful.{is_whole}
use Rattle.navigate.specs.Bound.{line_digits, line_words}
use Rattle.navigate.specs.Beside.{place_across, others, adjacent_places, unseen}
use Rattle.navigate.specs.Standing.{IsUnseen, IsStanding}
use Rattle.navigate.specs.OrbitWalk.{across_price}
use Rattle.navigate.specs.FaceWalk.{pass_price}
use Rattle.navigate.specs.AdjacentWalk.{step_price, contents_in, given_places, given}
use Rattle.navigate.specs.declared.across.AdjacentWalk.{AdjacentWalk}
use Rattle.navigate.proofs.StandingLaws.{occurrences-among, filter-among}
use Rattle.file_laws.specs.MapOfFile.{face_at_place}
use Rattle.navigate.proofs.FreshLaws.{occurrences-alike}
use Rattle.navigate.proofs.OrbitLengths.{some_digits}
use Rattle.navigate.proofs.AcrossLaws.{places-low, no_edges, no_positions}

or-assoc : (a b c : Bool) → ((a || b) || c) ≡ (a || (b || c))
or-assoc true b c = refl
or-assoc false b c = refl

or-swap : (a b : Bool) → (a || b) ≡ (b || a)
or-swap true true = refl
or-swap true false = refl
or-swap false true = refl
or-swap false false = refl

or-turn : (a b c : Bool) → (a || (b || c)) ≡ (b || (a || c))
or-turn true true c = refl
or-turn true false c = refl
or-turn false b c = refl

pub has-append : (xs ys : List ℕ) (j : ℕ) → has (xs ++ ys) j ≡ (has xs j || has ys j)
has-append [] ys j = refl
has-append (x ∷ xs) ys j = ap (λ b. (j == x) || b) (has-append xs ys j) ∙ sym (or-assoc (j == x) (has xs j) (has ys j))

has-moved : (x : ℕ) (xs ys : List ℕ) (j : ℕ) → has ((x ∷ xs) ++ ys) j ≡ has (xs ++ x ∷ ys) j
has-moved x xs ys j = ap (λ b. (j == x) || b) (has-append xs ys j) ∙ or-turn (j == x) (has xs j) (has ys j) ∙ sym (has-append xs (x ∷ ys) j)

-- first occurrences in a list and then in another
pub occurrences-append : (seen xs ys : List ℕ) → first_occurrences_but seen (xs ++ ys) ≡ first_occurrences_but seen xs ++ first_occurrences_but (seen ++ first_occurrences_but seen xs) ys
occurrences-append seen [] ys = ap (λ zs. first_occurrences_but zs ys) (sym (append-nil seen))
occurrences-append seen (x ∷ xs) ys =
    elim (cases_Bool (has seen x)) [
      | inl w ↦ rw w (occurrences-append seen xs ys)
      | inr o ↦
          let first = first_occurrences_but (x ∷ seen) xs in
          rw o (ap (λ zs. x ∷ zs) (occurrences-append (x ∷ seen) xs ys
          ∙ ap (λ zs. first ++ zs) (occurrences-alike ((x ∷ seen) ++ first) (seen ++ x ∷ first) ys (has-moved x seen first))))
    ]

-- the places other than one in a list and then in another
pub others-append : (f : ℕ) (xs ys : List ℕ) → others f (xs ++ ys) ≡ others f xs ++ others f ys
others-append f xs ys = filter-append (λ g. not (g == f)) xs ys

append-assoc : (xs ys zs : List ℕ) → (xs ++ ys) ++ zs ≡ xs ++ (ys ++ zs)
append-assoc [] ys zs = refl
append-assoc (x ∷ xs) ys zs = ap (λ ws. x ∷ ws) (append-assoc xs ys zs)

-- one place more
last-known : (f : ℕ) (seen : List ℕ) (x : ℕ) → ((x == f) || has seen x) ≡ true → first_occurrences_but seen (others f (x ∷ [])) ≡ []
last-known f seen x h =
    elim (cases_Bool (x == f)) [
      | inl w ↦ rw w refl
      | inr o ↦ let s : has seen x ≡ true = ap (λ b. b || has seen x) (sym o) ∙ h in rw (o, s) refl
    ]

last-new : (f : ℕ) (seen : List ℕ) (x : ℕ) → ((x == f) || has seen x) ≡ false → first_occurrences_but seen (others f (x ∷ [])) ≡ x ∷ []
last-new f seen x h =
    elim (cases_Bool (x == f)) [
      | inl w ↦ let no : true ≡ false = ap (λ b. b || has seen x) (sym w) ∙ h in cc
      | inr o ↦ let s : has seen x ≡ false = ap (λ b. b || has seen x) (sym o) ∙ h in rw (o, s) refl
    ]

-- one place more is known
pub enter-known : (f : ℕ) (seen xs ys : List ℕ) (x : ℕ) → ys ≡ xs ++ x ∷ [] → ((x == f) || has (seen ++ first_occurrences_but seen (others f xs)) x) ≡ true
    → first_occurrences_but seen (others f ys) ≡ first_occurrences_but seen (others f xs)
enter-known f seen xs ys x e h =
    let before = first_occurrences_but seen (others f xs) in
    ap (λ zs. first_occurrences_but seen (others f zs)) e ∙ ap (first_occurrences_but seen) (others-append f xs (x ∷ []))
    ∙ occurrences-append seen (others f xs) (others f (x ∷ [])) ∙ ap (λ zs. before ++ zs) (last-known f (seen ++ before) x h) ∙ append-nil before

-- or new
pub enter-new : (f : ℕ) (seen xs ys : List ℕ) (x : ℕ) → ys ≡ xs ++ x ∷ [] → ((x == f) || has (seen ++ first_occurrences_but seen (others f xs)) x) ≡ false
    → first_occurrences_but seen (others f ys) ≡ first_occurrences_but seen (others f xs) ++ x ∷ []
enter-new f seen xs ys x e h =
    let before = first_occurrences_but seen (others f xs) in
    ap (λ zs. first_occurrences_but seen (others f zs)) e ∙ ap (first_occurrences_but seen) (others-append f xs (x ∷ []))
    ∙ occurrences-append seen (others f xs) (others f (x ∷ [])) ∙ ap (λ zs. before ++ zs) (last-new f (seen ++ before) x h)

pub put-behind : (all old before new : List ℕ) (x : ℕ) → all ≡ old ++ before → new ≡ before ++ x ∷ [] → all ++ x ∷ [] ≡ old ++ new
put-behind all old before new x e n = ap (λ zs. zs ++ x ∷ []) e ∙ append-assoc old before (x ∷ []) ∙ ap (λ zs. old ++ zs) (sym n)

pub mark-behind : (seen before new : List ℕ) (x j : ℕ) (old marked : Bool) → old ≡ has (seen ++ before) j → marked ≡ (if j == x then true else old) → new ≡ before ++ x ∷ [] → marked ≡ has (seen ++ new) j
mark-behind seen before new x j old marked o m n =
    let all : seen ++ new ≡ (seen ++ before) ++ x ∷ [] = ap (λ zs. seen ++ zs) n ∙ sym (append-assoc seen before (x ∷ [])) in
    m ∙ last (has (seen ++ before) j) old o ∙ sym (ap (λ zs. has zs j) all ∙ has-append (seen ++ before) (x ∷ []) j)
  where
    last : (b old : Bool) → old ≡ b → (if j == x then true else old) ≡ (b || has (x ∷ []) j)
    last true old e = elim (cases_Bool (j == x)) [ inl w ↦ rw w refl | inr o ↦ rw o e ]
    last false old e = elim (cases_Bool (j == x)) [ inl w ↦ rw w refl | inr o ↦ rw o e ]

-- two lists, entered one after the other where none was seen
pub entered-twice : (f : ℕ) (xs ys mid new : List ℕ) → mid ≡ first_occurrences (others f xs) → new ≡ mid ++ first_occurrences_but mid (others f ys) → new ≡ first_occurrences (others f (xs ++ ys))
entered-twice f xs ys mid new m n =
    n ∙ ap (λ zs. zs ++ first_occurrences_but zs (others f ys)) m ∙ sym (ap first_occurrences (others-append f xs ys) ∙ occurrences-append [] (others f xs) (others f ys))

pub all-of : (k : ℕ) (xs : List ℕ) → take (length xs - k) (drop k xs) ≡ drop k xs
all-of k xs = ap (λ n. take n (drop k xs)) (sym (length-drop k xs)) ∙ take-length (drop k xs)

-- a list turned has the same items
pub turned-has : (k : ℕ) (xs : List ℕ) (j : ℕ) → has (drop k xs ++ take k xs) j ≡ has xs j
turned-has k xs j =
    has-append (drop k xs) (take k xs) j ∙ or-swap (has (drop k xs) j) (has (take k xs) j) ∙ sym (has-append (take k xs) (drop k xs) j) ∙ ap (λ zs. has zs j) (take-append-drop k xs)

pub dropped-has : (k : ℕ) (xs : List ℕ) (j : ℕ) → has (drop k xs) j ≡ true → has xs j ≡ true
dropped-has k xs j there = sym (turned-has k xs j) ∙ has-append (drop k xs) (take k xs) j ∙ ap (λ b. b || has (take k xs) j) there

pub taken-has : (k : ℕ) (xs : List ℕ) (j : ℕ) → has (take k xs) j ≡ true → has xs j ≡ true
taken-has k xs j there =
    sym (turned-has k xs j) ∙ has-append (drop k xs) (take k xs) j ∙ or-swap (has (drop k xs) j) (has (take k xs) j) ∙ ap (λ b. b || has (drop k xs) j) there

-- the positions of a face are those whose places across were put down, and the others
pub record IsSplit (m : Contents) (all left turned : List ℕ) : Type 0 where
  pub first : List ℕ
  pub joined : all ≡ first ++ left
  pub across : turned ≡ map (place_across m) first

differ : false ≡ true → ⊥
differ h = cc

turned-none : (k : ℕ) → drop {A = ℕ} k [] ++ take {A = ℕ} k [] ≡ []
turned-none ℕ.zero = refl
turned-none (suc k) = refl

pub split : (m : Contents) (all shell outer left places : List ℕ) (k : ℕ) (none : Bool) → all ≡ shell ++ outer → left ≡ (if none then all else outer) → none ≡ (length places == 0)
    → (0 < length places → drop k places ++ take k places ≡ map (place_across m) shell) → IsSplit m all left (drop k places ++ take k places)
split m all shell outer left [] k true e l is some = record { first = []; joined = sym l; across = turned-none k }
split m all shell outer left [] k false e l is some = absurd (differ is)
split m all shell outer left (x ∷ xs) k true e l is some = let long : suc (length xs) ≡ 0 = eqb-true (length (x ∷ xs)) 0 (sym is) in absurd (omega (arith, long))
split m all shell outer left (x ∷ xs) k false e l is some = record { first = shell; joined = e ∙ ap (λ zs. shell ++ zs) (sym l); across = some (omega arith) }

pub split-length : (m : Contents) (all left places : List ℕ) (k : ℕ) → IsSplit m all left (drop k places ++ take k places) → length all ≡ length places + length left
split-length m all left places k s =
    let parts = length-append (drop k places) (take k places) in
    let back : length places ≡ length (take k places) + length (drop k places) = ap length (sym (take-append-drop k places)) ∙ length-append (take k places) (drop k places) in
    let turned = ap length s.across ∙ length-map s.first (place_across m) in
    let whole = ap length s.joined ∙ length-append s.first left in
    omega (arith, parts, back, turned, whole)

-- the walk after its first places were given
pub record IsBegun (m : Contents) (place : ℕ) (all left given : List ℕ) (next : ℕ) : Type 0 where
  pub standing : IsStanding m place all left (length given) next
  pub taken : given ≡ take (length given) (adjacent_places m place all)

pub given-split : (m : Contents) (place : ℕ) (all mid turned given : List ℕ) → IsSplit m all mid turned → given ≡ first_occurrences (others place turned) → adjacent_places m place all ≡ given ++ unseen m place given mid
unfolding unseen
given-split m place all mid turned given s e =
    let across = place_across m in
    let first : given ≡ first_occurrences (others place (map across s.first)) = e ∙ ap (λ zs. first_occurrences (others place zs)) s.across in
    ap (λ zs. first_occurrences (others place (map across zs))) s.joined
    ∙ ap (λ zs. first_occurrences (others place zs)) (map-append across s.first mid)
    ∙ ap first_occurrences (others-append place (map across s.first) (map across mid))
    ∙ occurrences-append [] (others place (map across s.first)) (others place (map across mid))
    ∙ ap (λ zs. zs ++ first_occurrences_but zs (others place (map across mid))) (sym first)

pub begun : (m : Contents) (place : ℕ) (all mid left turned given : List ℕ) (next : ℕ) → IsSplit m all mid turned → given ≡ first_occurrences (others place turned)
    → unseen m place given left ≡ unseen m place given mid → ((p : ℕ) (ps : List ℕ) → left ≡ p ∷ ps → IsUnseen m place given p next)
    → length (adjacent_places m place all) ≤ length m.faces + 1 → IsBegun m place all left given next
begun m place all mid left turned given next s e un ahead few =
    let whole = given-split m place all mid turned given s e in
    let n = length given in
    let taken : take n (adjacent_places m place all) ≡ given = ap (take n) whole ∙ take-append_seam given (unseen m place given mid) in
    let rest : drop n (adjacent_places m place all) ≡ unseen m place given mid = ap (drop n) whole ∙ drop-append_seam given (unseen m place given mid) in
    record {
      standing = record {
        stays = rest ∙ sym un ∙ ap (λ zs. unseen m place zs left) (sym taken);
        ahead = λ p ps h. subst (λ zs. IsUnseen m place zs p next) (sym taken) (ahead p ps h);
        few = few;
      };
      taken = sym taken;
    }

-- the same by marks
pub begun_marked : (m o : Contents) (place : ℕ) (all mid left turned given : List ℕ) (next : ℕ) (marked : ℕ → Bool) → o ≡ m → IsSplit m all mid turned → given ≡ first_occurrences (others place turned)
    → ((j : ℕ) → marked j ≡ has given j)
    → ((seen : List ℕ) → ((j : ℕ) → marked j ≡ has seen j) → unseen o place seen left ≡ unseen o place seen mid)
    → ((seen : List ℕ) → ((j : ℕ) → marked j ≡ has seen j) → (p : ℕ) (ps : List ℕ) → left ≡ p ∷ ps → IsUnseen o place seen p next)
    → length (adjacent_places m place all) ≤ length m.faces + 1 → IsBegun m place all left given next
begun_marked m o place all mid left turned given next marked same s e marks un st few =
    begun m place all mid left turned given next s e
    (subst (λ (y : Contents). unseen y place given left ≡ unseen y place given mid) same (un given marks))
    (λ p ps h. subst (λ (y : Contents). IsUnseen y place given p next) same (st given marks p ps h)) few

-- over the contents and the list that the walk is made of
pub taken_in : (m o : Contents) (place : ℕ) (all left given list : List ℕ) (next : ℕ) → o ≡ m → list ≡ given → IsBegun m place all left given next → list ≡ take (length list) (adjacent_places o place all)
taken_in m o place all left given list next same is b =
    subst (λ (y : Contents). list ≡ take (length list) (adjacent_places y place all)) (sym same)
    (subst (λ zs. zs ≡ take (length zs) (adjacent_places m place all)) (sym is) b.taken)

pub standing_in : (m o : Contents) (place : ℕ) (all left given list : List ℕ) (next : ℕ) → o ≡ m → list ≡ given → IsBegun m place all left given next → IsStanding o place all left (length list) next
standing_in m o place all left given list next same is b =
    subst (λ (y : Contents). IsStanding y place all left (length list) next) (sym same)
    (subst (λ zs. IsStanding m place all left (length zs) next) (sym is) b.standing)

-- the faces that were given and those to come
pub all_named : (g : ℕ → ℕ) (n : ℕ) (xs given : List ℕ) → given ≡ take n xs → map g given ++ map g (drop n xs) ≡ map g xs
all_named g n xs given e = ap (λ zs. map g zs ++ map g (drop n xs)) e ∙ sym (map-append g (take n xs) (drop n xs)) ∙ ap (map g) (take-append-drop n xs)

pub given_is : (v : AdjacentWalk) (m : Contents) (places : List ℕ) → contents_in v ≡ m → given_places v ≡ places → given v ≡ map (face_at_place m) places
unfolding given
given_is v m places same is = ap (map (face_at_place (contents_in v))) is ∙ ap (λ (x : Contents). map (face_at_place x) places) same

nothing-below : (j k : ℕ) → has [] j ≡ true → j ≤ k
nothing-below j k there = cc

module _ (c : Contents) (h : is_whole c ≡ true) where
  map_low : (all shell outer : List ℕ) → all ≡ shell ++ outer → ((x : ℕ) → has all x ≡ true → x < length c.code.a) → (j : ℕ) → has (map (place_across c) shell) j ≡ true → j ≤ length c.faces
  map_low all shell outer e within j there =
      places-low c h shell (λ x in_it. within x (ap (λ zs. has zs x) e ∙ has-append shell outer x ∙ ap (λ b. b || has outer x) in_it)) j there

  -- the places that were put down are those of faces
  pub across_low : (all shell outer places : List ℕ) (k : ℕ) → all ≡ shell ++ outer → (0 < length places → drop k places ++ take k places ≡ map (place_across c) shell)
      → ((x : ℕ) → has all x ≡ true → x < length c.code.a) → (j : ℕ) → has places j ≡ true → j ≤ length c.faces
  across_low all shell outer [] k e some within j there = nothing-below j (length c.faces) there
  across_low all shell outer (x ∷ xs) k e some within j there =
      map_low all shell outer e within j (ap (λ zs. has zs j) (sym (some (omega arith))) ∙ turned-has k (x ∷ xs) j ∙ there)

  pub given-low : (place : ℕ) (all mid places given : List ℕ) (k : ℕ) → IsSplit c all mid (drop k places ++ take k places) → given ≡ first_occurrences (others place (drop k places ++ take k places))
      → ((x : ℕ) → has all x ≡ true → x < length c.code.a) → (j : ℕ) → has given j ≡ true → j ≤ length c.faces
  given-low place all mid places given k s e within j there =
      let turned = drop k places ++ take k places in
      let among = filter-among (λ g. not (g == place)) turned j (occurrences-among [] (others place turned) j (ap (λ zs. has zs j) (sym e) ∙ there)) in
      map_low all s.first mid s.joined within j (ap (λ zs. has zs j) (sym s.across) ∙ among)

  begun_fits : (ps : List ℕ) (listed : ℕ) → ((x : ℕ) → has ps x ≡ true → x < length c.code.a) → 34 * line_digits c + 207 + (58 * line_digits c + 549) * length ps ≤ line_words c (length ps) listed
  begun_fits ps listed within =
      let d = line_digits c in
      let two = some_digits c in
      elim (cases_lt 2 d) [
        | inl b ↦ many d (length ps) listed b
        | inr g ↦ alone d (length ps) listed two (no_positions c h ps within (no_edges c h g))
      ]
    where
      many : (d n listed : ℕ) → 2 < d → 34 * d + 207 + (58 * d + 549) * n ≤ 256 * d * (n + listed + 1) + 128 * d
      many d n listed b = let each : n * (58 * d + 549) ≤ n * (256 * d) = mul-le-mul_left n (omega (arith, b)) in omega (arith, each, b)

      alone : (d n listed : ℕ) → 2 ≤ d → n ≡ 0 → 34 * d + 207 + (58 * d + 549) * n ≤ 256 * d * (n + listed + 1) + 128 * d
      alone d n listed two e = rw e (omega (arith, two))

  -- the holes found, the shell gone round, the first faces put down, the rest and the close
  pub begun_paid : (ps : List ℕ) (shell given mid left listed at one two three four : ℕ) → ((x : ℕ) → has ps x ≡ true → x < length c.code.a) → shell ≤ length ps → given + mid ≤ length ps → left ≤ mid
      → one ≤ at + (10 * line_digits c + 24 + across_price c * shell) → two ≤ one + 2 → three ≤ two + (3 * line_digits c + 20) * given
      → four + pass_price c * left ≤ three + (pass_price c * mid + (12 * line_digits c + 121))
      → four + (step_price c * left + pass_price c * length ps) + (12 * line_digits c + 60) ≤ at + line_words c (length ps) listed
  begun_paid ps shell given mid left listed at one two three four within a b l w x y z =
      let d = line_digits c in
      let fits = begun_fits ps listed within in
      let round : across_price c * shell ≤ across_price c * length ps = mul-le-mul_left (across_price c) a in
      let rest : step_price c * (given + mid) ≤ step_price c * length ps = mul-le-mul_left (step_price c) b in
      let over : (3 * d + 20) * left ≤ (3 * d + 20) * mid = mul-le-mul_left (3 * d + 20) l in
      omega (arith, fits, round, rest, over, w, x, y, z)
