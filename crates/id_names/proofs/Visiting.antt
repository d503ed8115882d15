-- A walk along a cycle from both ends, which visits its members.
use Rattle.std.proofs.Common.{◌≡◌, ℕ, ◌+◌, ◌-◌, ◌<◌, ◌≤◌, inl, inr, Bool, true, false, ◌==◌, cond, List, [], ◌∷◌, ◌++◌, length, get_or, refl, sym, ap, subst, ◌∙◌, arith, eq-eqb, length-append}
use Rattle.std.specs.List.{position_or_len}
use Rattle.std.proofs.Math.ListN.{set, length-set}
use Rattle.std.proofs.Math.Seq.{get_or-append_seam}
use Rattle.std.proofs.lemmas.Bool.{both_ways, cases_eq, cases_lt, ne_eqb}
use Rattle.std.proofs.lemmas.List.{get_or-set_same, get_or-set_other, get_or_append_left}
use Rattle.orbits.specs.Points.{has}
use Rattle.orbits.proofs.Numbers.{has_place}
use Rattle.id_names.specs.Cycles.{AreInverse, AreVisited}
use Rattle.id_names.proofs.Members.{AreMembers}
use Rattle.id_names.proofs.Sweeping.{position_is}

-- the last members, from the last one on
pub record AreBehind (members behind : List ℕ) : Type 0 where
  pub few : length behind < length members
  pub each : (i : ℕ) → i < length behind → get_or behind i 0 ≡ get_or members (length members - 1 - i) 0

-- The first `count` members are visited and those behind; the one walk stands at the next member, or at the first again,
-- and the other at the one before those behind.
pub record IsVisiting (members : List ℕ) (first count at end : ℕ) (behind : List ℕ) (old new : List Bool) : Type 0 where
  pub some : 1 ≤ count
  pub most : count + length behind ≤ length members
  pub here : count < length members → at ≡ get_or members count 0
  pub back : count ≡ length members → at ≡ first
  pub before : end ≡ get_or members (length members - 1 - length behind) 0
  pub last : AreBehind members behind
  pub size : length new ≡ length old
  pub front : (i : ℕ) → i < count → get_or new (get_or members i 0) false ≡ true
  pub rear : (i : ℕ) → i < length members → length members ≤ i + length behind → get_or new (get_or members i 0) false ≡ true
  pub left : (i : ℕ) → count ≤ i → i + length behind < length members → get_or new (get_or members i 0) false ≡ false
  pub outside : (x : ℕ) → x < length old → has (λ x y. x == y) members x ≡ false → get_or new x false ≡ get_or old x false

-- how many members the walk has passed, by the number where it stands
abbrev pub passed : List ℕ → ℕ → ℕ → ℕ
passed members first at = cond (at == first) (length members) (position_or_len (λ x. x == at) members)

-- one more is the last before those that follow
pub behind_more : (members behind behind' : List ℕ) (end : ℕ) → AreBehind members behind → length behind + 1 < length members → end ≡ get_or members (length members - 1 - length behind) 0 → behind' ≡ behind ++ end ∷ []
    → AreBehind members behind'
behind_more members behind behind' end b few e pushed =
    let many = ap length pushed ∙ length-append behind (end ∷ []) in
    record {
      few = omega arith;
      each = λ i h. ap (λ xs. get_or xs i 0) pushed ∙ elim (cases_lt i (length behind)) [
        | inl less ↦ get_or_append_left behind (end ∷ []) 0 i less ∙ b.each i less
        | inr more ↦
            let is : i ≡ length behind = omega arith in
            subst (λ z. get_or (behind ++ end ∷ []) z 0 ≡ get_or members (length members - 1 - z) 0) (sym is) (get_or-append_seam behind end [] 0 ∙ e)
      ];
    }

-- one fewer, which was the one that stands first in the cycle
pub behind_fewer : (members behind behind' : List ℕ) (at : ℕ) → AreBehind members behind → behind ≡ behind' ++ at ∷ []
    → AreBehind members behind' × (at ≡ get_or members (length members - length behind) 0) × (length behind ≡ length behind' + 1)
behind_fewer members behind behind' at b popped =
    let many : length behind ≡ length behind' + 1 = ap length popped ∙ length-append behind' (at ∷ []) in
    let few = b.few in (
      record {
        few = omega arith;
        each = λ i h. sym (get_or_append_left behind' (at ∷ []) 0 i h) ∙ ap (λ xs. get_or xs i 0) (sym popped) ∙ b.each i (omega arith);
      },
      sym (get_or-append_seam behind' at [] 0) ∙ ap (λ xs. get_or xs (length behind') 0) (sym popped) ∙ b.each (length behind') (omega arith) ∙ ap (λ z. get_or members z 0) (omega arith),
      many,
    )

module _ (places numbers : List ℕ) (first : ℕ) (members : List ℕ) (m : AreMembers places first members) (inverse : AreInverse places numbers) where
  -- a member is visited, and no other one
  set_here : (i at : ℕ) (old : List Bool) → length old ≡ length places → i < length members → at ≡ get_or members i 0 → get_or (set old at true) (get_or members i 0) false ≡ true
  set_here i at old size l e =
      let w = m.within i l in
      subst (λ z. get_or (set old z true) (get_or members i 0) false ≡ true) (sym e) (get_or-set_same old (get_or members i 0) true false (omega arith))

  set_there : (i j at : ℕ) (old : List Bool) → i < length members → j < length members → at ≡ get_or members i 0 → (j ≡ i → ⊥) → get_or (set old at true) (get_or members j 0) false ≡ get_or old (get_or members j 0) false
  set_there i j at old l h e ne = get_or-set_other old at (get_or members j 0) true false (λ is. ne (m.once j i h l (is ∙ e)))

  -- what is visited stays so
  set_still : (i j at : ℕ) (old : List Bool) → length old ≡ length places → i < length members → j < length members → at ≡ get_or members i 0 → get_or old (get_or members j 0) false ≡ true → get_or (set old at true) (get_or members j 0) false ≡ true
  set_still i j at old size l h e was = elim (cases_eq j i) [
    | inl is ↦ subst (λ z. get_or (set old at true) (get_or members z 0) false ≡ true) (sym is) (set_here i at old size l e)
    | inr ne ↦ set_there i j at old l h e ne ∙ was
  ]

  set_outside : (i at : ℕ) (old new : List Bool) → i < length members → at ≡ get_or members i 0
      → ((x : ℕ) → x < length old → has (λ x y. x == y) members x ≡ false → get_or new x false ≡ get_or old x false)
      → (x : ℕ) → x < length old → has (λ x y. x == y) members x ≡ false → get_or (set new at true) x false ≡ get_or old x false
  set_outside i at old new l e before x h off =
      let ne : x ≡ at → ⊥ = λ is. both_ways _ off (subst (λ z. has (λ x y. x == y) members z ≡ true) (sym (is ∙ e)) (has_place members i l)) in
      get_or-set_other new at x true false ne ∙ before x h off

  -- the member before another, by the inverse
  before_member : (i : ℕ) → i + 1 < length members → get_or numbers (get_or members (i + 1) 0) 0 ≡ get_or members i 0
  before_member i l = ap (λ z. get_or numbers z 0) (sym (m.follows i l)) ∙ inverse.undo (get_or members i 0) (m.within i (omega arith))

  before_first : get_or numbers first 0 ≡ get_or members (length members - 1) 0
  before_first =
      let some = m.some in
      ap (λ z. get_or numbers z 0) (sym (m.ends (length members - 1) (omega arith))) ∙ inverse.undo (get_or members (length members - 1) 0) (m.within (length members - 1) (omega arith))

  pub visiting_first : (behind : List ℕ) (old : List Bool) → length old ≡ length places → behind ≡ [] → ((i : ℕ) → i < length members → get_or old (get_or members i 0) false ≡ false)
      → IsVisiting members first 1 (get_or places first 0) (get_or numbers first 0) behind old (set old first true)
  visiting_first behind old size none unvisited =
      let some = m.some in
      let empty : length behind ≡ 0 = ap length none in
      record {
        some = omega arith;
        most = omega arith;
        here = λ l. ap (λ z. get_or places z 0) (sym m.begins) ∙ m.follows 0 (omega arith);
        back = λ l. ap (λ z. get_or places z 0) (sym m.begins) ∙ m.ends 0 (omega arith);
        before = before_first ∙ ap (λ z. get_or members z 0) (omega arith);
        last = record { few = omega arith; each = λ i h. absurd (omega arith) };
        size = length-set old first true;
        front = λ i h. (let is : i ≡ 0 = omega arith in subst (λ z. get_or (set old first true) (get_or members z 0) false ≡ true) (sym is) (set_here 0 first old size some (sym m.begins)));
        rear = λ i h l. absurd (omega arith);
        left = λ i h l. set_there 0 i first old some (omega arith) (sym m.begins) (λ is. absurd (omega arith)) ∙ unvisited i (omega arith);
        outside = set_outside 0 first old old some (sym m.begins) (λ x h off. refl);
      }

  module _ (count at end : ℕ) (behind : List ℕ) (old new : List Bool) (v : IsVisiting members first count at end behind old new) where
    -- the first walk stands at a member that isn't visited, so there is one left
    one_left : get_or new at false ≡ false → count + length behind < length members
    one_left off = elim (cases_lt (count + length behind) (length members)) [
      | inl less ↦ less
      | inr more ↦
          let some = v.some in
          let most = v.most in
          elim (cases_lt count (length members)) [
            | inl l ↦ absurd (both_ways _ off (ap (λ z. get_or new z false) (v.here l) ∙ v.rear count l more))
            | inr g ↦ absurd (both_ways _ off (ap (λ z. get_or new z false) (v.back (omega arith) ∙ sym m.begins) ∙ v.front 0 some))
          ]
    ]

    -- so does the other
    one_before : get_or new end false ≡ false → count + length behind < length members
    one_before off = elim (cases_lt (count + length behind) (length members)) [
      | inl less ↦ less
      | inr more ↦
          let some = v.some in
          let most = v.most in
          absurd (both_ways _ off (ap (λ z. get_or new z false) v.before ∙ v.front (length members - 1 - length behind) (omega arith)))
    ]

    -- the walks have met
    pub none_left : get_or new at false ≡ true → count + length behind ≡ length members
    none_left on = elim (cases_lt (count + length behind) (length members)) [
      | inl less ↦ absurd (both_ways _ (ap (λ z. get_or new z false) (v.here (omega arith)) ∙ v.left count (omega arith) less) on)
      | inr more ↦ (let most = v.most in omega arith)
    ]

    -- the first walk takes a step
    pub visiting_front : length old ≡ length places → get_or new at false ≡ false → IsVisiting members first (count + 1) (get_or places at 0) end behind old (set new at true)
    visiting_front size off =
        let less = one_left off in
        let l : count < length members = omega arith in
        let here = v.here l in
        let same = v.size ∙ size in
        record {
          some = omega arith;
          most = omega arith;
          here = λ h. ap (λ z. get_or places z 0) here ∙ m.follows count h;
          back = λ h. ap (λ z. get_or places z 0) here ∙ m.ends count h;
          before = v.before;
          last = v.last;
          size = length-set new at true ∙ v.size;
          front = λ i h. elim (cases_eq i count) [
            | inl is ↦ subst (λ z. get_or (set new at true) (get_or members z 0) false ≡ true) (sym is) (set_here count at new same l here)
            | inr ne ↦ set_still count i at new same l (omega arith) here (v.front i (omega arith))
          ];
          rear = λ i h more. set_still count i at new same l h here (v.rear i h more);
          left = λ i h more. set_there count i at new l (omega arith) here (λ is. absurd (omega arith)) ∙ v.left i (omega arith) more;
          outside = set_outside count at old new l here v.outside;
        }

    -- the other walk takes a step
    pub visiting_rear : (behind' : List ℕ) → length old ≡ length places → get_or new end false ≡ false → behind' ≡ behind ++ end ∷ []
        → IsVisiting members first count at (get_or numbers end 0) behind' old (set new end true)
    visiting_rear behind' size off pushed =
        let less = one_before off in
        let some = v.some in
        let i = length members - 1 - length behind in
        let l : i < length members = omega arith in
        let there = v.before in
        let same = v.size ∙ size in
        let many : length behind' ≡ length behind + 1 = ap length pushed ∙ length-append behind (end ∷ []) in
        let next : (length members - 1 - length behind') + 1 ≡ i = omega arith in
        record {
          some = some;
          most = omega arith;
          here = v.here;
          back = v.back;
          before = ap (λ z. get_or numbers z 0) (there ∙ ap (λ z. get_or members z 0) (sym next)) ∙ before_member (length members - 1 - length behind') (omega arith);
          last = behind_more members behind behind' end v.last (omega arith) there pushed;
          size = length-set new end true ∙ v.size;
          front = λ j h. set_still i j end new same l (omega arith) there (v.front j h);
          rear = λ j h more. elim (cases_eq j i) [
            | inl is ↦ subst (λ z. get_or (set new end true) (get_or members z 0) false ≡ true) (sym is) (set_here i end new same l there)
            | inr ne ↦ set_still i j end new same l h there (v.rear j h (omega arith))
          ];
          left = λ j h more. set_there i j end new l (omega arith) there (λ is. absurd (omega arith)) ∙ v.left j h (omega arith);
          outside = set_outside i end old new l there v.outside;
        }

    -- so many are passed where the walk stands
    pub passed_is : passed members first at ≡ count
    passed_is =
        let most = v.most in
        let some = v.some in
        elim (cases_lt count (length members)) [
          | inl l ↦
              let ne : at ≡ first → ⊥ = λ is. (let z = m.once count 0 l m.some (sym (v.here l) ∙ is ∙ sym m.begins) in absurd (omega arith)) in
              rw (ne_eqb at first ne) (rw (v.here l) (position_is places first members m count l))
          | inr g ↦ (let all : count ≡ length members = omega arith in rw (eq-eqb at first (v.back all)) (sym all))
        ]

    pub at_within : at < length places
    at_within =
        let most = v.most in
        elim (cases_lt count (length members)) [
          | inl l ↦ omega (arith, v.here l, m.within count l)
          | inr g ↦ omega (arith, v.back (omega arith), m.begins, m.within 0 m.some)
        ]

    pub end_within : end < length places
    end_within =
        let some = m.some in
        omega (arith, v.before, m.within (length members - 1 - length behind) (omega arith))

    -- there is a next member where the first walk stands at one that isn't visited
    pub is_member : get_or new at false ≡ false → (count < length members) × (at ≡ get_or members count 0)
    is_member off = (let l : count < length members = omega (arith, one_left off) in (l, v.here l))

    -- all members are visited where the walks have met
    pub visited_all : get_or new at false ≡ true → AreVisited members old new
    visited_all on =
        let all = none_left on in
        record {
          size = v.size;
          inside = λ i h. elim (cases_lt i count) [ inl less ↦ v.front i less | inr more ↦ v.rear i h (omega arith) ];
          outside = v.outside;
        }
