-- What holds of the mate of each position of a sound code.
use Rattle.std.specs.Prelude.{not}
use Rattle.std.proofs.Common.{◌≡◌, ℕ, ◌+◌, ◌<◌, ◌≤◌, inl, inr, Bool, true, false, List, length, refl, ap, sym, ◌∙◌, arith, subst, IsTrue}
use Rattle.std.proofs.lemmas.Bool.{cases_order, both_ways}
use Rattle.std.proofs.lemmas.Int.{ints}
use Rattle.parens.specs.Matching.{is_open, mate_of, pair_number}
use Rattle.parens.proofs.Arcs.{IsArc, arc-opens, arc-closes}
use Rattle.code_laws.specs.Code.{Code, is_tree, is_first, parens, place, mate, start_of, end_of}
use Rattle.code_laws.specs.Numbers.{edge_of, tree_edges}
use Rattle.code_laws.specs.SeqFault.{is_sound}
use Rattle.code_laws.proofs.Places.{place_after}
use Rattle.code_laws.proofs.Closers.{some_open}
use Rattle.code_laws.proofs.Steps.{IsIn, HasMate, Opens, Closes}
use Rattle.code_laws.proofs.Sound.{SoundParts, sound_parts, whole, mates, in_one, is_component, mate_back}
use Rattle.code_laws.specs.Laws.{MateLaws}

-- two arcs with one end are the same
arc_one : (bits : List Bool) (i x j : ℕ) → IsArc bits i j → IsArc bits x j → i ≡ x
arc_one bits i x j a b =
    elim (cases_order i x) [
      | inl e ↦ e
      | inr o ↦ elim o [
        | inl l ↦ let v = a.above x l (omega (arith, b.order)) in let e = a.level in let f = b.level in absurd (omega (arith, ints, v, e, f))
        | inr l ↦ let v = b.above i l (omega (arith, a.order)) in let e = a.level in let f = b.level in absurd (omega (arith, ints, v, e, f))
      ]
    ]

arc_end : (bits : List Bool) (i j x : ℕ) → IsArc bits i j → IsArc bits i x → j ≡ x
arc_end bits i j x a b =
    elim (cases_order j x) [
      | inl e ↦ e
      | inr o ↦ elim o [
        | inl l ↦ let v = b.above (j + 1) (omega (arith, a.order)) (omega arith) in let e = a.level in absurd (omega (arith, ints, v, e))
        | inr l ↦ let v = a.above (x + 1) (omega (arith, b.order)) (omega arith) in let e = b.level in absurd (omega (arith, ints, v, e))
      ]
    ]

-- two positions of a kind at one place are the same
pub one_place : (c : Code) (kind : Bool) (p q : ℕ) → p < length c.a → q < length c.a → is_tree c p ≡ kind → is_tree c q ≡ kind → place c kind p ≡ place c kind q → p ≡ q
one_place c kind p q l m is at e =
    elim (cases_order p q) [
      | inl s ↦ s
      | inr o ↦ elim o [
        | inl h ↦ let v = place_after c kind p q l is h in absurd (omega (arith, v, e))
        | inr h ↦ let v = place_after c kind q p m at h in absurd (omega (arith, v, e))
      ]
    ]

-- whether a position of a kind is the first of its edge
pub first_at : (c : Code) (kind : Bool) (p i : ℕ) → is_tree c p ≡ kind → place c kind p ≡ i → is_first c p ≡ is_open (parens c kind) i
unfolding is_first
first_at c kind p i is e = rw is (rw e refl)

edge_at : (c : Code) (kind : Bool) (p q i j : ℕ) → is_tree c p ≡ kind → is_tree c q ≡ kind → place c kind p ≡ i → place c kind q ≡ j → pair_number (parens c kind) i ≡ pair_number (parens c kind) j → edge_of c p ≡ edge_of c q
unfolding edge_of
edge_at c true p q i j is at e f g = rw is (rw at (rw e (rw f g)))
edge_at c false p q i j is at e f g = rw is (rw at (rw e (rw f (ap (λ x. tree_edges c + x) g))))

module _ (c : Code) (s : SoundParts c) where
  -- the opening place of an arc, found from both ends, is the number of its pair
  arc_back : (kind : Bool) (i j : ℕ) → IsArc (parens c kind) i j → mate_of (parens c kind) j ≡ i
  arc_back kind i j a =
      let closes = arc-closes (parens c kind) i j a in
      let o = some_open (parens c kind) (whole c s kind) j a.within closes in
      mate_back c s kind j o.0 closes o.1 ∙ sym (arc_one (parens c kind) i o.0 j a o.2)

  one_pair : (kind : Bool) (i j : ℕ) → IsArc (parens c kind) i j → pair_number (parens c kind) i ≡ pair_number (parens c kind) j
  unfolding pair_number
  one_pair kind i j a =
      let opens = arc-opens (parens c kind) i j a in
      let closes = arc-closes (parens c kind) i j a in
      let back = arc_back kind i j a in
      rw opens (rw closes (rw back refl))

  pub laws_at : (kind : Bool) (p m : ℕ) → IsIn c p m → is_tree c p ≡ kind → HasMate c kind p m → MateLaws c p
  laws_at kind p m i is (Opens q j arc k order inside) =
      let p_in : p < length c.a = omega (arith, i.to, i.within) in
      let q_from : start_of c m ≤ q = omega (arith, i.from, order) in
      let iq : IsIn c q m = record { count = i.count; from = q_from; to = inside; within = i.within; is = is_component c s q m i.count q_from inside } in
      let opens = arc-opens (parens c kind) (place c kind p) j arc in
      let closes = arc-closes (parens c kind) (place c kind p) j arc in
      let back : mate c q ≡ p = back_at kind p q m iq k.is_kind p_in is (place c kind p) refl (subst (λ x. IsArc (parens c kind) (place c kind p) x) (sym k.at_place) arc) (mates c s kind q m iq k.is_kind) in
      record {
        within = rw k.is_mate k.within;
        other = λ e. omega (arith, e, k.is_mate, order);
        back = rw k.is_mate back;
        kind = rw k.is_mate (k.is_kind ∙ sym is);
        first = rw k.is_mate (first_at c kind q j k.is_kind k.at_place ∙ closes ∙ sym (ap not (first_at c kind p (place c kind p) is refl ∙ opens)));
        edge = rw k.is_mate (sym (edge_at c kind p q (place c kind p) j is k.is_kind refl k.at_place (one_pair kind (place c kind p) j arc)));
        component = rw k.is_mate (iq.is ∙ sym i.is);
      }
    where
      back_at : (kind : Bool) (p q m : ℕ) → IsIn c q m → is_tree c q ≡ kind → p < length c.a → is_tree c p ≡ kind → (x : ℕ) → place c kind p ≡ x → IsArc (parens c kind) x (place c kind q) → HasMate c kind q m → mate c q ≡ p
      back_at kind p q m iq is l at x e arc (Opens r j a k o n) =
          absurd (both_ways _ (arc-closes (parens c kind) x (place c kind q) arc) (arc-opens (parens c kind) (place c kind q) j a))
      back_at kind p q m iq is l at x e arc (Closes r i a k o n) =
          k.is_mate ∙ one_place c kind r p k.within l k.is_kind at (k.at_place ∙ sym (arc_one (parens c kind) x i (place c kind q) arc a) ∙ sym e)
  laws_at kind p m i is (Closes q n arc k order from) =
      let p_in : p < length c.a = omega (arith, i.to, i.within) in
      let q_to : q < end_of c m = omega (arith, i.to, order) in
      let iq : IsIn c q m = record { count = i.count; from = from; to = q_to; within = i.within; is = is_component c s q m i.count from q_to } in
      let opens = arc-opens (parens c kind) n (place c kind p) arc in
      let closes = arc-closes (parens c kind) n (place c kind p) arc in
      let back : mate c q ≡ p = back_at kind p q m iq k.is_kind p_in is (place c kind p) refl (subst (λ x. IsArc (parens c kind) x (place c kind p)) (sym k.at_place) arc) (mates c s kind q m iq k.is_kind) in
      record {
        within = rw k.is_mate k.within;
        other = λ e. omega (arith, e, k.is_mate, order);
        back = rw k.is_mate back;
        kind = rw k.is_mate (k.is_kind ∙ sym is);
        first = rw k.is_mate (first_at c kind q n k.is_kind k.at_place ∙ opens ∙ sym (ap not (first_at c kind p (place c kind p) is refl ∙ closes)));
        edge = rw k.is_mate (edge_at c kind q p n (place c kind p) k.is_kind is k.at_place refl (one_pair kind n (place c kind p) arc));
        component = rw k.is_mate (iq.is ∙ sym i.is);
      }
    where
      back_at : (kind : Bool) (p q m : ℕ) → IsIn c q m → is_tree c q ≡ kind → p < length c.a → is_tree c p ≡ kind → (x : ℕ) → place c kind p ≡ x → IsArc (parens c kind) (place c kind q) x → HasMate c kind q m → mate c q ≡ p
      back_at kind p q m iq is l at x e arc (Opens r j a k o n) =
          k.is_mate ∙ one_place c kind r p k.within l k.is_kind at (k.at_place ∙ sym (arc_end (parens c kind) (place c kind q) x j arc a) ∙ sym e)
      back_at kind p q m iq is l at x e arc (Closes r i a k o n) =
          absurd (both_ways _ (arc-closes (parens c kind) i (place c kind q) a) (arc-opens (parens c kind) (place c kind q) x arc))

pub mate_laws : (c : Code) → IsTrue (is_sound c) → (p : ℕ) → p < length c.a → MateLaws c p
mate_laws c h p l = let s = sound_parts c h in let i = in_one c s p l in laws_at c s (is_tree c p) p i.0 i.1 refl (mates c s (is_tree c p) p i.0 i.1 refl)
