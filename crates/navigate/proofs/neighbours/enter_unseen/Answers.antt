use Rattle.std.proofs.Common.{arith, ap, sym, ◌∙◌, ◌∷◌, [], ◌≡◌, ◌+◌, ◌++◌, length, get_or, false, true, length-append}
use Rattle.std.specs.Prelude.{take, ◌==◌, ◌||◌}
use Rattle.std.proofs.lemmas.List.{take_more}
use Rattle.scratch_region.specs.Marks.{room_of, is_marked}
use Rattle.plane_model.specs.Sets.{has, first_occurrences_but}
use Rattle.navigate.specs.Beside.{others}
use Rattle.navigate.proofs.ClearLaws.{item_in, later_in}
use Rattle.navigate.proofs.BegunLaws.{enter-known, enter-new, put-behind, mark-behind}
use Rattle.navigate.proofs.neighbours.enter_unseen.Goals.{then-not-is_known, else-not-is_known}
use Rattle.navigate.proofs.neighbours.enter_unseen.Goals as goal

pub is_known-requires : goal.is_known-requires
is_known-requires c =
    let i = c.loop-found.invariant in
    let within = i.within _ (item_in c.args.across.now c.loop-found.found-index (omega arith)) in
    omega (arith, within, i.room)

pub set-requires : goal.set-requires
set-requires c =
    let i = c.loop-found.invariant in
    let within = i.within _ (item_in c.args.across.now c.loop-found.found-index (omega arith)) in
    omega (arith, within, i.room)

pub loop-found-preserved : goal.loop-found-preserved
loop-found-preserved c =
    let i = c.loop-found.invariant in
    let xs = c.args.across.now in
    let at = c.loop-found.found-index in
    let x = get_or xs at 0 in
    let place = c.args.place in
    let more : take (at + 1) xs ≡ take at xs ++ x ∷ [] = take_more xs at 0 (omega arith) in
    elim c.if-not-is_known.branch [
      | then-not-is_known w ↦ record {
        room = ap room_of w.marks-is ∙ w.set.ensures.room ∙ i.room;
        within = λ j there. i.within j (later_in xs at j (omega arith) there);
        few = let n = ap length (ap (λ v. v.items) w.given-is ∙ w.push.ensures.items) in let l = length-append c.loop-found.given.items (x ∷ []) in omega (arith, n, l, i.few);
        places = λ seen h.
            let known : ((x == place) || has (seen ++ first_occurrences_but seen (others place (take at xs))) x) ≡ false
            = ap (λ b. (x == place) || b) (sym (i.marks seen h x)) ∙ sym c.is_known.ensures ∙ w.if-not-is_known.true in
            ap (λ v. v.items) w.given-is ∙ w.push.ensures.items
            ∙ put-behind c.loop-found.given.items c.args.given.now.items (first_occurrences_but seen (others place (take at xs))) (first_occurrences_but seen (others place (take (at + 1) xs))) x (i.places seen h) (enter-new place seen (take at xs) (take (at + 1) xs) x more known);
        marks = λ seen h j.
            let known : ((x == place) || has (seen ++ first_occurrences_but seen (others place (take at xs))) x) ≡ false
            = ap (λ b. (x == place) || b) (sym (i.marks seen h x)) ∙ sym c.is_known.ensures ∙ w.if-not-is_known.true in
            ap (λ v. is_marked v j) w.marks-is
            ∙ mark-behind seen (first_occurrences_but seen (others place (take at xs))) (first_occurrences_but seen (others place (take (at + 1) xs))) x j (is_marked c.loop-found.marks j) (is_marked w.set.new.self j)
            (i.marks seen h j) (w.set.ensures.marked j) (enter-new place seen (take at xs) (take (at + 1) xs) x more known);
      }
      | else-not-is_known w ↦ record {
        room = ap room_of w.marks-is ∙ i.room;
        within = λ j there. i.within j (later_in xs at j (omega arith) there);
        few = let n = ap (λ v. length v.items) w.given-is in omega (arith, n, i.few);
        places = λ seen h.
            let known : ((x == place) || has (seen ++ first_occurrences_but seen (others place (take at xs))) x) ≡ true
            = ap (λ b. (x == place) || b) (sym (i.marks seen h x)) ∙ sym c.is_known.ensures ∙ w.if-not-is_known.false in
            ap (λ v. v.items) w.given-is ∙ i.places seen h ∙ ap (λ zs. c.args.given.now.items ++ zs) (sym (enter-known place seen (take at xs) (take (at + 1) xs) x more known));
        marks = λ seen h j.
            let known : ((x == place) || has (seen ++ first_occurrences_but seen (others place (take at xs))) x) ≡ true
            = ap (λ b. (x == place) || b) (sym (i.marks seen h x)) ∙ sym c.is_known.ensures ∙ w.if-not-is_known.false in
            ap (λ v. is_marked v j) w.marks-is ∙ i.marks seen h j ∙ ap (λ zs. has (seen ++ zs) j) (sym (enter-known place seen (take at xs) (take (at + 1) xs) x more known));
      }
    ]
