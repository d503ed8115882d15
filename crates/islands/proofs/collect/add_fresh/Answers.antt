use Rattle.std.proofs.Common.{rules, ◌≡◌, ◌<◌, ◌≤◌, ◌+◌, ◌-◌, ℕ, Bool, true, false, List, ◌∷◌, length, sym, ap, ◌∙◌, subst, arith}
use Rattle.std.specs.Prelude.{slice_index}
use Rattle.islands.specs.Lists.{chain}
use Rattle.islands.specs.Rounds.{is_fresh}
use Rattle.islands.proofs.Chains.{chain_step, read_number, filtered_push, filtered_skip}
use Rattle.islands.proofs.collect.add_fresh.Goals as goal
use Rattle.islands.proofs.collect.add_fresh.Goals.{then-not-is_reached+in_ok-push, else-not-is_reached}

pub loop-left-preserved : goal.loop-left-preserved
loop-left-preserved c =
    let before : List ℕ = c.args.on_face.now.before.items in
    let fresh : ℕ → Bool = is_fresh c.args.components.now c.args.reached.now in
    let left : ℕ = c.loop-left.left in
    let ring : ℕ = left - 1 in
    let next : ℕ = c.index-left-in-loop-left.result.now in
    let first : left ≡ ring + 1 = search rules in
    let below : ring < length before = search rules in
    let is : next ≡ slice_index before ring = read_number before ring next below c.index-left-in-loop-left.ensures in
    let falls = c.requires.chains.falls ring in
    let e : chain before left ≡ ring ∷ chain before next = chain_step before c.requires.chains.falls left ring first ∙ ap (λ z. ring ∷ chain before z) (sym is) in
    let so_far = c.loop-left.invariant.added in
    record {
      within = subst (λ z. z ≤ length before) (sym is) (omega arith);
      added = elim c.if-not-is_reached.branch [
        | then-not-is_reached+in_ok-push w ↦ let on : fresh ring ≡ true = search rules in rw (w.now-is, w.in_ok-push.ensures.items) (filtered_push fresh c.loop-left.now.items (chain before next) (chain before left) _ ring e so_far on)
        | else-not-is_reached w ↦ let off : fresh ring ≡ false = search rules in rw w.now-is (filtered_skip fresh c.loop-left.now.items (chain before next) (chain before left) _ ring e so_far off)
      ];
    }
