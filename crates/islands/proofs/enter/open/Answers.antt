use Rattle.std.proofs.Common.{rules, ◌≡◌, ◌<◌, ◌≤◌, ◌+◌, ◌-◌, ◌++◌, ℕ, Bool, List, [], ◌∷◌, length, sym, ap, ◌∙◌, subst, arith, false, true}
use Rattle.std.specs.Prelude.{slice_index, slice_index_or}
use Rattle.islands.specs.Lists.{chain, listed}
use Rattle.islands.proofs.Chains.{chain_step, read_number, passed}
use Rattle.islands.proofs.Opening.{opens_skip, opens_push, read_on}
use Rattle.islands.proofs.enter.open.Goals as goal
use Rattle.islands.proofs.enter.open.Goals.{then-not-index+in_ok-push, else-not-index}

pub loop-left-preserved : goal.loop-left-preserved
loop-left-preserved c =
    let before : List ℕ = c.args.in_component.now.before.items in
    let all : List ℕ = listed c.args.in_component.now.last.items before c.args.component in
    let F : List ℕ = c.args.faces.now in
    let entered : List Bool = c.loop-left.entered.items in
    let left : ℕ = c.loop-left.left in
    let ring : ℕ = left - 1 in
    let next : ℕ = c.index-left-in-loop-left.result.now in
    let first : left ≡ ring + 1 = search rules in
    let below : ring < length before = search rules in
    let is : next ≡ slice_index before ring = read_number before ring next below c.index-left-in-loop-left.ensures in
    let falls = c.requires.chains.falls ring in
    let e : chain before left ≡ ring ∷ chain before next = chain_step before c.requires.chains.falls left ring first ∙ ap (λ z. ring ∷ chain before z) (sym is) in
    let so_far = c.loop-left.invariant.entered in
    let done : List ℕ = so_far.0 in
    let here = passed done (chain before next) (chain before left) all ring e so_far.1 in
    record {
      within = subst (λ z. z ≤ length before) (sym is) (omega arith);
      entered = elim c.if-not-index.branch [
        | then-not-index+in_ok-push w ↦
            let off : slice_index_or entered (slice_index F ring) false ≡ false = search rules in
            rw (w.entered-is, w.next-is, w.in_ok-push.ensures.items) (done ++ ring ∷ [], here, opens_push F done c.args.entered.now.items entered c.args.next.now.items c.loop-left.next.items ring so_far.2 (search rules) off)
        | else-not-index w ↦
            let on : slice_index_or entered (slice_index F ring) false ≡ true = read_on entered (slice_index F ring) c.index.result.now (search rules) c.index.ensures w.if-not-index.false in
            rw (w.entered-is, w.next-is) (done ++ ring ∷ [], here, opens_skip F done c.args.entered.now.items entered c.args.next.now.items c.loop-left.next.items ring so_far.2 on)
      ];
    }
