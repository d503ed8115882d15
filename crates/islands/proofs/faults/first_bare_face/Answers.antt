use Rattle.std.proofs.Common.{rules, ◌≡◌, ◌<◌, ◌≤◌, ℕ, length, false, arith, sym}
use Rattle.islands.specs.Rounds.{is_marked}
use Rattle.islands.proofs.MapFaults.{bare_at, none_bare}
use Rattle.islands.proofs.faults.first_bare_face.Goals as goal

pub returns-then-not-on_ring-number : goal.returns-then-not-on_ring-number
returns-then-not-on_ring-number c m e told =
    let k : ℕ = c.loop-number.number in
    let some : 1 ≤ k = c.loop-number.auto.number in
    let h : k < length c.args.ids.now = c.loop-number-test.true in
    let here : is_marked c.args.on_ring.now k ≡ false = search rules in
    sym (bare_at m c.args.ids.now c.args.on_ring.now e told k some h c.loop-number.invariant here)

pub returns : goal.returns
returns c m e told =
    let past : length c.args.ids.now ≤ c.loop-number.number = c.loop-number-test.false in
    sym (none_bare m c.args.ids.now c.args.on_ring.now e told (λ j some lt. c.loop-number.invariant j some (omega arith)))
