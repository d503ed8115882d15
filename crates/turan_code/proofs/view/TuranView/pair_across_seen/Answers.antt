use Rattle.std.proofs.Common.{◌≡◌, ◌-◌, true, false, Some, ap, sym, ◌∙◌, arith}
use Rattle.bit_words.specs.Bits.{rank}
use Rattle.parens.specs.Matching.{is_open}
use Rattle.code_laws.specs.Code.{parens, place}
use Rattle.code_laws.specs.Numbers.{enclosing_pair}
use Rattle.turan_code.specs.TuranView.{code_of_view}
use Rattle.turan_code.proofs.Views.{others_before, round_at, place_le, mate_of_open, mate_of_closed}
use Rattle.turan_code.proofs.view.TuranView.pair_across_seen.Goals as goal

pub overflow_sub-mate : goal.overflow_sub-mate
overflow_sub-mate g c =
    let code = code_of_view c.args.self.now in
    let mate = c.mated_of_seen-mate.result in
    (others_before code true false mate.position mate.place (cc) (omega arith) (c.mated_of_seen-mate.ensures.place ∙ ap (λ t. place code t mate.position) c.if-seen.true)).0

pub pair_round-requires : goal.pair_round-requires
pair_round-requires g c =
    let v = c.args.self.now in
    let code = code_of_view v in
    let mate = c.mated_of_seen-mate.result in
    let others = (others_before code true false mate.position mate.place (cc) (omega arith) (c.mated_of_seen-mate.ensures.place ∙ ap (λ t. place code t mate.position) c.if-seen.true)).1 in
    let l = place_le code v.sound false mate.position (omega arith) in
    omega (arith, others, l)

pub returns-then-seen-clause-pair : goal.returns-then-seen-clause-pair
returns-then-seen-clause-pair g c =
    let code = code_of_view c.args.self.now in
    let mate = c.mated_of_seen-mate.result in
    let others = (others_before code true false mate.position mate.place (cc) (omega arith) (c.mated_of_seen-mate.ensures.place ∙ ap (λ t. place code t mate.position) c.if-seen.true)).1 in
    c.pair_round.ensures.pair ∙ round_at code false mate.position (mate.position - mate.place) others ∙ ap (enclosing_pair code false) c.mated_of_seen-mate.ensures.mate

pub returns-then-seen-2-clause-pair : goal.returns-then-seen-2-clause-pair
returns-then-seen-2-clause-pair g c =
    let v = c.args.self.now in
    let code = code_of_view v in
    let seen = c.requires.seen in
    let x = c.args.seen.place in
    let tree = c.if-seen.false in
    let is = c.parens-parens.ensures.parens in
    let opens : is_open (parens code false) x ≡ true = ap (λ t. is_open (parens code t) x) (sym tree) ∙ sym seen.first ∙ c.if-seen-2.true in
    ap Some (c.opens_before.ensures.opens ∙ ap (λ bits. rank true bits x) is)
    ∙ mate_of_open code v.sound false c.args.p x c.requires.within (sym seen.tree ∙ tree) (seen.place ∙ ap (λ t. place code t c.args.p) tree) opens

pub returns-clause-pair : goal.returns-clause-pair
returns-clause-pair g c =
    let v = c.args.self.now in
    let code = code_of_view v in
    let seen = c.requires.seen in
    let x = c.args.seen.place in
    let tree = c.if-seen.false in
    let closes : is_open (parens code false) x ≡ false = ap (λ t. is_open (parens code t) x) (sym tree) ∙ sym seen.first ∙ c.if-seen-2.false in
    c.pair_round-2.ensures.pair ∙ mate_of_closed code v.sound false c.args.p x c.requires.within (sym seen.tree ∙ tree) (seen.place ∙ ap (λ t. place code t c.args.p) tree) closes
