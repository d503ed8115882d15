use Rattle.std.proofs.Common.{◌≡◌, ◌≢◌, ◌+◌, ◌-◌, true, false, ◌&&◌, get_or, ap, sym, ◌∙◌, subst, arith}
use Rattle.bit_words.specs.PackedView.{fields_of}
use Rattle.rank_select.specs.RankView.{counted}
use Rattle.id_names.specs.Inverse.{walk, back_from}
use Rattle.id_names.proofs.Walks.{mark_within, walk_past, walk_here, walk_jumps, walk_follows, clear_first, clear_second}
use Rattle.id_names.proofs.searches.Search.step.Goals as goal
use Rattle.id_names.proofs.searches.Search.step.Goals.{else-self-via-then-self+else-bit, else-self-via-else-self}

pub returns-then-self-count-clause-found : goal.returns-then-self-count-clause-found
returns-then-self-count-clause-found g c = λ tests.
    let v = c.args.inverse.now in
    let s = c.args.self.now in
    rw c.in-UnderWay.is (sym (walk_past (fields_of v.places) (counted v.marks) (fields_of v.back) s.place (tests + 1) s.number s.may_jump (omega (arith, c.count.ensures, c.if-self-count.true))))

pub returns-then-next-self-clause-found : goal.returns-then-next-self-clause-found
returns-then-next-self-clause-found g c = λ tests.
    let v = c.args.inverse.now in
    let s = c.args.self.now in
    rw c.in-UnderWay.is (sym (walk_here (fields_of v.places) (counted v.marks) (fields_of v.back) s.place (tests + 1) s.number s.may_jump (omega arith) (omega (arith, c.count.ensures, c.if-self-count.false)) (sym c.field-next.ensures.field ∙ c.if-next-self.true)))

pub field-requires : goal.field-requires
field-requires g c =
    let marks = counted c.args.inverse.now.marks in
    let x = c.args.self.now.number in
    let set : get_or marks x false ≡ true = subst (λ bits. get_or bits x false ≡ true) c.bits.ensures.bits (sym c.bit.ensures.bit ∙ c.if-bit.true) in
    omega (arith, mark_within marks x (omega (arith, c.args.inverse.now.size, c.count.ensures, c.if-self-count.false)) set, c.args.inverse.now.ones, c.rank1-mark.ensures.rank)

pub returns-then-bit-clause-found : goal.returns-then-bit-clause-found
returns-then-bit-clause-found g c = λ tests.
    let v = c.args.inverse.now in
    let s = c.args.self.now in
    let marks = counted v.marks in
    let back = fields_of v.back in
    let set : get_or marks s.number false ≡ true = subst (λ bits. get_or bits s.number false ≡ true) c.bits.ensures.bits (sym c.bit.ensures.bit ∙ c.if-bit.true) in
    let to : c.field.result ≡ back_from marks back s.number = c.field.ensures.field ∙ ap (λ k. get_or back k 0) c.rank1-mark.ensures.rank in
    let other : get_or (fields_of v.places) s.number 0 ≢ s.place = λ e. c.if-next-self.false (c.field-next.ensures.field ∙ e) in
    let later : tests + 1 - 1 ≡ tests = omega arith in
    let jumps = walk_jumps (fields_of v.places) marks back s.place (tests + 1) s.number (omega arith) (omega (arith, c.count.ensures, c.if-self-count.false)) other set in
    rw c.in-UnderWay.is (rw c.if-self.true (rw to (sym (jumps ∙ ap (λ n. walk (fields_of v.places) marks back s.place n false (back_from marks back s.number)) later))))

pub returns-clause-found : goal.returns-clause-found
returns-clause-found g c = λ tests.
    let v = c.args.inverse.now in
    let s = c.args.self.now in
    let marks = counted v.marks in
    let back = fields_of v.back in
    let other : get_or (fields_of v.places) s.number 0 ≢ s.place = λ e. c.if-next-self.false (c.field-next.ensures.field ∙ e) in
    let later : tests + 1 - 1 ≡ tests = omega arith in
    let stays : (s.may_jump && get_or marks s.number false) ≡ false =
    elim c.else-self.branch [
      | else-self-via-then-self+else-bit b ↦ clear_second s.may_jump (get_or marks s.number false) (subst (λ bits. get_or bits s.number false ≡ false) b.bits.ensures.bits (sym b.bit.ensures.bit ∙ b.if-bit.false))
      | else-self-via-else-self b ↦ clear_first s.may_jump (get_or marks s.number false) b.if-self.false
    ] in
    let follows = walk_follows (fields_of v.places) marks back s.place (tests + 1) s.number s.may_jump (omega arith) (omega (arith, c.count.ensures, c.if-self-count.false)) other stays in
    rw c.in-UnderWay.is (rw c.field-next.ensures.field (sym (follows ∙ ap (λ n. walk (fields_of v.places) marks back s.place n s.may_jump (get_or (fields_of v.places) s.number 0)) later)))
