use Rattle.std.proofs.Common.{arith, ap}
use Rattle.bit_words.specs.WordView.{words_of}
use Rattle.bit_words.specs.PackedView.{fields_of}
use Rattle.file_laws.specs.Layout.{HeaderCounts, counts_in}
use Rattle.pemb_file.proofs.KindLaws.{counted}
use Rattle.pemb_file.proofs.Members.{wrong-member, right-members}
use Rattle.pemb_file.proofs.image.Image.check_members.Goals as goal

pub returns-then-field-self-clause-fault : goal.returns-then-field-self-clause-fault
returns-then-field-self-clause-fault g c =
    wrong-member (words_of c.args.self.now.words) (fields_of c.fields-members.result) _ c.loop-place.place c.fields-members.ensures.fields (ap (λ (h : HeaderCounts). h.regions) c.args.self.now.counts)
    (omega (arith, c.count-place-end.ensures)) c.loop-place.invariant.fine (omega (arith, c.field.ensures.field))

pub returns-then-field-self-clause-cost : goal.returns-then-field-self-clause-cost
returns-then-field-self-clause-cost g c =
    let k = counted (counts_in (words_of c.args.self.now.words)) in
    omega (arith, k.n25, c.fields-members.ensures.len, c.count-place-end.ensures, c.loop-place.invariant.cost, c.field.ensures.few_steps)

pub returns-clause-fault : goal.returns-clause-fault
returns-clause-fault g c =
    right-members (words_of c.args.self.now.words) (fields_of c.fields-members.result) _ c.fields-members.ensures.fields (ap (λ (h : HeaderCounts). h.regions) c.args.self.now.counts)
    (λ k l. c.loop-place.invariant.fine k (omega (arith, c.count-place-end.ensures)))

pub returns-clause-cost : goal.returns-clause-cost
returns-clause-cost g c =
    let k = counted (counts_in (words_of c.args.self.now.words)) in
    omega (arith, k.n25, c.fields-members.ensures.len, c.count-place-end.ensures, c.loop-place.invariant.cost)
