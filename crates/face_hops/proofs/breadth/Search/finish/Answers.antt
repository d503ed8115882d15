use Rattle.std.specs.Prelude.{slice_index}
use Rattle.std.proofs.Common.{arith, ◌∙◌, ap, sym, subst, ◌≡◌, ◌≤◌, ◌+◌, ℕ, suc, [], ◌∷◌, length, refl}
use Rattle.scratch_region.specs.Numbers.{numbers_of}
use Rattle.file_laws.specs.Contents.{Contents}
use Rattle.file_laws.specs.MapOfFile.{face_at_place}
use Rattle.pemb_file.specs.Served.{contents_of_view}
use Rattle.face_hops.specs.Distances.{AreDistances}
use Rattle.face_hops.specs.Prices.{rounds_price, search_price}
use Rattle.face_hops.specs.Search.{IsSearch}
use Rattle.face_hops.proofs.MapFacts.{beside-sym, beside-known, place_one, known_place, as_many}
use Rattle.face_hops.proofs.Searching.{firsts, tail_few, finish}
use Rattle.face_hops.proofs.Paid.{firsts-same, rounds_more, searched_few}
use Rattle.face_hops.proofs.breadth.Search.finish.Goals as goal

pub loop-self-init : goal.loop-self-init
loop-self-init g c = record { served = refl; from = refl; searching = c.requires; grows = omega arith; paid = omega arith }

pub loop-self-smaller : goal.loop-self-smaller
loop-self-smaller g c =
    let v = c.loop-self.self in
    let m = contents_of_view v.served in
    let i = c.loop-self.invariant in
    let few = tail_few m v.from (beside-sym m v.served.whole) (slice_index (numbers_of v.numbers)) (slice_index (numbers_of v.queue)) v.head v.tail i.searching.search in
    let many = ap (λ (x : Contents). length x.faces) (ap contents_of_view i.served) in
    omega (arith, few, many, c.go_round.ensures.head)

pub loop-self-preserved : goal.loop-self-preserved
loop-self-preserved g c =
    let v = c.loop-self.self in
    let i = c.loop-self.invariant in
    let m = contents_of_view c.args.self.served in
    let old = λ (k : ℕ). face_at_place m (slice_index (numbers_of v.queue) k) in
    let new = λ (k : ℕ). face_at_place m (slice_index (numbers_of c.go_round.new.self.queue) k) in
    let next : c.go_round.new.self.head ≡ suc v.head = c.go_round.ensures.head ∙ omega arith in
    let is : firsts new c.go_round.new.self.head ≡ firsts old (suc v.head)
    = ap (firsts new) next ∙ firsts-same new old (suc v.head) (λ k l. ap (face_at_place m) (c.go_round.ensures.kept k (omega (arith, l)))) in
    let round : c.go_round.new.steps ≤ c.loop-self.steps + rounds_price m (old v.head ∷ [])
    = subst (λ (x : Contents). c.go_round.new.steps ≤ c.loop-self.steps + rounds_price x (face_at_place x (slice_index (numbers_of v.queue) v.head) ∷ [])) (ap contents_of_view i.served) c.go_round.ensures.paid in
    record {
      served = c.go_round.ensures.served ∙ i.served;
      from = c.go_round.ensures.from ∙ i.from;
      searching = c.go_round.ensures.searching;
      grows = omega (arith, i.grows, c.go_round.ensures.grows);
      paid = subst (λ xs. c.go_round.new.steps ≤ c.args.steps.now + rounds_price m xs) (sym is) (rounds_more m (old v.head) (firsts old v.head) c.loop-self.steps c.go_round.new.steps c.args.steps.now i.paid round);
    }

pub returns-clause-distances : goal.returns-clause-distances
returns-clause-distances g c =
    let v = c.loop-self.self in
    let m = contents_of_view v.served in
    let i = c.loop-self.invariant in
    let s = i.searching in
    let h = v.served.whole in
    let ds = numbers_of v.numbers in
    let number = slice_index ds in
    let queue = slice_index (numbers_of v.queue) in
    let within = s.search.within in
    let head_is : v.head ≡ v.tail = omega (arith, within) in
    let done : IsSearch m v.from number queue v.tail v.tail = subst (λ k. IsSearch m v.from number queue k v.tail) head_is s.search in
    let few = tail_few m v.from (beside-sym m h) number queue v.head v.tail s.search in
    let all : AreDistances m v.from ds
    = record { long = s.numbers_long; each = λ p l. finish m v.from (beside-sym m h) (place_one m h) (known_place m h) (beside-known m h) (as_many m h) s.from_in number queue v.tail p few done l } in
    subst (λ (x : Contents). AreDistances x c.args.self.from ds) (ap contents_of_view i.served) (subst (λ x. AreDistances m x ds) i.from all)

pub returns-clause-paid : goal.returns-clause-paid
returns-clause-paid g c =
    let v = c.loop-self.self in
    let m = contents_of_view v.served in
    let i = c.loop-self.invariant in
    let s = i.searching in
    let h = v.served.whole in
    let number = slice_index (numbers_of v.numbers) in
    let queue = slice_index (numbers_of v.queue) in
    let same = ap contents_of_view i.served in
    let few = tail_few m v.from (beside-sym m h) number queue v.head v.tail s.search in
    let paid : c.loop-self.steps ≤ c.args.steps.now + rounds_price m (firsts (λ k. face_at_place m (queue k)) v.head)
    = subst (λ (x : Contents). c.loop-self.steps ≤ c.args.steps.now + rounds_price x (firsts (λ k. face_at_place x (queue k)) v.head)) (sym same) i.paid in
    subst (λ (x : Contents). c.loop-self.steps ≤ c.args.steps.now + search_price x) same (searched_few m h v.from number queue v.head v.tail c.args.steps.now c.loop-self.steps s.search few paid)
