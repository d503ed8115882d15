use Rattle.std.proofs.Common.{refl, sym, inl, inr}
use Rattle.bit_words.specs.PackedView.{fields_of}
use Rattle.rank_select.specs.RankView.{counted}
use Rattle.id_names.proofs.Walks.{walk_ends}
use Rattle.id_names.proofs.searches.Search.found.Goals as goal

pub returns-in-UnderWay : goal.returns-in-UnderWay
returns-in-UnderWay c = λ v.
    let s = c.args.self.now in
    elim c.in-UnderWay.is [
      | inl under_way ↦ rw under_way (sym (walk_ends (fields_of v.places) (counted v.marks) (fields_of v.back) s.place 0 s.number s.may_jump refl))
      | inr missing ↦ rw missing refl
    ]
