use Rattle.std.proofs.Common.{◌≡◌, ◌-◌, ap, sym, ◌∙◌, arith}
use Rattle.id_names.specs.Views.{names_in}
use Rattle.id_names.proofs.NameLaws.{length-ids}
use Rattle.id_names.proofs.view.NamesView.place_without_gaps.Goals as goal

pub returns-then-id-eq0 : goal.returns-then-id-eq0
returns-then-id-eq0 c = record {
  place = λ k h e. let at = c.requires.gapless k (omega (arith, h, length-ids (names_in c.args.self.now))) in omega (arith, at, e, h);
}

pub returns-then-id-count : goal.returns-then-id-count
returns-then-id-count c = record {
  place = λ k h e. let at = c.requires.gapless k (omega (arith, h, length-ids (names_in c.args.self.now))) in omega (arith, at, e, h, length-ids (names_in c.args.self.now));
}

pub returns : goal.returns
returns c =
    let l = length-ids (names_in c.args.self.now) in
    record {
      place = (omega (arith, l), c.requires.gapless (c.args.id - 1) (omega (arith, l)) ∙ omega arith);
    }
