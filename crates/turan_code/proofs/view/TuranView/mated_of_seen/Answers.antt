use Rattle.std.proofs.Common.{◌≡◌, if◌then◌else◌, ap, sym, ◌∙◌}
use Rattle.parens.specs.Matching.{mate_of}
use Rattle.code_laws.specs.Code.{parens}
use Rattle.turan_code.specs.TuranView.{code_of_view}
use Rattle.turan_code.proofs.Views.{mate_found, mate_there}
use Rattle.turan_code.proofs.view.TuranView.mated_of_seen.Goals as goal
use Rattle.turan_code.proofs.view.TuranView.mated_of_seen.Goals.{then-seen, else-seen}

pub unreachable-requires : goal.unreachable-requires
unreachable-requires g c =
    let v = c.args.self.now in
    let code = code_of_view v in
    let seen = c.requires.seen in
    let mate : c.if-seen.place ≡ mate_of (parens code c.args.seen.tree) c.args.seen.place = elim c.if-seen.branch [
      | then-seen w ↦ w.place-is ∙ w.mate-place.ensures.mate ∙ ap (λ bits. mate_of bits c.args.seen.place) w.parens.ensures.parens
      | else-seen w ↦ w.place-is ∙ seen.opening ∙ ap (λ t. if t then c.args.seen.place else mate_of (parens code c.args.seen.tree) c.args.seen.place) (sym seen.first ∙ w.if-seen.false)
    ] in
    mate_there code v.sound c.args.seen.tree c.args.p c.args.seen.place c.if-seen.place c.requires.within (sym seen.tree) seen.place mate (sym c.in-None.is ∙ c.position_near.ensures.position)

pub returns-clause-mate : goal.returns-clause-mate
returns-clause-mate g c =
    let v = c.args.self.now in
    let code = code_of_view v in
    let seen = c.requires.seen in
    let mate : c.if-seen.place ≡ mate_of (parens code c.args.seen.tree) c.args.seen.place = elim c.if-seen.branch [
      | then-seen w ↦ w.place-is ∙ w.mate-place.ensures.mate ∙ ap (λ bits. mate_of bits c.args.seen.place) w.parens.ensures.parens
      | else-seen w ↦ w.place-is ∙ seen.opening ∙ ap (λ t. if t then c.args.seen.place else mate_of (parens code c.args.seen.tree) c.args.seen.place) (sym seen.first ∙ w.if-seen.false)
    ] in
    mate_found code v.sound c.args.seen.tree c.args.p c.in-Some.position c.args.seen.place c.if-seen.place (sym seen.tree) seen.place mate (sym c.in-Some.is ∙ c.position_near.ensures.position)
