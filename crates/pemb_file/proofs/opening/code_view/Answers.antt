use Rattle.std.proofs.Common.{refl, ◌≡◌, true, ap, sym, ◌∙◌, subst}
use Rattle.bit_words.specs.WordView.{words_of as view_words}
use Rattle.rank_select.specs.Counts.{counts_of}
use Rattle.code_laws.specs.SeqFault.{is_sound}
use Rattle.file_laws.specs.Layout.{counts_in}
use Rattle.pemb_file.proofs.KindLaws.{directory-width, half_words}
use Rattle.pemb_file.proofs.CodeParts.{code-is}
use Rattle.pemb_file.proofs.Rights.{rights, tree_parens, dual_parens}
use Rattle.pemb_file.proofs.opening.code_view.Goals as goal

pub new-requires-clause-right : goal.new-requires-clause-right
new-requires-clause-right c =
    let r = rights (view_words c.args.image.now.words) c.args.image.now.size c.requires.directories in
    c.fields.ensures.fields ∙ r.a ∙ ap counts_of (sym c.bits.ensures.bits)

pub paren_view-requires : goal.paren_view-requires
paren_view-requires c = let r = rights (view_words c.args.image.now.words) c.args.image.now.size c.requires.directories in tree_parens (view_words c.args.image.now.words) r c.requires.sound

pub paren_view-requires-2 : goal.paren_view-requires-2
paren_view-requires-2 c = let r = rights (view_words c.args.image.now.words) c.args.image.now.size c.requires.directories in dual_parens (view_words c.args.image.now.words) r c.requires.sound

pub new-requires-2-clause-width : goal.new-requires-2-clause-width
new-requires-2-clause-width c = c.fields-2.ensures.width ∙ (half_words (counts_in (view_words c.args.image.now.words))).starts

pub new-requires-2-clause-sound : goal.new-requires-2-clause-sound
new-requires-2-clause-sound c =
    let e = code-is (view_words c.args.image.now.words) _ _ _ _ (c.new.ensures ∙ c.bits.ensures.bits) c.paren_view.ensures c.paren_view-2.ensures c.fields-2.ensures.fields in
    subst (λ code. is_sound code ≡ true) (sym e) c.requires.sound

pub returns : goal.returns
returns c =
    c.new-2.ensures ∙ code-is (view_words c.args.image.now.words) _ _ _ _ (c.new.ensures ∙ c.bits.ensures.bits) c.paren_view.ensures c.paren_view-2.ensures c.fields-2.ensures.fields

pub new-requires-clause-width : goal.new-requires-clause-width
new-requires-clause-width c = c.fields.ensures.width ∙ directory-width (counts_in (view_words c.args.image.now.words)) 2 refl
