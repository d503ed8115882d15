use Rattle.std.proofs.Common.{◌≡◌, List, ℕ, sym, subst, IsTrue}
use Rattle.file_laws.specs.Layout.{words_of}
use Rattle.file_laws.specs.Held.{contents_of}
use Rattle.file_laws.specs.Lawful.{is_lawful}
use Rattle.pemb_file.specs.Form.{number_of}
use Rattle.pemb_file.specs.Header.{counts_of_header}
use Rattle.pemb_file.specs.Parts.{contents_of_parts}
use Rattle.pemb_file.proofs.MadeImage.{image_lawful, image_contents}
use Rattle.pemb_file.proofs.MadeBytes.{drafted, sealed_is}
use Rattle.pemb_file.proofs.NamesHeld.{all_named, known_form}
use Rattle.pemb_file.proofs.writing.draft_of.Goals as goal

pub invariant_of-result : goal.invariant_of-result
invariant_of-result c =
    let f = number_of c.args.form in
    record {
      right = drafted f (contents_of_parts c.args.parts.now) (counts_of_header c.header_of.result) c.in_ok-bytes.bytes.items c.push_sections.new.image.items
          c.header_of.ensures.counts c.in_ok-bytes.ensures (c.in_ok-push_sections.ensures f c.in_ok-names.ensures)
          (known_form c.args.form) c.requires.whole (all_named _ _ _ c.in_ok-names.ensures);
    }

pub returns-clause-file : goal.returns-clause-file
returns-clause-file c =
    let f = number_of c.args.form in
    sealed_is f (contents_of_parts c.args.parts.now) (counts_of_header c.header_of.result) c.in_ok-bytes.bytes.items c.push_sections.new.image.items
    c.header_of.ensures.counts c.in_ok-bytes.ensures (c.in_ok-push_sections.ensures f c.in_ok-names.ensures)

pub returns-clause-lawful : goal.returns-clause-lawful
returns-clause-lawful c =
    let f = number_of c.args.form in
    subst (λ (bytes : List ℕ). IsTrue (is_lawful bytes)) (sym (returns-clause-file c))
    (image_lawful f (known_form c.args.form) (contents_of_parts c.args.parts.now) c.requires.whole (all_named _ _ _ c.in_ok-names.ensures) (c.in_ok-push_sections.ensures f c.in_ok-names.ensures).fit)

pub returns-clause-contents : goal.returns-clause-contents
returns-clause-contents c =
    let f = number_of c.args.form in
    subst (λ (bytes : List ℕ). contents_of (words_of bytes) ≡ contents_of_parts c.args.parts.now) (sym (returns-clause-file c))
    (image_contents f (known_form c.args.form) (contents_of_parts c.args.parts.now) c.requires.whole (all_named _ _ _ c.in_ok-names.ensures) (c.in_ok-push_sections.ensures f c.in_ok-names.ensures).fit)
