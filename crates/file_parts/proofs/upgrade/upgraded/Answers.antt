use Rattle.std.specs.Prelude.{IfOk, ℕ, List}
use Rattle.std.proofs.Common.{◌≡◌, subst}
use Rattle.file_laws.specs.Contents.{Contents}
use Rattle.file_laws.specs.Held.{contents_of}
use Rattle.file_laws.specs.Image.{image_of}
use Rattle.file_laws.specs.Layout.{words_of}
use Rattle.pemb_file.specs.Parts.{contents_of_parts}
use Rattle.file_parts.specs.Upgrade.{IsUpgradeOf}
use Rattle.file_parts.proofs.Upgrading.{form_if_ok, upgrade_if_ok}
use Rattle.file_parts.proofs.upgrade.upgraded.Goals as goal

pub returns-clause-image : goal.returns-clause-image
returns-clause-image g c = subst (λ (k : Contents). IfOk c.write_image.result (λ image. image.items ≡ image_of 2 k)) c.in_ok-parts.ensures.contents c.write_image.ensures.image

pub returns-clause-form : goal.returns-clause-form
returns-clause-form g c = form_if_ok (λ image. image.items) c.write_image.result (contents_of_parts c.in_ok-parts.parts) c.write_image.ensures.image

pub returns-clause-contents : goal.returns-clause-contents
returns-clause-contents g c = subst (λ (k : Contents). IfOk c.write_image.result (λ image. contents_of (words_of image.items) ≡ k)) c.in_ok-parts.ensures.contents c.write_image.ensures.contents

pub returns-clause-upgrade : goal.returns-clause-upgrade
returns-clause-upgrade g c =
    subst (λ (k : Contents). IfOk c.write_image.result (λ image. (old : List ℕ) → k ≡ contents_of (words_of old) → IsUpgradeOf old image.items)) c.in_ok-parts.ensures.contents
    (upgrade_if_ok (λ image. image.items) c.write_image.result (contents_of_parts c.in_ok-parts.parts) c.write_image.ensures.image c.write_image.ensures.lawful c.write_image.ensures.contents)
