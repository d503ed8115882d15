-- The image of form 2 of what an opened file holds is an upgrade of the bytes that it was opened from.
use Rattle.std.specs.Prelude.{IfOk, Result, Ok, Err, drop}
use Rattle.std.proofs.Common.{◌≡◌, ℕ, ◌+◌, ◌/◌, ◌≤◌, List, [], ◌∷◌, ◌++◌, length, IsTrue, refl, ap, sym, ◌∙◌, subst, arith, length-append}
use Rattle.byteorder.specs.Endian.{little_number}
use Rattle.sha2.specs.Sha256.{sha256}
use Rattle.bit_words.proofs.WordLists.{get_or-words_in}
use Rattle.plane_model.specs.PlaneMap.{Same}
use Rattle.plane_model.specs.Rows.{Rows}
use Rattle.file_laws.specs.Contents.{Contents}
use Rattle.file_laws.specs.Faults.{magic}
use Rattle.file_laws.specs.Held.{contents_of}
use Rattle.file_laws.specs.Image.{bytes_of, content_words, image_of}
use Rattle.file_laws.specs.Layout.{counts_in, words_of}
use Rattle.file_laws.specs.Lawful.{is_lawful, map_of_file}
use Rattle.file_laws.specs.MapOfFile.{rows_of_contents}
use Rattle.pemb_file.proofs.ImageBytes.{length-bytes_of}
use Rattle.file_parts.specs.Upgrade.{IsUpgradeOf}

second_word : (digest rest : List ℕ) → little_number 8 (drop 8 ((bytes_of (magic ∷ 2 ∷ []) ++ digest) ++ rest)) ≡ 2
unfolding bytes_of
second_word digest rest = refl

long_enough : (c : Contents) → 16 ≤ length (image_of 2 c)
unfolding image_of
long_enough c =
    let content = bytes_of (content_words 2 c) in
    let front = bytes_of (magic ∷ 2 ∷ []) in
    let all : length (image_of 2 c) ≡ length (front ++ sha256 content) + length content = length-append (front ++ sha256 content) content in
    let more = length-append front (sha256 content) in
    let head : length front ≡ 16 = length-bytes_of (magic ∷ 2 ∷ []) in
    omega (arith, all, more, head)

second_of_image : (c : Contents) → little_number 8 (drop 8 (image_of 2 c)) ≡ 2
unfolding image_of
second_of_image c = let content = bytes_of (content_words 2 c) in second_word (sha256 content) content

-- the form stands in the second word
pub form_is : (c : Contents) → (counts_in (words_of (image_of 2 c))).form ≡ 2
unfolding words_of
form_is c = get_or-words_in (length (image_of 2 c) / 8) (image_of 2 c) 1 0 (let l = long_enough c in omega (arith, l)) ∙ second_of_image c

pub upgrade_of : (c : Contents) (image old : List ℕ) → image ≡ image_of 2 c → IsTrue (is_lawful image) → contents_of (words_of image) ≡ c → c ≡ contents_of (words_of old) → IsUpgradeOf old image
unfolding map_of_file
upgrade_of c image old is lawful holds from =
    let same : map_of_file image ≡ map_of_file old = ap rows_of_contents (holds ∙ from) in
    record {
      is = is ∙ ap (image_of 2) from;
      form = ap (λ bytes. (counts_in (words_of bytes)).form) is ∙ form_is c;
      lawful = lawful;
      contents = holds ∙ from;
      map = same;
      stands = λ t h. subst (λ (rows : Rows). Same rows t) (sym same) h;
    }

-- the same of bytes that may not have been written
pub form_if_ok : {A E : Type 0} (items : A → List ℕ) (r : Result A E) (c : Contents) → IfOk r (λ v. items v ≡ image_of 2 c) → IfOk r (λ v. (counts_in (words_of (items v))).form ≡ 2)
form_if_ok items (Ok v) c is = ap (λ bytes. (counts_in (words_of bytes)).form) is ∙ form_is c
form_if_ok items (Err e) c is = is

pub upgrade_if_ok : {A E : Type 0} (items : A → List ℕ) (r : Result A E) (c : Contents) → IfOk r (λ v. items v ≡ image_of 2 c) → IfOk r (λ v. IsTrue (is_lawful (items v))) → IfOk r (λ v. contents_of (words_of (items v)) ≡ c)
    → IfOk r (λ v. (old : List ℕ) → c ≡ contents_of (words_of old) → IsUpgradeOf old (items v))
upgrade_if_ok items (Ok v) c is lawful holds = λ old from. upgrade_of c (items v) old is lawful holds from
upgrade_if_ok items (Err e) c is lawful holds = is
