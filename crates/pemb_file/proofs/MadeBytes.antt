-- What is written is the image of the contents.
use Rattle.std.specs.Prelude.{flat_map}
use Rattle.std.proofs.Common.{◌≡◌, ◌==◌, ◌||◌, ℕ, ◌≤◌, List, [], ◌∷◌, ◌++◌, IsTrue, length, take, drop, refl, ap, sym, subst, ◌∙◌, arith, append_assoc, length-append}
use Rattle.std.proofs.Math.Seq.{take-append_seam, drop-append_seam}
use Rattle.sha2.specs.Sha256.{sha256}
use Rattle.file_laws.specs.Layout.{HeaderCounts, words_of}
use Rattle.file_laws.specs.Held.{contents_of}
use Rattle.file_laws.specs.Lawful.{is_lawful, is_whole}
use Rattle.file_laws.specs.Contents.{Contents}
use Rattle.file_laws.specs.Faults.{magic}
use Rattle.file_laws.specs.Image.{counts_of_contents, content_words, filled, words_of_filled, bytes_of, image_of}
use Rattle.pemb_file.specs.Written.{Written, blank_header}
use Rattle.pemb_file.specs.Sealed.{IsDraft, LacksOnlyDigest, sealed}
use Rattle.pemb_file.proofs.MadeCounts.{AllNamed}
use Rattle.pemb_file.proofs.MadeImage.{contents_held, image_contents, image_lawful, image_with, only_digest}
use Rattle.pemb_file.proofs.ImageBytes.{length-bytes_of, bytes_of-append}

abbrev head : ℕ → List ℕ
head form = magic ∷ form ∷ []

abbrev blank : List ℕ
blank = 0 ∷ 0 ∷ 0 ∷ 0 ∷ []

all_words : (form : ℕ) (c : Contents) → blank_header (counts_of_contents form c) ++ flat_map words_of_filled (filled form c) ≡ head form ++ (blank ++ content_words form c)
all_words form c = refl

seal_same : (t d head content : List ℕ) → t ≡ head → d ≡ content → t ++ sha256 d ++ d ≡ head ++ sha256 content ++ content
seal_same t d head content e f = cc

module _ (form : ℕ) (c : Contents) (h : HeaderCounts) (start grown : List ℕ) (counts : h ≡ counts_of_contents form c) (begun : start ≡ bytes_of (blank_header h)) (written : Written start grown (filled form c)) where
  grown_is : grown ≡ bytes_of (head form) ++ (bytes_of blank ++ bytes_of (content_words form c))
  grown_is =
      let F = flat_map words_of_filled (filled form c) in
      written.bytes ∙ ap (λ s. s ++ bytes_of F) (begun ∙ ap (λ k. bytes_of (blank_header k)) counts)
      ∙ sym (bytes_of-append (blank_header (counts_of_contents form c)) F) ∙ ap bytes_of (all_words form c)
      ∙ bytes_of-append (head form) (blank ++ content_words form c) ∙ ap (λ bs. bytes_of (head form) ++ bs) (bytes_of-append blank (content_words form c))

  head_len : length (bytes_of (head form)) ≡ 16
  head_len = length-bytes_of (head form)

  blank_len : length (bytes_of blank) ≡ 32
  blank_len = length-bytes_of blank

  pub long : 48 ≤ length grown
  long =
      let e = ap length grown_is in
      let a = length-append (bytes_of (head form)) (bytes_of blank ++ bytes_of (content_words form c)) in
      let b = length-append (bytes_of blank) (bytes_of (content_words form c)) in
      let l = head_len in
      let m = blank_len in
      omega (arith, e, a, b, l, m)

  front : take 16 grown ≡ bytes_of (head form)
  front =
      ap (take 16) grown_is ∙ ap (λ n. take n (bytes_of (head form) ++ (bytes_of blank ++ bytes_of (content_words form c)))) (sym head_len)
      ∙ take-append_seam (bytes_of (head form)) (bytes_of blank ++ bytes_of (content_words form c))

  rest : drop 48 grown ≡ bytes_of (content_words form c)
  rest =
      let l : 48 ≡ length (bytes_of (head form) ++ bytes_of blank) = let e = length-append (bytes_of (head form)) (bytes_of blank) in let a = head_len in let b = blank_len in omega (arith, e, a, b) in
      ap (drop 48) (grown_is ∙ sym (append_assoc (bytes_of (head form)) (bytes_of blank) (bytes_of (content_words form c))))
      ∙ ap (λ n. drop n ((bytes_of (head form) ++ bytes_of blank) ++ bytes_of (content_words form c))) l
      ∙ drop-append_seam (bytes_of (head form) ++ bytes_of blank) (bytes_of (content_words form c))

  pub sealed_is : sealed grown ≡ image_of form c
  unfolding image_of
  sealed_is = seal_same (take 16 grown) (drop 48 grown) (bytes_of (head form)) (bytes_of (content_words form c)) front rest

  -- until then it is the bytes of the contents with zeros in the place of the digest
  pub unsealed_is : grown ≡ image_with (bytes_of blank) form c
  unsealed_is = grown_is ∙ sym (append_assoc (bytes_of (head form)) (bytes_of blank) (bytes_of (content_words form c)))

  pub drafted : IsTrue ((form == 1) || (form == 2)) → IsTrue (is_whole c) → AllNamed form c → IsDraft grown
  drafted known whole named =
      record {
        long = long;
        only_digest = subst LacksOnlyDigest (sym unsealed_is) (only_digest (bytes_of blank) blank_len form known c whole named written.fit);
        lawful = subst (λ (bytes : List ℕ). IsTrue (is_lawful bytes)) (sym sealed_is) (image_lawful form known c whole named written.fit);
        same =
            ap (λ (bytes : List ℕ). contents_of (words_of bytes)) sealed_is ∙ image_contents form known c whole named written.fit
            ∙ sym (ap (λ (bytes : List ℕ). contents_of (words_of bytes)) unsealed_is ∙ contents_held (bytes_of blank) blank_len form known c whole named written.fit);
      }
