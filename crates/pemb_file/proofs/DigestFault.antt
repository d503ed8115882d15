-- The first byte of a digest that differs.
use Rattle.std.specs.Prelude.{not, slice_index, option_map}
use Rattle.std.proofs.Common.{◌≡◌, ◌≢◌, ℕ, ◌+◌, ◌<◌, List, length, take, drop, length-drop, ◌-◌, ap, sym, ◌∙◌, arith, Some, None, ◌==◌}
use Rattle.std.proofs.lemmas.Bool.{eq-eqb, ne_eqb}
use Rattle.std.proofs.Math.Seq.{take-length}
use Rattle.sha2.specs.Sha256.{sha256}
use Rattle.bit_words.proofs.Finds.{find-least, find-none}
use Rattle.file_laws.specs.Faults.{digest_fault}
use Rattle.file_laws.specs.declared.fault.FileFault.TheVariants as fault

-- the digest in the header and the right one are the same below a byte
abbrev pub SameBelow : List ℕ → List ℕ → ℕ → Type 0
SameBelow bytes digest n = (k : ℕ) → k < n → slice_index bytes (16 + k) ≡ slice_index digest k

pub digest-wrong : (bytes digest : List ℕ) (at : ℕ) → digest ≡ sha256 (drop 48 bytes) → at < 32 → SameBelow bytes digest at → slice_index bytes (16 + at) ≢ slice_index digest at → digest_fault bytes ≡ Some (fault.Digest at)
unfolding digest_fault
digest-wrong bytes digest at e l same other =
    rw (sym e) (ap (option_map fault.Digest) (find-least (λ i. not (slice_index bytes (16 + i) == slice_index digest i)) 0 32 at (record {
      from = omega arith;
      within = l;
      passes = ap not (ne_eqb _ _ other);
      before = λ q a b. ap not (eq-eqb _ _ (same q b));
    })))

pub digest-right : (bytes digest : List ℕ) → digest ≡ sha256 (drop 48 bytes) → SameBelow bytes digest 32 → digest_fault bytes ≡ None
unfolding digest_fault
digest-right bytes digest e same =
    rw (sym e) (ap (option_map fault.Digest) (find-none (λ i. not (slice_index bytes (16 + i) == slice_index digest i)) 0 32 (λ q a b. ap not (eq-eqb _ _ (same q (omega arith))))))

pub rest_digest : (bytes digest : List ℕ) → digest ≡ sha256 (take (length bytes - 48) (drop 48 bytes)) → digest ≡ sha256 (drop 48 bytes)
rest_digest bytes digest h = h ∙ ap (λ n. sha256 (take n (drop 48 bytes))) (sym (length-drop 48 bytes)) ∙ ap sha256 (take-length (drop 48 bytes))
