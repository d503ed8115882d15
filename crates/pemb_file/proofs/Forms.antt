-- The form of a number, and the fault where there is none.
use Rattle.std.specs.Prelude.{◌||◌}
use Rattle.std.proofs.Common.{◌≡◌, ℕ, ◌==◌, inl, inr, refl, Some, None}
use Rattle.std.proofs.lemmas.Bool.{cases_Bool, eqb-true}
use Rattle.file_laws.specs.Faults.{unless}
use Rattle.file_laws.specs.declared.fault.FileFault.{FileFault}
use Rattle.pemb_file.specs.Form.{number_of, form_of}
use Rattle.pemb_file.specs.declared.form.Form.{Form}

pub form-number : (n : ℕ) (f : Form) → form_of n ≡ Some f → number_of f ≡ n
form-number n f h =
    elim (cases_Bool (n == 1)) [
      | inl a ↦ let e = eqb-true n 1 a in (let k = rw a at h in cc)
      | inr b ↦ elim (cases_Bool (n == 2)) [
        | inl d ↦ let e = eqb-true n 2 d in cc
        | inr i ↦ let none : form_of n ≡ None = rw (b, i) refl in cc
      ]
    ]

pub form-known : (n : ℕ) (f : Form) (e : FileFault) → form_of n ≡ Some f → unless ((n == 1) || (n == 2)) e ≡ None
form-known n f e h =
    elim (cases_Bool (n == 1)) [
      | inl a ↦ rw a refl
      | inr b ↦ elim (cases_Bool (n == 2)) [
        | inl d ↦ rw (b, d) refl
        | inr i ↦ let none : form_of n ≡ None = rw (b, i) refl in cc
      ]
    ]

pub form-unknown : (n : ℕ) (e : FileFault) → form_of n ≡ None → unless ((n == 1) || (n == 2)) e ≡ Some e
form-unknown n e h =
    elim (cases_Bool (n == 1)) [
      | inl a ↦ (let k = rw a at h in cc)
      | inr b ↦ elim (cases_Bool (n == 2)) [
        | inl d ↦ (let k = rw (b, d) at h in cc)
        | inr i ↦ rw (b, i) refl
      ]
    ]
