-- The forms of a file by their numbers.
use Rattle.std.specs.Prelude.{ℕ, ◌==◌, if◌then◌else◌, Option, Some, None}
use Rattle.pemb_file.specs.declared.form.Form.{Form}
use Rattle.pemb_file.specs.declared.form.Form.TheVariants.{One, Two}

-- the number of a form, which is the second word of its files
abbrev pub number_of : Form → ℕ
number_of One = 1
number_of Two = 2

-- the form of a number, where there is one
abbrev pub form_of : ℕ → Option Form
form_of number = if number == 1 then Some One else if number == 2 then Some Two else None
