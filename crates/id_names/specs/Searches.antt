-- Searches for the numbers of several places, side by side.
use Rattle.std.specs.Prelude.{ℕ, ◌+◌, if◌then◌else◌, List, [], ◌∷◌, Option, None, Some}
use Rattle.bit_words.specs.PackedView.{fields_of}
use Rattle.rank_select.specs.RankView.{counted}
use Rattle.id_names.specs.Inverse.{walk}
use Rattle.id_names.specs.PartViews.{number_in}
use Rattle.id_names.specs.declared.inverse.Inverse.{Inverse}
use Rattle.id_names.specs.declared.searches.Search.{Search}
use Rattle.id_names.specs.declared.searches.Searches.{Searches}
use Rattle.id_names.specs.declared.searches.State.{State}
use Rattle.id_names.specs.declared.searches.State.TheVariants.{UnderWay, Found, Missing}

-- the number of a place, where there is a place
abbrev pub number_for : Inverse → Option ℕ → Option ℕ
number_for v None = None
number_for v (Some place) = number_in v place

-- what a search that stands at a number comes to, where the rest of its walk comes to this
abbrev pub comes_to : State → ℕ → Option ℕ → Option ℕ
comes_to UnderWay number rest = rest
comes_to Found number rest = Some number
comes_to Missing number rest = None

-- what a search comes to by so many tests more
abbrev pub found_within : Inverse → ℕ → Search → Option ℕ
found_within v tests s = comes_to s.state s.number (walk (fields_of v.places) (counted v.marks) (fields_of v.back) s.place tests s.may_jump s.number)

-- what its jump may still cost
abbrev pub jump_left : Search → ℕ
jump_left s = if s.may_jump then 11 else 0

-- what four searches come to by so many tests more
abbrev pub each_within : Inverse → ℕ → Searches → List (Option ℕ)
each_within v tests s = found_within v tests s.first ∷ found_within v tests s.second ∷ found_within v tests s.third ∷ found_within v tests s.fourth ∷ []

-- what their jumps may still cost
abbrev pub jumps_left : Searches → ℕ
jumps_left s = jump_left s.first + jump_left s.second + jump_left s.third + jump_left s.fourth
