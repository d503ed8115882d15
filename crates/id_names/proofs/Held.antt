-- Words that a maker of packed numbers gives.
use Rattle.std.proofs.Common.{◌≡◌, ℕ, List, length, subst}
use Rattle.bit_words.specs.Bits.{fields_in}
use Rattle.bit_words.specs.Packed.{PackedList, Packs}
use Rattle.id_names.specs.Making.{HoldsFields}

-- where the maker holds these numbers, the words do
pub held : (words : List ℕ) (width : ℕ) (items : List ℕ) (m : PackedList) → m ≡ record { width = width; items = items } → Packs words (length m.items) m.width → fields_in words (length m.items) m.width ≡ m.items → HoldsFields words width items
held words width items m e packs fields =
    let P : PackedList → Type 0 = λ m. Packs words (length m.items) m.width in
    let F : PackedList → Type 0 = λ m. fields_in words (length m.items) m.width ≡ m.items in
    record { packs = subst P e packs; fields = subst F e fields }
