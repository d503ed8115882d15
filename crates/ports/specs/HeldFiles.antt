-- Files that stand in a map from texts.
use Rattle.std.specs.Prelude.{ℕ, Vec, String, option_map}
use Rattle.std.specs.BTreeMap.{BTreeMap, get_by_text}
use Rattle.ports.specs.Outside.{Files}

-- the bytes of each name that is a key
abbrev pub files_of : {A B : Type 0} → BTreeMap (String A) (Vec ℕ B) → Files
files_of held name = option_map (λ bytes. bytes.items) (get_by_text held name)
