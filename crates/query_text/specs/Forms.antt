-- The forms of queries: each has a word, and what stands behind it.
use Rattle.std.specs.Prelude.{ℕ, List, [], ◌∷◌, ◌++◌, Option, Some, None, option_map, option_and_then, codes, decimal}
use Rattle.std.specs.Fmt.{signed_decimal}
use Rattle.topo_base.specs.Script as script
use Rattle.topo_base.specs.Script.{words}
use Rattle.topo_base.specs.Spelling.{id_number, positive_number, signed_number}
use Rattle.query_text.specs.declared.form.Form.{Form}
use Rattle.query_text.specs.declared.form.Form.TheVariants.{Node, Ring, Next, Ends, Sides, Face, Adjacent, Contains, Islands, Regions, Common, Counts}

-- the word of a form
abbrev pub word_of : Form → List ℕ
word_of Node = codes "node"
word_of Ring = codes "ring"
word_of Next = codes "next"
word_of Ends = codes "ends"
word_of Sides = codes "sides"
word_of Face = codes "face"
word_of Adjacent = codes "adjacent"
word_of Contains = codes "contains"
word_of Islands = codes "islands"
word_of Regions = codes "regions"
word_of Common = codes "common"
word_of Counts = codes "counts"

-- each form once
abbrev pub all_forms : List Form
all_forms = Node ∷ Ring ∷ Next ∷ Ends ∷ Sides ∷ Face ∷ Adjacent ∷ Contains ∷ Islands ∷ Regions ∷ Common ∷ Counts ∷ []

-- the two faces that two pieces spell
abbrev pub two_faces : List (List ℕ) → Option script.Query
two_faces [] = None
two_faces (first ∷ []) = None
two_faces (first ∷ second ∷ []) = option_and_then (λ f. option_map (script.Common f) (id_number second)) (id_number first)
two_faces (first ∷ second ∷ third ∷ more) = None

-- the query of a form with this text behind its word and a space
abbrev pub form_query : Form → List ℕ → Option script.Query
form_query Node rest = option_map script.Node (positive_number rest)
form_query Ring rest = option_map script.Ring (signed_number rest)
form_query Next rest = option_map script.Next (signed_number rest)
form_query Ends rest = option_map script.Ends (signed_number rest)
form_query Sides rest = option_map script.Sides (signed_number rest)
form_query Face rest = option_map script.Face (id_number rest)
form_query Adjacent rest = option_map script.Adjacent (id_number rest)
form_query Contains rest = option_map script.Contains (positive_number rest)
form_query Islands rest = option_map script.Islands (id_number rest)
form_query Regions rest = option_map script.Regions (id_number rest)
form_query Common rest = two_faces (words rest)
form_query Counts rest = None

-- the query of a form with nothing behind its word
abbrev pub word_query : Form → Option script.Query
word_query Node = None
word_query Ring = None
word_query Next = None
word_query Ends = None
word_query Sides = None
word_query Face = None
word_query Adjacent = None
word_query Contains = None
word_query Islands = None
word_query Regions = None
word_query Common = None
word_query Counts = Some script.Counts

-- the form of a query
abbrev pub form_of : script.Query → Form
form_of (script.Node n) = Node
form_of (script.Ring d) = Ring
form_of (script.Next d) = Next
form_of (script.Ends d) = Ends
form_of (script.Sides d) = Sides
form_of (script.Face f) = Face
form_of (script.Adjacent f) = Adjacent
form_of (script.Contains n) = Contains
form_of (script.Islands f) = Islands
form_of (script.Regions f) = Regions
form_of (script.Common f g) = Common
form_of script.Counts = Counts

-- the text of a query behind its word
abbrev pub arguments_of : script.Query → List ℕ
arguments_of (script.Node n) = codes " " ++ decimal n
arguments_of (script.Ring d) = codes " " ++ signed_decimal d
arguments_of (script.Next d) = codes " " ++ signed_decimal d
arguments_of (script.Ends d) = codes " " ++ signed_decimal d
arguments_of (script.Sides d) = codes " " ++ signed_decimal d
arguments_of (script.Face f) = codes " " ++ decimal f
arguments_of (script.Adjacent f) = codes " " ++ decimal f
arguments_of (script.Contains n) = codes " " ++ decimal n
arguments_of (script.Islands f) = codes " " ++ decimal f
arguments_of (script.Regions f) = codes " " ++ decimal f
arguments_of (script.Common f g) = codes " " ++ decimal f ++ codes " " ++ decimal g
arguments_of script.Counts = []
