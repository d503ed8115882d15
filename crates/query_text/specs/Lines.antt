-- What the queries of this crate say, in the words of the script's grammar.
use Rattle.std.specs.Prelude.{◌≡◌, ◌≢◌, ◌<◌, ◌≤◌, ℕ, List, Option, Some, None, slice_index}
use Rattle.topo_base.specs.Script as script
use Rattle.topo_base.specs.Script.{Line}
use Rattle.topo_base.specs.SignedEdge.{IsSignedEdge}
use Rattle.topo_base.specs.declared.id.TheConstants.{LARGEST_ID}
use Rattle.query_text.specs.declared.query.Query.{Query}
use Rattle.query_text.specs.declared.query.Query.TheVariants.{Blank, Bad, Long, Node, Ring, Next, Ends, Sides, Face, Adjacent, Contains, Islands, Regions, Common, Counts}

-- the line that a query stands for
abbrev pub line_of : Query → Line
line_of Blank = script.Blank
line_of Bad = script.Bad
line_of Long = script.Long
line_of (Node n) = script.Ask (script.Node n.0)
line_of (Ring d) = script.Ask (script.Ring d)
line_of (Next d) = script.Ask (script.Next d)
line_of (Ends d) = script.Ask (script.Ends d)
line_of (Sides d) = script.Ask (script.Sides d)
line_of (Face f) = script.Ask (script.Face f.0)
line_of (Adjacent f) = script.Ask (script.Adjacent f.0)
line_of (Contains n) = script.Ask (script.Contains n.0)
line_of (Islands f) = script.Ask (script.Islands f.0)
line_of (Regions f) = script.Ask (script.Regions f.0)
line_of (Common f g) = script.Ask (script.Common f.0 g.0)
line_of Counts = script.Ask script.Counts

-- the line that is read where nothing else is known of it
abbrev pub line_or_bad : Option Query → Line
line_or_bad None = script.Bad
line_or_bad (Some q) = line_of q

-- whether a line asks a query
abbrev pub IsAsk : Line → Type 0
IsAsk script.Long = ⊥
IsAsk script.Blank = ⊥
IsAsk (script.Ask q) = Unit {0}
IsAsk script.Bad = ⊥

-- what holds of the query that a line asks
abbrev pub IfAsk : Line → (script.Query → Type 0) → Type 0
IfAsk script.Long P = Unit {0}
IfAsk script.Blank P = Unit {0}
IfAsk (script.Ask q) P = P q
IfAsk script.Bad P = Unit {0}

-- ids from 1 to the greatest, from 0 for faces
abbrev pub HasIdsInRange : script.Query → Type 0
HasIdsInRange (script.Node n) = (1 ≤ n) × (n ≤ LARGEST_ID)
HasIdsInRange (script.Ring d) = IsSignedEdge d
HasIdsInRange (script.Next d) = IsSignedEdge d
HasIdsInRange (script.Ends d) = IsSignedEdge d
HasIdsInRange (script.Sides d) = IsSignedEdge d
HasIdsInRange (script.Face f) = f ≤ LARGEST_ID
HasIdsInRange (script.Adjacent f) = f ≤ LARGEST_ID
HasIdsInRange (script.Contains n) = (1 ≤ n) × (n ≤ LARGEST_ID)
HasIdsInRange (script.Islands f) = f ≤ LARGEST_ID
HasIdsInRange (script.Regions f) = f ≤ LARGEST_ID
HasIdsInRange (script.Common f g) = (f ≤ LARGEST_ID) × (g ≤ LARGEST_ID)
HasIdsInRange script.Counts = Unit {0}

-- these bytes are the text of the query that a line asks, whose ids are in range
abbrev pub IsText : Line → List ℕ → Type 0
IsText script.Long bytes = ⊥
IsText script.Blank bytes = ⊥
IsText (script.Ask q) bytes = HasIdsInRange q × (bytes ≡ script.text q)
IsText script.Bad bytes = ⊥

abbrev pub IsTextOf : Query → List ℕ → Type 0
IsTextOf query bytes = IsText (line_of query) bytes

-- the first of these bytes are no line feeds
abbrev pub HasNoFeed : ℕ → List ℕ → Type 0
HasNoFeed end bytes = (k : ℕ) → k < end → slice_index bytes k ≢ 10

-- numbers up to the greatest id
abbrev pub HasNumbersInRange : script.Item → Type 0
HasNumbersInRange (script.Signed_edge d) = IsSignedEdge d
HasNumbersInRange (script.Number n) = n ≤ LARGEST_ID
HasNumbersInRange (script.Island_node n) = n ≤ LARGEST_ID
