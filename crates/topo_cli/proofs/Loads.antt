-- What was read of a table, where the files are told.
use Rattle.std.proofs.Common.{◌≡◌, ℕ, ◌≤◌, List, [], length, Option, Some, None, Result, Ok, Err, refl, sym, ap, subst, ◌∙◌, IfSome, IfErr, IsErrAnd, IsTrue}
use Rattle.std.proofs.lemmas.Bool.{lt-ltb, le-ltb}
use Rattle.ports.specs.Outside.{Files, IsNotHeld}
use Rattle.topo_base.specs.declared.refusal.Refusal.{Refusal}
use Rattle.topo_csv.specs.declared.fault.CsvFault.{CsvFault}
use Rattle.topo_csv.specs.declared.fault.CsvFault.TheVariants as csv
use Rattle.topo_csv.specs.Fault.{IsFault}
use Rattle.topo_cli.specs.Limits.{most_bytes}
use Rattle.topo_cli.specs.Files.{IsWhole}
use Rattle.topo_cli.specs.Tables.{◌>>=◌, Ending, optional_table, table, read_by, read_or_missing, read_or_none, or_refused, loaded, checked, served, opened, opened_or_missing, unless_unlawful}
use Rattle.topo_cli.specs.Words.{node_table, edge_table, face_table, region_table, member_table}
use Rattle.plane_model.specs.Rows.{Rows}
use Rattle.plane_model.specs.InRange.{is_in_range}
use Rattle.plane_model.specs.Consistent.{is_consistent}
use Rattle.plane_model.specs.Faults.{first_fault}
use Rattle.plane_model.proofs.AllFaults.{None_from, none-first_fault}
use Rattle.plane_model.specs.declared.rows.NodeRow.{NodeRow}
use Rattle.plane_model.specs.declared.rows.EdgeRow.{EdgeRow}
use Rattle.plane_model.specs.declared.rows.FaceRow.{FaceRow}
use Rattle.plane_model.specs.declared.rows.RegionRow.{RegionRow}
use Rattle.plane_model.specs.declared.rows.MemberRow.{MemberRow}
use Rattle.plane_model.specs.Reading.{node_rows, edge_rows, face_rows, region_rows, member_rows}
use Rattle.topo_cli.specs.Loading.{Builds, IsMet, IsSameBuild, IsMetWhereTold, IsStopped, IsSame, MissesNothing, NamesOnly}
use Rattle.map_build.specs.BuildFaults.{Names as NamesFault}
use Rattle.map_build.specs.declared.fault.BuildFault.{BuildFault}
use Rattle.map_build.specs.declared.fault.BuildFault.TheVariants as build
use Rattle.topo_cli.specs.Outcome.{IsImageOf}
use Rattle.file_laws.specs.Lawful.{first_fault as file_fault, map_of_file}
use Rattle.file_laws.specs.declared.fault.FileFault.{FileFault}
use Rattle.topo_cli.specs.declared.load.LoadFault.{LoadFault}
use Rattle.topo_cli.specs.declared.load.LoadFault.TheVariants as fault

-- bytes within the limit are read
within : {A : Type 0} (read : List ℕ → Result A Refusal) (bytes : List ℕ) → length bytes ≤ most_bytes → read_by read bytes ≡ or_refused (read bytes)
within read bytes h = rw (le-ltb most_bytes (length bytes) h) refl

held : {A : Type 0} (read : List ℕ → Result A Refusal) (files : Files) (name bytes : List ℕ) → files name ≡ Some bytes → length bytes ≤ most_bytes → table read files name ≡ or_refused (read bytes)
unfolding table
held read files name bytes is h = ap (read_or_missing read name) is ∙ within read bytes h

pub table_rows : {R : Type 0} (read : List ℕ → Result (List R) Refusal) (files : Option Files) (name bytes : List ℕ) (rows : List R)
    → IsWhole files name bytes → length bytes ≤ most_bytes → read bytes ≡ Ok rows → IfSome files (λ f. table read f name ≡ Ok rows)
table_rows read None name bytes rows whole h is = tt
table_rows read (Some files) name bytes rows whole h is = held read files name bytes whole h ∙ ap or_refused is

pub table_refused : {R : Type 0} (read : List ℕ → Result (List R) Refusal) (files : Option Files) (name bytes : List ℕ) (why : CsvFault) (e : LoadFault)
    → IsWhole files name bytes → length bytes ≤ most_bytes → IsFault why (read bytes) → IsSame why e → IsMetWhereTold files (λ f. table read f name) e
table_refused read None name bytes why e whole h is same = tt
table_refused read (Some files) name bytes (csv.Refused r) e whole h is same = rw same (held read files name bytes whole h ∙ ap or_refused is)
table_refused read (Some files) name bytes csv.Memory e whole h is same = rw same tt

pub table_stopped : {R : Type 0} (read : List ℕ → Result (List R) Refusal) (files : Option Files) (name : List ℕ) (e : LoadFault)
    → IsStopped files name e → NamesOnly name e → IsMetWhereTold files (λ f. table read f name) e
unfolding table
table_stopped read None name e stopped named = tt
table_stopped read (Some files) name (fault.Missing said) stopped named = ap (read_or_missing read name) stopped ∙ ap (λ n. Err (Ending.Missing n)) (sym named)
table_stopped read (Some files) name fault.ReadFault stopped named = tt
table_stopped read (Some files) name fault.TooLong stopped named = ap (read_or_missing read name) stopped.1 ∙ rw (lt-ltb most_bytes (length stopped.0) stopped.2) refl
table_stopped read (Some files) name (fault.Refused r) stopped named = absurd stopped
table_stopped read (Some files) name (fault.Unlawful g) stopped named = absurd stopped
table_stopped read (Some files) name fault.Memory stopped named = tt

-- what holds of the error that there is
pub err_and : {T E : Type 0} (r : Result T E) (P Q : E → Type 0) → IsErrAnd r P → ((e : E) → P e → Q e) → IfErr r Q
err_and (Ok x) P Q is each = absurd is
err_and (Err e) P Q is each = each e is

-- what holds of the value that there is
pub of_some : {A : Type 0} (o : Option A) (x : A) (P : A → Type 0) → o ≡ Some x → IfSome o P → P x
of_some {A = A} o x P is h = let Q : Option A → Type 0 = λ p. IfSome p P in subst Q is h

-- the same where the name and the bytes were handed on
pub rows_at : {R : Type 0} (read : List ℕ → Result (List R) Refusal) (files : Option Files) (said name bytes seen : List ℕ) (rows : List R)
    → said ≡ name → seen ≡ bytes → IsWhole files said bytes → length bytes ≤ most_bytes → read seen ≡ Ok rows → IfSome files (λ f. table read f name ≡ Ok rows)
rows_at read files said name bytes seen rows named same whole h is =
    let P : List ℕ → Type 0 = λ n. IsWhole files n bytes in
    table_rows read files name bytes rows (subst P named whole) h (ap read (sym same) ∙ is)

pub refused_at : {R : Type 0} (read : List ℕ → Result (List R) Refusal) (files : Option Files) (said name bytes seen : List ℕ) (why : CsvFault) (e : LoadFault)
    → said ≡ name → seen ≡ bytes → IsWhole files said bytes → length bytes ≤ most_bytes → IsFault why (read seen) → IsSame why e → IsMetWhereTold files (λ f. table read f name) e
refused_at read files said name bytes seen why e named seen_is whole h is same =
    let P : List ℕ → Type 0 = λ n. IsWhole files n bytes in
    let Q : List ℕ → Type 0 = λ n. IsFault why (read n) in
    table_refused read files name bytes why e (subst P named whole) h (subst Q seen_is is) same

pub stopped_at : {R : Type 0} (read : List ℕ → Result (List R) Refusal) (files : Option Files) (said name : List ℕ) (e : LoadFault)
    → said ≡ name → IsStopped files said e → NamesOnly said e → IsMetWhereTold files (λ f. table read f name) e
stopped_at read files said name e named stopped only =
    let P : List ℕ → Type 0 = λ n. IsStopped files n e in
    let Q : List ℕ → Type 0 = λ n. NamesOnly n e in
    table_stopped read files name e (subst P named stopped) (subst Q named only)

-- the same of a table that a folder may lack
held_optional : {R : Type 0} (read : List ℕ → Result (List R) Refusal) (files : Files) (name bytes : List ℕ) → files name ≡ Some bytes → length bytes ≤ most_bytes → optional_table read files name ≡ or_refused (read bytes)
unfolding optional_table
held_optional read files name bytes is h = ap (read_or_none read) is ∙ within read bytes h

pub optional_none : {R : Type 0} (read : List ℕ → Result (List R) Refusal) (files : Option Files) (said name : List ℕ) → said ≡ name → IsNotHeld files said → IfSome files (λ f. optional_table read f name ≡ Ok [])
unfolding optional_table
optional_none read None said name named lacks = tt
optional_none read (Some files) said name named lacks = ap (read_or_none read) (ap files (sym named) ∙ lacks)

pub optional_rows : {R : Type 0} (read : List ℕ → Result (List R) Refusal) (files : Option Files) (said name bytes seen : List ℕ) (rows : List R)
    → said ≡ name → seen ≡ bytes → IsWhole files said bytes → length bytes ≤ most_bytes → read seen ≡ Ok rows → IfSome files (λ f. optional_table read f name ≡ Ok rows)
optional_rows read None said name bytes seen rows named same whole h is = tt
optional_rows read (Some files) said name bytes seen rows named same whole h is = held_optional read files name bytes (ap files (sym named) ∙ whole) h ∙ ap or_refused (ap read (sym same) ∙ is)

optional_fault : {R : Type 0} (read : List ℕ → Result (List R) Refusal) (files : Files) (name bytes : List ℕ) (why : CsvFault) (e : LoadFault)
    → files name ≡ Some bytes → length bytes ≤ most_bytes → IsFault why (read bytes) → IsSame why e → IsMet e (optional_table read files name)
optional_fault read files name bytes (csv.Refused r) e whole h is same = rw same (held_optional read files name bytes whole h ∙ ap or_refused is)
optional_fault read files name bytes csv.Memory e whole h is same = rw same tt

pub optional_refused : {R : Type 0} (read : List ℕ → Result (List R) Refusal) (files : Option Files) (said name bytes seen : List ℕ) (why : CsvFault) (e : LoadFault)
    → said ≡ name → seen ≡ bytes → IsWhole files said bytes → length bytes ≤ most_bytes → IsFault why (read seen) → IsSame why e → IsMetWhereTold files (λ f. optional_table read f name) e
optional_refused read None said name bytes seen why e named same whole h is so = tt
optional_refused read (Some files) said name bytes seen why e named same whole h is so =
    let P : List ℕ → Type 0 = λ n. IsFault why (read n) in
    optional_fault read files name bytes why e (ap files (sym named) ∙ whole) h (subst P same is) so

optional_stop : {R : Type 0} (read : List ℕ → Result (List R) Refusal) (files : Option Files) (name : List ℕ) (e : LoadFault)
    → IsStopped files name e → MissesNothing e → IsMetWhereTold files (λ f. optional_table read f name) e
unfolding optional_table
optional_stop read None name e stopped named = tt
optional_stop read (Some files) name (fault.Missing said) stopped named = absurd named
optional_stop read (Some files) name fault.ReadFault stopped named = tt
optional_stop read (Some files) name fault.TooLong stopped named = ap (read_or_none read) stopped.1 ∙ rw (lt-ltb most_bytes (length stopped.0) stopped.2) refl
optional_stop read (Some files) name (fault.Refused r) stopped named = absurd stopped
optional_stop read (Some files) name (fault.Unlawful g) stopped named = absurd stopped
optional_stop read (Some files) name fault.Memory stopped named = tt

pub optional_stopped : {R : Type 0} (read : List ℕ → Result (List R) Refusal) (files : Option Files) (said name : List ℕ) (e : LoadFault)
    → said ≡ name → IsStopped files said e → MissesNothing e → IsMetWhereTold files (λ f. optional_table read f name) e
optional_stopped read files said name e named stopped nothing =
    let P : List ℕ → Type 0 = λ n. IsStopped files n e in
    optional_stop read files name e (subst P named stopped) nothing

pub loaded_rows : (files : Option Files) (dir : List ℕ) (nodes : List NodeRow) (edges : List EdgeRow) (faces : List FaceRow) (regions : List RegionRow) (members : List MemberRow)
    → IfSome files (λ f. table node_rows f (node_table dir) ≡ Ok nodes) → IfSome files (λ f. table edge_rows f (edge_table dir) ≡ Ok edges) → IfSome files (λ f. table face_rows f (face_table dir) ≡ Ok faces)
    → IfSome files (λ f. optional_table region_rows f (region_table dir) ≡ Ok regions) → IfSome files (λ f. optional_table member_rows f (member_table dir) ≡ Ok members)
    → IfSome files (λ f. loaded f dir ≡ Ok (record { nodes = nodes; edges = edges; faces = faces; regions = regions; members = members }))
unfolding loaded
loaded_rows None dir nodes edges faces regions members n e f r m = tt
loaded_rows (Some files) dir nodes edges faces regions members n e f r m = rw (n, e, f, r, m) refl

-- an ending of one table is that of all
ended : {A B : Type 0} (e : LoadFault) (r : Result A Ending) (next : A → Result B Ending) → IsMet e r → IsMet e (r >>= next)
ended (fault.Missing name) r next is = rw is refl
ended fault.ReadFault r next is = tt
ended fault.TooLong r next is = rw is refl
ended (fault.Refused why) r next is = rw is refl
ended (fault.Unlawful why) r next is = rw is refl
ended fault.Memory r next is = tt

pub ends_at_nodes : (files : Option Files) (dir : List ℕ) (e : LoadFault) → IsMetWhereTold files (λ f. table node_rows f (node_table dir)) e → IsMetWhereTold files (λ f. loaded f dir) e
unfolding loaded
ends_at_nodes None dir e is = tt
ends_at_nodes (Some files) dir e is = ended e (table node_rows files (node_table dir)) _ is

pub ends_at_edges : (files : Option Files) (dir : List ℕ) (nodes : List NodeRow) (e : LoadFault)
    → IfSome files (λ f. table node_rows f (node_table dir) ≡ Ok nodes) → IsMetWhereTold files (λ f. table edge_rows f (edge_table dir)) e → IsMetWhereTold files (λ f. loaded f dir) e
unfolding loaded
ends_at_edges None dir nodes e n is = tt
ends_at_edges (Some files) dir nodes e n is = rw n (ended e (table edge_rows files (edge_table dir)) _ is)

pub ends_at_faces : (files : Option Files) (dir : List ℕ) (nodes : List NodeRow) (edges : List EdgeRow) (e : LoadFault)
    → IfSome files (λ f. table node_rows f (node_table dir) ≡ Ok nodes) → IfSome files (λ f. table edge_rows f (edge_table dir) ≡ Ok edges)
    → IsMetWhereTold files (λ f. table face_rows f (face_table dir)) e → IsMetWhereTold files (λ f. loaded f dir) e
unfolding loaded
ends_at_faces None dir nodes edges e n k is = tt
ends_at_faces (Some files) dir nodes edges e n k is = rw (n, k) (ended e (table face_rows files (face_table dir)) _ is)

pub ends_at_regions : (files : Option Files) (dir : List ℕ) (nodes : List NodeRow) (edges : List EdgeRow) (faces : List FaceRow) (e : LoadFault)
    → IfSome files (λ f. table node_rows f (node_table dir) ≡ Ok nodes) → IfSome files (λ f. table edge_rows f (edge_table dir) ≡ Ok edges) → IfSome files (λ f. table face_rows f (face_table dir) ≡ Ok faces)
    → IsMetWhereTold files (λ f. optional_table region_rows f (region_table dir)) e → IsMetWhereTold files (λ f. loaded f dir) e
unfolding loaded
ends_at_regions None dir nodes edges faces e n k f is = tt
ends_at_regions (Some files) dir nodes edges faces e n k f is = rw (n, k, f) (ended e (optional_table region_rows files (region_table dir)) _ is)

pub ends_at_members : (files : Option Files) (dir : List ℕ) (nodes : List NodeRow) (edges : List EdgeRow) (faces : List FaceRow) (regions : List RegionRow) (e : LoadFault)
    → IfSome files (λ f. table node_rows f (node_table dir) ≡ Ok nodes) → IfSome files (λ f. table edge_rows f (edge_table dir) ≡ Ok edges) → IfSome files (λ f. table face_rows f (face_table dir) ≡ Ok faces)
    → IfSome files (λ f. optional_table region_rows f (region_table dir) ≡ Ok regions) → IsMetWhereTold files (λ f. optional_table member_rows f (member_table dir)) e → IsMetWhereTold files (λ f. loaded f dir) e
unfolding loaded
ends_at_members None dir nodes edges faces regions e n k f r is = tt
ends_at_members (Some files) dir nodes edges faces regions e n k f r is = rw (n, k, f, r) (ended e (optional_table member_rows files (member_table dir)) _ is)

-- consistent tables pass the checks
pub checked_is : (t : Rows) → IsTrue (is_in_range t) → IsTrue (is_consistent t) → checked t ≡ Ok t
unfolding checked
checked_is t r consistent = let fine : first_fault t ≡ None = None_from _ _ (none-first_fault t r) consistent in rw fine refl

-- the tables of a grid are refused
pub ends_at_grid : (t : Rows) (why : BuildFault) (e : LoadFault) → NamesFault why (first_fault t) → IsSameBuild why e → IsMet e (checked t)
unfolding checked
ends_at_grid t (build.Refused r) e is same = rw (same, is) refl
ends_at_grid t build.Memory e is same = rw same tt

pub ends_at_load : (files : Option Files) (dir : List ℕ) (e : LoadFault) → IsMetWhereTold files (λ f. loaded f dir) e → IsMetWhereTold files (λ f. served f dir) e
ends_at_load None dir e is = tt
ends_at_load (Some files) dir e is = ended e (loaded files dir) checked is

pub ends_at_build : (files : Option Files) (dir : List ℕ) (t : Rows) (why : BuildFault) (e : LoadFault)
    → IfSome files (λ f. loaded f dir ≡ Ok t) → NamesFault why (first_fault t) → IsSameBuild why e → IsMetWhereTold files (λ f. served f dir) e
unfolding checked
ends_at_build None dir t why e l is same = tt
ends_at_build (Some files) dir t (build.Refused r) e l is same = rw (same, l, is) refl
ends_at_build (Some files) dir t build.Memory e l is same = rw same tt

-- an image of tables that were loaded
pub builds : (files : Option Files) (dir : List ℕ) (t : Rows) (image : List ℕ)
    → IfSome files (λ f. loaded f dir ≡ Ok t) → IsTrue (is_in_range t) → IsTrue (is_consistent t) → IsImageOf t image → Builds files dir image
builds files dir t image l r consistent is = record { tables = t; are = are files l; consistent = consistent; is = is }
  where
    are : (files : Option Files) → IfSome files (λ f. loaded f dir ≡ Ok t) → IfSome files (λ f. served f dir ≡ Ok t)
    are None l = tt
    are (Some files) l = rw l (checked_is t r consistent)

-- what stopped the reading of a file
stopped_file : (files : Option Files) (name : List ℕ) (e : LoadFault) → IsStopped files name e → NamesOnly name e → IsMetWhereTold files (λ f. opened f name) e
unfolding opened
stopped_file None name e stopped named = tt
stopped_file (Some files) name (fault.Missing said) stopped named = ap (opened_or_missing name) stopped ∙ ap (λ n. Err (Ending.Missing n)) (sym named)
stopped_file (Some files) name fault.ReadFault stopped named = tt
stopped_file (Some files) name fault.TooLong stopped named = ap (opened_or_missing name) stopped.1 ∙ rw (lt-ltb most_bytes (length stopped.0) stopped.2) refl
stopped_file (Some files) name (fault.Refused r) stopped named = absurd stopped
stopped_file (Some files) name (fault.Unlawful g) stopped named = absurd stopped
stopped_file (Some files) name fault.Memory stopped named = tt

pub file_stopped : (files : Option Files) (said name : List ℕ) (e : LoadFault) → said ≡ name → IsStopped files said e → NamesOnly said e → IsMetWhereTold files (λ f. opened f name) e
file_stopped files said name e named stopped only =
    let P : List ℕ → Type 0 = λ n. IsStopped files n e in
    let Q : List ℕ → Type 0 = λ n. NamesOnly n e in
    stopped_file files name e (subst P named stopped) (subst Q named only)

-- bytes within the limit are looked through
opened_is : (files : Files) (name bytes : List ℕ) → files name ≡ Some bytes → length bytes ≤ most_bytes → opened files name ≡ unless_unlawful bytes (file_fault bytes)
unfolding opened
opened_is files name bytes is h = ap (opened_or_missing name) is ∙ rw (le-ltb most_bytes (length bytes) h) refl

pub file_unlawful : (files : Option Files) (name bytes seen : List ℕ) (e : FileFault) → seen ≡ bytes → IsWhole files name bytes → length bytes ≤ most_bytes → file_fault seen ≡ Some e
    → IsMetWhereTold files (λ f. opened f name) (fault.Unlawful e)
file_unlawful None name bytes seen e same whole h is = tt
file_unlawful (Some files) name bytes seen e same whole h is = opened_is files name bytes whole h ∙ ap (unless_unlawful bytes) (ap file_fault (sym same) ∙ is)

pub file_lawful : (files : Option Files) (name bytes seen : List ℕ) → seen ≡ bytes → IsWhole files name bytes → length bytes ≤ most_bytes → file_fault seen ≡ None
    → IfSome files (λ f. opened f name ≡ Ok (map_of_file seen))
file_lawful None name bytes seen same whole h is = tt
file_lawful (Some files) name bytes seen same whole h is =
    let fine : file_fault bytes ≡ None = ap file_fault (sym same) ∙ is in
    opened_is files name bytes whole h ∙ ap (unless_unlawful bytes) fine ∙ ap (λ b. Ok (map_of_file b)) (sym same)

-- the same of the results of a call that was handed this name
pub file_ends : {A : Type 0} (files : Option Files) (said name : List ℕ) (r : Result A LoadFault) → said ≡ name → IfErr r (IsStopped files said) → IfErr r (NamesOnly said)
    → IfErr r (IsMetWhereTold files (λ f. opened f name))
file_ends files said name (Ok x) same stopped named = tt
file_ends files said name (Err e) same stopped named = file_stopped files said name e same stopped named
