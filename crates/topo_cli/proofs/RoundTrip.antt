-- A query over what a build left is answered as an ask over the same tables.
use Rattle.std.proofs.Common.{◌≡◌, ◌∙◌, ℕ, Bool, true, false, List, [], ◌++◌, append-nil, refl, sym, ap, subst, Option, Some, None, Result, Ok, Err, IfSome, length, is_none, inl, inr}
use Rattle.std.specs.Prelude.{nat_lt, if◌then◌else◌}
use Rattle.std.proofs.lemmas.Bool.{cases_Bool}
use Rattle.std.specs.Io.KnownBytes.{Consumes}
use Rattle.ports.specs.Outside.{Files, IsReadToEnd, WhereTold}
use Rattle.plane_model.specs.Rows.{Rows}
use Rattle.plane_model.specs.PlaneMap.{PlaneMap, map_of}
use Rattle.plane_model.specs.Answers.{answers}
use Rattle.file_laws.specs.Lawful.{first_fault as file_fault, map_of_file}
use Rattle.topo_cli.specs.declared.status.Status.TheVariants as status
use Rattle.topo_cli.specs.Limits.{most_bytes}
use Rattle.topo_cli.specs.Call.{Call}
use Rattle.topo_cli.specs.Words.{Form}
use Rattle.topo_cli.specs.Tables.{Ending, IsSubject, opened, opened_by, opened_or_missing, served, unless_unlawful}
use Rattle.topo_cli.specs.Outcome.{Finished, HoldsImage, IsAnswered, IsPromised, LeavesFiles, LeavesWhole, TookOfScript, Wrote}
use Rattle.topo_cli.specs.RoundTrip.{IsRoundTrip}

ok_is : {A E : Type 0} (x y : A) → ◌≡◌ {A = Result A E} (Ok x) (Ok y) → x ≡ y
ok_is x y e = cc

none_from : {A : Type 0} (o : Option A) → is_none o ≡ true → o ≡ None
none_from None e = refl
none_from (Some x) e = cc

-- a script that was read to its end was taken whole
all_taken : (script taken : List ℕ) (before after : Option (List ℕ)) → before ≡ Some script → Consumes before after taken → IsReadToEnd before after → taken ≡ script
all_taken script taken before after is consumed whole =
    let P : Option (List ℕ) → Type 0 = λ o. Consumes o after taken in
    let Q : Option (List ℕ) → Type 0 = λ o. IsReadToEnd o after in
    let R : Option (List ℕ) → Type 0 = λ o. Consumes (Some script) o taken in
    let told : script ≡ taken ++ [] = subst R (subst Q is whole) (subst P is consumed) in
    sym (told ∙ append-nil taken)

-- what was answered of a whole script
answered : (c : Call) (m : PlaneMap) (opening : ℕ) (script : List ℕ) → c.script.left_before ≡ Some script → TookOfScript c (IsAnswered c m opening) → Wrote c (answers m script)
answered c m opening script told took =
    let P : List ℕ → Type 0 = λ xs. Wrote c (answers m xs) in
    subst P (all_taken script took.taken c.script.left_before c.script.left_after told took.consumed took.holds.whole) took.holds.wrote

-- what a finished build left
record Left (files : Files) (dir file : List ℕ) (after : Option Files) : Type 0 where
  tables : Rows
  served : served files dir ≡ Ok tables
  held : Files
  told : after ≡ Some held
  holds : HoldsImage file tables files held

left_by : (files : Files) (dir file : List ℕ) (b : Call) (read : Result Rows Ending) → served files dir ≡ read → b.shelf.files_before ≡ Some files → LeavesWhole b (HoldsImage file) read → Left files dir file b.shelf.files_after
left_by files dir file b (Ok t) is found left =
    let P : Option Files → Type 0 = λ o. WhereTold (HoldsImage file t) o b.shelf.files_after in
    told b.shelf.files_after refl (subst P found left)
  where
    told : (after : Option Files) → b.shelf.files_after ≡ after → WhereTold (HoldsImage file t) (Some files) after → Left files dir file b.shelf.files_after
    told None e h = absurd h
    told (Some held) e h = record { tables = t; served = is; held = held; told = e; holds = h }
left_by files dir file b (Err e) is found left = absurd left

built_left : (files : Files) (dir file : List ℕ) (b : Call) → b.form ≡ Some (Form.Build dir file) → b.shelf.files_before ≡ Some files → IsPromised b status.Done → Left files dir file b.shelf.files_after
built_left files dir file b form found p =
    let P : Option Form → Type 0 = LeavesFiles b status.Done in
    let Q : Option Files → Type 0 = λ o. IfSome o (λ held. LeavesWhole b (HoldsImage file) (served held dir)) in
    left_by files dir file b (served files dir) refl found (subst Q found (subst P form p.files))

-- the tables of a call, and what it finished for them
record Ran (c : Call) (k : Form) (files : Files) : Type 0 where
  tables : Rows
  are : IsSubject (Some files) k tables
  finished : Finished c tables k

ran : (c : Call) (k : Form) (files : Files) → c.form ≡ Some k → c.shelf.files_before ≡ Some files → IsPromised c status.Done → Ran c k files
ran c k files form told p =
    let t = p.says.finished.tables in
    let P : Option Form → Type 0 = λ o. IfSome o (λ x. IsSubject c.shelf.files_before x t) in
    let Q : Option Files → Type 0 = λ o. IsSubject o k t in
    let R : Option Form → Type 0 = λ o. IfSome o (Finished c t) in
    record { tables = t; are = subst Q told (subst P form p.says.finished.are); finished = subst R form p.says.finished.holds }

-- the tables that a file with lawful bytes is opened to
opens_to : (files : Files) (file image : List ℕ) (t : Rows) → files file ≡ Some image → file_fault image ≡ None → opened files file ≡ Ok t → t ≡ map_of_file image
unfolding opened
opens_to files file image t held fine is =
    let all : opened_by image ≡ Ok t = sym (ap (opened_or_missing file) held) ∙ is in
    let P : Bool → Type 0 = λ x. ◌≡◌ {A = Result Rows Ending} (if x then Err Ending.Long else unless_unlawful image (file_fault image)) (Ok t) in
    elim (cases_Bool (nat_lt most_bytes (length image))) [ inl long ↦ short true long (subst P long all) | inr fits ↦ short false fits (subst P fits all) ]
  where
    short : (b : Bool) → nat_lt most_bytes (length image) ≡ b → ◌≡◌ {A = Result Rows Ending} (if b then Err Ending.Long else unless_unlawful image (file_fault image)) (Ok t) → t ≡ map_of_file image
    short true e h = cc
    short false e h = sym (ok_is (map_of_file image) t (sym (ap (unless_unlawful image) fine) ∙ h))

pub same_text : (dir file script : List ℕ) (files : Files) (b a q : Call) → IsRoundTrip dir file script files b a q → IsPromised b status.Done → IsPromised a status.Done → IsPromised q status.Done
    → (text : List ℕ) × Wrote a text × Wrote q text
same_text dir file script files b a q trip pb pa pq =
    let left = built_left files dir file b trip.build trip.found pb in
    let ra = ran a (Form.Ask dir) files trip.ask trip.tables pa in
    let rq = ran q (Form.Query file) left.held trip.query (trip.left ∙ left.told) pq in
    let image = left.holds.image in
    let t = left.tables in
    let asked : ra.tables ≡ t = ok_is ra.tables t (sym ra.are ∙ left.served) in
    let queried : rq.tables ≡ map_of_file image = opens_to left.held file image rq.tables left.holds.held (none_from (file_fault image) left.holds.is.lawful) rq.are in
    let map_asked : map_of ra.tables ≡ map_of t = ap map_of asked in
    let map_queried : map_of rq.tables ≡ map_of t = ap map_of queried ∙ left.holds.is.stands.2 in
    let A : PlaneMap → Type 0 = λ m. Wrote a (answers m script) in
    let Q : PlaneMap → Type 0 = λ m. Wrote q (answers m script) in (
      answers (map_of t) script,
      subst A map_asked (answered a (map_of ra.tables) _ script trip.script_asked ra.finished),
      subst Q map_queried (answered q (map_of rq.tables) _ script trip.script_queried rq.finished),
    )
