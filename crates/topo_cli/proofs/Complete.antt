-- Where nothing is wrong, a call is done or wants memory.
use Rattle.std.proofs.Common.{◌≡◌, Bool, true, false, ℕ, ◌<◌, ◌≤◌, List, length, Option, Some, None, Result, Ok, Err, IfSome, IsSome, refl, sym, ap, ◌∙◌, subst, inl, inr, arith, length-append}
use Rattle.std.specs.Io.KnownBytes.{Consumes}
use Rattle.ports.specs.Outside.{Files}
use Rattle.plane_model.specs.Rows.{Rows}
use Rattle.topo_cli.specs.declared.status.Status.{Status}
use Rattle.topo_cli.specs.declared.status.Status.TheVariants as status
use Rattle.topo_cli.specs.Words.{Form}
use Rattle.topo_cli.specs.Call.{Call}
use Rattle.topo_cli.specs.Tables.{AreTold, Ending, IsNeeded, IsSubject, OnRead}
use Rattle.topo_cli.specs.Outcome.{IsComplete, IsFine, CameFirst, IsLongScript, IsPromised, IsScriptFine, IsScriptFineFor, IsScriptTaken, LeavesFiles, OnSubject, ReadsScript, HasForm, Says}

-- what holds of what is read holds of the tables that are told
of_told : {A : Type 0} (files : Option Files) (read : Files → Result A Ending) (t : A) (P : Result A Ending → Type 0) → IsSome files → IfSome files (λ held. read held ≡ Ok t) → IfSome files (λ held. P (read held)) → P (Ok t)
of_told None read t P told is h = (let e : ◌≡◌ {A = Bool} false true = told in cc)
of_told (Some held) read t P told is h = subst P is h

of_tables : (files : Option Files) (k : Form) (t : Rows) (P : Result Rows Ending → Type 0) → AreTold files k → IsSubject files k t → OnRead files k P → P (Ok t)
of_tables files (Form.Ask dir) t P told is h = of_told files _ t P told is h
of_tables files (Form.Build dir file) t P told is h = of_told files _ t P told is h
of_tables files (Form.Query file) t P told is h = of_told files _ t P told is h
of_tables files (Form.Check file) t P told is h = of_told files _ t P told is h
of_tables files (Form.Trial n) t P told is h = subst P is h
of_tables files (Form.Hops file from to) t P told is h = of_told files _ t P told is h
of_tables files (Form.Border file region) t P told is h = of_told files _ t P told is h
of_tables files (Form.Upgrade old new) t P told is h = of_told files _ t P told is h
of_tables files (Form.Dump file dir) t P told is h = of_told files _ t P told is h

at_tables : (c : Call) (P : Form → Result Rows Ending → Type 0) (fine : IsFine c) → OnSubject c P → P fine.asked (Ok fine.tables)
at_tables c P fine on =
    let Q : Option Form → Type 0 = λ o. IfSome o (λ k. OnRead c.shelf.files_before k (P k)) in
    of_tables c.shelf.files_before fine.asked fine.tables (P fine.asked) fine.told fine.served (subst Q fine.form on)

refused : (t : Rows) (e : Ending) → ◌≡◌ {A = Result Rows Ending} (Ok t) (Err e) → ⊥
refused t e is = cc

-- what came first is no ending
first_none : (c : Call) (e : Ending) (fine : IsFine c) → OnSubject c (λ k read. read ≡ Err e) → ⊥
first_none c e fine is = refused _ _ (at_tables c (λ _ read. read ≡ Err e) fine is)

-- no more can be taken of a script than it has
past_the_end : (before after : Option (List ℕ)) (script taken : List ℕ) → before ≡ Some script → Consumes before after taken → length script < length taken → ⊥
past_the_end before after script taken is consumed more =
    let P : Option (List ℕ) → Type 0 = λ o. Consumes o after taken in
    none after (subst P is consumed)
  where
    none : (after : Option (List ℕ)) → Consumes (Some script) after taken → ⊥
    none None h = h
    none (Some left) h = omega (arith, ap length h, length-append taken left)

long_script : (c : Call) → IsScriptFine c → IsLongScript c → ⊥
long_script c fine long =
    let took = long.served.holds in
    past_the_end c.script.left_before c.script.left_after fine.script took.taken fine.told took.consumed (let past = took.holds.past in let short = fine.short in omega (arith, past, short))

script_too_long : (c : Call) (k : Form) → IsScriptFineFor c k → ReadsScript k → IsLongScript c → ⊥
script_too_long c (Form.Ask dir) fine reads long = long_script c fine long
script_too_long c (Form.Build dir file) fine reads long = reads
script_too_long c (Form.Query file) fine reads long = long_script c fine long
script_too_long c (Form.Check file) fine reads long = reads
script_too_long c (Form.Trial n) fine reads long = reads
script_too_long c (Form.Hops file from to) fine reads long = reads
script_too_long c (Form.Border file region) fine reads long = reads
script_too_long c (Form.Upgrade old new) fine reads long = reads
script_too_long c (Form.Dump file dir) fine reads long = reads

pub complete : (c : Call) (s : Status) → Says c s → IsComplete c s
complete c status.Done says = λ fine. inl refl
complete c status.Usage says = λ fine. (let differ : ◌≡◌ {A = Option Form} None (Some fine.asked) = sym says.form ∙ fine.form in cc)
complete c status.TablesRefused says = λ fine. absurd (first_none c (Ending.Refused says.why.0) fine says.why.1.first)
complete c status.FileRefused says = λ fine. absurd (first_none c (Ending.Unlawful says.why.0) fine says.why.1.first)
complete c status.ReadFault says = λ fine. elim says [ inl shelf ↦ absurd (fine.no_shelf_fault shelf.rose) | inr script ↦ absurd (fine.no_script_fault script.rose) ]
complete c status.WriteFault says = λ fine. elim says.cause [ inl out ↦ absurd (fine.no_out_fault out) | inr shelf ↦ absurd (fine.no_write_fault shelf.rose) ]
complete c status.Memory says = λ fine. inr refl
complete c status.Missing says = λ fine.
    let Q : Option Form → Type 0 = λ o. IfSome o (λ k. (name : List ℕ) × IsNeeded k name × CameFirst c (Ending.Missing name)) in
    let named : (name : List ℕ) × IsNeeded fine.asked name × CameFirst c (Ending.Missing name) = subst Q fine.form says.name in
    absurd (first_none c (Ending.Missing named.0) fine named.2.first)
complete c status.TooLong says = λ fine. elim says [
  | inl held ↦ absurd (first_none c Ending.Long fine held.first)
  | inr script ↦ absurd (script_too_long c fine.asked fine.script (let Q : Option Form → Type 0 = HasForm ReadsScript in subst Q fine.form script.form) script)
]

pub promised : (c : Call) (s : Status) → Says c s → IsScriptTaken c s → LeavesFiles c s c.form → c.steps_before ≤ c.steps_after → IsPromised c s
promised c s says script files counted = record { says = says; script = script; files = files; complete = complete c s says; counted = counted }
