-- What is promised where tables or a file are served, exit by exit.
use Rattle.std.proofs.Common.{◌≡◌, ℕ, ◌+◌, ◌≤◌, [], sym, subst, Ok, Err, Result, Some, IfSome, IsTrue, inr, inl, Option, arith}
use Rattle.plane_model.specs.Rows.{Rows}
use Rattle.plane_model.specs.PlaneMap.{PlaneMap, map_of}
use Rattle.plane_model.specs.Consistent.{is_consistent}
use Rattle.topo_serve.specs.Serving.{Serves}
use Rattle.topo_serve.specs.declared.fault.ServeFault.{ServeFault}
use Rattle.topo_serve.specs.declared.fault.ServeFault.TheVariants as fault
use Rattle.topo_cli.specs.declared.status.Status.{Status}
use Rattle.topo_cli.specs.declared.status.Status.TheVariants as status
use Rattle.topo_cli.specs.Limits.{most_bytes}
use Rattle.topo_cli.specs.Words.{Form}
use Rattle.topo_cli.specs.Call.{Call}
use Rattle.topo_cli.specs.Tables.{IsSubject}
use Rattle.topo_cli.specs.Serving.{IsServedAs, serve_call, status_of}
use Rattle.topo_cli.specs.Outcome.{Finished, FinishedPart, HasTables, IsAnswered, IsPromised, IsScriptTaken, IsUnreadUnlessServed, KeepsFiles, LeavesFiles, ReadsScript, ScriptWaits, TookAtMost, TookOfScript, WrotePartOf, most_taken, words_of_built, words_to_open}
use Rattle.topo_cli.proofs.Complete.{promised}
use Rattle.topo_cli.proofs.Statuses.{at_form, has_form, no_form, on_same, on_subject, some_form, wanting}
use Rattle.topo_cli.proofs.Taken.{took_at_most}

-- how many words may be read before the first line is
abbrev words_before : Form → PlaneMap → ℕ
words_before (Form.Ask dir) m = words_of_built
words_before (Form.Build dir file) m = words_of_built
words_before (Form.Query file) m = words_to_open m
words_before (Form.Check file) m = words_to_open m
words_before (Form.Trial n) m = words_of_built
words_before (Form.Hops file from to) m = words_to_open m
words_before (Form.Border file region) m = words_to_open m
words_before (Form.Upgrade old new) m = words_to_open m
words_before (Form.Dump file dir) m = words_to_open m

-- the tables of a form are served, from a file that was opened by so many reads
pub record Serving (c : Call) (k : Form) (t : Rows) (opened : ℕ) : Type 0 where
  pub form : c.form ≡ Some k
  pub reads : ReadsScript k
  pub are : IsSubject c.shelf.files_before k t
  pub consistent : IsTrue (is_consistent t)
  pub kept : KeepsFiles c
  pub grows : c.steps_before ≤ opened
  pub most : opened ≤ c.steps_before + words_before k (map_of t)

pub has_tables : (c : Call) (k : Form) (t : Rows) (P : Rows → Type 0) → c.form ≡ Some k → IsSubject c.shelf.files_before k t → IsTrue (is_consistent t) → P t → HasTables c P
has_tables c k t P form are consistent h =
    record { tables = t; are = at_form c k (λ x. IsSubject c.shelf.files_before x t) form are; consistent = consistent; holds = h }

-- the files are as before
leaves_as_before : (c : Call) (k : Form) (s : Status) → ReadsScript k → c.form ≡ Some k → KeepsFiles c → LeavesFiles c s c.form
leaves_as_before c k s reads form kept = let P : Option Form → Type 0 = LeavesFiles c s in subst P (sym form) (left k reads)
  where
    left : (k : Form) → ReadsScript k → LeavesFiles c s (Some k)
    left (Form.Ask dir) reads = kept
    left (Form.Build dir file) reads = absurd reads
    left (Form.Query file) reads = kept
    left (Form.Check file) reads = absurd reads
    left (Form.Trial n) reads = absurd reads
    left (Form.Hops file from to) reads = absurd reads
    left (Form.Border file region) reads = absurd reads
    left (Form.Upgrade old new) reads = absurd reads
    left (Form.Dump file dir) reads = absurd reads

-- what was taken of the script
script_taken : (c : Call) (k : Form) (t : Rows) (s : Status) → ReadsScript k → c.form ≡ Some k → IsSubject c.shelf.files_before k t → TookAtMost (most_taken s) c.script.left_before c.script.left_after → IsScriptTaken c s
script_taken c k t s reads form are few =
    record {
      without_form = λ none. absurd (no_form c k form none);
      waits = at_form c k (ScriptWaits c) form (waits k reads are);
      few = few;
    }
  where
    waits : (k : Form) → ReadsScript k → IsSubject c.shelf.files_before k t → ScriptWaits c k
    waits (Form.Ask dir) reads are = on_same c.shelf.files_before (Form.Ask dir) (Ok t) (IsUnreadUnlessServed c) are tt
    waits (Form.Build dir file) reads are = absurd reads
    waits (Form.Query file) reads are = on_same c.shelf.files_before (Form.Query file) (Ok t) (IsUnreadUnlessServed c) are tt
    waits (Form.Check file) reads are = absurd reads
    waits (Form.Trial n) reads are = absurd reads
    waits (Form.Hops file from to) reads are = absurd reads
    waits (Form.Border file region) reads are = absurd reads
    waits (Form.Upgrade old new) reads are = absurd reads
    waits (Form.Dump file dir) reads are = absurd reads

-- what such a form finishes with, and what of it was written
finishes : (c : Call) (t : Rows) (k : Form) → ReadsScript k → TookOfScript c (IsAnswered c (map_of t) (words_before k (map_of t))) → Finished c t k
finishes c t (Form.Ask dir) reads h = h
finishes c t (Form.Build dir file) reads h = absurd reads
finishes c t (Form.Query file) reads h = h
finishes c t (Form.Check file) reads h = absurd reads
finishes c t (Form.Trial n) reads h = absurd reads
finishes c t (Form.Hops file from to) reads h = absurd reads
finishes c t (Form.Border file region) reads h = absurd reads
finishes c t (Form.Upgrade old new) reads h = absurd reads
finishes c t (Form.Dump file dir) reads h = absurd reads

finishes_part : (c : Call) (t : Rows) (k : Form) → ReadsScript k → FinishedPart c t (Form.Ask []) → FinishedPart c t k
finishes_part c t (Form.Ask dir) reads h = h
finishes_part c t (Form.Build dir file) reads h = absurd reads
finishes_part c t (Form.Query file) reads h = h
finishes_part c t (Form.Check file) reads h = absurd reads
finishes_part c t (Form.Trial n) reads h = absurd reads
finishes_part c t (Form.Hops file from to) reads h = absurd reads
finishes_part c t (Form.Border file region) reads h = absurd reads
finishes_part c t (Form.Upgrade old new) reads h = absurd reads
finishes_part c t (Form.Dump file dir) reads h = absurd reads

-- what serving answered, as what is promised
answered : (c : Call) (k : Form) (t : Rows) (opened : ℕ) → Serving c k t opened → (result : Result (Unit {0}) ServeFault)
    → Serves (map_of t) (serve_call c.script c.out opened c.steps_after) result → IsPromised c (status_of result)
answered c k t opened a (Ok x) is =
    let reads = is.ends.reads in
    let few = is.ends.within in
    let start = a.grows in
    let cost = a.most in
    promised c status.Done
    (record {
      form = some_form c k a.form;
      finished = has_tables c k t (λ u. IfSome c.form (Finished c u)) a.form a.are a.consistent (at_form c k (Finished c t) a.form (finishes c t k a.reads (record {
        taken = is.taken;
        consumed = is.consumed;
        holds = record {
          whole = is.ends.whole;
          short = few;
          wrote = is.ends.gained;
          least = (let least = reads.least in omega (arith, least, start));
          most = (let most = reads.most in omega (arith, most, cost));
        };
      })));
    })
    (script_taken c k t status.Done a.reads a.form a.are (took_at_most most_bytes _ _ is.taken is.consumed few))
    (leaves_as_before c k status.Done a.reads a.form a.kept)
    (let least = reads.least in omega (arith, least, start))
answered c k t opened a (Err fault.ReadFault) is =
    let few = is.ends.within in
    let start = a.grows in
    promised c status.ReadFault
    (inr (record {
      rose = is.ends.cause;
      form = has_form c k ReadsScript a.form a.reads;
      served = has_tables c k t _ a.form a.are a.consistent (record { taken = is.taken; consumed = is.consumed; holds = record { short = few; wrote = is.ends.gained } });
    }))
    (script_taken c k t status.ReadFault a.reads a.form a.are (took_at_most most_bytes _ _ is.taken is.consumed few))
    (leaves_as_before c k status.ReadFault a.reads a.form a.kept)
    (let least = is.ends.reads.least in omega (arith, least, start))
answered c k t opened a (Err fault.WriteFault) is =
    let few = is.ends.within in
    let start = a.grows in
    promised c status.WriteFault
    (record {
      cause = inl is.ends.cause;
      usage = λ none. absurd (no_form c k a.form none);
      wrote = on_subject c k (WrotePartOf c) a.form (on_same c.shelf.files_before k (Ok t) (WrotePartOf c k) a.are
          (finishes_part c t k a.reads (record { taken = is.taken; consumed = is.consumed; holds = (few, is.ends.gained) })));
    })
    (script_taken c k t status.WriteFault a.reads a.form a.are (took_at_most most_bytes _ _ is.taken is.consumed few))
    (leaves_as_before c k status.WriteFault a.reads a.form a.kept)
    (let grows = is.ends.grows in omega (arith, grows, start))
answered c k t opened a (Err fault.ScriptTooLong) is =
    let past = is.ends.past in
    let start = a.grows in
    promised c status.TooLong
    (inr (record {
      form = has_form c k ReadsScript a.form a.reads;
      served = has_tables c k t _ a.form a.are a.consistent (record { taken = is.taken; consumed = is.consumed; holds = record { past = past; wrote = is.ends.gained } });
    }))
    (script_taken c k t status.TooLong a.reads a.form a.are (took_at_most (most_bytes + 1) _ _ is.taken is.consumed (omega (arith, past))))
    (leaves_as_before c k status.TooLong a.reads a.form a.kept)
    (let least = is.ends.reads.least in omega (arith, least, start))

-- the script was served, or memory ran out before it
pub served_as : (c : Call) (k : Form) (t : Rows) (m : PlaneMap) (opened : ℕ) (s : Status) → m ≡ map_of t → Serving c k t opened → IsServedAs m c.script c.out opened c.steps_after s → IsPromised c s
served_as c k t m opened s same a is = elim is [
  | inl want ↦ subst (IsPromised c) (sym want.0)
      (wanting c k (record { form = a.form; unread = want.1.idle; kept = a.kept; counted = (let start = a.grows in let still = want.1.unread in omega (arith, start, still)) }) want.1.silent)
  | inr told ↦
      let P : PlaneMap → Type 0 = λ n. Serves n (serve_call c.script c.out opened c.steps_after) told.0 in
      subst (IsPromised c) (sym told.1) (answered c k t opened a told.0 (subst P same told.2))
]
