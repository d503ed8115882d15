use Rattle.std.proofs.Common.{◌∙◌, ℕ, ◌+◌, ◌≤◌, List, length, ap, subst, refl, arith, codes, Option}
use Rattle.ports.specs.Outside.{Files, WhereTold}
use Rattle.plane_model.specs.PlaneMap.{PlaneMap, map_of}
use Rattle.file_laws.specs.Lawful.{map_of_file}
use Rattle.file_laws.proofs.Sizes.{lawful_consistent, lawful_size}
use Rattle.table_dump.specs.Dumped.{AreWritten, AreWrittenInPart}
use Rattle.table_dump.specs.Prices.{most_dump_words}
use Rattle.topo_cli.specs.declared.status.Status.TheVariants as status
use Rattle.topo_cli.specs.declared.load.LoadFault.TheVariants as fault
use Rattle.topo_cli.specs.Call.{sink_call}
use Rattle.topo_cli.specs.Ended.{IsTold}
use Rattle.topo_cli.specs.Outcome.{folder_of}
use Rattle.topo_cli.specs.Text.{counts_line}
use Rattle.topo_cli.specs.Words.{Form}
use Rattle.topo_cli.proofs.Built.{dump_unwritten, dumped, fits_file, rose_since}
use Rattle.topo_cli.proofs.Loads.{file_lawful, file_unlawful}
use Rattle.topo_cli.proofs.Opened.{cost_is, lawful_from, map_is}
use Rattle.topo_cli.proofs.Statuses.{not_loaded, wanting}
use Rattle.topo_cli.proofs.top.dump.Goals as goal

pub returns-in-Err : goal.returns-in-Err
returns-in-Err g c = λ script idle.
    let k = Form.Dump c.args.file.now c.args.dir.now in
    not_loaded _ k c.in-Err.why _
    (record { form = refl; unread = idle; kept = c.in-Err.ensures.kept; counted = omega arith })
    c.in-Err.ensures.ends (fits_file k c.args.file.now _ tt tt refl c.in-Err.ensures.named) c.in-Err.ensures.shown c.end_loading.ensures

pub returns-in-Err-open : goal.returns-in-Err-open
returns-in-Err-open g c = λ script idle.
    not_loaded _ (Form.Dump c.args.file.now c.args.dir.now) (fault.Unlawful c.in-Err-open.why) _
    (record { form = refl; unread = idle; kept = c.in-Ok.ensures.kept; counted = c.in-Err-open.ensures.grows })
    (file_unlawful _ c.args.file.now c.in-Ok.bytes.items c.deref.result.now _ c.deref.ensures.value c.in-Ok.ensures.whole c.in-Ok.ensures.short c.in-Err-open.ensures.fault)
    tt tt c.end_loading-in-Err-open.ensures

pub returns-in-Err-line_of_counts : goal.returns-in-Err-line_of_counts
returns-in-Err-line_of_counts g c = λ script idle.
    wanting _ (Form.Dump c.args.file.now c.args.dir.now) (record { form = refl; unread = idle; kept = c.in-Ok.ensures.kept; counted = c.in-Ok-open.ensures.grows }) refl

pub returns-in-Err-table_names : goal.returns-in-Err-table_names
returns-in-Err-table_names g c = λ script idle.
    wanting _ (Form.Dump c.args.file.now c.args.dir.now) (record { form = refl; unread = idle; kept = c.in-Ok.ensures.kept; counted = c.in-Ok-open.ensures.grows }) refl

pub returns-in-Err-words_for_dump : goal.returns-in-Err-words_for_dump
returns-in-Err-words_for_dump g c = λ script idle.
    wanting _ (Form.Dump c.args.file.now c.args.dir.now) (record { form = refl; unread = idle; kept = c.in-Ok.ensures.kept; counted = c.in-Ok-open.ensures.grows }) refl

pub returns-in-Ok-write_tables : goal.returns-in-Ok-write_tables
returns-in-Ok-write_tables g c = λ script idle.
    let seen = c.deref.result.now in
    let lawful = lawful_from seen c.in-Ok-open.ensures.fault in
    let t = map_of_file seen in
    let same = map_is seen _ (c.of-served.ensures ∙ c.in-Ok-open.ensures.contents) in
    let start = c.in-Ok-open.ensures.grows in
    let more = c.write_tables.ensures.grows in
    let opened = cost_is seen _ _ (lawful_size seen lawful) c.in-Ok-open.ensures.cost in
    let after = g.H.Shelf.files c.write_tables.new.shelf in
    let W : PlaneMap → Type 0 = λ m. WhereTold (AreWritten (folder_of c.args.dir.now m)) (g.H.Shelf.files c.load_file.new.shelf) after in
    let F : Option Files → Type 0 = λ files. WhereTold (AreWritten (folder_of c.args.dir.now (map_of t))) files after in
    let L : PlaneMap → Type 0 = λ m. c.open.new.steps + length m.edges.keys ≤ c.write_tables.new.steps in
    let M : PlaneMap → Type 0 = λ m. c.write_tables.new.steps ≤ c.open.new.steps + most_dump_words m in
    let least = subst L same c.in-Ok-write_tables.ensures.least in
    let most = subst M same c.write_tables.ensures.most in
    let line = c.in-Ok-line_of_counts.ensures ∙ ap (counts_line (codes "dumped")) same in
    let Q : List ℕ → Type 0 = λ text. IsTold text status.Done c.tell.result (sink_call g.K.Sink.held g.K.Sink.faults c.args.out.now c.tell.new.out) in
    dumped _ c.args.file.now c.args.dir.now t _
    (record {
      form = refl;
      are = file_lawful _ c.args.file.now c.in-Ok.bytes.items seen c.deref.ensures.value c.in-Ok.ensures.whole c.in-Ok.ensures.short c.in-Ok-open.ensures.fault;
      consistent = lawful_consistent seen lawful;
      unread = idle;
      grows = omega (arith, start, more);
    })
    (omega (arith, start, least)) (omega (arith, opened, most))
    (subst F c.in-Ok.ensures.kept (subst W same c.in-Ok-write_tables.ensures.written))
    (subst Q (c.deref-in-Ok-write_tables.ensures.value ∙ line) c.tell.ensures)

pub returns : goal.returns
returns g c = λ script idle.
    let seen = c.deref.result.now in
    let lawful = lawful_from seen c.in-Ok-open.ensures.fault in
    let t = map_of_file seen in
    let same = map_is seen _ (c.of-served.ensures ∙ c.in-Ok-open.ensures.contents) in
    let start = c.in-Ok-open.ensures.grows in
    let more = c.write_tables.ensures.grows in
    let after = g.H.Shelf.files c.write_tables.new.shelf in
    let W : PlaneMap → Type 0 = λ m. WhereTold (AreWrittenInPart (folder_of c.args.dir.now m)) (g.H.Shelf.files c.load_file.new.shelf) after in
    let F : Option Files → Type 0 = λ files. WhereTold (AreWrittenInPart (folder_of c.args.dir.now (map_of t))) files after in
    dump_unwritten _ c.args.file.now c.args.dir.now t
    (record {
      form = refl;
      are = file_lawful _ c.args.file.now c.in-Ok.bytes.items seen c.deref.ensures.value c.in-Ok.ensures.whole c.in-Ok.ensures.short c.in-Ok-open.ensures.fault;
      consistent = lawful_consistent seen lawful;
      unread = idle;
      grows = omega (arith, start, more);
    })
    (subst F c.in-Ok.ensures.kept (subst W same c.in-Err-write_tables.ensures.part))
    (rose_since _ _ _ c.in-Ok.ensures.no_write_fault c.in-Err-write_tables.ensures.rose) refl
