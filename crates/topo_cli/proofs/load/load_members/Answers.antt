use Rattle.std.proofs.Common.{◌≡◌, IfSome, List, Ok, ◌&&◌, sym, subst}
use Rattle.std.proofs.lemmas.Option.{MatchOption-at_none, MatchOption-at_some}
use Rattle.topo_base.specs.declared.refusal.Table.TheVariants as kind
use Rattle.plane_model.specs.Reading.{member_row, member_rows}
use Rattle.plane_model.specs.InRange.{is_id, is_face_id}
use Rattle.plane_model.proofs.ReadInRange.{rows-read, member_row-in_range}
use Rattle.plane_model.specs.declared.rows.MemberRow.{MemberRow}
use Rattle.topo_cli.specs.Words.{member_table}
use Rattle.topo_cli.specs.Loading.{IsMetWhereTold}
use Rattle.topo_cli.specs.Tables.{optional_table}
use Rattle.topo_cli.specs.declared.load.LoadFault.{LoadFault}
use Rattle.topo_cli.proofs.Loads.{err_and, of_some, optional_none, optional_refused, optional_rows, optional_stopped}
use Rattle.topo_cli.proofs.load.load_members.Goals as goal

pub returns-in_err-bytes-clause-ends : goal.returns-in_err-bytes-clause-ends
returns-in_err-bytes-clause-ends g c =
    let P : LoadFault → Type 0 = IsMetWhereTold (g.H.Shelf.files c.args.shelf.now) (λ files. optional_table member_rows files (member_table c.args.dir.now)) in
    err_and _ _ P c.from_residual-in_err-bytes.ensures.1
    (λ e same. subst P (sym same) (optional_stopped member_rows _ _ _ _ c.in_ok-name.ensures.ok c.in_err-bytes.ensures.stopped c.in_err-bytes.ensures.named))

pub returns-in_err-read_members-in-Some-clause-ends : goal.returns-in_err-read_members-in-Some-clause-ends
returns-in_err-read_members-in-Some-clause-ends g c =
    let P : LoadFault → Type 0 = IsMetWhereTold (g.H.Shelf.files c.args.shelf.now) (λ files. optional_table member_rows files (member_table c.args.dir.now)) in
    let whole = MatchOption-at_some _ _ _ c.in-Some.is c.in_ok-bytes.ensures.whole in
    let short = of_some _ _ _ c.in-Some.is c.in_ok-bytes.ensures.short in
    err_and _ _ P c.from_residual-in_err-read_members-in-Some.ensures.1
    (λ e same. optional_refused member_rows _ _ _ _ _ _ e c.in_ok-name.ensures.ok c.deref.ensures.value whole short c.in_err-read_members-in-Some.ensures.refused same)

pub returns-in_ok-read_members-in-Some-clause-rows : goal.returns-in_ok-read_members-in-Some-clause-rows
returns-in_ok-read_members-in-Some-clause-rows g c =
    let whole = MatchOption-at_some _ _ _ c.in-Some.is c.in_ok-bytes.ensures.whole in
    let short = of_some _ _ _ c.in-Some.is c.in_ok-bytes.ensures.short in
    optional_rows member_rows _ _ _ _ _ _ c.in_ok-name.ensures.ok c.deref.ensures.value whole short c.in_ok-read_members-in-Some.ensures.rows

pub returns-in_ok-read_members-in-Some-clause-in_range : goal.returns-in_ok-read_members-in-Some-clause-in_range
returns-in_ok-read_members-in-Some-clause-in_range g c =
    (rows-read kind.Member member_row (λ r. is_id r.region && is_face_id r.face) member_row-in_range c.deref.result.now c.in_ok-read_members-in-Some.field-0.items c.in_ok-read_members-in-Some.ensures.rows).0

pub returns-in_ok-read_members-in-Some-clause-few : goal.returns-in_ok-read_members-in-Some-clause-few
returns-in_ok-read_members-in-Some-clause-few g c =
    (rows-read kind.Member member_row (λ r. is_id r.region && is_face_id r.face) member_row-in_range c.deref.result.now c.in_ok-read_members-in-Some.field-0.items c.in_ok-read_members-in-Some.ensures.rows).1

pub returns-in-None-clause-rows : goal.returns-in-None-clause-rows
returns-in-None-clause-rows g c =
    let P : List MemberRow → Type 0 = λ rows. IfSome (g.H.Shelf.files c.args.shelf.now) (λ files. optional_table member_rows files (member_table c.args.dir.now) ≡ Ok rows) in
    subst P (sym c.new.ensures.items) (optional_none member_rows _ _ _ c.in_ok-name.ensures.ok (MatchOption-at_none _ _ c.in-None.is c.in_ok-bytes.ensures.whole))
