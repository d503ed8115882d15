use Rattle.std.proofs.Common.{◌≡◌, arith, sym, ◌∙◌, subst, ◌<◌, ◌∷◌, length}
use Rattle.code_laws.specs.Code.{step}
use Rattle.code_laws.specs.Orbits.{orbit}
use Rattle.file_laws.specs.Contents.{Contents}
use Rattle.file_laws.specs.MapOfFile.{signed_at}
use Rattle.pemb_file.specs.Served.{contents_of_view}
use Rattle.id_names.specs.RisingNames.{RisingNames}
use Rattle.navigate.specs.Ranked.{IsRankOf}
use Rattle.navigate.specs.OrbitWalk.{edge_names, positions_left}
use Rattle.navigate.proofs.Walking.{walk-head}
use Rattle.navigate.proofs.FaceLaws.{orbit-some}
use Rattle.navigate.proofs.Leasts.{least-first}
use Rattle.navigate.proofs.search.begun_at_smallest.Goals as goal

pub unreachable-requires : goal.unreachable-requires
unreachable-requires g c =
    orbit-some (contents_of_view c.args.served).code c.args.kind c.args.p c.requires (sym c.from-walk.ensures.positions ∙ c.in_default.ensures.next)

pub searched-requires : goal.searched-requires
searched-requires g c =
    let m = contents_of_view c.args.served in
    let kind = c.args.kind in
    let p = c.args.p in
    let own = c.in-Some.best.0 in
    let same = c.from-walk.ensures.contents in
    let next : orbit m.code kind p ≡ own ∷ positions_left c.ranked.new.self = sym c.from-walk.ensures.positions ∙ c.in-Some.ensures.next in
    record {
      contents = c.in-Some.ensures.contents ∙ same;
      kind = c.in-Some.ensures.kind ∙ c.from-walk.ensures.kind;
      within = subst (λ (x : Contents). own < length x.code.a) same c.in-Some.ensures.within;
      edge = subst (λ (x : RisingNames). IsRankOf x c.in-Some.best.1 (signed_at m own)) (sym c.in-Some.ensures.names)
          (subst (λ (x : Contents). IsRankOf (edge_names c.from-walk.result) c.in-Some.best.1 (signed_at x own)) same c.in-Some.ensures.edge);
      smallest = least-first m p own (orbit m.code kind p) (positions_left c.ranked.new.self) (walk-head (length m.code.a) (step m.code kind) p p (λ z. omega (arith, z, c.requires))) next;
    }
