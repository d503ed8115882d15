use Rattle.std.proofs.Common.{ℕ, ◌+◌, List, length, length-drop, subst, sym, arith}
use Rattle.std.proofs.lemmas.List.{take_rest}
use Rattle.query_text.specs.Lines.{HasNoFeed}
use Rattle.topo_serve.proofs.NextLines.{none_next, no_behind, next_more, behind_more, some_more}
use Rattle.topo_serve.proofs.ahead.lines_from.Goals as goal

pub loop-rest-init : goal.loop-rest-init
loop-rest-init c =
    let script = c.args.script.now in
    let none = no_behind c.new-lines.result.items script c.new-lines.ensures in
    record {
      next = rw c.push.ensures.items (next_more c.new-lines.result.items _ script script (rw c.new-lines.ensures (none_next script)) none c.requires);
      left = rw (take_rest, c.push.ensures.items) (behind_more c.new-lines.result.items _ script script none);
      some = some_more _ _ _ c.push.ensures.items;
      within = rw take_rest (omega (arith, length-drop (c.args.first.end + 1) script));
    }

pub returns-in_default-clause-few : goal.returns-in_default-clause-few
returns-in_default-clause-few c few = subst (λ (bytes : List ℕ). HasNoFeed (length bytes) bytes) (sym c.loop-rest.invariant.left) c.in_default.ensures

pub loop-rest-preserved : goal.loop-rest-preserved
loop-rest-preserved c =
    let rest = c.loop-rest.rest.now in
    let end = c.in-Some.line.end in
    record {
      next = rw c.push-in-loop-rest.ensures.items (next_more c.loop-rest.lines.items _ c.args.script.now rest c.loop-rest.invariant.next c.loop-rest.invariant.left
          (record { within = c.in-Some.ensures.0; feed = c.in-Some.ensures.1; first = c.in-Some.ensures.2; said = c.in-Some.ensures.3 }));
      left = rw (take_rest, c.push-in-loop-rest.ensures.items) (behind_more c.loop-rest.lines.items _ c.args.script.now rest c.loop-rest.invariant.left);
      some = some_more _ _ _ c.push-in-loop-rest.ensures.items;
      within = rw take_rest (omega (arith, length-drop (end + 1) rest, c.loop-rest.invariant.within));
    }
