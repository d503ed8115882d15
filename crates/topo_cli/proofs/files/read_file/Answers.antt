use Rattle.std.proofs.Common.{rules, length, take, Option, subst}
use Rattle.ports.specs.Outside.{Files, IsPartAt}
use Rattle.topo_cli.proofs.Front.{front_grows}
use Rattle.topo_cli.proofs.files.read_file.Goals as goal

pub loop-buffer-preserved : goal.loop-buffer-preserved
loop-buffer-preserved g c = record {
  front =
      let P : Option Files → Type 0 = λ files. IsPartAt files c.args.name.now c.len-in-loop-buffer.result (length c.read_at.new.into) (take c.in-Ok.count c.read_at.new.into) in
      rw c.in-Ok-extend_from_slice.ensures.items (front_grows _ _ _ _ _ _ (search rules) c.loop-buffer.invariant.front (subst P c.loop-buffer.invariant.kept c.in-Ok.ensures.read));
  kept = search rules;
  faults = search rules;
  misses = search rules;
  write_faults = search rules;
  bound = search rules;
  same = search rules;
}
