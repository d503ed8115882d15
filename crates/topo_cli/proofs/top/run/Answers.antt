use Rattle.std.proofs.Common.{refl}
use Rattle.topo_cli.proofs.Built.{of_form}
use Rattle.topo_cli.proofs.top.run.Goals as goal

pub returns-in-Some-Build : goal.returns-in-Some-Build
returns-in-Some-Build g c =
    of_form _ _ _ _ _ _ _ _ (rw c.in-Some-Build.field-0-is at c.in-Some-Build.ensures) (c.build_file.ensures _ (record { left = refl; faults = refl }))

pub returns-in-Some-Check : goal.returns-in-Some-Check
returns-in-Some-Check g c =
    of_form _ _ _ _ _ _ _ _ (rw c.in-Some-Check.field-0-is at c.in-Some-Check.ensures) (c.check_file.ensures _ (record { left = refl; faults = refl }))

pub returns-in-Some-Trial : goal.returns-in-Some-Trial
returns-in-Some-Trial g c =
    of_form _ _ _ _ _ _ _ _ (rw c.in-Some-Trial.field-0-is at c.in-Some-Trial.ensures)
    (c.trial.ensures _ _ (record { files = refl; misses = refl; faults = refl; write_faults = refl }) (record { left = refl; faults = refl }))

pub returns-in-Some-Hops : goal.returns-in-Some-Hops
returns-in-Some-Hops g c =
    of_form _ _ _ _ _ _ _ _ (rw c.in-Some-Hops.field-0-is at c.in-Some-Hops.ensures) (c.hops.ensures _ (record { left = refl; faults = refl }))

pub returns-in-Some-Border : goal.returns-in-Some-Border
returns-in-Some-Border g c =
    of_form _ _ _ _ _ _ _ _ (rw c.in-Some-Border.field-0-is at c.in-Some-Border.ensures) (c.border.ensures _ (record { left = refl; faults = refl }))

pub returns-in-Some-Upgrade : goal.returns-in-Some-Upgrade
returns-in-Some-Upgrade g c =
    of_form _ _ _ _ _ _ _ _ (rw c.in-Some-Upgrade.field-0-is at c.in-Some-Upgrade.ensures) (c.upgrade.ensures _ (record { left = refl; faults = refl }))

pub returns-in-Some-Dump : goal.returns-in-Some-Dump
returns-in-Some-Dump g c =
    of_form _ _ _ _ _ _ _ _ (rw c.in-Some-Dump.field-0-is at c.in-Some-Dump.ensures) (c.dump.ensures _ (record { left = refl; faults = refl }))
