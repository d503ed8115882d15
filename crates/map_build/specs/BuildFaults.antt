-- What a fault of a build says.
use Rattle.std.specs.Prelude.{◌≡◌, Option, Some, ⊤}
use Rattle.topo_base.specs.declared.refusal.Refusal.{Refusal}
use Rattle.rotation_check.specs.declared.checking.CheckFault.{CheckFault}
use Rattle.rotation_check.specs.declared.checking.CheckFault.TheVariants as check
use Rattle.map_build.specs.declared.fault.BuildFault.{BuildFault}
use Rattle.map_build.specs.declared.fault.BuildFault.TheVariants as build

-- the first fault, or want of memory
abbrev pub Names : BuildFault → Option Refusal → Type 0
Names (build.Refused e) first = first ≡ Some e
Names build.Memory first = ⊤

-- the fault of a check as the fault of a build
abbrev pub is_fault_of : CheckFault → BuildFault → Type 0
is_fault_of (check.Refused e) fault = fault ≡ build.Refused e
is_fault_of check.Memory fault = fault ≡ build.Memory
