-- The four numbers of a run's refusals.
use Rattle.std.specs.Prelude.{ℕ}
use Rattle.faults.specs.declared.Fault.{Fault}
use Rattle.faults.specs.Faults.{told}
use Rattle.plans.specs.Faults.{plan_tells}
use Rattle.runs.specs.declared.types.RunFault.{RunFault}
use Rattle.runs.specs.declared.types.RunFault.TheVariants.{NoWorker, NoTaskLeft, InputMissing, Overrun}
use Rattle.runs.specs.declared.types.OpenFault.{OpenFault}
use Rattle.runs.specs.declared.types.OpenFault.TheVariants.{Refused, Memory}

-- a refusal of the run's layer has no record
abbrev pub in_run : ℕ → ℕ → Fault
in_run number place = told number 5 place 0

abbrev pub run_tells : RunFault → Fault
run_tells (NoWorker worker) = in_run 21 worker
run_tells (NoTaskLeft worker) = in_run 22 worker
run_tells (InputMissing task) = in_run 23 task
run_tells (Overrun task) = in_run 24 task

-- what the check refuses is passed on whole; want of memory has no number of its own
abbrev pub open_tells : OpenFault → Fault
open_tells (Refused fault) = plan_tells fault
open_tells Memory = in_run 0 0
