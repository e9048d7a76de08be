-- The four numbers of a plan's fault.
use Rattle.faults.specs.declared.Fault.{Fault}
use Rattle.faults.specs.Faults.{in_plan}
use Rattle.records.specs.Faults.{record_tells}
use Rattle.plans.specs.declared.fault.PlanFault.{PlanFault}
use Rattle.plans.specs.declared.fault.PlanFault.TheVariants.{ShortTable, InRecord, NotOfGraph, Parameter, TooLarge, NoneFits, TooLate, ShortBuffer, NoWorker, AboveCeiling, Overlap, Overfull, LateInput}

abbrev pub plan_tells : PlanFault → Fault
plan_tells ShortTable = in_plan 1 512
plan_tells (InRecord c) = record_tells c.fault c.«record»
plan_tells (NotOfGraph place) = in_plan 10 place
plan_tells (Parameter position) = in_plan 11 position
plan_tells (TooLarge task) = in_plan 12 task
plan_tells (NoneFits task) = in_plan 13 task
plan_tells (TooLate task) = in_plan 14 task
plan_tells (ShortBuffer needed) = in_plan 15 needed
plan_tells (NoWorker task) = in_plan 16 task
plan_tells (AboveCeiling task) = in_plan 17 task
plan_tells (Overlap task) = in_plan 18 task
plan_tells (Overfull worker) = in_plan 19 worker
plan_tells (LateInput edge) = in_plan 20 edge
