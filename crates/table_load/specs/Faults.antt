-- Why a load ends before it is done, by why a step of it did.
use Rattle.cluster.specs.declared.step.StepError.{StepError}
use Rattle.recovery_manager.specs.declared.sweep_end.SweepEnd.{SweepEnd}
use Rattle.table_load.specs.declared.end.LoadFault.{LoadFault}

abbrev pub step_fault : StepError → LoadFault
step_fault StepError.Spent = LoadFault.Spent
step_fault StepError.NoMemory = LoadFault.NoMemory

abbrev pub sweep_fault : SweepEnd → LoadFault
sweep_fault SweepEnd.Stopped = LoadFault.Stopped
sweep_fault SweepEnd.Spent = LoadFault.Spent
sweep_fault SweepEnd.NoMemory = LoadFault.NoMemory
