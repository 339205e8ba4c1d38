-- The exit status when there is no start plan.
use Rattle.std.specs.Prelude.{ℕ}
use Rattle.vrp_command.specs.declared.start.StartError.{StartError}
use Rattle.vrp_command.specs.declared.start.StartError.TheVariants as start_fault

abbrev pub start_code : StartError → ℕ
start_code (start_fault.Refused _) = 3
start_code start_fault.TooLong = 3
start_code start_fault.OutOfMemory = 4
start_code start_fault.Read = 5
