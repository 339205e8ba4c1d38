-- The texts of faults, and the exit statuses.
use Rattle.std.specs.Prelude.{ℕ, List, Result, Ok, Err, codes}
use Rattle.vrp_text.specs.declared.error.TextError.{TextError}
use Rattle.vrp_text.specs.declared.error.TextError.TheVariants as text
use Rattle.vrp_command_streams.specs.Refusal.{refusal_text}
use Rattle.vrp_answer.specs.declared.status.Status.{Status}
use Rattle.vrp_answer.specs.declared.status.Status.TheVariants as status
use Rattle.vrp_command_streams.specs.declared.fault.RunError.{RunError}
use Rattle.vrp_command_streams.specs.declared.fault.RunError.TheVariants as fault

abbrev pub fault_text : RunError → List ℕ
fault_text (fault.Text refusal) = refusal_text refusal
fault_text fault.OutOfMemory = codes "out of memory"
fault_text fault.Read = codes "read fault"
fault_text fault.Write = codes "write fault"

abbrev pub exit_code : Result Status RunError → ℕ
exit_code (Ok status.Proven) = 0
exit_code (Ok status.Open) = 1
exit_code (Ok status.NoPlan) = 0
exit_code (Ok status.Lawful) = 0
exit_code (Err (fault.Text _)) = 3
exit_code (Err fault.OutOfMemory) = 4
exit_code (Err fault.Read) = 5
exit_code (Err fault.Write) = 5

-- the fault of a file with this refusal
abbrev pub refusal_fault : TextError → RunError
refusal_fault text.OutOfMemory = fault.OutOfMemory
refusal_fault (text.DataOutside line) = fault.Text (text.DataOutside line)
refusal_fault (text.UnknownKeyword line) = fault.Text (text.UnknownKeyword line)
refusal_fault (text.Repeated line) = fault.Text (text.Repeated line)
refusal_fault (text.BadValue line) = fault.Text (text.BadValue line)
refusal_fault (text.Unsupported line) = fault.Text (text.Unsupported line)
refusal_fault (text.BadNumber line) = fault.Text (text.BadNumber line)
refusal_fault (text.NotWhole line) = fault.Text (text.NotWhole line)
refusal_fault (text.Missing key) = fault.Text (text.Missing key)
refusal_fault (text.WrongCount key) = fault.Text (text.WrongCount key)
refusal_fault (text.BadNode key node) = fault.Text (text.BadNode key node)
refusal_fault (text.Instance refusal) = fault.Text (text.Instance refusal)
refusal_fault text.TooLong = fault.Text text.TooLong
