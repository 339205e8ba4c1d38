-- The fault of a file that is refused.
use Rattle.std.proofs.Common.{◌≢◌}
use Rattle.vrp_text.specs.declared.error.TextError.{TextError}
use Rattle.vrp_text.specs.declared.error.TextError.TheVariants as text
use Rattle.vrp_command_streams.specs.Fault.{refusal_fault}
use Rattle.vrp_command.specs.Run.{OnRefusedFile}

-- what is known of a refusal is known of its fault
pub on_refusal : (P : TextError → Type 0) (refusal : TextError) → (refusal ≢ text.OutOfMemory → P refusal) → OnRefusedFile (refusal_fault refusal) P
on_refusal P (text.DataOutside line) known = (λ same. cc, known (λ same. cc))
on_refusal P (text.UnknownKeyword line) known = (λ same. cc, known (λ same. cc))
on_refusal P (text.Repeated line) known = (λ same. cc, known (λ same. cc))
on_refusal P (text.BadValue line) known = (λ same. cc, known (λ same. cc))
on_refusal P (text.Unsupported line) known = (λ same. cc, known (λ same. cc))
on_refusal P (text.BadNumber line) known = (λ same. cc, known (λ same. cc))
on_refusal P (text.NotWhole line) known = (λ same. cc, known (λ same. cc))
on_refusal P (text.Missing key) known = (λ same. cc, known (λ same. cc))
on_refusal P (text.WrongCount key) known = (λ same. cc, known (λ same. cc))
on_refusal P (text.BadNode key node) known = (λ same. cc, known (λ same. cc))
on_refusal P (text.Instance refusal) known = (λ same. cc, known (λ same. cc))
on_refusal P text.TooLong known = (λ same. cc, known (λ same. cc))
on_refusal P text.OutOfMemory known = tt
