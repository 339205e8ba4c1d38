-- How a call reports a fault of what it reads.
use Rattle.std.specs.Prelude.{◌≡◌, IfErr, Option, Some, Result}
use Rattle.vrp_text.specs.Refusal.{Refuses}
use Rattle.vrp_text.specs.declared.error.TextError.{TextError}

-- an error is this fault
abbrev pub FailsWith : {X E : Type 0} → Result X E → Option E → Type 0
FailsWith result fault = IfErr result (λ error. fault ≡ Some error)

-- a refusal is for this fault, or for lack of memory
abbrev pub RefusesFor : {X : Type 0} → Result X TextError → Option TextError → Type 0
RefusesFor result fault = Refuses result (λ error. fault ≡ Some error)
