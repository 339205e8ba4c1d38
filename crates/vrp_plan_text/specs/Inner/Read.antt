-- The answer for a line, and the meaning of the line.
use Rattle.std.specs.Prelude.{◌≡◌, ℕ, pos, neg_ℤ, Result, Ok, Err, IsErr, List, map}
use Rattle.vrp_text.specs.Numeral.{number_of}
use Rattle.vrp_text.specs.declared.lexer.fault.FileLineFault.TheVariants.{BadNumber, NotWhole}
use Rattle.vrp_plan_text.specs.Line.{Blank, Cost, Line, Number, Route, Unknown}
use Rattle.vrp_plan_text.specs.declared.reading.line.TheConstants.{MAX_NUMBER}
use Rattle.vrp_plan_text.specs.declared.reading.line.LineError.{LineError}
use Rattle.vrp_plan_text.specs.declared.reading.line.LineError.TheVariants as fault
use Rattle.vrp_plan_text.specs.declared.reading.line.StatedCost.{StatedCost}
use Rattle.vrp_plan_text.specs.declared.reading.line.StatedCost.TheVariants.{Whole, Fraction}
use Rattle.vrp_plan_text.specs.declared.reading.line.Said.{Said}
use Rattle.vrp_plan_text.specs.declared.reading.line.Said.TheVariants as said

-- a stated cost
abbrev pub number_stated : StatedCost → Number
number_stated (Whole cost) = Ok (pos cost)
number_stated Fraction = Err NotWhole

-- a cost that is not a number, or a route whose number is not one
abbrev pub HasNoNumber : Line → Type 0
HasNoNumber Blank = ⊥
HasNoNumber (Route number stops) = IsErr number
HasNoNumber (Cost cost) = cost ≡ Err BadNumber
HasNoNumber Unknown = ⊥

-- the fault of a line
abbrev pub IsWrong : Line → LineError → Type 0
IsWrong line fault.Unknown = line ≡ Unknown
IsWrong line fault.BadNumber = HasNoNumber line

-- the result of reading the tokens behind the word of a cost
abbrev pub IsCostRead : Line → Result StatedCost LineError → Type 0
IsCostRead line (Ok cost) = line ≡ Cost (number_stated cost)
IsCostRead line (Err error) = IsWrong line error

-- the stops of a route whose stops are still tokens
abbrev pub stops_written : List (List ℕ) → List Number
stops_written tokens = map (number_of (neg_ℤ MAX_NUMBER) MAX_NUMBER) tokens

-- the result of reading a line
abbrev pub IsRead : Line → Result Said LineError → Type 0
IsRead line (Ok said.Nothing) = line ≡ Blank
IsRead line (Ok (said.Route number stops)) = line ≡ Route (Ok (pos number)) (stops_written stops)
IsRead line (Ok (said.Cost cost)) = line ≡ Cost (number_stated cost)
IsRead line (Err error) = IsWrong line error
