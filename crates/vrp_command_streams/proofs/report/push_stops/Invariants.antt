use Rattle.std.proofs.Common.{◌≡◌, ◌++◌, take}
use Rattle.std.specs.String.{string_bytes}
use Rattle.vrp_command_streams.specs.StopNumbers.{number_in}
use Rattle.vrp_command_streams.specs.Report.{stops_text}
use Rattle.vrp_command_streams.proofs.report.push_stops.Given as goal

abbrev pub invariant-loop-place : goal.invariant-loop-place
invariant-loop-place l = string_bytes l.text ≡ string_bytes l.initial.text ++ stops_text (number_in l.numbering) (take l.place-index l.route)
