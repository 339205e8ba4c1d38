use Rattle.std.proofs.Common.{◌≡◌, ◌+◌, ◌++◌, drop}
use Rattle.std.specs.String.{string_bytes}
use Rattle.vrp_command_streams.specs.StopNumbers.{number_in}
use Rattle.vrp_command_streams.specs.Report.{route_lines}
use Rattle.vrp_command_streams.proofs.report.push_routes.Given as goal

abbrev pub invariant-loop-index : goal.invariant-loop-index
invariant-loop-index l = string_bytes l.text ++ route_lines (number_in l.numbering) (l.index + 1) (drop l.index l.plan.routes) ≡ string_bytes l.initial.text ++ route_lines (number_in l.numbering) 1 l.plan.routes
