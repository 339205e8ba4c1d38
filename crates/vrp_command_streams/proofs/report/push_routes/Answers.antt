use Rattle.std.proofs.Common.{◌+◌}
use Rattle.vrp_command_streams.specs.StopNumbers.{number_in}
use Rattle.vrp_command_streams.proofs.ReportLemmas.{route_lines-drop, line_written}
use Rattle.vrp_command_streams.proofs.report.push_routes.Goals as goal

pub loop-index-preserved : goal.loop-index-preserved
loop-index-preserved c =
    let lines = route_lines-drop (number_in c.args.numbering) c.args.plan.now.routes c.loop-index.index (c.loop-index.index + 1) c.route.result.now c.route.ensures in
    line_written _ _ _ _ _ _ c.in_ok-push_route.ensures lines c.loop-index.invariant
