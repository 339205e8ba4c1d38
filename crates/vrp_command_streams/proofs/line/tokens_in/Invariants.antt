use Rattle.std.proofs.Common.{length}
use Rattle.vrp_command_streams.proofs.line.tokens_in.Given as goal

abbrev pub decreases-loop-line : goal.decreases-loop-line
decreases-loop-line l = length l.lines.lines
