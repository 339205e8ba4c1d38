use Rattle.std.proofs.Common.{length}
use Rattle.vrp_command_streams.proofs.start.has_number.Given as goal

abbrev pub decreases-loop-token : goal.decreases-loop-token
decreases-loop-token l = length l.tokens
