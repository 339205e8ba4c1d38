use Rattle.std.proofs.Common.{length}
use Rattle.vrp_command_streams.proofs.answer.depots_on.Given as goal

abbrev pub decreases-loop-token : goal.decreases-loop-token
decreases-loop-token l = length l.tokens
