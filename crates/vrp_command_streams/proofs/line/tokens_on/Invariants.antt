use Rattle.std.proofs.Common.{length}
use Rattle.vrp_command_streams.proofs.line.tokens_on.Given as goal

abbrev pub decreases-loop-tokens : goal.decreases-loop-tokens
decreases-loop-tokens l = length l.tokens
