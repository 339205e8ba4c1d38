use Rattle.std.proofs.Common.{◌+◌, ◌-◌, ◌≤◌, ◌<◌, vec_len}
use Rattle.std.specs.Io.KnownBytes.{Consumes}
use Rattle.vrp_text.specs.declared.lexer.limits.TheConstants.{MAX_BYTES}
use Rattle.vrp_command_streams.proofs.input.read_input.Given as goal

abbrev pub invariant-loop-buffer : goal.invariant-loop-buffer
invariant-loop-buffer g l =
    Consumes (g.R.Read.remaining l.initial.input) (g.R.Read.remaining l.input) l.bytes.items
    × (vec_len l.bytes ≤ MAX_BYTES + 1)
    × (0 < vec_len l.buffer)

abbrev pub decreases-loop-buffer : goal.decreases-loop-buffer
decreases-loop-buffer g l = (MAX_BYTES + 1) - vec_len l.bytes
