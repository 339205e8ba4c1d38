use Rattle.std.proofs.Common.{◌++◌, arith, length-append, length-take, take, rules}
use Rattle.std.proofs.KnownBytes.{Consumes-trans}
use Rattle.std.proofs.lemmas.Grind.{common_steps}
use Rattle.std.proofs.lemmas.Int.{ints}
use Rattle.vrp_command_streams.proofs.input.read_input.Goals as goal

pub returns-in_err-extend_from_slice-clause-taken : goal.returns-in_err-extend_from_slice-clause-taken
returns-in_err-extend_from_slice-clause-taken g c =
    let left = g.R.Read.remaining in
    let so_far = c.loop-buffer.bytes.items in
    let more = take c.in_ok-count.count c.read_some.new.buffer in
    record {
      bytes = so_far ++ more;
      taken = Consumes-trans (left c.args.input.now) (left c.loop-buffer.input) (left c.read_some.new.input) so_far more c.loop-buffer.invariant.0 c.in_ok-count.ensures.read;
      bounded = rw (length-append so_far more) (omega (arith, length-take c.in_ok-count.count c.read_some.new.buffer, simp length-take at c.in_ok-count.ensures.bounded));
    }

pub loop-buffer-preserved : goal.loop-buffer-preserved
loop-buffer-preserved c = grind (ints, arith, common_steps)

pub returns-clause-read : goal.returns-clause-read
returns-clause-read c = search rules
