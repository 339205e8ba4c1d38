use Rattle.std.proofs.Common.{rules, arith}
use Rattle.std.proofs.lemmas.Grind.{common_steps}
use Rattle.std.proofs.lemmas.Int.{ints}
use Rattle.vrp_command_streams.proofs.WrittenParts.{written_on, written_within}
use Rattle.vrp_command_streams.proofs.output.write_report.Goals as goal

pub loop-written-preserved : goal.loop-written-preserved
loop-written-preserved g c = search (rules, written_on, written_within)

pub returns-clause-written : goal.returns-clause-written
returns-clause-written c = grind (ints, arith, common_steps)
