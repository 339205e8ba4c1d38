use Rattle.std.proofs.Common.{arith, rules}
use Rattle.std.proofs.lemmas.Grind.{elements, common_steps}
use Rattle.std.proofs.lemmas.Int.{ints}
use Rattle.vrp_command_streams.proofs.refusal.RefusalDisplay.fmt.Goals as goal

pub returns-in-DataOutside-clause-writes : goal.returns-in-DataOutside-clause-writes
returns-in-DataOutside-clause-writes c = grind (ints, arith, elements)

pub returns-in-NotWhole-clause-writes : goal.returns-in-NotWhole-clause-writes
returns-in-NotWhole-clause-writes c = grind (ints, arith, elements)

pub returns-in-BadNode-clause-writes : goal.returns-in-BadNode-clause-writes
returns-in-BadNode-clause-writes c = grind (ints, arith, common_steps)

pub returns-in-BadNumber-clause-writes : goal.returns-in-BadNumber-clause-writes
returns-in-BadNumber-clause-writes c = search rules
