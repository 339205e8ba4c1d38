use Rattle.std.proofs.Common.{arith}
use Rattle.std.proofs.lemmas.Grind.{elements}
use Rattle.std.proofs.lemmas.Int.{ints}
use Rattle.vrp_command_streams.proofs.refusal.NoInstanceDisplay.fmt.Goals as goal

pub returns-in-DepotDemand-clause-writes : goal.returns-in-DepotDemand-clause-writes
returns-in-DepotDemand-clause-writes c = grind (ints, arith, elements)

pub returns-in-NotADepot-clause-writes : goal.returns-in-NotADepot-clause-writes
returns-in-NotADepot-clause-writes c = grind (ints, arith, elements)

pub returns-in-DemandOverCapacity-clause-writes : goal.returns-in-DemandOverCapacity-clause-writes
returns-in-DemandOverCapacity-clause-writes c = grind (ints, arith, elements)
