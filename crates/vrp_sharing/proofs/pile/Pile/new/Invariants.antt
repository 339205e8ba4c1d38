use Rattle.vrp_sharing.specs.Pile.{IsNewPile}
use Rattle.vrp_sharing.proofs.pile.Pile.new.Given as goal

abbrev pub invariant-loop : goal.invariant-loop
invariant-loop l = IsNewPile l.fn.cutting l.counter l.owner l.made.items
