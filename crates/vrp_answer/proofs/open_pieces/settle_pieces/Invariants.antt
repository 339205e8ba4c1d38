use Rattle.std.proofs.Common.{ℕ, Option, List}
use Rattle.std.specs.List.{All}
use Rattle.vrp_model.specs.Route.{PricedPlan}
use Rattle.vrp_answer.specs.Inner.Conclusion.{AreOpenPieces}
use Rattle.vrp_answer.specs.Outcomes.{IsOpenPiece}
use Rattle.vrp_answer.specs.declared.outcome.OpenPiece.{OpenPiece}
use Rattle.vrp_answer.proofs.open_pieces.settle_pieces.Given as goal

abbrev pub invariant-loop-one : goal.invariant-loop-one
invariant-loop-one g l = record {
  pieces : All (λ (left : OpenPiece). IsOpenPiece l.shared left.piece left) l.one-iterator.rest.items;
  all : (cutting : List (List ℕ)) (best : Option PricedPlan) → AreOpenPieces l.shared cutting best (record { gatherer = l.fn.gatherer; cost = l.fn.cost; low = l.fn.cost }) l.fn.left.items
      → AreOpenPieces l.shared cutting best l.open_pieces l.one-iterator.rest.items;
}
