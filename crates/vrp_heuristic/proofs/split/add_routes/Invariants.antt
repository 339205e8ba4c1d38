use Rattle.std.proofs.Common.{◌<◌, length}
use Rattle.std.specs.List.{All}
use Rattle.vrp_model.specs.Problem.{place_count}
use Rattle.vrp_heuristic.specs.Inner.Tables.{IsPredecessor}
use Rattle.vrp_heuristic.proofs.split.add_routes.Given as goal

abbrev pub invariant-loop-end : goal.invariant-loop-end
invariant-loop-end l = record {
  last : l.last < place_count l.instance;
  within : All (IsPredecessor (length l.initial.predecessors)) l.predecessors;
}
