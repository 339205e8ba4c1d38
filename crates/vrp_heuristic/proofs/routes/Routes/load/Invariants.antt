use Rattle.std.proofs.Common.{◌≡◌, ◌≤◌}
use Rattle.vrp_model.specs.Problem.{place_count}
use Rattle.vrp_heuristic.proofs.routes.Routes.load.Given as goal

abbrev pub invariant-loop-symbol : goal.invariant-loop-symbol
invariant-loop-symbol l = record {
  places : l.self ≡ place_count l.setting;
  route : l.route ≤ l.customers;
  before : l.before ≤ l.customers;
}
