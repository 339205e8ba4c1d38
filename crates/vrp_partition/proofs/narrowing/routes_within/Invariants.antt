use Rattle.std.proofs.Common.{◌≤◌}
use Rattle.vrp_partition.specs.Narrowing.{IsNarrowed}
use Rattle.vrp_partition.proofs.narrowing.routes_within.Given as goal

abbrev pub invariant-loop : goal.invariant-loop
invariant-loop g l = record {
  most : l.budget ≤ l.fn.budget;
  narrowed : IsNarrowed l.pool l.query.customers l.query.fleet.trucks l.query.least_routes l.query.limit l.kept;
}
