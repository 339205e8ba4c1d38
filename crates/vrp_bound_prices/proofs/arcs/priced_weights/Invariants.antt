use Rattle.std.proofs.Common.{◌≡◌, ◌*◌, vec_len}
use Rattle.std.specs.Vec.{vec_capacity}
use Rattle.vrp_model.specs.Problem.{place_count}
use Rattle.vrp_bound_prices.specs.Inner.Arcs.{ArePricedArcs}
use Rattle.vrp_bound_prices.proofs.arcs.priced_weights.Given as goal

abbrev pub invariant-loop-from : goal.invariant-loop-from
invariant-loop-from l = record {
  next : vec_len l.weights ≡ l.from * place_count l.instance;
  capacity : vec_capacity l.weights ≡ place_count l.instance * place_count l.instance;
  so_far : ArePricedArcs l.instance l.scale l.prices l.cuts l.weights.items;
}
