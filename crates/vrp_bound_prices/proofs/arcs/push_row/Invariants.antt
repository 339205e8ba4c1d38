use Rattle.std.proofs.Common.{◌≡◌, ◌+◌, ◌*◌, vec_len}
use Rattle.std.specs.Vec.{vec_capacity}
use Rattle.vrp_model.specs.Problem.{place_count}
use Rattle.vrp_bound_prices.specs.Inner.Arcs.{ArePricedArcs}
use Rattle.vrp_bound_prices.proofs.arcs.push_row.Given as goal

abbrev pub invariant-loop-to : goal.invariant-loop-to
invariant-loop-to l = record {
  next : vec_len l.weights ≡ l.from * place_count l.instance + l.to;
  capacity : vec_capacity l.weights ≡ vec_capacity l.initial.weights;
  so_far : ArePricedArcs l.instance l.scale l.prices l.cuts l.weights.items;
}
