use Rattle.std.proofs.Common.{List, sym, subst, arith}
use Rattle.std.specs.List.{All, Contains}
use Rattle.std.proofs.lemmas.List.Elements.{All-contains_itself}
use Rattle.vrp_partition.specs.Choice.{NoneBelow}
use Rattle.vrp_partition.specs.declared.route.Route.{Route}
use Rattle.vrp_partition.proofs.bounding.price_node.Goals as goal

pub returns-in_ok-from_slice-in-None : goal.returns-in_ok-from_slice-in-None
returns-in_ok-from_slice-in-None c =
    let same = c.in_ok-from_slice-in-None.ensures.items in
    record {
      parts = subst (All (Contains c.args.pool.now)) (sym same) (All-contains_itself c.args.pool.now);
      least = λ limit most none. subst (λ (routes : List Route). NoneBelow routes c.args.task.now.customers c.args.task.now.fleet.trucks c.args.task.now.least_routes limit) same none;
      bound = λ routes choice many. omega arith;
    }
