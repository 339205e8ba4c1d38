use Rattle.std.proofs.Common.{◌++◌, ◌∷◌, [], List, refl, ◌∙◌, ap}
use Rattle.vrp_partition.specs.Branching.{NodeState}
use Rattle.vrp_partition.proofs.SearchStates.{begun}
use Rattle.vrp_partition.proofs.search.Search.new.Goals as goal

pub returns : goal.returns
returns g c = λ customers trucks fewest. begun c.args.pool.items customers trucks fewest c.args.incumbent _ _ c.new.result refl
    (c.in_ok-push.ensures.items ∙ ap (λ (xs : List NodeState). xs ++ c.new.result ∷ []) c.new-open_nodes.ensures.items) c.new.ensures
