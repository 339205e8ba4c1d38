use Rattle.std.proofs.Common.{◌++◌, ◌∷◌, [], List, ◌∙◌, ap}
use Rattle.vrp_partition.specs.Branching.{NodeState, SearchState}
use Rattle.vrp_partition.proofs.search.Search.open_branches.Goals as goal

pub returns-clause-opened : goal.returns-clause-opened
returns-clause-opened g c = record {
  first = c.new-2.result;
  second = c.new.result;
  first_is = c.new-2.ensures;
  second_is = c.new.ensures;
  nodes = c.in_ok-push-2.ensures.items ∙ ap (λ (xs : List NodeState). xs ++ c.new-2.result ∷ [])
      (c.in_ok-push.ensures.items ∙ ap (λ (s : SearchState). s.open_nodes ++ c.new.result ∷ []) c.self.view_is);
}
