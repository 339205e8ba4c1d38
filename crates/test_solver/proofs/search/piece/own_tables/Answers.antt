use Rattle.std.proofs.Common.{◌∙◌, subst, sym}
use Rattle.std.specs.List.{All, Contains}
use Rattle.std.specs.List.Sorted.{IsStrictlyIncreasing}
use Rattle.vrp_model.specs.Problem.{customers}
use Rattle.vrp_model.proofs.UnservedCustomers.{unserved_are_customers}
use Rattle.vrp_search_tree.proofs.UnservedListed.{unserved_rise}
use Rattle.test_solver.proofs.search.piece.own_tables.Goals as goal

pub build-requires-clause-rising : goal.build-requires-clause-rising
build-requires-clause-rising c =
    subst IsStrictlyIncreasing (sym (c.deref.ensures.value ∙ c.in_ok-unserved.ensures)) (unserved_rise c.args.instance.now c.args.piece.now.word)

pub build-requires-clause-customers : goal.build-requires-clause-customers
build-requires-clause-customers c =
    subst (All (Contains (customers c.args.instance.now))) (sym (c.deref.ensures.value ∙ c.in_ok-unserved.ensures)) (unserved_are_customers c.args.instance.now c.args.piece.now.word)
