use Rattle.std.proofs.Common.{◌≡◌, List, ℕ, ap, sym, subst}
use Rattle.vrp_bound.specs.Tables.{TablesOf}
use Rattle.vrp_model.specs.Problem.{customers}
use Rattle.vrp_model.proofs.UnservedCustomers.{unserved_are_customers}
use Rattle.vrp_search_tree.specs.Low.{AreCovered}
use Rattle.test_solver.proofs.search.depth_first.search_piece.Goals as goal

pub search-requires-clause-covered : goal.search-requires-clause-covered
search-requires-clause-covered g c =
    let p = c.args.instance.now in
    let prefix = c.args.piece.now.word in
    let among : c.in_ok-tables.tables.among ≡ customers p = ap (λ (tables : TablesOf). tables.among) c.in_ok-tables.ensures in
    subst (λ (xs : List ℕ). AreCovered p xs prefix) (sym among) (unserved_are_customers p prefix)
