use Rattle.std.proofs.Common.{◌≡◌, List, ℕ, ap, sym, subst}
use Rattle.std.proofs.lemmas.List.Elements.{All-contains_itself}
use Rattle.vrp_bound.specs.Tables.{TablesOf}
use Rattle.vrp_model.specs.Word.{unserved_in}
use Rattle.vrp_search_tree.specs.Low.{AreCovered}
use Rattle.test_solver.proofs.search.depth_first.search_over_unserved.Goals as goal

pub search-requires-clause-covered : goal.search-requires-clause-covered
search-requires-clause-covered c =
    let p = c.args.instance.now in
    let prefix = c.args.piece.now.word in
    let among : c.in_ok-tables.tables.among ≡ unserved_in p prefix = ap (λ (tables : TablesOf). tables.among) c.in_ok-tables.ensures in
    subst (λ (xs : List ℕ). AreCovered p xs prefix) (sym among) (All-contains_itself (unserved_in p prefix))
