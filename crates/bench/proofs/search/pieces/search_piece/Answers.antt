use Rattle.std.proofs.Common.{sym, subst}
use Rattle.std.proofs.lemmas.List.Elements.{All-contains_itself}
use Rattle.vrp_bound.specs.Tables.{TablesOf}
use Rattle.vrp_model.specs.Word.{unserved_in}
use Rattle.vrp_model.proofs.UnservedCustomers.{unserved_are_customers}
use Rattle.vrp_search_tree.specs.Low.{AreCovered}
use Rattle.bench.proofs.search.pieces.search_piece.Goals as goal

-- all customers are among the tables'
pub search-requires-clause-covered : goal.search-requires-clause-covered
search-requires-clause-covered c =
    let p = c.args.instance.now in
    let prefix = c.args.piece.now.word in
    subst (λ (tables : TablesOf). AreCovered p tables.among prefix) (sym c.requires.tables) (unserved_are_customers p prefix)

-- those that are left unserved are among the piece's own
pub search-requires-2-clause-covered : goal.search-requires-2-clause-covered
search-requires-2-clause-covered c =
    let p = c.args.instance.now in
    let prefix = c.args.piece.now.word in
    subst (λ (tables : TablesOf). AreCovered p tables.among prefix) (sym c.in_ok-tables.ensures) (All-contains_itself (unserved_in p prefix))
