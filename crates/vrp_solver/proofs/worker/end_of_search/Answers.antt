use Rattle.std.proofs.Common.{◌≡◌, ◌∙◌, ◌⊎◌, ◌≤◌, Bool, IsTrue, ap, sym, subst}
use Rattle.std.proofs.lemmas.Result.{IfOk-weaker}
use Rattle.std.specs.Option.{ForSome, option_map}
use Rattle.vrp_bound.specs.Tables.{TablesOf}
use Rattle.vrp_model.specs.Problem.{customers}
use Rattle.vrp_model.specs.Route.{IsPlanOf}
use Rattle.vrp_model.proofs.UnservedCustomers.{unserved_are_customers}
use Rattle.vrp_search_tree.specs.Low.{AreCovered}
use Rattle.vrp_search_tree.specs.Search.{EndsSearch}
use Rattle.vrp_solver.specs.SeatBoard.{floor_of}
use Rattle.vrp_answer.specs.Outcomes.{EndsPiece, Search}
use Rattle.vrp_solver.proofs.Floors.{later_itself}
use Rattle.vrp_answer.proofs.Outcomes.{ends_within}
use Rattle.vrp_solver.proofs.worker.end_of_search.Goals as goal

pub search-requires-clause-covered : goal.search-requires-clause-covered
search-requires-clause-covered g c =
    let p = c.shared.inside.instance.now in
    let prefix = c.args.piece.now.word in
    subst (λ (tables : TablesOf). AreCovered p tables.among prefix) (sym c.shared.invariant.0) (unserved_are_customers p prefix)

pub search-requires-clause-board : goal.search-requires-clause-board
search-requires-clause-board g c = subst (λ (s : Search). ForSome c.args.board.now.best (IsPlanOf s.problem)) (sym c.shared.view_is) c.requires.serves

pub returns-clause-serves : goal.returns-clause-serves
returns-clause-serves g c = subst (λ (s : Search). ForSome c.search.new.board.best (IsPlanOf s.problem)) c.shared.view_is c.search.ensures.serves

pub returns-clause-later : goal.returns-clause-later
returns-clause-later g c = c.search.ensures.keeps c.args.board.now (later_itself c.args.board.now)

pub returns-clause-ended : goal.returns-clause-ended
returns-clause-ended g c =
    let p = c.shared.inside.instance.now in
    let s : Search = record { problem = p; start_plan = option_map (λ plan. plan.now) c.shared.inside.start_plan; pieces = c.shared.inside.pieces; budget = c.shared.inside.budget; may_stop = g.G.Gate.may_stop c.shared.inside.gate.now } in
    let floor = floor_of c.search.new.board in
    let stops = c.search.new.board.may_stop in
    let budget = c.piece_budget.result in
    let word = c.args.piece.now.word in
    let same : stops ≡ c.args.shared.now.may_stop = (c.search.ensures.keeps c.args.board.now (later_itself c.args.board.now)).may_stop ∙ c.requires.gate in
    IfOk-weaker c.search.result (EndsSearch p c.shared.inside.tables.now.among word budget stops floor) (EndsPiece c.args.shared.now word floor)
    (λ ended ends. subst (λ (s : Search). EndsPiece s word floor ended) c.shared.view_is
    (ends_within p (customers p) word budget s.budget floor s.may_stop ended
    (subst (λ (s : Search). budget ≤ s.budget) (sym c.shared.view_is) c.piece_budget.ensures.within)
    (subst (λ (s : Search). (budget ≡ s.budget) ⊎ IsTrue s.may_stop) (sym c.shared.view_is) c.piece_budget.ensures.all)
    (subst (λ (stops : Bool). EndsSearch p (customers p) word budget stops floor ended) (same ∙ ap (λ (s : Search). s.may_stop) (sym c.shared.view_is))
    (subst (λ (tables : TablesOf). EndsSearch p tables.among word budget stops floor ended) c.shared.invariant.0 ends)))) c.search.ensures.ended
