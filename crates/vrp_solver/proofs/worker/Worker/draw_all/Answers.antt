use Rattle.std.proofs.Common.{◌∙◌, refl, subst, sym}
use Rattle.std.specs.Prelude.{is_some}
use Rattle.vrp_solver.specs.Inner.Workers.{CanWork, HasSearched, IsWorked, WorkerState}
use Rattle.vrp_solver.proofs.Works.{has_drawn, none_searched, not_worked, one_searched, searches_on, works_on}
use Rattle.vrp_solver.proofs.worker.Worker.draw_all.Goals as goal

pub loop-init : goal.loop-init
loop-init g c =
    let s = c.args.shared.now in
    let now : WorkerState = record { drawer = g.D.Drawer.drawer c.self.inside.drawer; board = c.self.inside.board; outcomes = c.self.inside.outcomes.items; refused = is_some c.self.inside.refused } in
    record {
      worked = subst (λ (old : WorkerState). IsWorked s old now) c.self.view_is (not_worked s now (subst (CanWork s) (sym c.self.view_is) c.requires));
      searched = subst (λ (old : WorkerState). HasSearched s old now) c.self.view_is (none_searched s now now refl refl);
    }

pub loop-preserved-in-Piece-1 : goal.loop-preserved-in-Piece-1
loop-preserved-in-Piece-1 g c =
    let s = c.args.shared.now in
    let inside = c.loop.self-inside in
    let old : WorkerState = record { drawer = g.D.Drawer.drawer inside.drawer; board = inside.board; outcomes = inside.outcomes.items; refused = is_some inside.refused } in
    let new : WorkerState = record { drawer = g.D.Drawer.drawer c.draw.new.self; board = c.search_piece.new.board; outcomes = c.push.new.self.items; refused = is_some inside.refused } in
    let piece = c.in-Piece.piece in
    let searched = c.in_ok-outcome-in-Piece.ensures in
    let worked = has_drawn s old new piece c.in-Piece.ensures.drawn searched.serves searched.later searched.falls in
    let one = one_searched s old new piece c.in_ok-outcome-in-Piece.outcome c.in-Piece.ensures.drawn c.in_ok-push-in-Piece.ensures.items searched.kept in
    record {
      worked = works_on s c.args.self.now old new c.loop.invariant.worked worked;
      searched = searches_on s c.args.self.now old new c.loop.invariant.searched one searched.falls;
    }

pub search_piece-requires-clause-serves : goal.search_piece-requires-clause-serves
search_piece-requires-clause-serves g c = c.loop.invariant.worked.serves

pub search_piece-requires-clause-gate : goal.search_piece-requires-clause-gate
search_piece-requires-clause-gate g c = c.loop.invariant.worked.later.may_stop ∙ c.requires.may_stop

pub returns-in_err-outcome-in-Piece-clause-worked : goal.returns-in_err-outcome-in-Piece-clause-worked
returns-in_err-outcome-in-Piece-clause-worked g c =
    let s = c.args.shared.now in
    let inside = c.loop.self-inside in
    let old : WorkerState = record { drawer = g.D.Drawer.drawer inside.drawer; board = inside.board; outcomes = inside.outcomes.items; refused = is_some inside.refused } in
    let new : WorkerState = record { drawer = g.D.Drawer.drawer c.draw.new.self; board = c.search_piece.new.board; outcomes = inside.outcomes.items; refused = is_some inside.refused } in
    let searched = c.search_piece.ensures in
    works_on s c.args.self.now old new c.loop.invariant.worked (has_drawn s old new c.in-Piece.piece c.in-Piece.ensures.drawn searched.serves searched.later searched.falls)

pub returns-in_err-push-in-Piece-clause-worked : goal.returns-in_err-push-in-Piece-clause-worked
returns-in_err-push-in-Piece-clause-worked g c =
    let s = c.args.shared.now in
    let inside = c.loop.self-inside in
    let old : WorkerState = record { drawer = g.D.Drawer.drawer inside.drawer; board = inside.board; outcomes = inside.outcomes.items; refused = is_some inside.refused } in
    let new : WorkerState = record { drawer = g.D.Drawer.drawer c.draw.new.self; board = c.search_piece.new.board; outcomes = c.push.new.self.items; refused = is_some inside.refused } in
    let searched = c.search_piece.ensures in
    works_on s c.args.self.now old new c.loop.invariant.worked (has_drawn s old new c.in-Piece.piece c.in-Piece.ensures.drawn searched.serves searched.later searched.falls)
