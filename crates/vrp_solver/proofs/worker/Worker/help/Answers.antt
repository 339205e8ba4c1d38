use Rattle.std.proofs.Common.{◌≡◌, ◌∙◌, subst, sym, ap, refl, false, true≢false}
use Rattle.std.specs.Prelude.{Err, Ok, OnOk, Result, is_some}
use Rattle.std.specs.Result.{result_err}
use Rattle.vrp_model.specs.declared.memory.NoMemory.{NoMemory}
use Rattle.vrp_solver.specs.Inner.Workers.{HasHelped, HasSearched, IsWorked, WorkerState}
use Rattle.vrp_solver.proofs.Works.{none_searched, not_worked, searches_as_well, works_as_well}
use Rattle.vrp_solver.proofs.worker.Worker.help.Goals as goal

-- what holds where no memory was refused
on_ok : (A : Type 0) (result : Result (Unit {0}) NoMemory) → OnOk result A → is_some (result_err result) ≡ false → A
on_ok A (Ok done) holds fine = holds
on_ok A (Err refusal) holds fine = absurd (true≢false fine)

pub returns-then-not-makes_room : goal.returns-then-not-makes_room
returns-then-not-makes_room g c =
    let s = c.args.shared.now in
    let old = c.args.self.now in
    subst (HasHelped s old) (sym c.makes_room.ensures) (record { worked = not_worked s old c.requires; searched = λ fine. none_searched s old old refl refl })

pub returns : goal.returns
returns g c =
    let s = c.args.shared.now in
    let old = c.args.self.now in
    let inside = c.self.inside in
    let refused = is_some c.err-self-inside.result in
    let drawn : WorkerState = record { drawer = g.D.Drawer.drawer inside.drawer; board = inside.board; outcomes = inside.outcomes.items; refused = is_some inside.refused } in
    let worked = subst (λ (w : WorkerState). IsWorked s w c.draw_all.new.self) c.makes_room.ensures c.draw_all.ensures.worked in
    record {
      worked = works_as_well s old drawn refused (subst (IsWorked s old) (sym c.self.view_is) worked);
      searched = λ fine.
          let has = on_ok _ c.draw_all.result c.draw_all.ensures.searched (ap is_some (sym c.err-self-inside.ensures.value) ∙ fine) in
          let searched = subst (λ (w : WorkerState). HasSearched s w c.draw_all.new.self) c.makes_room.ensures has in
          searches_as_well s old drawn refused (subst (HasSearched s old) (sym c.self.view_is) searched);
    }
