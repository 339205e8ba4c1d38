use Rattle.std.proofs.Common.{◌∙◌, ◌≤◌, ap, refl, subst, sym}
use Rattle.std.specs.Prelude.{is_some}
use Rattle.vrp_model.specs.Cheapest.{cost_of}
use Rattle.vrp_model.specs.Problem.{IsProblem}
use Rattle.vrp_answer.specs.Outcomes.{Search}
use Rattle.vrp_solver.specs.Inner.Workers.{CanWork, IsTakenOver, WorkerState}
use Rattle.vrp_answer.proofs.BestPlan.{at_most_none}
use Rattle.vrp_solver.proofs.Floors.{later_itself, still_no_less}
use Rattle.vrp_solver.proofs.worker.Worker+Owner+R+L+G.take_over.Goals as goal
use Rattle.vrp_solver.proofs.worker.Worker+Owner+R+L+G.take_over.Goals.{in-Some-best+in_ok-keep, in_default-best}

pub keep-requires : goal.keep-requires
keep-requires g c =
    let s = c.args.shared.now in
    let lead = subst (CanWork s) (sym c.self.view_is) c.requires.lead.can in
    let helper = subst (CanWork s) (sym c.helper.view_is) c.requires.helper.can in
    (s.problem, lead.serves, helper.serves c.in-Some-best.best (sym c.into_parts-caller.ensures.best ∙ c.in-Some-best.is))

pub returns : goal.returns
returns g c =
    let s = c.args.shared.now in
    let can = subst (CanWork s) (sym c.self.view_is) c.requires.lead.can in
    let helper_can = subst (CanWork s) (sym c.helper.view_is) c.requires.helper.can in
    let old : WorkerState = record { drawer = c.self.inside.drawer; board = c.self.inside.board; outcomes = c.self.inside.outcomes.items; refused = is_some c.self.inside.refused } in
    let helper : WorkerState = record { drawer = c.helper.inside.drawer; board = c.helper.inside.board; outcomes = c.helper.inside.outcomes.items; refused = is_some c.helper.inside.refused } in
    let parts = c.into_parts-caller.ensures in
    let caller = c.into_parts-caller.result.0 in
    let mine = caller.known.mine in
    let told : IsTakenOver s old helper caller c.match-best-3.self = elim c.match-best-3.branch [
      | in-Some-best+in_ok-keep w ↦ (
          let plan_of = helper_can.serves w.in-Some-best.best (sym parts.best ∙ w.in-Some-best.is) in
          let taken : cost_of w.keep.new.self.best ≤ cost_of c.into_parts-caller.result.1 = rw w.in-Some-best.is w.in_ok-keep.ensures.taken in
          subst (IsTakenOver s old helper caller) (sym w.self-is) (record {
            fine = ap is_some c.in_default.is;
            drawer = c.take_in.ensures;
            outcomes = c.in_ok-append.ensures.items;
            serves = w.keep.ensures.serves s.problem can.serves plan_of;
            later = w.keep.ensures.later;
            same = w.keep.ensures.caller;
            caller_is = parts.caller;
            one_of = parts.one_of;
            no_less = still_no_less (cost_of c.into_parts-caller.result.1) (cost_of w.keep.new.self.best) mine taken parts.no_less;
          })
          )
      | in_default-best w ↦ (
          let problem = subst (λ (t : Search). IsProblem t.problem) c.shared.view_is c.customers-customers.ensures.problem in
          let few = at_most_none c.plans_cost_less.ensures s.problem old.board.best problem can.serves in
          let taken : cost_of old.board.best ≤ cost_of c.into_parts-caller.result.1 = rw w.in_default-best.is few in
          subst (IsTakenOver s old helper caller) (sym w.self-is) (record {
            fine = ap is_some c.in_default.is;
            drawer = c.take_in.ensures;
            outcomes = c.in_ok-append.ensures.items;
            serves = can.serves;
            later = later_itself old.board;
            same = refl;
            caller_is = parts.caller;
            one_of = parts.one_of;
            no_less = still_no_less (cost_of c.into_parts-caller.result.1) (cost_of old.board.best) mine taken parts.no_less;
          })
          )
    ] in
    subst (λ (w : WorkerState). IsTakenOver s w c.args.helper caller c.match-best-3.self) c.self.view_is (subst (λ (w : WorkerState). IsTakenOver s old w caller c.match-best-3.self) c.helper.view_is told)
