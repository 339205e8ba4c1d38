use Rattle.vrp_command.specs.declared.start.StartError.{StartError}
use Rattle.vrp_command.specs.Program.{RefusesStart, RefusesStartFile}
use Rattle.vrp_command.specs.Run.{RefusesInput}
use Rattle.vrp_command.proofs.Requests.{is_ready, no_read_fault, no_write_fault, on_err, on_ok, on_refusal_of}
use Rattle.vrp_command.proofs.solving.solve_request.Goals as goal

pub returns-in-Ok-clause-ready : goal.returns-in-Ok-clause-ready
returns-in-Ok-clause-ready g c =
    let left = g.R.Read.remaining in
    let may_stop = g.G.Gate.may_stop c.args.resources.now.gate.now in
    on_ok c.solve_problem.result (λ ready on. is_ready c.args.request may_stop c.in-Ok.problem (λ file. g.S.Read.remaining file) c.args.start (left c.args.input.now) (left c.read_problem.new.input) ready c.in-Ok.ensures.read on) c.solve_problem.ensures.ready

pub returns-in-Ok-clause-refused : goal.returns-in-Ok-clause-refused
returns-in-Ok-clause-refused g c =
    let left = g.R.Read.remaining in
    let p = c.in-Ok.problem.instance in
    let Start : StartError → Type 0 = RefusesStartFile p (λ file. g.S.Read.remaining file) c.args.start in
    let Starts : StartError → Type 0 = RefusesStart c.args.request (λ file. g.S.Read.remaining file) c.args.start (left c.args.input.now) (left c.read_problem.new.input) in
    let step : (error : StartError) → Start error → Starts error = λ error refused. record { problem = p; read = c.in-Ok.ensures.read.read; refused = refused } in
    on_err c.solve_problem.result (on_refusal_of (RefusesInput c.args.request.options.depot (left c.args.input.now) (left c.read_problem.new.input)) Start Starts _ step) c.solve_problem.ensures.refused

pub returns-in-Ok-clause-failed : goal.returns-in-Ok-clause-failed
returns-in-Ok-clause-failed g c = on_err c.solve_problem.result (λ error known is. absurd (no_read_fault _ _ error known is)) c.solve_problem.ensures.refused

pub returns-in-Ok-clause-unwritten : goal.returns-in-Ok-clause-unwritten
returns-in-Ok-clause-unwritten g c = on_err c.solve_problem.result (no_write_fault _ _) c.solve_problem.ensures.refused
