use Rattle.std.proofs.Common.{◌<◌, ◌^◌, length, arith}
use Rattle.std.proofs.lemmas.Result.{err_from_is_err_and}
use Rattle.vrp_plan_text.proofs.LinesRead.{all_read, fault_last, fault_next, line_read}
use Rattle.vrp_plan_text.proofs.reading.listing.ListedPlan.read.Goals as goal

pub returns-in_err-add_line-clause-refused : goal.returns-in_err-add_line-clause-refused
returns-in_err-add_line-clause-refused c =
    let bound : length c.args.text.now < 2 ^ 64 = omega arith in
    let exit = err_from_is_err_and c.from_residual.result c.from_residual.ensures.1 in
    rw (exit.1, exit.2) (λ differs.
    fault_next c.args.instance.now c.args.text.now c.loop-line.rest.now c.in-Some.line.now c.in-Some.behind.now c.loop-line.number c.loop-line.listing _ c.loop-line.invariant bound c.in-Some.ensures (c.in_err-add_line.ensures.refused differs))

pub loop-line-preserved : goal.loop-line-preserved
loop-line-preserved c =
    line_read c.args.instance.now c.args.text.now c.loop-line.rest.now c.in-Some.line.now c.in-Some.behind.now c.loop-line.number c.saturating_add-number.result c.loop-line.listing c.add_line.new.self c.loop-line.invariant c.in-Some.ensures
    c.saturating_add-number.ensures c.in_ok-add_line.ensures.added

pub returns-in_err-add_line-2-clause-refused : goal.returns-in_err-add_line-2-clause-refused
returns-in_err-add_line-2-clause-refused c =
    let bound : length c.args.text.now < 2 ^ 64 = omega arith in
    let exit = err_from_is_err_and c.from_residual-in_err-add_line-2.result c.from_residual-in_err-add_line-2.ensures.1 in
    rw (exit.1, exit.2) (λ differs.
    fault_last c.args.instance.now c.args.text.now c.loop-line.rest.now c.loop-line.number c.loop-line.listing _ c.loop-line.invariant bound c.in_default.ensures (c.in_err-add_line-2.ensures.refused differs))

pub returns-clause-listed : goal.returns-clause-listed
returns-clause-listed c =
    all_read c.args.instance.now c.args.text.now c.loop-line.rest.now c.loop-line.number c.loop-line.listing c.add_line-2.new.self c.loop-line.invariant c.in_default.ensures c.in_ok-add_line-2.ensures.added
