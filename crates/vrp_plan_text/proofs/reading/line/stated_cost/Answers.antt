use Rattle.std.proofs.Common.{sym}
use Rattle.vrp_plan_text.proofs.LineLemmas.{bad_cost}
use Rattle.vrp_plan_text.proofs.reading.line.stated_cost.Goals as goal

pub returns-in_default-fault : goal.returns-in_default-fault
returns-in_default-fault c =
    bad_cost c.args.tokens c.next.new.self c.in-Some.cost.now c.in-Err.fault c.in-Some.ensures (c.is_empty.ensures.0 c.if-not-is_empty.false) (sym c.in-Err.ensures.value) c.in_default-fault.not-NotWhole
