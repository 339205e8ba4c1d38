use Rattle.std.proofs.Common.{◌∙◌, ◌<◌, Some, length, ap, sym, arith}
use Rattle.std.proofs.lemmas.Grind.{common_steps}
use Rattle.vrp_plan_text.proofs.Names.{is_name, no_name}
use Rattle.vrp_plan_text.proofs.writing.name.as_name.Goals as goal

pub returns-in-Ok : goal.returns-in-Ok
returns-in-Ok c =
    let some : 0 < length c.args.text.now = grind (arith, common_steps) in
    ap Some c.in-Ok.ensures.cases.0 ∙ sym (is_name c.args.text.now some c.in-Ok.ensures.cases.1)

pub returns-in-Err : goal.returns-in-Err
returns-in-Err c = sym (no_name c.args.text.now c.in-Err.ensures.cases.0)
