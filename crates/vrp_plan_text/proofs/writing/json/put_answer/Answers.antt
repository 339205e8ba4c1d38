use Rattle.std.proofs.Common.{rules}
use Rattle.vrp_plan_text.proofs.writing.json.put_answer.Goals as goal

pub returns : goal.returns
returns c = search rules
