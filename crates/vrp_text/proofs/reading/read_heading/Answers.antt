use Rattle.std.proofs.Common.{rules}
use Rattle.vrp_text.proofs.reading.read_heading.Goals as goal

pub returns-in-Err-clause-refused : goal.returns-in-Err-clause-refused
returns-in-Err-clause-refused c = search rules
