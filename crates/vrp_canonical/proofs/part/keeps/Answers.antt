use Rattle.std.proofs.Common.{rules}
use Rattle.vrp_canonical.proofs.part.keeps.Goals as goal

pub returns-then-index-question-clause-no : goal.returns-then-index-question-clause-no
returns-then-index-question-clause-no c = search rules

pub returns-then-index-question-2-clause-yes : goal.returns-then-index-question-2-clause-yes
returns-then-index-question-2-clause-yes c = search rules
