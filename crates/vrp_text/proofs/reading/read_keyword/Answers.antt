use Rattle.std.proofs.Common.{rules}
use Rattle.vrp_text.proofs.reading.read_keyword.Goals as goal

pub returns-else-not-insert-clause-sound : goal.returns-else-not-insert-clause-sound
returns-else-not-insert-clause-sound c = search rules

pub returns-else-not-insert-clause-refused : goal.returns-else-not-insert-clause-refused
returns-else-not-insert-clause-refused c = search rules
