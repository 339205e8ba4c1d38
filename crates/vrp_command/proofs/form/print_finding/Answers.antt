use Rattle.std.proofs.Common.{rules}
use Rattle.vrp_command.proofs.form.print_finding.Goals as goal

pub returns-in_err-write_report-clause-begun : goal.returns-in_err-write_report-clause-begun
returns-in_err-write_report-clause-begun c = search rules

pub returns-clause-printed : goal.returns-clause-printed
returns-clause-printed c = search rules
