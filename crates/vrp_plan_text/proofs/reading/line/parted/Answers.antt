use Rattle.std.proofs.Common.{◌==◌, ◌∙◌, sym}
use Rattle.vrp_plan_text.proofs.LineLemmas.{parted_at}
use Rattle.vrp_plan_text.proofs.reading.line.parted.Goals as goal

pub returns-in-Some : goal.returns-in-Some
returns-in-Some c = parted_at (λ other. other == c.args.byte) c.args.text.now c.in-Some.place (sym c.place_of.ensures ∙ c.in-Some.is)
