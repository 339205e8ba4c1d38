-- The result that every output form prints.
use Rattle.std.specs.Option.{option_map}
use Rattle.std.specs.Prelude.{ℕ, Option, None, Some, List, codes, max}
use Rattle.vrp_model.specs.Route.{PricedPlan}
use Rattle.vrp_answer.specs.declared.answers.Answer.{Answer}
use Rattle.vrp_answer.specs.declared.answers.Answer.TheVariants as answer
use Rattle.vrp_answer.specs.declared.finding.Finding.{Finding}
use Rattle.vrp_answer.specs.declared.status.Status.{Status}
use Rattle.vrp_answer.specs.declared.status.Status.TheVariants as status

-- The plan, if known; its verdict; a lower bound on all feasible plans, if known; and the best such bound.
pub record FindingOf : Type 0 where
  pub plan : Option PricedPlan
  pub status : Status
  pub lower_bound : Option ℕ
  pub best_lower_bound : Option ℕ

-- the finding of an answer; for a proven plan the bound is its cost
abbrev pub finding_of : Answer → FindingOf
finding_of (answer.Proven plan) = record { plan = Some plan; status = status.Proven; lower_bound = Some plan.cost; best_lower_bound = Some plan.cost }
finding_of (answer.Open plan low first) = record { plan = plan; status = status.Open; lower_bound = Some low; best_lower_bound = Some low }
finding_of answer.NoPlan = record { plan = None; status = status.NoPlan; lower_bound = None; best_lower_bound = None }

-- the finding of an answer when another bound on all feasible plans is known: the lower bound is the answer's own; if the
-- answer is open, the best bound is the higher of both
abbrev pub bounded_finding : Answer → ℕ → FindingOf
bounded_finding (answer.Proven plan) bound = finding_of (answer.Proven plan)
bounded_finding (answer.Open plan low first) bound = record { plan = plan; status = status.Open; lower_bound = Some low; best_lower_bound = Some (max low bound) }
bounded_finding answer.NoPlan bound = finding_of answer.NoPlan

-- the finding with its best bound as the only one
abbrev pub by_best_bound : FindingOf → FindingOf
by_best_bound finding = record finding { lower_bound = finding.best_lower_bound }

-- the finding of a feasible plan that was only checked
abbrev pub lawful_finding : PricedPlan → FindingOf
lawful_finding plan = record { plan = Some plan; status = status.Lawful; lower_bound = None; best_lower_bound = None }

-- the value of a `Finding`
abbrev pub told_by : Finding → FindingOf
told_by finding = record { plan = option_map (λ plan. plan.now) finding.plan; status = finding.status; lower_bound = finding.lower_bound; best_lower_bound = finding.best_lower_bound }

-- the word of a verdict
abbrev pub status_text : Status → List ℕ
status_text status.Proven = codes "Proven"
status_text status.Open = codes "Open"
status_text status.NoPlan = codes "NoPlan"
status_text status.Lawful = codes "Lawful"
