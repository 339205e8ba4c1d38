use Rattle.std.proofs.Common.{◌≡◌, Option, subst, sym, rules}
use Rattle.std.specs.Option.{ForSome, option_map}
use Rattle.vrp_model.specs.Route.{IsPlanOf, PricedPlan}
use Rattle.vrp_answer.specs.Inner.Conclusion.{IsNoLater}
use Rattle.vrp_answer.specs.Outcomes.{Search}
use Rattle.vrp_answer.proofs.BestPlan.{no_later_transitive, still_lawful}
use Rattle.vrp_answer.proofs.conclusion.open_book.Goals as goal

pub returns-clause-plan_of : goal.returns-clause-plan_of
returns-clause-plan_of g c =
    let p = c.args.shared.now.problem in
    let opened = c.in_ok-book.book.plan in
    let begun = c.offer_some.new.book.plan in
    let middle = c.offer_some-2.new.book.plan in
    let opens : opened ≡ c.args.singles = search (rules, c.in_ok-book.ensures) in
    let start_plan : ForSome (option_map (λ plan. plan.now) c.shared.inside.start_plan) (IsPlanOf p) = subst (λ (s : Search). ForSome (option_map (λ plan. plan.now) c.shared.inside.start_plan) (IsPlanOf s.problem)) c.shared.view_is c.shared.invariant.2 in
    let earlier_of = still_lawful p opened _ begun c.in_ok-offer_some.ensures (subst (λ (plan : Option PricedPlan). ForSome plan (IsPlanOf p)) (sym opens) c.requires.singles) start_plan in
    let kept_of = still_lawful p begun _ middle c.in_ok-offer_some-2.ensures earlier_of c.fitting.ensures in
    still_lawful p middle _ c.offer_some-3.new.book.plan c.in_ok-offer_some-3.ensures kept_of c.requires.best

pub returns-clause-than_singles : goal.returns-clause-than_singles
returns-clause-than_singles g c =
    let opened = c.in_ok-book.book.plan in
    let begun = c.offer_some.new.book.plan in
    let middle = c.offer_some-2.new.book.plan in
    let kept = c.offer_some-3.new.book.plan in
    let opens : opened ≡ c.args.singles = search (rules, c.in_ok-book.ensures) in
    let later = no_later_transitive kept middle begun c.in_ok-offer_some-3.ensures.later c.in_ok-offer_some-2.ensures.later in
    subst (IsNoLater kept) opens (no_later_transitive kept begun opened later c.in_ok-offer_some.ensures.later)

pub returns-clause-than_start : goal.returns-clause-than_start
returns-clause-than_start g c =
    let begun = c.offer_some.new.book.plan in
    let middle = c.offer_some-2.new.book.plan in
    let kept = c.offer_some-3.new.book.plan in
    let start_plan = option_map (λ plan. plan.now) c.shared.inside.start_plan in
    let later = no_later_transitive kept middle begun c.in_ok-offer_some-3.ensures.later c.in_ok-offer_some-2.ensures.later in
    subst (λ (s : Search). IsNoLater kept s.start_plan) c.shared.view_is (no_later_transitive kept begun start_plan later c.in_ok-offer_some.ensures.no_later)

pub returns-clause-than_best : goal.returns-clause-than_best
returns-clause-than_best g c = c.in_ok-offer_some-3.ensures.no_later
