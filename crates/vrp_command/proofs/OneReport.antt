-- Two runs that answer Proven tell the same.
use Rattle.std.proofs.Common.{◌≡◌, ◌∙◌, inl, inr, ℕ, Bool, Option, None, Some, List, refl, sym, ap, subst}
use Rattle.vrp_answer.specs.Finding.{FindingOf, finding_of}
use Rattle.vrp_answer.specs.declared.answers.Answer.{Answer}
use Rattle.vrp_answer.specs.declared.answers.Answer.TheVariants as answer
use Rattle.vrp_answer.specs.declared.status.Status.{Status}
use Rattle.vrp_answer.specs.declared.status.Status.TheVariants as status
use Rattle.vrp_model.specs.Order.{IsCanonical}
use Rattle.vrp_model.specs.Problem.{Problem}
use Rattle.vrp_model.specs.Route.{PricedPlan}
use Rattle.vrp_text.specs.Meaning.{MeansProblem}
use Rattle.vrp_command.specs.Answer.{IsAnswerTo}
use Rattle.vrp_command.specs.Found.{IsFoundBy, told_of}
use Rattle.vrp_command.specs.Program.{AnswersRequest, start_cost}
use Rattle.vrp_command.specs.Run.{AnswersBytes, limited}
use Rattle.vrp_command.specs.Same.{TellsSame, IsOfFindingAlone}
use Rattle.vrp_command.specs.Text.{IsTextIn, context_of}
use Rattle.vrp_plan_text.specs.Json.{ContextOf}
use Rattle.vrp_plan_text.specs.Name.{name_of}
use Rattle.vrp_command_request.specs.declared.options.Format.{Format}
use Rattle.vrp_command_request.specs.declared.options.Format.TheVariants as format
use Rattle.vrp_command_request.specs.declared.options.Options.{Options}
use Rattle.vrp_command_request.specs.declared.options.Request.{Request}
use Rattle.vrp_command_streams.specs.Report.{report_of}

abbrev code : Status → ℕ
code status.Proven = 0
code status.Open = 1
code status.NoPlan = 2
code status.Lawful = 3

-- what is told is that the canonical plan is proven
record IsOfCanonical (p : Problem) (finding : FindingOf) : Type 0 where
  plan : PricedPlan
  canonical : IsCanonical p plan
  told : finding ≡ finding_of (answer.Proven plan)

of_answer : (p : Problem) (pieces budget : ℕ) (may_stop : Bool) (found : Answer) → IsAnswerTo p pieces budget may_stop found → (finding_of found).status ≡ status.Proven → IsOfCanonical p (finding_of found)
of_answer p pieces budget may_stop (answer.Proven plan) canonical ends = record { plan = plan; canonical = canonical; told = refl }
of_answer p pieces budget may_stop (answer.Open plan low lowest) left ends = absurd (let never : 1 ≡ 0 = ap code ends in cc)
of_answer p pieces budget may_stop answer.NoPlan none ends = absurd (let never : 2 ≡ 0 = ap code ends in cc)

-- the same of what is told of an answer, with a bound or without
of_told : (p : Problem) (pieces budget : ℕ) (may_stop : Bool) (seconds : Option ℕ) (found : Answer) (bound : ℕ) → IsAnswerTo p pieces budget may_stop found → (told_of seconds found bound).status ≡ status.Proven
    → IsOfCanonical p (told_of seconds found bound)
of_told p pieces budget may_stop None (answer.Proven plan) bound canonical ends = record { plan = plan; canonical = canonical; told = refl }
of_told p pieces budget may_stop None (answer.Open plan low lowest) bound left ends = absurd (let never : 1 ≡ 0 = ap code ends in cc)
of_told p pieces budget may_stop None answer.NoPlan bound none ends = absurd (let never : 2 ≡ 0 = ap code ends in cc)
of_told p pieces budget may_stop (Some seconds) (answer.Proven plan) bound canonical ends = record { plan = plan; canonical = canonical; told = refl }
of_told p pieces budget may_stop (Some seconds) (answer.Open plan low lowest) bound left ends = absurd (let never : 1 ≡ 0 = ap code ends in cc)
of_told p pieces budget may_stop (Some seconds) answer.NoPlan bound none ends = absurd (let never : 2 ≡ 0 = ap code ends in cc)

abbrev pub OneMeaning : Type 0
OneMeaning = (bytes : List ℕ) (chosen : Option ℕ) (p q : Problem) → MeansProblem bytes chosen p → MeansProblem bytes chosen q → p ≡ q

abbrev pub OneCanonical : Type 0
OneCanonical = (p : Problem) (plan other : PricedPlan) → IsCanonical p plan → IsCanonical p other → plan ≡ other

-- a problem's canonical plan is one
one_finding : OneCanonical → (p : Problem) (finding other : FindingOf) → IsOfCanonical p finding → IsOfCanonical p other → finding ≡ other
one_finding one p finding other here there = here.told ∙ ap (λ (plan : PricedPlan). finding_of (answer.Proven plan)) (one p here.plan there.plan here.canonical there.canonical) ∙ sym there.told

-- the same bytes mean one problem, and with as many trucks it is one too
one_problem : OneMeaning → (options others : Options) (bytes : List ℕ) (p q : Problem) → options.depot ≡ others.depot → options.trucks ≡ others.trucks → MeansProblem bytes options.depot p → MeansProblem bytes others.depot q → limited others.trucks q ≡ limited options.trucks p
one_problem meaning options others bytes p q depots trucks means also =
    let same : q ≡ p = meaning bytes options.depot q p (subst (λ depot. MeansProblem bytes depot q) (sym depots) also) means in
    ap (λ most. limited most q) (sym trucks) ∙ ap (limited options.trucks) same

-- ---- runs that print reports

pub reports_agree : OneMeaning → OneCanonical → (options others : Options) (may_stop others_may : Bool) (bytes report other : List ℕ) → options.depot ≡ others.depot → options.trucks ≡ others.trucks
    → AnswersBytes options may_stop bytes report status.Proven → AnswersBytes others others_may bytes other status.Proven → report ≡ other
reports_agree meaning one options others may_stop others_may bytes report other depots trucks answers answered =
    let p = limited options.trucks answers.problem in
    let q = limited others.trucks answered.problem in
    let same : q ≡ p = one_problem meaning options others bytes answers.problem answered.problem depots trucks answers.meant answered.meant in
    let first = answers.reported in
    let second = answered.reported in
    let here = of_answer p options.pieces options.budget may_stop first.found first.answer_is (sym first.status) in
    let there = subst (λ (r : Problem). IsOfCanonical r (finding_of second.found)) same (of_answer q others.pieces others.budget others_may second.found second.answer_is (sym second.status)) in
    first.text ∙ ap (report_of p) (one_finding one p (finding_of first.found) (finding_of second.found) here there) ∙ sym (second.text ∙ ap (λ (r : Problem). report_of r (finding_of second.found)) same)

-- ---- runs that are asked for

of_found : (request : Request) (may_stop : Bool) (p : Problem) (start : Option PricedPlan) (finding : FindingOf) → IsFoundBy request may_stop p start finding → finding.status ≡ status.Proven → IsOfCanonical p finding
of_found request may_stop p start finding (inl checked) ends = absurd (let never : 3 ≡ 0 = ap code (ap (λ (f : FindingOf). f.status) (sym checked.told) ∙ ends) in cc)
of_found request may_stop p start finding (inr searched) ends =
    subst (IsOfCanonical p) (sym searched.told) (of_told p request.options.pieces request.options.budget may_stop request.seconds searched.answer searched.bound searched.answer_is (ap (λ (f : FindingOf). f.status) (sym searched.told) ∙ ends))

same_text : (asked : Format) (context other_context : ContextOf) (p : Problem) (finding : FindingOf) (text other : List ℕ) → IsOfFindingAlone asked → IsTextIn asked context p finding text → IsTextIn asked other_context p finding other → text ≡ other
same_text format.Report context other_context p finding text other alone told also = told ∙ sym also
same_text format.Solution context other_context p finding text other alone told also = told ∙ sym also
same_text format.Json context other_context p finding text other alone told also = absurd alone
same_text format.Picture context other_context p finding text other alone told also = absurd alone

pub requests_agree : OneMeaning → OneCanonical → (request other : Request) (may_stop other_may : Bool) (bytes : List ℕ) (start other_start : Option (List ℕ)) (finding found : FindingOf) (text printed : List ℕ)
    → request.options.depot ≡ other.options.depot → request.options.trucks ≡ other.options.trucks
    → AnswersRequest request may_stop bytes start finding text → finding.status ≡ status.Proven → AnswersRequest other other_may bytes other_start found printed → found.status ≡ status.Proven
    → TellsSame request other finding found text printed
requests_agree meaning one request other may_stop other_may bytes start other_start finding found text printed depots trucks answers ends answered also =
    let p = answers.problem in
    let q = answered.problem in
    let same : q ≡ p = answered.with_trucks ∙ one_problem meaning request.options other.options bytes answers.meant answered.meant depots trucks answers.means answered.means ∙ sym answers.with_trucks in
    let here = of_found request may_stop p answers.start finding answers.found ends in
    let there = subst (λ (r : Problem). IsOfCanonical r found) same (of_found other other_may q answered.start found answered.found also) in
    let tells = one_finding one p finding found here there in
    let context = context_of request (name_of bytes) (start_cost start) in
    let others = context_of other (name_of bytes) (start_cost other_start) in
    record {
      same = tells;
      as_text = λ forms alone.
          (let second = subst (λ (f : Format). IsTextIn f others p finding printed) (sym forms)
          (subst (λ (g : FindingOf). IsTextIn other.format others p g printed) (sym tells) (subst (λ (r : Problem). IsTextIn other.format others r found printed) same answered.told)) in
          same_text request.format context others p finding text printed alone answers.told second);
    }
