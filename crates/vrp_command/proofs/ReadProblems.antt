-- What is written of a problem, said of the bytes that mean it.
use Rattle.std.proofs.Common.{◌≡◌, ◌∙◌, inl, inr, ℕ, Bool, None, Option, Some, List, ap, refl, subst, sym}
use Rattle.vrp_answer.specs.Finding.{FindingOf, finding_of}
use Rattle.vrp_answer.specs.declared.answers.Answer.{Answer}
use Rattle.vrp_answer.specs.declared.answers.Answer.TheVariants.{NoPlan, Open, Proven}
use Rattle.vrp_answer.specs.declared.status.Status.{Status}
use Rattle.vrp_model.specs.Problem.{Problem}
use Rattle.vrp_command.specs.Answer.{IsAnswerTo}
use Rattle.vrp_command.specs.Form.{IsFormIn}
use Rattle.vrp_command.specs.Found.{IsFoundBy, WritesFound, WritesFoundPart, told_of}
use Rattle.vrp_command.specs.Run.{AnswersBytes, PrintsAnswer, PrintsPart, ReadsProblem, ReportsAnswer, status_of}
use Rattle.vrp_command.specs.Text.{IsTextIn}
use Rattle.vrp_command.specs.declared.form.Form.{Form}
use Rattle.vrp_command.specs.declared.form.Form.TheVariants as form
use Rattle.vrp_command_request.specs.Options.{IsReport}
use Rattle.vrp_command_request.specs.declared.options.Format.{Format}
use Rattle.vrp_command_request.specs.declared.options.Options.{Options}
use Rattle.vrp_command_request.specs.declared.options.Request.{Request}
use Rattle.vrp_command_streams.specs.Report.{report_of}
use Rattle.vrp_plan_text.specs.Json.{ContextOf}

-- the form of a report is the one that is asked for
pub is_report_form : (options : Options) (request : Request) (asked : Form) (context : ContextOf) → IsReport options request → asked ≡ form.Report → IsFormIn request.format context asked
is_report_form options request asked context asks is = subst (λ (f : Form). IsFormIn request.format context f) (sym is) (ap (λ (r : Request). r.format) asks)

-- where no time is set a report tells what the answer says, and its verdict
bounded_report : (p : Problem) (found : Answer) (bound : ℕ) → report_of p (told_of None found bound) ≡ report_of p (finding_of found)
bounded_report p (Proven plan) bound = refl
bounded_report p (Open plan low lowest) bound = refl
bounded_report p NoPlan bound = refl

bounded_status : (found : Answer) (bound : ℕ) → (told_of None found bound).status ≡ status_of found
bounded_status (Proven plan) bound = refl
bounded_status (Open plan low lowest) bound = refl
bounded_status NoPlan bound = refl

-- the report of what is found of the problem, without a plan to begin with, answers the bytes that mean it
answers : (options : Options) (request : Request) (may_stop : Bool) (unread_old unread_new : Option (List ℕ)) (p : Problem) (context : ContextOf) → IsReport options request → (read : ReadsProblem options unread_old unread_new p)
    → (told : FindingOf) (report : List ℕ) → IsFoundBy request may_stop p None told → IsTextIn request.format context p told report → AnswersBytes options may_stop read.bytes report told.status
answers options request may_stop unread_old unread_new p context asks read told report (inl checked) text = absurd (let never : None ≡ Some checked.plan = checked.given in cc)
answers options request may_stop unread_old unread_new p context asks read told report (inr searched) text =
    let is : told ≡ told_of None searched.answer searched.bound = searched.told ∙ ap (λ (seconds : Option ℕ). told_of seconds searched.answer searched.bound) (ap (λ (r : Request). r.seconds) asks) in
    let reported : report ≡ report_of p told = subst (λ (f : Format). IsTextIn f context p told report) (ap (λ (r : Request). r.format) asks) text in
    let all : ReportsAnswer options may_stop p report told.status =
    record {
      found = searched.answer;
      answer_is = subst (λ (o : Options). IsAnswerTo p o.pieces o.budget may_stop searched.answer) (ap (λ (r : Request). r.options) asks) searched.answer_is;
      text = reported ∙ ap (report_of p) is ∙ bounded_report p searched.answer searched.bound;
      status = ap (λ (f : FindingOf). f.status) is ∙ bounded_status searched.answer searched.bound;
    } in
    record { problem = read.meant; meant = read.means; reported = subst (λ (q : Problem). ReportsAnswer options may_stop q report told.status) read.with_trucks all }

pub prints_answer : (options : Options) (request : Request) (may_stop : Bool) (unread_old unread_new written_old written_new : Option (List ℕ)) (p : Problem) (context : ContextOf) → IsReport options request → ReadsProblem options unread_old unread_new p
    → (ended : Status) → WritesFound request context may_stop p None written_old written_new ended → PrintsAnswer options may_stop unread_old unread_new written_old written_new ended
prints_answer options request may_stop unread_old unread_new written_old written_new p context asks read ended written =
    let found = answers options request may_stop unread_old unread_new p context asks read written.finding written.text written.found written.told in
    record {
      bytes = read.bytes;
      input = read.input;
      report = written.text;
      answers = subst (λ (one : Status). AnswersBytes options may_stop read.bytes written.text one) (sym written.status) found;
      output = written.output;
    }

pub prints_part : (options : Options) (request : Request) (may_stop : Bool) (unread_old unread_new written_old written_new : Option (List ℕ)) (p : Problem) (context : ContextOf) → IsReport options request → ReadsProblem options unread_old unread_new p
    → WritesFoundPart request context may_stop p None written_old written_new → PrintsPart options may_stop unread_old unread_new written_old written_new
prints_part options request may_stop unread_old unread_new written_old written_new p context asks read written =
    record {
      bytes = read.bytes;
      input = read.input;
      report = written.text;
      ended = written.finding.status;
      answers = answers options request may_stop unread_old unread_new p context asks read written.finding written.text written.found written.told;
      output = written.output;
    }
