-- What a command line prints, and its exit status.
use Rattle.std.specs.Borrow.{Bor}
use Rattle.std.specs.Io.KnownBytes.{Keeps}
use Rattle.std.proofs.Common.{◌≡◌, ◌≢◌, IfErr, IfOk, ◌∙◌, ◌+◌, ◌≤◌, ◌++◌, inl, inr, ℕ, Bool, false, true, None, Option, Some, List, Result, Ok, Err, ap, append-nil, arith, length, length-append, lit≤, refl, subst, sym}
use Rattle.std.proofs.lemmas.Bool.{cases_lt, false≢true}
use Rattle.std.proofs.lemmas.List.{nil_from_length}
use Rattle.std.specs.Prelude.{◌&&◌, if◌then◌else◌, is_some}
use Rattle.std.specs.Option.{option_map}
use Rattle.vrp_answer.specs.Finding.{FindingOf}
use Rattle.vrp_answer.specs.declared.status.Status.{Status}
use Rattle.vrp_answer.specs.declared.status.Status.TheVariants as status
use Rattle.vrp_command.specs.Inner.Written.{IsStated, IsWritten, is_lawful, status_after, status_checked}
use Rattle.vrp_command.specs.Line.{AnswersLine, IsOtherwiseStated, IsRefusing, IsStatusOf, IsTelling, TellsHelp}
use Rattle.vrp_command.specs.Program.{AnswersRequest, PrintsRequest, ReadsStart, may_stop_by, request_code}
use Rattle.vrp_command.specs.declared.answering.WrittenAnswer.{WrittenAnswer}
use Rattle.vrp_command.specs.declared.fault.RequestError.{RequestError}
use Rattle.vrp_command.specs.declared.fault.RequestError.TheVariants as reason
use Rattle.vrp_command.specs.declared.start.StartError.TheVariants as start_fault
use Rattle.vrp_command.specs.declared.start.StartFile.{StartFile}
use Rattle.vrp_command.specs.declared.start.StartFile.TheVariants.{Opened, Unopened}
use Rattle.std.proofs.KnownBytes.{Keeps-refl}
use Rattle.vrp_command_request.specs.Arguments.{AsksForHelp, line_code}
use Rattle.vrp_command_request.specs.declared.arguments.LineFault.{LineFault}
use Rattle.vrp_command_request.specs.declared.arguments.LineFault.TheVariants as line
use Rattle.vrp_command_request.specs.declared.options.Request.{Request}
use Rattle.vrp_command_streams.specs.Fault.{exit_code}
use Rattle.vrp_command_streams.specs.Input.{IsInput}
use Rattle.vrp_command_streams.specs.declared.fault.RunError.TheVariants as fault
use Rattle.vrp_command.specs.Strict.{cost_code}
use Rattle.vrp_model.specs.Route.{PricedPlan}
use Rattle.vrp_plan_text.specs.Solution.{StatesOtherCost}
use Rattle.vrp_plan_text.specs.declared.reading.solution.Solution.{Solution}
use Rattle.vrp_text.specs.declared.lexer.limits.TheConstants.{MAX_BYTES}

-- ---- exit statuses

-- a verdict's is 0 or 1
verdict_low : (verdict : Status) → exit_code (Ok verdict) ≤ 1
verdict_low status.Proven = lit≤ tt
verdict_low status.Open = lit≤ tt
verdict_low status.NoPlan = lit≤ tt
verdict_low status.Lawful = lit≤ tt

-- a fault's is 3, 4 or 5
fault_above : (error : RequestError) → 3 ≤ request_code (Err error)
fault_above (reason.Run (fault.Text refusal)) = lit≤ tt
fault_above (reason.Run fault.OutOfMemory) = lit≤ tt
fault_above (reason.Run fault.Read) = lit≤ tt
fault_above (reason.Run fault.Write) = lit≤ tt
fault_above (reason.Start (start_fault.Refused refusal)) = lit≤ tt
fault_above (reason.Start start_fault.TooLong) = lit≤ tt
fault_above (reason.Start start_fault.Read) = lit≤ tt
fault_above (reason.Start start_fault.OutOfMemory) = lit≤ tt
fault_above reason.NoPoints = lit≤ tt

fault_below : (error : RequestError) → request_code (Err error) ≤ 5
fault_below (reason.Run (fault.Text refusal)) = lit≤ tt
fault_below (reason.Run fault.OutOfMemory) = lit≤ tt
fault_below (reason.Run fault.Read) = lit≤ tt
fault_below (reason.Run fault.Write) = lit≤ tt
fault_below (reason.Start (start_fault.Refused refusal)) = lit≤ tt
fault_below (reason.Start start_fault.TooLong) = lit≤ tt
fault_below (reason.Start start_fault.Read) = lit≤ tt
fault_below (reason.Start start_fault.OutOfMemory) = lit≤ tt
fault_below reason.NoPoints = lit≤ tt

tells_no : (code : ℕ) → 2 ≤ code → code ≤ 5 → IsTelling code → ⊥
tells_no code above below (inl is) = absurd (omega (arith, above, is))
tells_no code above below (inr (inl is)) = absurd (omega (arith, above, is))
tells_no code above below (inr (inr is)) = absurd (omega (arith, below, is))

refuses_no : (code : ℕ) → code ≤ 1 → IsRefusing code → ⊥
refuses_no code low (inl is) = absurd (omega (arith, low, is))
refuses_no code low (inr (inl is)) = absurd (omega (arith, low, is))
refuses_no code low (inr (inr is)) = absurd (omega (arith, low, is))

refuses_no_write : IsRefusing 5 → ⊥
refuses_no_write (inl is) = cc
refuses_no_write (inr (inl is)) = cc
refuses_no_write (inr (inr is)) = cc

refuses_no_six : (code : ℕ) → code ≡ 6 → IsRefusing code → ⊥
refuses_no_six code six (inl is) = absurd (omega (arith, six, is))
refuses_no_six code six (inr (inl is)) = absurd (omega (arith, six, is))
refuses_no_six code six (inr (inr is)) = absurd (omega (arith, six, is))

-- with a fault nothing is told
pub fault_tells_nothing : (error : RequestError) (code : ℕ) → code ≡ request_code (Err error) → IsTelling code → ⊥
fault_tells_nothing error code is telling = tells_no code (omega (arith, is, fault_above error)) (omega (arith, is, fault_below error)) telling

-- arguments that give no request are refused with 2 or 4
pub refusal_tells_nothing : (code : ℕ) → 2 ≤ code → code ≤ 4 → IsTelling code → ⊥
refusal_tells_nothing code above below telling = tells_no code above (omega (arith, below)) telling

-- with an answer nothing is refused
pub answer_refuses_nothing : (verdict : Status) (code : ℕ) → code ≡ exit_code (Ok verdict) → IsRefusing code → ⊥
answer_refuses_nothing verdict code is refusing = refuses_no code (omega (arith, is, verdict_low verdict)) refusing

-- a refusal is no failed write
pub refusal_is_no_write : (error : RequestError) (code : ℕ) → code ≡ request_code (Err error) → IsRefusing code → error ≡ reason.Run fault.Write → ⊥
refusal_is_no_write error code is refusing same =
    refuses_no_write (subst IsRefusing (is ∙ ap (λ (e : RequestError). request_code (Err e)) same) refusing)

-- ---- answers

-- the start plan's file has a text if there is one
reads_named : {S : Type 0} (unread : S → Option (List ℕ)) (file : Option (StartFile S)) (text : Option (List ℕ)) → ReadsStart unread file text → is_some text ≡ is_some file
reads_named unread None text is = ap is_some is
reads_named unread (Some Unopened) text never = absurd never
reads_named unread (Some (Opened file)) None never = absurd never
reads_named unread (Some (Opened file)) (Some text) known = refl

-- without `--strict` the status is that of the verdict
plain_status : (request : Request) (start_text : Option (List ℕ)) (finding : FindingOf) (verdict : Status) (code : ℕ) → verdict ≡ finding.status → request.strict ≡ false → code ≡ exit_code (Ok verdict) → IsStatusOf request.strict start_text finding code
plain_status request start_text finding verdict code same plain is =
    record {
      usual = inl (is ∙ ap (λ (v : Status). exit_code (Ok v)) same);
      other = λ six. absurd (omega (arith, six, is, verdict_low verdict));
      told = λ strict lawful stated. absurd (false≢true (sym plain ∙ strict));
    }

-- a request without `--strict` that was answered
pub answers_plainly : {S : Type 0} (request : Request) (gate : Bool) (unread : S → Option (List ℕ)) (file : Option (StartFile S)) (unread_old unread_new written_old written_new : Option (List ℕ)) (verdict : Status) (code : ℕ) → request.strict ≡ false
    → is_some file ≡ is_some request.start → code ≡ exit_code (Ok verdict) → PrintsRequest request (may_stop_by request.seconds gate) unread file unread_old unread_new written_old written_new verdict
    → AnswersLine request gate unread_old unread_new written_old written_new code
answers_plainly request gate unread file unread_old unread_new written_old written_new verdict code plain named is prints =
    record {
      bytes = prints.bytes;
      input = prints.input;
      start_text = prints.start_text;
      start_named = reads_named unread file prints.start_text prints.start_read ∙ named;
      finding = prints.finding;
      text = prints.text;
      answers = prints.answers;
      output = prints.output;
      status = plain_status request prints.start_text prints.finding verdict code prints.status plain is;
    }

-- ---- an input that was kept

-- it is read as a whole again
read_again : (kept bytes : List ℕ) (after : Option (List ℕ)) → length kept ≤ MAX_BYTES + 1 → IsInput (Some kept) after bytes → bytes ≡ kept
read_again kept bytes None few is = absurd is.taken
read_again kept bytes (Some rest) few is = elim (cases_lt (length bytes) (MAX_BYTES + 1)) [
  | inl less ↦ sym (is.taken ∙ ap (λ (left : List ℕ). bytes ++ left) (is.whole less) ∙ append-nil bytes)
  | inr enough ↦ (let long : length kept ≡ length bytes + length rest = ap length is.taken ∙ length-append bytes rest in
      sym (is.taken ∙ ap (λ (left : List ℕ). bytes ++ left) (nil_from_length rest (omega (arith, long, few, enough))) ∙ append-nil bytes))
]

-- the status of a checked plan whose file states its cost, or another one
checked_status : (solution : Solution) (start_text : Option (List ℕ)) (finding : FindingOf) (other : Bool) → solution.states_other_cost ≡ other → status.Lawful ≡ finding.status → Some solution.plan ≡ finding.plan → IsStated start_text solution
    → IsStatusOf true start_text finding (cost_code other)
checked_status solution None finding other is same plan stated = absurd stated
checked_status solution (Some text) finding true is same plan stated =
    record { usual = inr refl; other = λ six. (refl, sym same, (solution.plan, sym plan, stated.0 is)); told = λ strict lawful wrong. refl }
checked_status solution (Some text) finding false is same plan stated =
    record {
      usual = inl (ap (λ (v : Status). exit_code (Ok v)) same);
      other = λ six. absurd (let never : 0 ≡ 6 = six in cc);
      told = λ strict lawful wrong.
          (let one : solution.plan ≡ wrong.0 = (let both : Some solution.plan ≡ Some wrong.0 = plan ∙ wrong.1 in cc) in
          absurd (false≢true (sym is ∙ stated.1 (subst (λ (p : PricedPlan). StatesOtherCost text p.cost) (sym one) wrong.2))));
    }

-- the status of a verdict other than that of a check
other_status : (strict : Bool) (start_text : Option (List ℕ)) (finding : FindingOf) (verdict : Status) → verdict ≡ finding.status → (finding.status ≡ status.Lawful → ⊥) → IsStatusOf strict start_text finding (exit_code (Ok verdict))
other_status strict start_text finding verdict same unchecked =
    record {
      usual = inl (ap (λ (v : Status). exit_code (Ok v)) same);
      other = λ six. absurd (omega (arith, six, verdict_low verdict));
      told = λ asked lawful wrong. absurd (unchecked lawful);
    }

-- the status of a written answer
kept_status : (strict : Bool) (verdict : Status) (start : Option Solution) (start_text : Option (List ℕ)) (finding : FindingOf) → verdict ≡ finding.status → (finding.status ≡ status.Lawful → option_map (λ (s : Solution). s.plan) start ≡ finding.plan)
    → (start ≡ None → start_text ≡ None) → ((solution : Solution) → start ≡ Some solution → IsStated start_text solution) → IsStatusOf strict start_text finding (if strict && is_lawful verdict then status_checked start else exit_code (Ok verdict))
kept_status false verdict start start_text finding same plan none stated =
    record {
      usual = inl (ap (λ (v : Status). exit_code (Ok v)) same);
      other = λ six. absurd (omega (arith, six, verdict_low verdict));
      told = λ never lawful wrong. absurd (false≢true never);
    }
kept_status true status.Proven start start_text finding same plan none stated = other_status true start_text finding status.Proven same (λ lawful. let never : status.Proven ≡ status.Lawful = same ∙ lawful in cc)
kept_status true status.Open start start_text finding same plan none stated = other_status true start_text finding status.Open same (λ lawful. let never : status.Open ≡ status.Lawful = same ∙ lawful in cc)
kept_status true status.NoPlan start start_text finding same plan none stated = other_status true start_text finding status.NoPlan same (λ lawful. let never : status.NoPlan ≡ status.Lawful = same ∙ lawful in cc)
kept_status true status.Lawful None start_text finding same plan none stated =
    record {
      usual = inl (ap (λ (v : Status). exit_code (Ok v)) same);
      other = λ six. absurd (let never : 0 ≡ 6 = six in cc);
      told = λ strict lawful wrong. absurd (subst (λ (text : Option (List ℕ)). IsOtherwiseStated text finding) (none refl) wrong);
    }
kept_status true status.Lawful (Some solution) start_text finding same plan none stated = checked_status solution start_text finding solution.states_other_cost refl same (plan (sym same)) (stated solution refl)

-- a request whose input was kept, and that was answered
pub answers_kept : {S : Type 0} (request : Request) (gate : Bool) (unread : S → Option (List ℕ)) (file : Option (StartFile S)) (unread_old unread_new : Option (List ℕ)) (kept : List ℕ) (after written_old written_new : Option (List ℕ)) (written : WrittenAnswer) (code : ℕ)
    → code ≡ status_after request written → is_some file ≡ is_some request.start → IsInput unread_old unread_new kept → IsWritten request (may_stop_by request.seconds gate) unread file (Some kept) after written_old written_new written
    → AnswersLine request gate unread_old unread_new written_old written_new code
answers_kept request gate unread file unread_old unread_new kept after written_old written_new written code is named input all =
    let prints = all.prints in
    let whole : prints.bytes ≡ kept = read_again kept prints.bytes after input.bounded prints.input in
    record {
      bytes = kept;
      input = input;
      start_text = prints.start_text;
      start_named = reads_named unread file prints.start_text prints.start_read ∙ named;
      finding = prints.finding;
      text = prints.text;
      answers = subst (λ (bytes : List ℕ). AnswersRequest request (may_stop_by request.seconds gate) bytes prints.start_text prints.finding prints.text) whole prints.answers;
      output = prints.output;
      status = subst (IsStatusOf request.strict prints.start_text prints.finding) (sym is) (kept_status request.strict written.status written.ready.start prints.start_text prints.finding prints.status all.plan all.none all.other);
    }

-- with an answer that is told nothing is refused
line_refuses_nothing : (strict : Bool) (start_text : Option (List ℕ)) (finding : FindingOf) (code : ℕ) → IsStatusOf strict start_text finding code → IsRefusing code → ⊥
line_refuses_nothing strict start_text finding code status refusing = elim status.usual [
  | inl is ↦ answer_refuses_nothing finding.status code is refusing
  | inr is ↦ refuses_no_six code is refusing
]

pub kept_refuses_nothing : (request : Request) (gate : Bool) (unread_old unread_new written_old written_new : Option (List ℕ)) (code : ℕ) → AnswersLine request gate unread_old unread_new written_old written_new code → IsRefusing code → ⊥
kept_refuses_nothing request gate unread_old unread_new written_old written_new code line refusing = line_refuses_nothing request.strict line.start_text line.finding code line.status refusing

-- ---- a run without hints

pub opened_tells : {S : Type 0} (request : Request) (gate : Bool) (unread : S → Option (List ℕ)) (file : Option (StartFile S)) (unread_old unread_new written_old written_new : Option (List ℕ)) (outcome : Result Status RequestError) (code : ℕ)
    → code ≡ request_code outcome → request.strict ≡ false → is_some file ≡ is_some request.start → IfOk outcome (PrintsRequest request (may_stop_by request.seconds gate) unread file unread_old unread_new written_old written_new) → IsTelling code
    → AnswersLine request gate unread_old unread_new written_old written_new code
opened_tells request gate unread file unread_old unread_new written_old written_new (Ok verdict) code is plain named prints telling =
    answers_plainly request gate unread file unread_old unread_new written_old written_new verdict code plain named is prints
opened_tells request gate unread file unread_old unread_new written_old written_new (Err error) code is plain named prints telling = absurd (fault_tells_nothing error code is telling)

pub opened_refuses : (written_old written_new : Option (List ℕ)) (outcome : Result Status RequestError) (code : ℕ) → code ≡ request_code outcome → IfErr outcome (λ error. error ≢ reason.Run fault.Write → Keeps written_old written_new) → IsRefusing code → Keeps written_old written_new
opened_refuses written_old written_new (Ok verdict) code is known refusing = absurd (answer_refuses_nothing verdict code is refusing)
opened_refuses written_old written_new (Err error) code is known refusing = known (refusal_is_no_write error code is refusing)

-- ---- a run whose arguments give no request

-- with 0 the help is told, and nothing is read
pub line_tells : (arguments : List (Bor (List ℕ))) (given : LineFault) (code : ℕ) (unread : Option (List ℕ)) → code ≡ line_code given → (line_code given ≡ 0 → AsksForHelp arguments) → IsTelling code → TellsHelp arguments unread unread code
line_tells arguments (line.Help text) code unread is asked telling = record { asked = asked refl; unread = Keeps-refl unread; status = is }
line_tells arguments (line.Refused text) code unread is asked telling = absurd (refusal_tells_nothing code (omega (arith, is)) (omega (arith, is)) telling)
line_tells arguments line.OutOfMemory code unread is asked telling = absurd (refusal_tells_nothing code (omega (arith, is)) (omega (arith, is)) telling)

-- a refusing status is at least 2
pub refusing_from_two : (code : ℕ) → IsRefusing code → 2 ≤ code
refusing_from_two code (inl is) = omega (arith, is)
refusing_from_two code (inr (inl is)) = omega (arith, is)
refusing_from_two code (inr (inr is)) = omega (arith, is)
