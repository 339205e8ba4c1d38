-- What is found of a problem and written, said of the request and of the bytes that were read.
use Rattle.std.proofs.Common.{◌≡◌, ◌⊎◌, ◌∙◌, ◌≤◌, inl, inr, ℕ, Bool, None, Option, Some, List, Result, Ok, Err, IsTrue, OnOk, IfOk, IfErr, ap, refl, subst, sym}
use Rattle.std.specs.Option.{ForSome, option_and_then, option_map}
use Rattle.vrp_answer.specs.Answer.{known_plan}
use Rattle.vrp_answer.specs.Finding.{FindingOf, lawful_finding}
use Rattle.vrp_answer.specs.declared.answers.Answer.{Answer}
use Rattle.vrp_answer.specs.declared.answers.Answer.TheVariants as answer
use Rattle.vrp_answer.specs.declared.status.Status.{Status}
use Rattle.vrp_answer.specs.declared.status.Status.TheVariants as verdict
use Rattle.vrp_command.proofs.LawfulAnswers.{best_none_cheaper}
use Rattle.vrp_command.specs.Answer.{IsAnswerTo}
use Rattle.vrp_command.specs.Form.{IsFormIn, IsTextAs, WritesPart, WritesText}
use Rattle.vrp_command.specs.Found.{IsFoundBy, WritesFound, WritesFoundPart, told_of}
use Rattle.vrp_command.specs.Inner.Named.{ReadsNamed}
use Rattle.std.specs.Prelude.{string_bytes}
use Rattle.vrp_command.specs.Inner.Points.{HasPoints}
use Rattle.vrp_command.specs.Inner.Ready.{IsReady, IsReadyAlone, IsReadyOn, context_for, plan_in}
use Rattle.vrp_command.specs.Inner.Told.{told_outcome}
use Rattle.vrp_command.specs.declared.problem.Problem.{Problem as Read}
use Rattle.vrp_command.specs.Inner.Starts.{BeginsStated}
use Rattle.vrp_command.specs.Inner.Written.{IsWritten, OnFault, WritesOn, WritesPartOn}
use Rattle.vrp_command.specs.declared.solving.ReadyAnswer.{ReadyAnswer}
use Rattle.vrp_command.specs.Program.{AnswersRequest, BeginsWith, GivesStart, OnRefusal, PrintsPartOfRequest, PrintsRequest, start_cost}
use Rattle.vrp_command.specs.Run.{OnRefusedFile}
use Rattle.vrp_command.specs.Text.{IsTextIn, context_of}
use Rattle.vrp_command.specs.declared.fault.RequestError.{RequestError}
use Rattle.vrp_command.specs.declared.fault.RequestError.TheVariants as reason
use Rattle.vrp_command.specs.declared.form.Form.{Form}
use Rattle.vrp_command.specs.declared.form.Form.TheVariants as form
use Rattle.vrp_command.specs.declared.start.StartError.{StartError}
use Rattle.vrp_command.specs.declared.start.StartError.TheVariants as start_fault
use Rattle.vrp_command.specs.declared.start.StartFile.{StartFile}
use Rattle.vrp_plan_text.specs.Json.{ContextOf, IsJsonOf}
use Rattle.vrp_plan_text.specs.Name.{name_of}
use Rattle.vrp_model.specs.Cheapest.{NoneCheaper, cost_of}
use Rattle.vrp_model.specs.Problem.{Problem}
use Rattle.vrp_model.specs.Route.{IsPlanOf, PricedPlan}
use Rattle.vrp_command_request.specs.declared.options.Format.{Format}
use Rattle.vrp_command_request.specs.declared.options.Format.TheVariants as format
use Rattle.vrp_command_request.specs.declared.options.Options.{Options}
use Rattle.vrp_command_request.specs.declared.options.Request.{Request}
use Rattle.vrp_plan_text.specs.declared.reading.solution.Solution.{Solution}
use Rattle.vrp_command_streams.specs.declared.fault.RunError.{RunError}
use Rattle.vrp_command_streams.specs.declared.fault.RunError.TheVariants as fault
use Rattle.vrp_text.specs.declared.error.TextError.{TextError}

-- a text in the form that is asked for is the text that is asked for
text_asked : (asked : Format) (context : ContextOf) (form : Form) (p : Problem) (finding : FindingOf) (text : List ℕ) → IsFormIn asked context form → IsTextAs form p finding text → IsTextIn asked context p finding text
text_asked asked context form.Report p finding text is told = subst (λ (f : Format). IsTextIn f context p finding text) (sym is) told
text_asked asked context form.Solution p finding text is told = subst (λ (f : Format). IsTextIn f context p finding text) (sym is) told
text_asked asked context (form.Json beside) p finding text is told =
    subst (λ (f : Format). IsTextIn f context p finding text) (sym is.0) (subst (λ (c : ContextOf). IsJsonOf p finding c text) is.1 told)
text_asked asked context (form.Picture points) p finding text is told = subst (λ (f : Format). IsTextIn f context p finding text) (sym is) tt

-- only JSON tells of the context
text_within : (asked : Format) (context other : ContextOf) (p : Problem) (finding : FindingOf) (text : List ℕ) → (asked ≡ format.Json → context ≡ other) → IsTextIn asked context p finding text → IsTextIn asked other p finding text
text_within format.Report context other p finding text same told = told
text_within format.Solution context other p finding text same told = told
text_within format.Json context other p finding text same told = subst (λ (c : ContextOf). IsJsonOf p finding c text) (same refl) told
text_within format.Picture context other p finding text same told = tt

-- what was written in a form tells what was found
pub writes_found : (request : Request) (context : ContextOf) (may_stop : Bool) (p : Problem) (start : Option PricedPlan) (asked : Form) (told : FindingOf) (written_old written_new : Option (List ℕ)) → IsFormIn request.format context asked
    → IsFoundBy request may_stop p start told → (result : Result Status RunError) → OnOk result (WritesText asked p told written_old written_new) → IfOk result (λ ended. ended ≡ told.status)
    → IfOk result (WritesFound request context may_stop p start written_old written_new)
writes_found request context may_stop p start asked told written_old written_new is found (Ok ended) written status =
    record { finding = told; found = found; status = status; text = written.text; told = text_asked request.format context asked p told written.text is written.told; output = written.output }
writes_found request context may_stop p start asked told written_old written_new is found (Err error) written status = tt

pub writes_found_part : (request : Request) (context : ContextOf) (may_stop : Bool) (p : Problem) (start : Option PricedPlan) (asked : Form) (told : FindingOf) (written_old written_new : Option (List ℕ)) → IsFormIn request.format context asked
    → IsFoundBy request may_stop p start told → (result : Result Status RunError) → IfErr result (λ error. error ≡ fault.Write → WritesPart asked p told written_old written_new)
    → IfErr result (λ error. error ≡ fault.Write → WritesFoundPart request context may_stop p start written_old written_new)
writes_found_part request context may_stop p start asked told written_old written_new is found (Ok ended) written = tt
writes_found_part request context may_stop p start asked told written_old written_new is found (Err error) written =
    λ failed. (let part = written failed in record { finding = told; found = found; text = part.text; told = text_asked request.format context asked p told part.text is part.told; output = part.output })

-- the plan to begin with is feasible, and only checked
pub is_checked : (request : Request) (may_stop : Bool) (p : Problem) (start : Option PricedPlan) (plan : PricedPlan) (told : FindingOf) → IsTrue request.check → start ≡ Some plan → told ≡ lawful_finding plan → IsFoundBy request may_stop p start told
is_checked request may_stop p start plan told asked given is = inl (record { asked = asked; plan = plan; given = given; told = is })

-- an answer was searched for
pub is_searched : (request : Request) (may_stop : Bool) (p : Problem) (start : Option PricedPlan) (found : Answer) (bound : ℕ) (told : FindingOf) → (IsTrue request.check → start ≡ None)
    → IsAnswerTo p request.options.pieces request.options.budget may_stop found → cost_of (known_plan found) ≤ cost_of start → NoneCheaper p bound → told ≡ told_of request.seconds found bound
    → IsFoundBy request may_stop p start told
is_searched request may_stop p start found bound told unchecked answer no_costlier none_below is =
    inr
    (record {
      unchecked = unchecked;
      answer = found;
      answer_is = answer;
      no_costlier = no_costlier;
      bound = bound;
      none_below = none_below;
      told = is;
      best = best_none_cheaper p request.options.pieces request.options.budget may_stop request.seconds found bound told is answer none_below;
    })

-- what is told of what was found was found, and its plan is feasible
pub found_told : (request : Request) (may_stop : Bool) (p : Problem) (start : Option PricedPlan) (found told : FindingOf) → IsFoundBy request may_stop p start found → told ≡ found → IsFoundBy request may_stop p start told
found_told request may_stop p start found told is same = subst (IsFoundBy request may_stop p start) (sym same) is

pub plan_told : (p : Problem) (found told : FindingOf) → ForSome found.plan (IsPlanOf p) → told ≡ found → ForSome told.plan (IsPlanOf p)
plan_told p found told is same = subst (λ (f : FindingOf). ForSome f.plan (IsPlanOf p)) (sym same) is

-- ---- of the bytes that were read

-- what is told with the name that was kept is told with that of the bytes
named : (request : Request) (options : Options) (unread_old unread_new : Option (List ℕ)) (p : Problem) (name : Option (List ℕ)) (cost : Option ℕ) (finding : FindingOf) (text : List ℕ) → (read : ReadsNamed options request.format unread_old unread_new p name)
    → IsTextIn request.format (context_of request name cost) p finding text → IsTextIn request.format (context_of request (name_of read.read.bytes) cost) p finding text
named request options unread_old unread_new p name cost finding text read told =
    text_within request.format (context_of request name cost) (context_of request (name_of read.read.bytes) cost) p finding text (λ json. ap (λ (n : Option (List ℕ)). context_of request n cost) (read.named json)) told

answers : {S : Type 0} (request : Request) (may_stop : Bool) (unread : S → Option (List ℕ)) (file : Option (StartFile S)) (unread_old unread_new : Option (List ℕ)) (p : Problem) (name : Option (List ℕ)) (start : Option PricedPlan) (finding : FindingOf)
    (text : List ℕ) → (read : ReadsNamed request.options request.format unread_old unread_new p name) → (begins : BeginsWith p unread file start) → IsFoundBy request may_stop p start finding
    → IsTextIn request.format (context_of request name (start_cost begins.text)) p finding text → AnswersRequest request may_stop read.read.bytes begins.text finding text
answers request may_stop unread file unread_old unread_new p name start finding text read begins found told =
    record {
      meant = read.read.meant;
      means = read.read.means;
      problem = p;
      with_trucks = read.read.with_trucks;
      start = start;
      gives = begins.gives;
      found = found;
      told = named request request.options unread_old unread_new p name (start_cost begins.text) finding text read told;
    }

pub prints_request : {S : Type 0} (request : Request) (may_stop : Bool) (unread : S → Option (List ℕ)) (file : Option (StartFile S)) (unread_old unread_new written_old written_new : Option (List ℕ)) (p : Problem) (name : Option (List ℕ))
    → ReadsNamed request.options request.format unread_old unread_new p name → (ended : Status) → WritesOn request name may_stop p unread file written_old written_new ended
    → PrintsRequest request may_stop unread file unread_old unread_new written_old written_new ended
prints_request request may_stop unread file unread_old unread_new written_old written_new p name read ended on =
    record {
      bytes = read.read.bytes;
      input = read.read.input;
      start_text = on.begins.text;
      start_read = on.begins.read;
      finding = on.written.finding;
      text = on.written.text;
      answers = answers request may_stop unread file unread_old unread_new p name on.start on.written.finding on.written.text read on.begins on.written.found on.written.told;
      status = on.written.status;
      output = on.written.output;
    }

pub prints_part_of_request : {S : Type 0} (request : Request) (may_stop : Bool) (unread : S → Option (List ℕ)) (file : Option (StartFile S)) (unread_old unread_new written_old written_new : Option (List ℕ)) (p : Problem) (name : Option (List ℕ))
    → ReadsNamed request.options request.format unread_old unread_new p name → WritesPartOn request name may_stop p unread file written_old written_new
    → PrintsPartOfRequest request may_stop unread file unread_old unread_new written_old written_new
prints_part_of_request request may_stop unread file unread_old unread_new written_old written_new p name read on =
    record {
      bytes = read.read.bytes;
      input = read.read.input;
      start_text = on.begins.text;
      start_read = on.begins.read;
      finding = on.written.finding;
      text = on.written.text;
      answers = answers request may_stop unread file unread_old unread_new p name on.start on.written.finding on.written.text read on.begins on.written.found on.written.told;
      output = on.written.output;
    }

-- ---- of the plan to begin with

-- it begins with the plan that is kept
begins_so : {S : Type 0} (p : Problem) (unread : S → Option (List ℕ)) (file : Option (StartFile S)) (solution : Option Solution) (start : Option PricedPlan) → (stated : BeginsStated p unread file solution) → start ≡ option_map (λ solution. solution.plan) solution
    → BeginsWith p unread file start
begins_so p unread file solution start stated same =
    record { text = stated.begins.text; read = stated.begins.read; gives = subst (GivesStart p stated.begins.text) (sym same) stated.begins.gives }

-- what was written with the cost that is kept was written with the one that the file states
pub writes_on : {S : Type 0} (request : Request) (name : Option (List ℕ)) (may_stop : Bool) (p : Problem) (unread : S → Option (List ℕ)) (file : Option (StartFile S)) (written_old written_new : Option (List ℕ)) (solution : Option Solution)
    (start : Option PricedPlan) (cost : Option ℕ) → BeginsStated p unread file solution → start ≡ option_map (λ solution. solution.plan) solution → cost ≡ option_and_then (λ solution. solution.stated_cost) solution
    → (ended : Status) → WritesFound request (context_of request name cost) may_stop p start written_old written_new ended → WritesOn request name may_stop p unread file written_old written_new ended
unfolding begins_so
writes_on request name may_stop p unread file written_old written_new solution start cost stated same kept ended written =
    record {
      start = start;
      begins = begins_so p unread file solution start stated same;
      written = subst (λ (c : Option ℕ). WritesFound request (context_of request name c) may_stop p start written_old written_new ended) (kept ∙ stated.stated) written;
    }

pub writes_part_on : {S : Type 0} (request : Request) (name : Option (List ℕ)) (may_stop : Bool) (p : Problem) (unread : S → Option (List ℕ)) (file : Option (StartFile S)) (written_old written_new : Option (List ℕ)) (solution : Option Solution)
    (start : Option PricedPlan) (cost : Option ℕ) → BeginsStated p unread file solution → start ≡ option_map (λ solution. solution.plan) solution → cost ≡ option_and_then (λ solution. solution.stated_cost) solution
    → WritesFoundPart request (context_of request name cost) may_stop p start written_old written_new → WritesPartOn request name may_stop p unread file written_old written_new
unfolding begins_so
writes_part_on request name may_stop p unread file written_old written_new solution start cost stated same kept written =
    record {
      start = start;
      begins = begins_so p unread file solution start stated same;
      written = subst (λ (c : Option ℕ). WritesFoundPart request (context_of request name c) may_stop p start written_old written_new) (kept ∙ stated.stated) written;
    }

-- ---- of an answer that is ready to be written

-- it is of the start plan that was kept
pub is_ready_on : {S : Type 0} (request : Request) (may_stop : Bool) (problem : Read) (unread : S → Option (List ℕ)) (file : Option (StartFile S)) (start : Option Solution) (ready : ReadyAnswer) → ready.problem ≡ problem
    → ready.start ≡ start → BeginsStated problem.instance unread file start → IsFoundBy request may_stop problem.instance (plan_in start) (told_outcome request.seconds ready.outcome)
    → ForSome (told_outcome request.seconds ready.outcome).plan (IsPlanOf problem.instance) → HasPoints request.format problem → IsReadyOn request may_stop problem unread file ready
is_ready_on request may_stop problem unread file start ready of_problem of_start begins found plan points =
    record {
      of_problem = of_problem;
      begins = subst (λ (s : Option Solution). BeginsStated problem.instance unread file s) (sym of_start) begins;
      found = subst (λ (s : Option Solution). IsFoundBy request may_stop problem.instance (plan_in s) (told_outcome request.seconds ready.outcome)) (sym of_start) found;
      plan = plan;
      points = points;
    }

-- it is of the problem that was read
pub is_ready : {S : Type 0} (request : Request) (may_stop : Bool) (problem : Read) (unread : S → Option (List ℕ)) (file : Option (StartFile S)) (unread_old unread_new : Option (List ℕ)) (ready : ReadyAnswer)
    → ReadsNamed request.options request.format unread_old unread_new problem.instance (option_map string_bytes problem.beside.name) → IsReadyOn request may_stop problem unread file ready
    → IsReady request may_stop unread file unread_old unread_new ready
is_ready request may_stop problem unread file unread_old unread_new ready read on =
    record {
      read = subst (λ (q : Read). ReadsNamed request.options request.format unread_old unread_new q.instance (option_map string_bytes q.beside.name)) (sym on.of_problem) read;
      on = subst (λ (q : Read). IsReadyOn request may_stop q unread file ready) (sym on.of_problem) on;
    }

-- without a start plan too
pub is_ready_alone : (request : Request) (may_stop : Bool) (problem : Read) (unread_old unread_new : Option (List ℕ)) → ReadsNamed request.options request.format unread_old unread_new problem.instance (option_map string_bytes problem.beside.name)
    → {E : Type 0} (r : Result ReadyAnswer E) → IfOk r (λ ready. ready.problem ≡ problem) → IfOk r (λ ready. IsFoundBy request may_stop problem.instance None (told_outcome request.seconds ready.outcome))
    → IfOk r (λ ready. ForSome (told_outcome request.seconds ready.outcome).plan (IsPlanOf problem.instance)) → IfOk r (IsReadyAlone request may_stop unread_old unread_new)
is_ready_alone request may_stop problem unread_old unread_new read (Ok ready) of_problem found plan =
    record {
      read = subst (λ (q : Read). ReadsNamed request.options request.format unread_old unread_new q.instance (option_map string_bytes q.beside.name)) (sym of_problem) read;
      found = subst (λ (q : Read). IsFoundBy request may_stop q.instance None (told_outcome request.seconds ready.outcome)) (sym of_problem) found;
      plan = subst (λ (q : Read). ForSome (told_outcome request.seconds ready.outcome).plan (IsPlanOf q.instance)) (sym of_problem) plan;
    }
is_ready_alone request may_stop problem unread_old unread_new read (Err error) of_problem found plan = tt

-- the finding of a search is not that of a check
told_unchecked : (seconds : Option ℕ) (found : Answer) (bound : ℕ) → (told_of seconds found bound).status ≡ verdict.Lawful → ⊥
told_unchecked None (answer.Proven plan) bound is = cc
told_unchecked None (answer.Open plan low lowest) bound is = cc
told_unchecked None answer.NoPlan bound is = cc
told_unchecked (Some seconds) (answer.Proven plan) bound is = cc
told_unchecked (Some seconds) (answer.Open plan low lowest) bound is = cc
told_unchecked (Some seconds) answer.NoPlan bound is = cc

-- the plan that was only checked is the start plan
checked_plan : (request : Request) (may_stop : Bool) (p : Problem) (start : Option PricedPlan) (finding : FindingOf) → IsFoundBy request may_stop p start finding → finding.status ≡ verdict.Lawful → start ≡ finding.plan
checked_plan request may_stop p start finding (inl checked) lawful = checked.given ∙ sym (ap (λ (f : FindingOf). f.plan) checked.told)
checked_plan request may_stop p start finding (inr searched) lawful = absurd (told_unchecked request.seconds searched.answer searched.bound (ap (λ (f : FindingOf). f.status) (sym searched.told) ∙ lawful))

-- without a start plan there is no text of its file
none_text : (p : Problem) (text : Option (List ℕ)) (start : Option PricedPlan) → start ≡ None → GivesStart p text start → text ≡ None
none_text p None start nobody gives = refl
none_text p (Some text) None nobody gives = absurd gives
none_text p (Some text) (Some plan) nobody gives = absurd (let never : Some plan ≡ None = nobody in cc)

-- what was written of it answers the request
pub prints_ready : {S : Type 0} (request : Request) (may_stop : Bool) (unread : S → Option (List ℕ)) (file : Option (StartFile S)) (unread_old unread_new written_old written_new : Option (List ℕ)) (ready : ReadyAnswer)
    → IsReady request may_stop unread file unread_old unread_new ready → (ended : Status) → WritesFound request (context_for request ready) may_stop ready.problem.instance (plan_in ready.start) written_old written_new ended
    → IsWritten request may_stop unread file unread_old unread_new written_old written_new (record { status = ended; ready = ready })
unfolding prints_request writes_on begins_so
prints_ready request may_stop unread file unread_old unread_new written_old written_new ready is ended written =
    let name = option_map string_bytes ready.problem.beside.name in
    let cost = option_and_then (λ (s : Solution). s.stated_cost) ready.start in
    let on = writes_on request name may_stop ready.problem.instance unread file written_old written_new ready.start (plan_in ready.start) cost is.on.begins refl refl ended written in
    record {
      prints = prints_request request may_stop unread file unread_old unread_new written_old written_new ready.problem.instance name is.read ended on;
      plan = λ lawful. checked_plan request may_stop ready.problem.instance (plan_in ready.start) on.written.finding on.written.found lawful;
      none = λ nobody. none_text ready.problem.instance is.on.begins.begins.text (plan_in ready.start) (ap plan_in nobody) is.on.begins.begins.gives;
      other = is.on.begins.other;
    }

pub prints_part_of_ready : {S : Type 0} (request : Request) (may_stop : Bool) (unread : S → Option (List ℕ)) (file : Option (StartFile S)) (unread_old unread_new written_old written_new : Option (List ℕ)) (ready : ReadyAnswer)
    → IsReady request may_stop unread file unread_old unread_new ready → WritesFoundPart request (context_for request ready) may_stop ready.problem.instance (plan_in ready.start) written_old written_new
    → PrintsPartOfRequest request may_stop unread file unread_old unread_new written_old written_new
prints_part_of_ready request may_stop unread file unread_old unread_new written_old written_new ready is written =
    let name = option_map string_bytes ready.problem.beside.name in
    let cost = option_and_then (λ (s : Solution). s.stated_cost) ready.start in
    prints_part_of_request request may_stop unread file unread_old unread_new written_old written_new ready.problem.instance name is.read
    (writes_part_on request name may_stop ready.problem.instance unread file written_old written_new ready.start (plan_in ready.start) cost is.on.begins refl refl written)

-- ---- faults

-- a fault of writing is no refusal
pub on_write_fault : (File : TextError → Type 0) (Starts : StartError → Type 0) (Picture : Type 0) (error : RunError) → (error ≡ fault.OutOfMemory) ⊎ (error ≡ fault.Write) → OnRefusal (reason.Run error) File Starts Picture
on_write_fault File Starts Picture error (inl is) = subst (λ (e : RunError). OnRefusedFile e File) (sym is) tt
on_write_fault File Starts Picture error (inr is) = subst (λ (e : RunError). OnRefusedFile e File) (sym is) tt

-- a fault of writing is no failed read
pub write_is_no_read : (error : RunError) → (error ≡ fault.OutOfMemory) ⊎ (error ≡ fault.Write) → reason.Run error ≡ reason.Run fault.Read → ⊥
write_is_no_read error (inl is) same = let never : reason.Run fault.OutOfMemory ≡ reason.Run fault.Read = subst (λ (e : RunError). reason.Run e ≡ reason.Run fault.Read) is same in cc
write_is_no_read error (inr is) same = let never : reason.Run fault.Write ≡ reason.Run fault.Read = subst (λ (e : RunError). reason.Run e ≡ reason.Run fault.Read) is same in cc

-- a fault of a run is the same as that of the request
pub fault_same : {error other : RunError} → reason.Run error ≡ reason.Run other → error ≡ other
fault_same same = cc

-- what holds of a value holds of the one that is answered
pub on_ok : {T E : Type 0} {P Q : T → Type 0} → (r : Result T E) → ((value : T) → P value → Q value) → IfOk r P → IfOk r Q
on_ok (Ok value) step known = step value known
on_ok (Err error) step known = tt

-- what holds of a fault holds of the one that is answered
pub on_err : {T E : Type 0} {P Q : E → Type 0} → (r : Result T E) → ((error : E) → P error → Q error) → IfErr r P → IfErr r Q
on_err (Ok value) step known = tt
on_err (Err error) step known = step error known

-- no fault that comes once a problem is read is a refusal of its file
pub on_refusal_of : (File : TextError → Type 0) (Start Starts : StartError → Type 0) (Picture : Type 0) → ((error : StartError) → Start error → Starts error) → (error : RequestError) → OnFault Start Picture error → OnRefusal error File Starts Picture
on_refusal_of File Start Starts Picture step (reason.Run error) is = subst (λ (e : RunError). OnRefusedFile e File) (sym is) tt
on_refusal_of File Start Starts Picture step (reason.Start (start_fault.Refused refusal)) known = step (start_fault.Refused refusal) known
on_refusal_of File Start Starts Picture step (reason.Start start_fault.TooLong) known = step start_fault.TooLong known
on_refusal_of File Start Starts Picture step (reason.Start start_fault.Read) known = tt
on_refusal_of File Start Starts Picture step (reason.Start start_fault.OutOfMemory) known = tt
on_refusal_of File Start Starts Picture step reason.NoPoints known = known

-- and none is a read that failed
pub no_read_fault : (Start : StartError → Type 0) (Picture : Type 0) (error : RequestError) → OnFault Start Picture error → error ≡ reason.Run fault.Read → ⊥
no_read_fault Start Picture (reason.Run error) is same = let never : reason.Run fault.OutOfMemory ≡ reason.Run fault.Read = subst (λ (e : RunError). reason.Run e ≡ reason.Run fault.Read) is same in cc
no_read_fault Start Picture (reason.Start error) known same = cc
no_read_fault Start Picture reason.NoPoints known same = cc

-- or a write
pub no_write_fault : (Start : StartError → Type 0) (Picture : Type 0) (error : RequestError) → OnFault Start Picture error → error ≡ reason.Run fault.Write → ⊥
no_write_fault Start Picture (reason.Run error) is same = let never : reason.Run fault.OutOfMemory ≡ reason.Run fault.Write = subst (λ (e : RunError). reason.Run e ≡ reason.Run fault.Write) is same in cc
no_write_fault Start Picture (reason.Start error) known same = cc
no_write_fault Start Picture reason.NoPoints known same = cc

-- ---- the plan to begin with

pub start_lawful : (p : Problem) (text : Option (List ℕ)) (start : Option PricedPlan) → GivesStart p text start → ForSome start (IsPlanOf p)
start_lawful p None start is = λ plan same. absurd (let never : None ≡ Some plan = sym is ∙ same in cc)
start_lawful p (Some text) None gives = absurd gives
start_lawful p (Some text) (Some found) gives = λ plan same. (let one : found ≡ plan = cc in subst (IsPlanOf p) one gives.plan_of)
