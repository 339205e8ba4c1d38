-- The plan to begin with, step by step.
use Rattle.std.proofs.Common.{◌≡◌, ◌↔◌, ℕ, IsTrue, Option, None, Some, List, Bor, ap, refl, subst, sym}
use Rattle.std.specs.Option.{option_and_then, option_copied, option_map}
use Rattle.vrp_command.specs.Inner.Starts.{BeginsStated, GivesFilePlan, IsTooLongOrUnread, refused_for}
use Rattle.vrp_command.specs.Program.{IsFile, OnRefusedStart, RefusesFile}
use Rattle.vrp_command.specs.declared.start.StartError.{StartError}
use Rattle.vrp_command.specs.declared.start.StartError.TheVariants as start_fault
use Rattle.vrp_command.specs.declared.start.StartFile.{StartFile}
use Rattle.vrp_command.specs.declared.start.StartFile.TheVariants.{Opened}
use Rattle.vrp_model.specs.Problem.{Problem}
use Rattle.vrp_plan_text.specs.Solution.{IsRefusedFor, StatesOtherCost}
use Rattle.vrp_plan_text.specs.declared.reading.solution.Solution.{Solution}
use Rattle.vrp_plan_text.specs.declared.reading.error.SolutionError.{SolutionError}
use Rattle.vrp_plan_text.specs.declared.reading.error.SolutionError.TheVariants as solution

-- a file that was opened and read gives the plan, and states its cost
pub begins_stated : {S : Type 0} (p : Problem) (unread : S → Option (List ℕ)) (start : Option (StartFile S)) (file : S) (solution : Solution) → start ≡ Some (Opened file) → GivesFilePlan p (unread file) solution → BeginsStated p unread start (Some solution)
begins_stated {S} p unread start file solution is gives =
    subst (λ (begin : Option (StartFile S)). BeginsStated p unread begin (Some solution)) (sym is)
    (record {
      begins = record { text = Some gives.text; read = gives.file; gives = gives.gives };
      stated = gives.stated;
      other = λ same is_same. (let one : solution ≡ same = cc in subst (λ (s : Solution). IsTrue s.states_other_cost ↔ StatesOtherCost gives.text s.plan.cost) one gives.other);
    })

-- without a file there is no plan, and no cost is stated
pub begins_without : {S : Type 0} (p : Problem) (unread : S → Option (List ℕ)) (start : Option (StartFile S)) → start ≡ None → BeginsStated p unread start None
begins_without {S} p unread start is =
    subst (λ (begin : Option (StartFile S)). BeginsStated p unread begin None) (sym is)
    (record { begins = record { text = None; read = refl; gives = refl }; stated = refl; other = λ same never. absurd (let clash : None ≡ Some same = never in cc) })

-- the plan of a solution that is lent, and the cost that it states
pub plan_lent : (lent : Option (Bor Solution)) (solution : Option Solution) → option_copied lent ≡ solution → option_map (λ s. s.now.plan) lent ≡ option_map (λ s. s.plan) solution
plan_lent None solution is = ap (option_map (λ (s : Solution). s.plan)) is
plan_lent (Some lent) solution is = ap (option_map (λ (s : Solution). s.plan)) is

pub cost_lent : (lent : Option (Bor Solution)) (solution : Option Solution) → option_copied lent ≡ solution → option_and_then (λ s. s.now.stated_cost) lent ≡ option_and_then (λ s. s.stated_cost) solution
cost_lent None solution is = ap (option_and_then (λ (s : Solution). s.stated_cost)) is
cost_lent (Some lent) solution is = ap (option_and_then (λ (s : Solution). s.stated_cost)) is

-- a file that is too long is refused
pub on_unread : (p : Problem) (unread : Option (List ℕ)) (error : StartError) → IsTooLongOrUnread unread error → OnRefusedStart error (RefusesFile p unread)
on_unread p unread (start_fault.Refused refusal) known = absurd known
on_unread p unread start_fault.TooLong known = record { text = known.text; after = known.after; input = known.input; refused = known.long }
on_unread p unread start_fault.Read known = tt
on_unread p unread start_fault.OutOfMemory known = tt

-- a file whose text is refused is refused for that
refused_file : (p : Problem) (unread : Option (List ℕ)) (text : List ℕ) (error : SolutionError) → IsFile unread text → (error ≡ solution.OutOfMemory → ⊥) → IsRefusedFor p text error → RefusesFile p unread (start_fault.Refused error)
refused_file p unread text error file some is = record { text = text; after = file.after; input = file.input; refused = (some, is) }

pub on_refused : (p : Problem) (unread : Option (List ℕ)) (text : List ℕ) (error : SolutionError) → IsFile unread text → ((error ≡ solution.OutOfMemory → ⊥) → IsRefusedFor p text error) → OnRefusedStart (refused_for error) (RefusesFile p unread)
on_refused p unread text solution.OutOfMemory file known = tt
on_refused p unread text (solution.UnknownLine line) file known = refused_file p unread text (solution.UnknownLine line) file (λ same. cc) (known (λ same. cc))
on_refused p unread text (solution.BadNumber line) file known = refused_file p unread text (solution.BadNumber line) file (λ same. cc) (known (λ same. cc))
on_refused p unread text (solution.RepeatedCost line) file known = refused_file p unread text (solution.RepeatedCost line) file (λ same. cc) (known (λ same. cc))
on_refused p unread text (solution.NotACustomer route customer) file known = refused_file p unread text (solution.NotACustomer route customer) file (λ same. cc) (known (λ same. cc))
on_refused p unread text (solution.ServedTwice route customer) file known = refused_file p unread text (solution.ServedTwice route customer) file (λ same. cc) (known (λ same. cc))
on_refused p unread text (solution.NotServed customer) file known = refused_file p unread text (solution.NotServed customer) file (λ same. cc) (known (λ same. cc))
on_refused p unread text (solution.Overloaded route load capacity) file known = refused_file p unread text (solution.Overloaded route load capacity) file (λ same. cc) (known (λ same. cc))
on_refused p unread text (solution.TooManyRoutes routes) file known = refused_file p unread text (solution.TooManyRoutes routes) file (λ same. cc) (known (λ same. cc))
