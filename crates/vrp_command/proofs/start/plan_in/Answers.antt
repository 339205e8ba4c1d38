use Rattle.std.proofs.Common.{◌∙◌, ap, subst, sym}
use Rattle.vrp_plan_text.specs.Solution.{stated_cost}
use Rattle.vrp_command.specs.Program.{OnRefusedStart, RefusesFile}
use Rattle.vrp_command.specs.declared.start.StartError.{StartError}
use Rattle.vrp_command.proofs.Starts.{on_refused}
use Rattle.vrp_command.proofs.start.plan_in.Goals as goal

pub returns-clause-refused : goal.returns-clause-refused
returns-clause-refused g c =
    let p = c.args.instance.now in
    let unread = g.S.Read.remaining c.args.file in
    subst (λ (error : StartError). OnRefusedStart error (RefusesFile p unread)) (sym c.refused.ensures)
    (on_refused p unread c.in_ok-text.text.items c.in-Err.refusal c.in_ok-text.ensures.read (rw c.deref.ensures.value at c.in-Err.ensures.refused))

pub returns-in-Ok-clause-gives : goal.returns-in-Ok-clause-gives
returns-in-Ok-clause-gives g c =
    record {
      text = c.in_ok-text.text.items;
      file = c.in_ok-text.ensures.read;
      gives = rw c.deref.ensures.value at c.in-Ok.ensures.read;
      stated = c.in-Ok.ensures.stated ∙ ap stated_cost c.deref.ensures.value;
      other = rw c.deref.ensures.value at c.in-Ok.ensures.other_cost;
    }
