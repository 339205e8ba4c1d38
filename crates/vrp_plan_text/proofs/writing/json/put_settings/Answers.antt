use Rattle.std.proofs.Common.{◌≡◌, rules}
use Rattle.serde_json.specs.View.{view}
use Rattle.serde_json.specs.declared.value.Value.{the_lemmas}
use Rattle.vrp_plan_text.specs.Json.{number_or_null}
use Rattle.vrp_plan_text.proofs.Documents.{null_or_number}
use Rattle.vrp_plan_text.proofs.writing.json.put_settings.Goals as goal

pub returns : goal.returns
returns c =
    let asked = c.args.settings in
    let budget : view c.from-budget.result ≡ number_or_null asked.budget = null_or_number asked.budget (view c.from-budget.result) c.from-budget.ensures in
    let seconds : view c.from-seconds.result ≡ number_or_null asked.seconds = null_or_number asked.seconds (view c.from-seconds.result) c.from-seconds.ensures in
    let depot : view c.from-depot.result ≡ number_or_null asked.depot = null_or_number asked.depot (view c.from-depot.result) c.from-depot.ensures in
    let trucks : view c.from-trucks.result ≡ number_or_null asked.trucks = null_or_number asked.trucks (view c.from-trucks.result) c.from-trucks.ensures in
    search (rules, the_lemmas, budget, seconds, depot, trucks)
