-- A finding as JSON (RFC 8259).
use Rattle.std.specs.Option.{option_map}
use Rattle.std.specs.Prelude.{◌≡◌, ℕ, ◌-◌, nat_le, Option, None, Some, List, [], ◌++◌, codes, map}
use Rattle.serde_json.specs.Data.{Data, array, boolean, member, no_members, null, number, object, string, unsigned}
use Rattle.serde_json.specs.Find.{get}
use Rattle.serde_json.specs.Read.{read}
use Rattle.serde_json.specs.View.{items_of}
use Rattle.serde_json.specs.Written.{compact_text}
use Rattle.vrp_answer.specs.Finding.{FindingOf, status_text}
use Rattle.vrp_plan_text.specs.Gap.{IsGapOf}
use Rattle.vrp_plan_text.specs.declared.writing.json.Context.{Context}
use Rattle.vrp_plan_text.specs.declared.writing.json.Settings.{Settings}
use Rattle.vrp_model.specs.Problem.{Problem, node_of, place_count}
use Rattle.vrp_model.specs.Route.{PricedPlan, load_of, route_cost}

-- the number, or `null` if there is none
abbrev pub number_or_null : Option ℕ → Data
number_or_null None = null
number_or_null (Some n) = number (unsigned n)

-- a route's stops, each by its number
abbrev pub numbers_of : (ℕ → ℕ) → List ℕ → Data
numbers_of number_of stops = array (items_of (map (λ place. number (unsigned (number_of place))) stops))

-- the file's node numbers of a route's stops
abbrev pub nodes_of : Problem → List ℕ → Data
nodes_of p stops = numbers_of (node_of p) stops

-- the customers of a route by CVRPLIB's numbers: their places, since the depot is place 0
abbrev pub customers_of : List ℕ → Data
customers_of stops = numbers_of (λ place. place) stops

-- the routes of a plan, if there is one
abbrev pub routes_told : Option PricedPlan → List (List ℕ)
routes_told None = []
routes_told (Some plan) = plan.routes

-- the text, or `null` if there is none
abbrev pub text_or_null : Option (List ℕ) → Data
text_or_null None = null
text_or_null (Some text) = string text

-- The context of a finding: the file's name for itself, the program's version, the stated cost of the start plan, and the
-- options of the run.
pub record ContextOf : Type 0 where
  pub name : Option (List ℕ)
  pub version : List ℕ
  pub stated_cost : Option ℕ
  pub asked : Settings

abbrev pub context_by : Context → ContextOf
context_by context = record { name = option_map (λ name. name.now) context.name; version = context.version.now; stated_cost = context.stated_cost; asked = context.asked }

-- the options of the run
abbrev pub options_told : Settings → Data
options_told asked =
    object (member (codes "budget") (number_or_null asked.budget) (member (codes "depot") (number_or_null asked.depot) (member (codes "pieces") (number (unsigned asked.pieces))
    (member (codes "seconds") (number_or_null asked.seconds) (member (codes "trucks") (number_or_null asked.trucks) (member (codes "workers") (number (unsigned asked.workers)) no_members))))))

-- the plan's cost, if there is a plan
abbrev pub cost_told : FindingOf → Option ℕ
cost_told finding = option_map (λ plan. plan.cost) finding.plan

-- whether no plan costs less, as far as the bound tells: so it is if the cost is no higher. `null` without a plan or a bound
abbrev pub least_told : Option ℕ → Option ℕ → Data
least_told (Some cost) (Some bound) = boolean (nat_le cost bound)
least_told (Some cost) None = null
least_told None bound = null

-- The object has the verdict, the cost and whether it is known to be least, both lower bounds and the gap by the best one; the nodes, the
-- customers, the cost and the load of each route; the problem's data, and the context.
pub record IsDocument (p : Problem) (finding : FindingOf) (context : ContextOf) (document : Data) : Type 0 where
  pub verdict : get (codes "verdict") document ≡ Some (string (status_text finding.status))
  pub cost : get (codes "cost") document ≡ Some (number_or_null (cost_told finding))
  pub cost_is_least : get (codes "cost_is_least") document ≡ Some (least_told (cost_told finding) finding.best_lower_bound)
  pub lower_bound : get (codes "lower_bound") document ≡ Some (number_or_null finding.lower_bound)
  pub best_lower_bound : get (codes "best_lower_bound") document ≡ Some (number_or_null finding.best_lower_bound)
  pub gap : Option ℕ
  pub least : IsGapOf (cost_told finding) finding.best_lower_bound gap
  pub gap_told : get (codes "gap") document ≡ Some (number_or_null gap)
  pub routes : List Data
  pub listed : get (codes "routes") document ≡ Some (array (items_of routes))
  pub nodes : map (get (codes "nodes")) routes ≡ map (λ stops. Some (nodes_of p stops)) (routes_told finding.plan)
  pub costs : map (get (codes "cost")) routes ≡ map (λ stops. Some (number (unsigned (route_cost p stops)))) (routes_told finding.plan)
  pub loads : map (get (codes "load")) routes ≡ map (λ stops. Some (number (unsigned (load_of p stops)))) (routes_told finding.plan)
  pub served : map (get (codes "customers")) routes ≡ map (λ stops. Some (customers_of stops)) (routes_told finding.plan)
  pub customers : get (codes "customers") document ≡ Some (number (unsigned (place_count p - 1)))
  pub capacity : get (codes "capacity") document ≡ Some (number (unsigned p.capacity))
  pub depot : get (codes "depot") document ≡ Some (number (unsigned (node_of p 0)))
  pub name : get (codes "name") document ≡ Some (text_or_null context.name)
  pub version : get (codes "version") document ≡ Some (string context.version)
  pub stated_cost : get (codes "stated_cost") document ≡ Some (number_or_null context.stated_cost)
  pub options : get (codes "options") document ≡ Some (options_told context.asked)

-- the compact text of the value, without blanks or line feeds between its parts, and one line feed; it reads as the value
pub record IsLineOf (value : Data) (text : List ℕ) : Type 0 where
  pub line : text ≡ compact_text value ++ codes "\n"
  pub reads : read (compact_text value) ≡ Some value

-- the line of such an object
pub record IsJsonOf (p : Problem) (finding : FindingOf) (context : ContextOf) (text : List ℕ) : Type 0 where
  pub value : Data
  pub line : IsLineOf value text
  pub document : IsDocument p finding context value
