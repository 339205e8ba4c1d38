-- The objects of the JSON, member by member.
use Rattle.std.specs.Prelude.{ℕ, ◌-◌, Option, List, codes}
use Rattle.serde_json.specs.Data.{Data, Members, array, member, no_members, number, object, put, string, unsigned}
use Rattle.serde_json.specs.View.{items_of}
use Rattle.vrp_answer.specs.Finding.{FindingOf, status_text}
use Rattle.vrp_plan_text.specs.Json.{ContextOf, cost_told, least_told, number_or_null, options_told, text_or_null}
use Rattle.vrp_plan_text.specs.declared.writing.json.Settings.{Settings}
use Rattle.vrp_model.specs.Problem.{Problem, node_of, place_count}

-- the document, with this gap and these routes
abbrev pub document_of : Problem → FindingOf → ContextOf → Option ℕ → List Data → Data
document_of p finding context gap routes =
    object (member (codes "best_lower_bound") (number_or_null finding.best_lower_bound)
    (member (codes "capacity") (number (unsigned p.capacity)) (member (codes "cost") (number_or_null (cost_told finding)) (member (codes "cost_is_least") (least_told (cost_told finding) finding.best_lower_bound) (member (codes "customers") (number (unsigned (place_count p - 1)))
    (member (codes "depot") (number (unsigned (node_of p 0))) (member (codes "gap") (number_or_null gap) (member (codes "lower_bound") (number_or_null finding.lower_bound) (member (codes "name") (text_or_null context.name)
    (member (codes "options") (options_told context.asked) (member (codes "routes") (array (items_of routes)) (member (codes "stated_cost") (number_or_null context.stated_cost)
    (member (codes "verdict") (string (status_text finding.status)) (member (codes "version") (string context.version) no_members))))))))))))))

-- these members, and what is known of the run
abbrev pub with_run : ContextOf → Members → Members
with_run context members =
    put (codes "options") (options_told context.asked) (put (codes "version") (string context.version) (put (codes "name") (text_or_null context.name) members))

-- these members, and the verdict with the numbers beside it
abbrev pub with_answer : FindingOf → ContextOf → Option ℕ → Members → Members
with_answer finding context gap members =
    put (codes "gap") (number_or_null gap) (put (codes "best_lower_bound") (number_or_null finding.best_lower_bound) (put (codes "lower_bound") (number_or_null finding.lower_bound)
    (put (codes "stated_cost") (number_or_null context.stated_cost) (put (codes "cost_is_least") (least_told (cost_told finding) finding.best_lower_bound) (put (codes "cost") (number_or_null (cost_told finding))
    (put (codes "verdict") (string (status_text finding.status)) members))))))

-- these members, and what is known of the problem
abbrev pub with_problem : Problem → Members → Members
with_problem p members =
    put (codes "depot") (number (unsigned (node_of p 0))) (put (codes "capacity") (number (unsigned p.capacity)) (put (codes "customers") (number (unsigned (place_count p - 1))) members))

-- these members, and the options
abbrev pub with_settings : Settings → Members → Members
with_settings asked members =
    put (codes "trucks") (number_or_null asked.trucks) (put (codes "depot") (number_or_null asked.depot) (put (codes "seconds") (number_or_null asked.seconds)
    (put (codes "budget") (number_or_null asked.budget) (put (codes "pieces") (number (unsigned asked.pieces)) (put (codes "workers") (number (unsigned asked.workers)) members)))))

-- a route
abbrev pub route_object : ℕ → ℕ → Data → Data → Data
route_object cost load customers nodes =
    object (member (codes "cost") (number (unsigned cost)) (member (codes "customers") customers (member (codes "load") (number (unsigned load)) (member (codes "nodes") nodes no_members))))
