-- The objects of the JSON: how deep they nest, and what stands in them.
use Rattle.std.proofs.Common.{◌≡◌, ◌∙◌, ℕ, zero, suc, ◌+◌, ◌≤◌, Option, None, Some, List, [], ◌∷◌, ◌++◌, false, take, ap, refl, add-one, arith, max}
use Rattle.std.specs.Prelude.{MatchOption, codes, map}
use Rattle.std.specs.List.{slice_get}
use Rattle.std.proofs.Math.Nat.{max-le}
use Rattle.std.proofs.lemmas.List.{map-append}
use Rattle.serde_json.specs.Data.{Data, depth, items_depth, null, number, unsigned}
use Rattle.serde_json.specs.Find.{get}
use Rattle.serde_json.specs.View.{items_of, view}
use Rattle.serde_json.specs.Written.{has_float, items_have_float}
use Rattle.serde_json.specs.declared.value.Value.{Value}
use Rattle.vrp_answer.specs.Finding.{FindingOf}
use Rattle.vrp_plan_text.specs.Inner.Document.{document_of, route_object}
use Rattle.vrp_plan_text.specs.Inner.Routes.{AreRoutes, IsRoute}
use Rattle.vrp_plan_text.specs.Gap.{IsGapOf}
use Rattle.vrp_plan_text.specs.Json.{ContextOf, IsDocument, cost_told, customers_of, least_told, nodes_of, number_or_null, numbers_of, options_told, routes_told, text_or_null}
use Rattle.vrp_plan_text.specs.declared.writing.json.Settings.{Settings}
use Rattle.vrp_model.specs.Problem.{Problem, node_of}
use Rattle.vrp_model.specs.Route.{load_of, route_cost}

-- ---- one route more

take_next : (routes : List (List ℕ)) (index : ℕ) (stops : List ℕ) → slice_get routes index ≡ Some stops → take (suc index) routes ≡ take index routes ++ stops ∷ []
take_next [] index stops found = absurd (cc)
take_next (first ∷ rest) zero stops found = let same : first ≡ stops = cc in rw same refl
take_next (first ∷ rest) (suc index) stops found = ap (λ (xs : List (List ℕ)). first ∷ xs) (take_next rest index stops found)

pub one_more : (p : Problem) (routes : List (List ℕ)) (values : List Data) (stops : List ℕ) (value : Data) → AreRoutes p routes values → IsRoute p stops value → AreRoutes p (routes ++ stops ∷ []) (values ++ value ∷ [])
one_more p [] [] stops value are is = (is, tt)
one_more p [] (other ∷ values) stops value are is = absurd are
one_more p (first ∷ routes) [] stops value are is = absurd are
one_more p (first ∷ routes) (other ∷ values) stops value are is = (are.0, one_more p routes values stops value are.1 is)

-- so it is when a route's object is pushed
pub next_route : (p : Problem) (routes : List (List ℕ)) (index : ℕ) (stops : List ℕ) → slice_get routes index ≡ Some stops → (values : List Value) (value : Value) → AreRoutes p (take index routes) (map view values) → IsRoute p stops (view value)
    → (longer : List Value) → longer ≡ values ++ value ∷ [] → AreRoutes p (take (index + 1) routes) (map view longer)
next_route p routes index stops found values value so_far is longer pushed =
    let taken : take (index + 1) routes ≡ take index routes ++ stops ∷ [] = rw (add-one index) (take_next routes index stops found) in
    rw (taken, pushed, map-append view values (value ∷ [])) (one_more p (take index routes) (map view values) stops (view value) so_far is)

-- ---- how deep it nests

numbers_shallow : (number_of : ℕ → ℕ) (stops : List ℕ) → items_depth (items_of (map (λ place. number (unsigned (number_of place))) stops)) ≡ 0
numbers_shallow number_of [] = refl
numbers_shallow number_of (place ∷ stops) = ap (λ n. max 0 n) (numbers_shallow number_of stops)

numbers_depth : (number_of : ℕ → ℕ) (stops : List ℕ) → depth (numbers_of number_of stops) ≡ 1
numbers_depth number_of stops = ap suc (numbers_shallow number_of stops)

route_depth : (p : Problem) (stops : List ℕ) → depth (route_object (route_cost p stops) (load_of p stops) (customers_of stops) (nodes_of p stops)) ≡ 2
route_depth p stops = rw (numbers_depth (λ place. place) stops, numbers_depth (node_of p) stops) refl

routes_shallow : (p : Problem) (routes : List (List ℕ)) (values : List Data) → AreRoutes p routes values → items_depth (items_of values) ≤ 2
routes_shallow p [] [] are = omega arith
routes_shallow p [] (value ∷ values) are = absurd are
routes_shallow p (stops ∷ routes) [] are = absurd are
routes_shallow p (stops ∷ routes) (value ∷ values) are =
    let deep : depth value ≡ 2 = ap depth are.0 ∙ route_depth p stops in
    max-le (omega (arith, deep)) (routes_shallow p routes values are.1)

least_depth : (cost bound : Option ℕ) → depth (least_told cost bound) ≡ 0
least_depth (Some cost) (Some bound) = refl
least_depth (Some cost) None = refl
least_depth None bound = refl

number_depth : (n : Option ℕ) → depth (number_or_null n) ≡ 0
number_depth None = refl
number_depth (Some n) = refl

text_depth : (text : Option (List ℕ)) → depth (text_or_null text) ≡ 0
text_depth None = refl
text_depth (Some text) = refl

options_depth : (asked : Settings) → depth (options_told asked) ≤ 2
options_depth asked =
    let budget = number_depth asked.budget in
    let depot = number_depth asked.depot in
    let seconds = number_depth asked.seconds in
    let trucks = number_depth asked.trucks in
    rw (budget, depot, seconds, trucks) (omega arith)

pub document_shallow : (p : Problem) (finding : FindingOf) (context : ContextOf) (gap : Option ℕ) (routes : List (List ℕ)) (values : List Data) → AreRoutes p routes values
    → depth (document_of p finding context gap values) ≤ 4
document_shallow p finding context gap routes values are =
    let few : suc (items_depth (items_of values)) ≤ 3 = omega (arith, routes_shallow p routes values are) in
    let one : depth (number_or_null (cost_told finding)) ≤ 3 = omega (arith, number_depth (cost_told finding)) in
    let other : depth (number_or_null finding.lower_bound) ≤ 3 = omega (arith, number_depth finding.lower_bound) in
    let best : depth (number_or_null finding.best_lower_bound) ≤ 3 = omega (arith, number_depth finding.best_lower_bound) in
    let between : depth (number_or_null gap) ≤ 3 = omega (arith, number_depth gap) in
    let named : depth (text_or_null context.name) ≤ 3 = omega (arith, text_depth context.name) in
    let stated : depth (number_or_null context.stated_cost) ≤ 3 = omega (arith, number_depth context.stated_cost) in
    let options : depth (options_told context.asked) ≤ 3 = omega (arith, options_depth context.asked) in
    let least : depth (least_told (cost_told finding) finding.best_lower_bound) ≤ 3 = omega (arith, least_depth (cost_told finding) finding.best_lower_bound) in
    let none : 0 ≤ 3 = omega arith in
    let most =
    max-le best
    (max-le none (max-le one (max-le least (max-le none (max-le none (max-le between (max-le other (max-le named (max-le options (max-le few (max-le stated (max-le none (max-le none none))))))))))))) in
    omega (arith, most)

-- ---- what stands in it

pub nodes_listed : (p : Problem) (routes : List (List ℕ)) (values : List Data) → AreRoutes p routes values → map (get (codes "nodes")) values ≡ map (λ stops. Some (nodes_of p stops)) routes
nodes_listed p [] [] are = refl
nodes_listed p [] (value ∷ values) are = absurd are
nodes_listed p (stops ∷ routes) [] are = absurd are
nodes_listed p (stops ∷ routes) (value ∷ values) are =
    let here : get (codes "nodes") value ≡ Some (nodes_of p stops) = ap (get (codes "nodes")) are.0 in
    let rest = nodes_listed p routes values are.1 in
    cc

pub customers_listed : (p : Problem) (routes : List (List ℕ)) (values : List Data) → AreRoutes p routes values → map (get (codes "customers")) values ≡ map (λ stops. Some (customers_of stops)) routes
customers_listed p [] [] are = refl
customers_listed p [] (value ∷ values) are = absurd are
customers_listed p (stops ∷ routes) [] are = absurd are
customers_listed p (stops ∷ routes) (value ∷ values) are =
    let here : get (codes "customers") value ≡ Some (customers_of stops) = ap (get (codes "customers")) are.0 in
    let rest = customers_listed p routes values are.1 in
    cc

costs_listed : (p : Problem) (routes : List (List ℕ)) (values : List Data) → AreRoutes p routes values → map (get (codes "cost")) values ≡ map (λ stops. Some (number (unsigned (route_cost p stops)))) routes
costs_listed p [] [] are = refl
costs_listed p [] (value ∷ values) are = absurd are
costs_listed p (stops ∷ routes) [] are = absurd are
costs_listed p (stops ∷ routes) (value ∷ values) are =
    let here : get (codes "cost") value ≡ Some (number (unsigned (route_cost p stops))) = ap (get (codes "cost")) are.0 in
    let rest = costs_listed p routes values are.1 in
    cc

loads_listed : (p : Problem) (routes : List (List ℕ)) (values : List Data) → AreRoutes p routes values → map (get (codes "load")) values ≡ map (λ stops. Some (number (unsigned (load_of p stops)))) routes
loads_listed p [] [] are = refl
loads_listed p [] (value ∷ values) are = absurd are
loads_listed p (stops ∷ routes) [] are = absurd are
loads_listed p (stops ∷ routes) (value ∷ values) are =
    let here : get (codes "load") value ≡ Some (number (unsigned (load_of p stops))) = ap (get (codes "load")) are.0 in
    let rest = loads_listed p routes values are.1 in
    cc

-- ---- that it has whole numbers alone

numbers_whole : (number_of : ℕ → ℕ) (stops : List ℕ) → items_have_float (items_of (map (λ place. number (unsigned (number_of place))) stops)) ≡ false
numbers_whole number_of [] = refl
numbers_whole number_of (place ∷ stops) = numbers_whole number_of stops

route_whole : (p : Problem) (stops : List ℕ) → has_float (route_object (route_cost p stops) (load_of p stops) (customers_of stops) (nodes_of p stops)) ≡ false
route_whole p stops = rw (numbers_whole (λ place. place) stops, numbers_whole (node_of p) stops) refl

routes_whole : (p : Problem) (routes : List (List ℕ)) (values : List Data) → AreRoutes p routes values → items_have_float (items_of values) ≡ false
routes_whole p [] [] are = refl
routes_whole p [] (value ∷ values) are = absurd are
routes_whole p (stops ∷ routes) [] are = absurd are
routes_whole p (stops ∷ routes) (value ∷ values) are =
    let here : has_float value ≡ false = ap has_float are.0 ∙ route_whole p stops in
    rw (here, routes_whole p routes values are.1) refl

number_whole : (n : Option ℕ) → has_float (number_or_null n) ≡ false
number_whole None = refl
number_whole (Some n) = refl

text_whole : (text : Option (List ℕ)) → has_float (text_or_null text) ≡ false
text_whole None = refl
text_whole (Some text) = refl

least_whole : (cost bound : Option ℕ) → has_float (least_told cost bound) ≡ false
least_whole (Some cost) (Some bound) = refl
least_whole (Some cost) None = refl
least_whole None bound = refl

options_whole : (asked : Settings) → has_float (options_told asked) ≡ false
options_whole asked = rw (number_whole asked.budget, number_whole asked.depot, number_whole asked.seconds, number_whole asked.trucks) refl

pub document_whole : (p : Problem) (finding : FindingOf) (context : ContextOf) (gap : Option ℕ) (routes : List (List ℕ)) (values : List Data) → AreRoutes p routes values
    → has_float (document_of p finding context gap values) ≡ false
document_whole p finding context gap routes values are =
    rw (
      number_whole finding.best_lower_bound,
      number_whole (cost_told finding),
      least_whole (cost_told finding) finding.best_lower_bound,
      number_whole gap,
      number_whole finding.lower_bound,
      text_whole context.name,
      options_whole context.asked,
      routes_whole p routes values are,
      number_whole context.stated_cost,
    ) refl

-- an option of a small number
pub null_or_number : (n : Option ℕ) (value : Data) → MatchOption n (value ≡ null) (λ m. value ≡ number (unsigned m)) → value ≡ number_or_null n
null_or_number None value is = is
null_or_number (Some m) value is = is

pub is_document : (p : Problem) (finding : FindingOf) (context : ContextOf) (gap : Option ℕ) (values : List Data) (value : Data) → value ≡ document_of p finding context gap values
    → IsGapOf (cost_told finding) finding.best_lower_bound gap → AreRoutes p (routes_told finding.plan) values → IsDocument p finding context value
is_document p finding context gap values value is least are =
    record {
      verdict = ap (get (codes "verdict")) is;
      cost = ap (get (codes "cost")) is;
      cost_is_least = ap (get (codes "cost_is_least")) is;
      lower_bound = ap (get (codes "lower_bound")) is;
      best_lower_bound = ap (get (codes "best_lower_bound")) is;
      gap = gap;
      least = least;
      gap_told = ap (get (codes "gap")) is;
      routes = values;
      listed = ap (get (codes "routes")) is;
      nodes = nodes_listed p (routes_told finding.plan) values are;
      costs = costs_listed p (routes_told finding.plan) values are;
      loads = loads_listed p (routes_told finding.plan) values are;
      served = customers_listed p (routes_told finding.plan) values are;
      customers = ap (get (codes "customers")) is;
      capacity = ap (get (codes "capacity")) is;
      depot = ap (get (codes "depot")) is;
      name = ap (get (codes "name")) is;
      version = ap (get (codes "version")) is;
      stated_cost = ap (get (codes "stated_cost")) is;
      options = ap (get (codes "options")) is;
    }
