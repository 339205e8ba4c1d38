-- Routes as JSON.
use Rattle.std.specs.Prelude.{◌≡◌, ℕ, List, [], ◌∷◌, ⊤}
use Rattle.serde_json.specs.Data.{Data}
use Rattle.vrp_plan_text.specs.Inner.Document.{route_object}
use Rattle.vrp_plan_text.specs.Json.{customers_of, nodes_of}
use Rattle.vrp_model.specs.Problem.{Problem}
use Rattle.vrp_model.specs.Route.{load_of, route_cost}

-- the object of a route with these stops
abbrev pub IsRoute : Problem → List ℕ → Data → Type 0
IsRoute p stops route = route ≡ route_object (route_cost p stops) (load_of p stops) (customers_of stops) (nodes_of p stops)

-- an object for each route, in order
abbrev pub AreRoutes : Problem → List (List ℕ) → List Data → Type 0
AreRoutes p [] [] = ⊤
AreRoutes p [] (value ∷ values) = ⊥
AreRoutes p (stops ∷ routes) [] = ⊥
AreRoutes p (stops ∷ routes) (value ∷ values) = IsRoute p stops value × AreRoutes p routes values
