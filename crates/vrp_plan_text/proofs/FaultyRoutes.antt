-- What is wrong with the routes of a solution, and what is known where nothing is.
use Rattle.std.proofs.Common.{◌≡◌, ◌≢◌, ◌∙◌, ℕ, suc, ◌+◌, ◌<◌, ◌≤◌, Bool, true, false, List, [], ◌∷◌, ◌++◌, length, get_or, map, take, drop, refl, sym, ap, subst, arith, append-nil}
use Rattle.std.specs.List.{All, Contains, concat}
use Rattle.std.proofs.lemmas.List.{length-map, map-append, take_more}
use Rattle.std.proofs.lemmas.List.Elements.{All-append, All-contains_itself, All-map, All-push}
use Rattle.std.proofs.lemmas.List.Folds.{concat-append}
use Rattle.vrp_model.specs.Problem.{HasTrucks, Problem, customers}
use Rattle.vrp_model.specs.Route.{IsLawful, OverloadsNoTruck, load_of}
use Rattle.vrp_model.proofs.CustomerPlaces.{customer_below, customer_is_some}
use Rattle.vrp_model.proofs.DistinctLists.{customers_distinct, same_elements}
use Rattle.vrp_plan_text.specs.Line.{Line}
use Rattle.vrp_plan_text.specs.Solution.{AreCustomers, AreSound, AreTooMany, HaveFault, IsFirstRoute, IsNotServed, IsOverloaded, IsServedTwice}
use Rattle.vrp_plan_text.specs.Inner.Listing.{Keeps, given_route, given_routes}
use Rattle.vrp_plan_text.specs.Inner.Served.{AreDifferent, AreFaulty, AreServed, Marks, StandsTwice}
use Rattle.vrp_plan_text.specs.declared.reading.error.SolutionError.{SolutionError}
use Rattle.vrp_plan_text.specs.declared.reading.error.SolutionError.TheVariants as error
use Rattle.vrp_plan_text.specs.declared.reading.listing.ListedPlan.{ListedPlan}
use Rattle.vrp_plan_text.specs.declared.reading.route.NonemptyRoute.{NonemptyRoute}
use Rattle.vrp_plan_text.proofs.ListingLemmas.{lists_kept}
use Rattle.vrp_plan_text.proofs.OrderedRoutes.{right_distinct}
use Rattle.vrp_plan_text.proofs.ReadSolutions.{stops_are}
use Rattle.vrp_plan_text.proofs.ServedStops.{contains_stands, split_at, stands_contains}

abbrev pub stops_in : List NonemptyRoute → List (List ℕ)
stops_in routes = map (λ (r : NonemptyRoute). r.stops.items) routes

-- ---- one of the routes

-- the stops of the routes up to one more
pub stops_more : (routes : List NonemptyRoute) (i : ℕ) (route : NonemptyRoute) → i < length routes → route ≡ get_or routes i route → concat (stops_in (take (i + 1) routes)) ≡ concat (stops_in (take i routes)) ++ route.stops.items
stops_more routes i route here is =
    let more : take (i + 1) routes ≡ take i routes ++ route ∷ [] = take_more routes i route here ∙ ap (λ (r : NonemptyRoute). take i routes ++ r ∷ []) (sym is) in
    ap (λ (l : List NonemptyRoute). concat (stops_in l)) more
    ∙ ap concat (map-append (λ (r : NonemptyRoute). r.stops.items) (take i routes) (route ∷ []))
    ∙ concat-append (stops_in (take i routes)) (route.stops.items ∷ [])
    ∙ ap (λ (l : List ℕ). concat (stops_in (take i routes)) ++ l) (append-nil route.stops.items)

-- nothing is wrong with routes that were passed
sound_routes : (p : Problem) (flags : List Bool) (routes : List NonemptyRoute) → AreServed p flags (stops_in routes) → AreSound p (given_routes routes)
sound_routes p flags routes served = record {
  once = subst (λ (l : List (List ℕ)). AreDifferent (concat l)) (sym (stops_are routes)) served.once;
  fits = subst (OverloadsNoTruck p) (sym (stops_are routes)) served.fits;
}

first_route : (p : Problem) (flags : List Bool) (routes : List NonemptyRoute) (i : ℕ) (route : NonemptyRoute) → i < length routes → route ≡ get_or routes i route → AreServed p flags (stops_in (take i routes)) → IsFirstRoute p (given_routes routes) route.number (given_routes (take i routes)) (given_route route)
first_route p flags routes i route here is served = record {
  later = given_routes (drop (suc i) routes);
  stands = ap given_routes (split_at routes i route here ∙ ap (λ (r : NonemptyRoute). take i routes ++ r ∷ drop (suc i) routes) (sym is)) ∙ map-append given_route (take i routes) (route ∷ drop (suc i) routes);
  numbered = refl;
  sound = sound_routes p flags (take i routes) served;
}

pub served_twice : (p : Problem) (flags : List Bool) (routes : List NonemptyRoute) (i : ℕ) (route : NonemptyRoute) (stops : List ℕ) (customer : ℕ) → i < length routes → route ≡ get_or routes i route → stops ≡ route.stops.items → AreServed p flags (stops_in (take i routes))
    → StandsTwice (concat (stops_in (take i routes))) stops customer → IsServedTwice p (given_routes routes) route.number customer
served_twice p flags routes i route stops customer here is are served twice =
    let earlier = stops_are (take i routes) in
    record {
      earlier = given_routes (take i routes);
      route = given_route route;
      first = first_route p flags routes i route here is served;
      before = twice.before;
      behind = twice.behind;
      stands = sym are ∙ twice.stands;
      once = subst (λ (l : List (List ℕ)). AreDifferent (concat l ++ twice.before)) (sym earlier) twice.once;
      served = subst (λ (l : List (List ℕ)). Contains (concat l ++ twice.before) customer) (sym earlier) twice.again;
    }

pub overloaded : (p : Problem) (flags : List Bool) (routes : List NonemptyRoute) (i : ℕ) (route : NonemptyRoute) (stops : List ℕ) (load capacity : ℕ) → i < length routes → route ≡ get_or routes i route → stops ≡ route.stops.items → AreServed p flags (stops_in (take i routes))
    → AreDifferent (concat (stops_in (take i routes)) ++ stops) → load ≡ load_of p route.stops.items → capacity ≡ p.capacity → capacity < load → IsOverloaded p (given_routes routes) route.number load capacity
overloaded p flags routes i route stops load capacity here is are served different loaded room above =
    let own = subst (λ (l : List ℕ). AreDifferent (concat (stops_in (take i routes)) ++ l)) are different in
    record {
      earlier = given_routes (take i routes);
      route = given_route route;
      first = first_route p flags routes i route here is served;
      once = subst (λ (l : List (List ℕ)). AreDifferent (concat l ++ route.stops.items)) (sym (stops_are (take i routes))) own;
      loaded = loaded;
      room = room;
      above = above;
    }

-- the stops of a route with which nothing is wrong
pub one_more_served : (p : Problem) (routes : List NonemptyRoute) (i : ℕ) (route : NonemptyRoute) (old new : List Bool) (stops : List ℕ) → i < length routes → route ≡ get_or routes i route → stops ≡ route.stops.items → AreServed p old (stops_in (take i routes)) → length new ≡ length old
    → Marks new (concat (stops_in (take i routes)) ++ stops) × AreDifferent (concat (stops_in (take i routes)) ++ stops) → load_of p route.stops.items ≤ p.capacity → AreServed p new (stops_in (take (i + 1) routes))
one_more_served p routes i route old new stops here is are served same marked light =
    let whole : concat (stops_in (take i routes)) ++ stops ≡ concat (stops_in (take (i + 1) routes)) = ap (λ (l : List ℕ). concat (stops_in (take i routes)) ++ l) are ∙ sym (stops_more routes i route here is) in
    let more : take (i + 1) routes ≡ take i routes ++ route ∷ [] = take_more routes i route here ∙ ap (λ (r : NonemptyRoute). take i routes ++ r ∷ []) (sym is) in
    let list : stops_in (take (i + 1) routes) ≡ stops_in (take i routes) ++ route.stops.items ∷ [] = ap stops_in more ∙ map-append (λ (r : NonemptyRoute). r.stops.items) (take i routes) (route ∷ []) in
    record {
      places = same ∙ served.places;
      marks = subst (Marks new) whole marked.0;
      once = subst AreDifferent whole marked.1;
      fits = subst (All (λ r. load_of p r ≤ p.capacity)) (sym list) (All-push (λ r. load_of p r ≤ p.capacity) (stops_in (take i routes)) route.stops.items served.fits light);
    }

pub different_stops : (passed stops : List ℕ) → AreDifferent (passed ++ stops) → AreDifferent stops
different_stops passed stops different = right_distinct passed stops different

-- ---- all routes

all_customers : (p : Problem) (routes : List (List ℕ)) → All (AreCustomers p) routes → AreCustomers p (concat routes)
all_customers p [] all = λ i d within. absurd (omega (arith, within))
all_customers p (route ∷ routes) all = All-append (Contains (customers p)) route (concat routes) (all 0 route (omega arith)) (all_customers p routes (λ i d within. all (suc i) d (omega (arith, within))))

-- where nothing is wrong with the routes, and they serve all customers, only trucks are wanting
each_stands : (p : Problem) (routes : List NonemptyRoute) (flags : List Bool) (customer : ℕ) → AreServed p flags (stops_in routes) → Contains (customers p) customer → get_or flags customer false ≡ true → Contains (concat (stops_in routes)) customer
each_stands p routes flags customer served known marked =
    stands_contains (concat (stops_in routes)) customer (sym (served.marks customer (omega (arith, customer_below p customer known, served.places))) ∙ marked)

pub too_many : (p : Problem) (routes : List NonemptyRoute) (flags : List Bool) → AreServed p flags (stops_in routes) → All (λ (r : NonemptyRoute). AreCustomers p r.stops.items) routes → All (λ (r : NonemptyRoute). 0 < length r.stops.items) routes
    → All (λ k. get_or flags k false ≡ true) (customers p) → (IsLawful p (stops_in routes) → ⊥) → AreTooMany p (given_routes routes) (length routes)
too_many p routes flags served known some all refused =
    let each : All (Contains (concat (stops_in routes))) (customers p) = λ i d inside. each_stands p routes flags (get_or (customers p) i d) served (All-contains_itself (customers p) i d inside) (all i d inside) in
    record {
      sound = sound_routes p flags routes served;
      every = subst (λ (l : List (List ℕ)). All (Contains (concat l)) (customers p)) (sym (stops_are routes)) each;
      counted = length-map routes given_route;
      more = λ trucks.
          let stops : NonemptyRoute → List ℕ = λ r. r.stops.items in
          let within : AreCustomers p (concat (stops_in routes)) = all_customers p (stops_in routes) (All-map (AreCustomers p) stops routes known) in
          refused (record {
            served = same_elements (customers p) (concat (stops_in routes)) served.once (customers_distinct p) each within;
            stops = All-map (λ r. r ≢ []) stops routes (λ i d inside none. omega (arith, some i d inside, ap length none));
            fits = served.fits;
            few = subst (HasTrucks p) (sym (length-map routes stops)) trucks;
          });
    }

pub not_served : (p : Problem) (routes : List NonemptyRoute) (flags : List Bool) (customer : ℕ) → AreServed p flags (stops_in routes) → Contains (customers p) customer → get_or flags customer false ≡ false
    → ((k : ℕ) → 0 < k → k < customer → get_or flags k false ≡ true) → IsNotServed p (given_routes routes) customer
not_served p routes flags customer served known free lower = record {
  sound = sound_routes p flags routes served;
  known = known;
  nowhere = λ stands.
      let there = subst (λ (l : List (List ℕ)). Contains (concat l) customer) (stops_are routes) stands in
      let marked : get_or flags customer false ≡ true = served.marks customer (omega (arith, customer_below p customer known, served.places)) ∙ contains_stands (concat (stops_in routes)) customer there in
      absurd (cc (marked, free));
  lowest = λ k is below. subst (λ (l : List (List ℕ)). Contains (concat l) k) (sym (stops_are routes)) (each_stands p routes flags k served is (lower k (customer_is_some p k is) below));
}

-- what is wrong with the routes is wrong with the lines that list them
pub lines_are_faulty : (p : Problem) (lines : List Line) (listing : ListedPlan) (fault : SolutionError) → Keeps p lines listing → AreFaulty p (given_routes listing.routes.items) fault → HaveFault p lines fault
lines_are_faulty p lines listing (error.UnknownLine line) keeps is = absurd is
lines_are_faulty p lines listing (error.BadNumber line) keeps is = absurd is
lines_are_faulty p lines listing (error.RepeatedCost line) keeps is = absurd is
lines_are_faulty p lines listing (error.NotACustomer route customer) keeps is = absurd is
lines_are_faulty p lines listing (error.ServedTwice route customer) keeps is = (given_routes listing.routes.items, lists_kept p lines listing keeps, is)
lines_are_faulty p lines listing (error.NotServed customer) keeps is = (given_routes listing.routes.items, lists_kept p lines listing keeps, is)
lines_are_faulty p lines listing (error.Overloaded route load capacity) keeps is = (given_routes listing.routes.items, lists_kept p lines listing keeps, is)
lines_are_faulty p lines listing (error.TooManyRoutes count) keeps is = (given_routes listing.routes.items, lists_kept p lines listing keeps, is)
lines_are_faulty p lines listing error.OutOfMemory keeps is = is
