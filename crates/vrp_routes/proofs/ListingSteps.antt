-- The list of routes, one level after another, and the pool that it ends as.
use Rattle.std.proofs.Common.{Global, Vec, ◌≡◌, ℕ, ◌+◌, ◌^◌, ◌<◌, ◌≤◌, inl, inr, List, [], ◌∷◌, ◌++◌, drop, length, map, get_or, refl, sym, ap, subst, ◌∙◌, arith}
use Rattle.std.specs.List.{Contains}
use Rattle.std.proofs.lemmas.Bool.{cases_lt}
use Rattle.std.proofs.lemmas.List.{append-nil, drop_at, get_or-map, get_or_append_left, length-append, length-map}
use Rattle.std.proofs.lemmas.List.Elements.{All-append, All-contains, All-map, All-nil, All-weaker, Contains-append_left, Contains-append_right, Contains-get_or}
use Rattle.vrp_model.specs.Problem.{IsProblem, Problem, place_count}
use Rattle.vrp_routes.specs.ClosedLevel.{AreClosed, route_by}
use Rattle.vrp_routes.specs.Extended.{IfLabels}
use Rattle.vrp_routes.specs.Label.{IsLabel, SettingOf}
use Rattle.vrp_routes.specs.Level.{IsLevel, sequences}
use Rattle.vrp_routes.specs.Listing.{AreListed, IsListing}
use Rattle.vrp_routes.specs.Pool.{IsListed, IsPoolIn, RouteOf, no_route}
use Rattle.vrp_routes.specs.Useful.{BeginsUseful, IsUsefulIn}
use Rattle.vrp_routes.specs.declared.closed.ClosedRoute.{ClosedRoute}
use Rattle.vrp_routes.specs.declared.label.Label.{Label}
use Rattle.vrp_routes.specs.declared.level.Extended.{Extended}
use Rattle.vrp_routes.specs.declared.level.Extended.TheVariants.{Labels}
use Rattle.vrp_routes.specs.declared.listing.Listing.{Listing}
use Rattle.vrp_routes.proofs.FeasibleRoutes.{IsRoute, are_routes, useful_begins}
use Rattle.vrp_routes.proofs.Extensions.{root_level}
use Rattle.vrp_routes.proofs.Labels.{short_beginning}
use Rattle.vrp_routes.specs.declared.plan_range.PlanRange.{PlanRange}

useful_has_stops : (p : Problem) (range : PlanRange) (xs : List ℕ) → IsUsefulIn p range xs → 1 ≤ length xs
useful_has_stops p range [] useful = absurd ((All-contains (IsRoute p) useful.plan.routes [] (are_routes p useful.plan.routes useful.canonical.plan_of.lawful) useful.among).some refl)
useful_has_stops p range (x ∷ xs) useful = omega arith

-- what is known of a listed route
abbrev IsOwn : Problem → List (List ℕ) → ClosedRoute → Type 0
IsOwn p stops route = IsListed p (route_by stops route) × (route.label < length stops)

own_longer : (p : Problem) (stops more : List (List ℕ)) (route : ClosedRoute) → IsOwn p stops route → IsOwn p (stops ++ more) route
own_longer p stops more route (is, lt) = (
  subst (λ (xs : List ℕ). IsListed p (record { stops = xs; set = route.set; load = route.load; cost = route.cost })) (sym (get_or_append_left stops more [] route.label lt)) is,
  omega (arith, lt, length-append stops more),
)

-- sequences that are added change nothing
listed_longer : (p : Problem) (range : PlanRange) (k : ℕ) (stops more : List (List ℕ)) (routes : List ClosedRoute) → AreListed p range k stops routes → AreListed p range k (stops ++ more) routes
listed_longer p range k stops more routes are = record {
  each = All-weaker (IsOwn p stops) (IsOwn p (stops ++ more)) (own_longer p stops more) routes are.each;
  every = λ xs short useful.
      let (route, among, is) = are.every xs short useful in
      (route, among, get_or_append_left stops more [] route.label (All-contains (IsOwn p stops) routes route are.each among).1 ∙ is);
}

-- the routes of the next length are added
listed_more : (p : Problem) (range : PlanRange) (k : ℕ) (stops : List (List ℕ)) (old new : List ClosedRoute) → AreListed p range k stops old → AreClosed p range k stops new → AreListed p range (k + 1) stops (old ++ new)
listed_more p range k stops old new are closed = record {
  each = All-append (IsOwn p stops) old new are.each closed.each;
  every = λ xs short useful. elim (cases_lt (length xs) k) [
    | inl less ↦ (let (route, among, is) = are.every xs less useful in (route, Contains-append_left old new route among, is))
    | inr here ↦ (let (route, among, is) = closed.every xs (omega (arith, here, short)) useful in (route, Contains-append_right old new route among, is))
  ];
}

pub first_listing : {X : Type 0} (s : SettingOf X) (listing : Listing X) (root : Label X) → listing.sequences ≡ [] ∷ [] → listing.labels.items ≡ root ∷ [] → listing.start ≡ 0 → listing.routes.items ≡ [] → IsLabel s [] root → IsListing s 0 listing
first_listing {X} s listing root sequences labels start routes is = record {
  start = omega (arith, start);
  few = let one = ap length sequences in omega (arith, one);
  level =
      subst (λ (ls : List (Label X)). IsLevel s 0 (drop listing.start listing.sequences) ls) (sym labels)
      (subst (λ n. IsLevel s 0 (drop n listing.sequences) (root ∷ [])) (sym start)
      (subst (λ (xs : List (List ℕ)). IsLevel s 0 (drop 0 xs) (root ∷ [])) (sym sequences) (root_level s root is)));
  routes = subst (AreListed s.problem s.range 1 listing.sequences) (sym routes) (record {
    each = All-nil _;
    every = λ xs short useful. absurd (let some = useful_has_stops s.problem s.range xs useful in omega (arith, some, short));
  });
}

-- the labels that are one customer longer are the last sequences
pub last_level : {X : Type 0} (s : SettingOf X) (k start made : ℕ) (old new : List (List ℕ)) (labels : List (Label X)) → made ≡ length old → new ≡ old ++ sequences (drop start old) labels → IsLevel s (k + 1) (sequences (drop start old) labels) labels → IsLevel s (k + 1) (drop made new) labels
last_level {X} s k start made old new labels made_is is level =
    subst (λ (xs : List (List ℕ)). IsLevel s (k + 1) xs labels) (sym (ap (drop made) is ∙ drop_at old (sequences (drop start old) labels) made (sym made_is))) level

pub next_listing : {X : Type 0} (s : SettingOf X) (k : ℕ) (old new : Listing X) (closed : List ClosedRoute) → IsListing s k old → new.start ≡ length old.sequences → new.sequences ≡ old.sequences ++ sequences (drop old.start old.sequences) new.labels.items
    → length new.sequences < 2 ^ 32 → new.routes.items ≡ old.routes.items ++ closed → IsLevel s (k + 1) (drop new.start new.sequences) new.labels.items → AreClosed s.problem s.range (k + 1) new.sequences closed → IsListing s (k + 1) new
next_listing {X} s k old new closed is start longer few routes level are = record {
  start = let long = ap length longer in omega (arith, start, long, length-append old.sequences (sequences (drop old.start old.sequences) new.labels.items));
  few = few;
  level = level;
  routes = subst (AreListed s.problem s.range (k + 1 + 1) new.sequences) (sym routes)
      (listed_more s.problem s.range (k + 1) new.sequences old.routes.items closed (subst (λ (xs : List (List ℕ)). AreListed s.problem s.range (k + 1) xs old.routes.items) (sym longer) (listed_longer s.problem s.range (k + 1) old.sequences (sequences (drop old.start old.sequences) new.labels.items) old.routes.items is.routes)) are);
}

-- ---- the pool

pub whole_pool : (p : Problem) (range : PlanRange) (k : ℕ) (stops : List (List ℕ)) (routes : List ClosedRoute) (pool : List RouteOf) → AreListed p range k stops routes → IsProblem p → place_count p ≤ k → pool ≡ map (route_by stops) routes → IsPoolIn p range pool
whole_pool p range k stops routes pool are problem all pool_is =
    subst (IsPoolIn p range) (sym pool_is) (record {
      routes = All-map (IsListed p) (route_by stops) routes (λ i d lt. (are.each i d lt).0);
      complete = λ xs useful.
          let begins : BeginsUseful p range xs = ([], subst (IsUsefulIn p range) (sym (append-nil xs)) useful) in
          let short = short_beginning p xs problem (useful_begins p range xs begins) in
          let (route, (at, lt, there), own) = are.every xs (omega (arith, short, all)) useful in
          let mapped : get_or (map (route_by stops) routes) at no_route ≡ route_by stops route = get_or-map (route_by stops) routes at route no_route lt ∙ ap (route_by stops) there in
          (route_by stops route, subst (Contains (map (route_by stops) routes)) mapped (Contains-get_or (map (route_by stops) routes) at no_route (omega (arith, lt, length-map routes (route_by stops)))), own);
    })

-- what is known of the labels, where there are some
pub of_labels : {X : Type 0} (extended : Extended X) (labels : Vec (Label X) Global) (P : List (Label X) → Type 0) → extended ≡ Labels labels → IfLabels extended P → P labels.items
of_labels {X} extended labels P is holds = subst (λ (e : Extended X). IfLabels e P) is holds
