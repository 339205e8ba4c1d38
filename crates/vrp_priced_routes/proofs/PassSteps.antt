-- What closed labels by dual prices say of plans, and what stays true with fewer arcs.
use Rattle.std.proofs.Common.{◌≡◌, ℕ, ℤ, pos, ◌+ℤ◌, ◌≤ℤ◌, ◌+◌, ◌-◌, ◌*◌, ◌<◌, ◌≤◌, List, [], ◌∷◌, length, get_or, refl, sym, ◌∙◌, ap, subst, arith, inl, inr, unsigned_abs}
use Rattle.std.specs.List.{All}
use Rattle.std.proofs.lemmas.Bool.{cases_lt}
use Rattle.std.proofs.lemmas.Int.{ints}
use Rattle.std.proofs.lemmas.List.Elements.{All-contains, All-nil}
use Rattle.vrp_duals.specs.Duals.{AreDualsOf, DualsOf, IsNeededFor, Obeys, low_of, reduced, turns_of}
use Rattle.vrp_duals.specs.Folding.{AreFull, IsFolded, first_of, folded_cost}
use Rattle.vrp_duals.specs.declared.rows.EntryRow.{EntryRow}
use Rattle.vrp_duals.proofs.FoldedCosts.{folded_route}
use Rattle.vrp_duals.proofs.NeededRows.{obeyed_for}
use Rattle.vrp_duals.proofs.PricedPlans.{least_plan, turns_take_two}
use Rattle.vrp_labels.specs.Fixing.{AreAlive, KeepsCheap, with_followers}
use Rattle.vrp_labels.specs.Graph.{Follows, GraphOf}
use Rattle.vrp_labels.specs.Plans.{IsGapFor}
use Rattle.vrp_labels.specs.Route.{IsAliveEnding, IsAliveRoute, IsCheap}
use Rattle.vrp_labels.specs.Widening.{AreWider, IsClosedBelow, with_memories}
use Rattle.vrp_labels.proofs.CheapPlans.{cheap_full, cheap_turns}
use Rattle.vrp_labels.proofs.FewerArcs.{closed_fewer, kept_fewer, route_more}
use Rattle.vrp_model.specs.Problem.{Problem, customers, place_count}
use Rattle.vrp_model.specs.Route.{IsLawful, plan_cost}
use Rattle.vrp_model.proofs.CustomerPlaces.{customer_below, customer_is_some}
use Rattle.vrp_routes.proofs.FeasibleRoutes.{IsRoute, are_routes}
use Rattle.vrp_routes.proofs.Ranges.{plan_in_range}
use Rattle.vrp_routes.specs.Pool.{IsListed, IsPoolIn}
use Rattle.vrp_routes.specs.Range.{IsInRange}
use Rattle.vrp_routes.specs.Useful.{IsUsefulIn}
use Rattle.vrp_routes.specs.declared.plan_range.PlanRange.{PlanRange}
use Rattle.vrp_priced_routes.specs.Arcs.{ArcsOf, GoesAlong, HoldPlans}
use Rattle.vrp_priced_routes.specs.Priced.{ArePricedLabels, BoundsPlansIn, HasDepth, IsPriceBound, IsPriced, PricedLabelsOf, PricedOf}
use Rattle.vrp_priced_routes.specs.Units.{CarryRoutes}
use Rattle.vrp_priced_routes.specs.declared.bounds.PriceBound.{PriceBound}

-- ---- along alive arcs

ending_along : (g : GraphOf) (at : ℕ) (stops : List ℕ) → GoesAlong g.followers at stops → Follows g at (first_of stops) × IsAliveEnding g stops
ending_along g at [] goes = (goes, tt)
ending_along g at (stop ∷ stops) goes = (goes.0, ending_along g stop stops goes.1)

along_ending : (g : GraphOf) (at : ℕ) (stops : List ℕ) → Follows g at (first_of stops) → IsAliveEnding g stops → GoesAlong g.followers at stops
along_ending g at [] follows alive = follows
along_ending g at (stop ∷ stops) follows alive = (follows, along_ending g stop stops alive.0 alive.1)

-- a route of a feasible plan is one of the graph, where its arcs are alive
route_alive : (p : Problem) (g : GraphOf) (route : List ℕ) → IsRoute p route → CarryRoutes p g.demands g.capacity → g.folded.places ≡ place_count p → GoesAlong g.followers 0 route → IsAliveRoute g route
route_alive p g route is carry places goes =
    let both = ending_along g 0 route goes in
    record {
      is_ending = record {
        known = λ i d lt. (customer_is_some p (get_or route i d) (is.known i d lt), subst (λ n. get_or route i d < n) (sym places) (customer_below p (get_or route i d) (is.known i d lt)));
        once = is.once;
        light = carry.routes route (record { known = is.known; once = is.once; light = is.light });
        alive = both.1;
      };
      start = both.0;
    }

pub plans_alive : (a : ArcsOf) (g : GraphOf) → HoldPlans a → g.followers ≡ a.followers → CarryRoutes a.problem g.demands g.capacity → g.folded.places ≡ place_count a.problem
    → (routes : List (List ℕ)) → IsLawful a.problem routes → IsInRange a.problem a.range routes → All (IsAliveRoute g) routes
plans_alive a g hold same carry places routes lawful cheap i d lt =
    route_alive a.problem g (get_or routes i d) (are_routes a.problem routes lawful i d lt) carry places
    (subst (λ (f : List ℕ). GoesAlong f 0 (get_or routes i d)) (sym same) (hold.plans routes lawful cheap i d lt))

-- ---- entry rows

pub all_obeyed : (p : Problem) (range : PlanRange) (entries : List EntryRow) → All (IsNeededFor p range.least_routes range.most_routes) entries
    → (routes : List (List ℕ)) → IsLawful p routes → IsInRange p range routes → All (Obeys routes) entries
all_obeyed p range entries needed routes lawful inside i d lt =
    obeyed_for p range.least_routes range.most_routes (get_or entries i d) routes (needed i d lt) lawful inside.many inside.few

-- ---- how far below 0 a route may cost

pub depth_below : (least cost : ℤ) (depth : ℕ) → least ≤ℤ pos 0 → depth ≡ unsigned_abs least → least ≤ℤ cost → pos 0 ≤ℤ (cost +ℤ pos depth)
depth_below least cost depth most is le = omega (arith, ints)

-- the gap is wide enough
pub gap_for : (s : PricedOf) (depth guess : ℕ) (gap : ℤ) → HasDepth s.graph depth → depth ≤ guess
    → pos (s.duals.scale * s.range.limit + (length (customers s.problem) - 1) * guess) ≤ℤ (low_of s.duals +ℤ gap) → IsGapFor s.duals s.graph (length (customers s.problem)) s.range.limit gap
gap_for s depth guess gap deep within covers = record { depth = guess; least = λ route alive. more (folded_cost s.graph.folded route) (deep route alive); covers = covers }
  where
    more : (cost : ℤ) → pos 0 ≤ℤ (cost +ℤ pos depth) → pos 0 ≤ℤ (cost +ℤ pos guess)
    more cost le = omega (arith, ints, within)

-- ---- the lower bound

-- so many whole units are at most the cost
pub whole_units : (whole scale cost most : ℕ) → whole ≤ scale * cost → most * scale < whole + scale → most ≤ cost
whole_units whole scale cost most below is = elim (cases_lt cost most) [
  | inr within ↦ omega (arith, within)
  | inl above ↦
      let more : (cost + 1) * scale ≤ most * scale = times (cost + 1) most (omega (arith, above)) in
      let split : (cost + 1) * scale ≡ scale * cost + scale = omega arith in
      absurd (omega (arith, more, split, below, is))
]
  where
    two_parts : (one other : ℕ) → (one + other) * scale ≡ one * scale + other * scale
    two_parts one other = omega arith

    times : (a b : ℕ) → a ≤ b → a * scale ≤ b * scale
    times a b le = let e : b ≡ a + (b - a) = omega (arith, le) in let split : b * scale ≡ (a + (b - a)) * scale = ap (λ n. n * scale) e in omega (arith, split, two_parts a (b - a))

pub bounds_plans : (s : PricedOf) (depth bound : ℕ) → IsPriced s → HasDepth s.graph depth
    → ((cost : ℕ) → low_of s.duals ≤ℤ pos (s.duals.scale * cost + length (customers s.problem) * depth) → bound ≤ cost) → BoundsPlansIn s.problem s.range bound
bounds_plans s depth bound priced deep below routes lawful cheap =
    below (plan_cost s.problem routes)
    (least_plan turns_of turns_take_two s.problem s.duals routes depth priced.duals lawful (priced.obeyed routes lawful cheap) (λ i d lt. reduced_above (get_or routes i d) (priced.alive routes lawful cheap i d lt)))
  where
    reduced_above : (route : List ℕ) → IsAliveRoute s.graph route → pos 0 ≤ℤ (reduced s.problem s.duals route +ℤ pos depth)
    reduced_above route alive =
        subst (λ (z : ℤ). pos 0 ≤ℤ (z +ℤ pos depth))
        (folded_route s.problem s.duals s.graph.folded route priced.problem priced.duals priced.folded
        (λ k x lt. subst (λ n. get_or route k x < n) priced.folded.places (alive.is_ending.known k x lt).1))
        (deep route alive)

pub bounded_by : (s : PricedOf) (b : PriceBound) (depth bound : ℕ) → IsPriced s → IsPriceBound s b → HasDepth s.graph depth
    → ((cost : ℕ) → b.low ≤ℤ pos (b.scale * cost + b.customers * depth) → bound ≤ cost) → BoundsPlansIn s.problem s.range bound
bounded_by s b depth bound priced is deep below =
    bounds_plans s depth bound priced deep
    (λ cost le. below cost
    (subst (λ (z : ℤ). z ≤ℤ pos (b.scale * cost + b.customers * depth)) (sym is.low)
    (subst (λ n. low_of s.duals ≤ℤ pos (n * cost + b.customers * depth)) (sym is.scale)
    (subst (λ n. low_of s.duals ≤ℤ pos (s.duals.scale * cost + n * depth)) (sym is.customers) le))))

-- ---- what is known of a graph that is made

pub priced_made : (a : ArcsOf) (d : DualsOf) (g : GraphOf) (p : Problem) (range : PlanRange) → HoldPlans a → p ≡ a.problem → range ≡ a.range → g.followers ≡ a.followers → CarryRoutes p g.demands g.capacity
    → AreDualsOf a.problem d → IsFolded p d g.folded → All (IsNeededFor p range.least_routes range.most_routes) d.entries → IsPriced (record { problem = p; range = range; duals = d; graph = g })
priced_made a d g p range hold same_problem same_range same_followers carry duals folded needed =
    let here : HoldPlans (record { problem = p; range = range; followers = a.followers }) =
    subst (λ (q : Problem). HoldPlans (record { problem = q; range = range; followers = a.followers })) (sym same_problem)
    (subst (λ (r : PlanRange). HoldPlans (record { problem = a.problem; range = r; followers = a.followers })) (sym same_range) hold) in
    record {
      problem = here.problem;
      few = here.few;
      moderate = here.moderate;
      duals = subst (λ (q : Problem). AreDualsOf q d) (sym same_problem) duals;
      folded = folded;
      obeyed = all_obeyed p range d.entries needed;
      alive = plans_alive (record { problem = p; range = range; followers = a.followers }) g here same_followers carry folded.places;
    }

-- ---- fewer arcs

-- no cheap route uses other arcs than those that are alive
pub keeps_itself : (g : GraphOf) (gap : ℤ) → length g.followers ≡ g.folded.places → KeepsCheap g gap g.followers
keeps_itself g gap long = record { long = long; cheap = λ route cheap. cheap.is_route }

plans_kept : (s : PricedOf) (gap : ℤ) (followers : List ℕ) → IsPriced s → IsGapFor s.duals s.graph (length (customers s.problem)) s.range.limit gap → KeepsCheap s.graph gap followers
    → (routes : List (List ℕ)) → IsLawful s.problem routes → IsInRange s.problem s.range routes → All (IsAliveRoute (with_followers s.graph followers)) routes
plans_kept s gap followers priced is keeps routes lawful inside i d lt =
    keeps.cheap (get_or routes i d)
    (cheap_turns s.problem s.duals s.graph routes s.range.limit gap priced.problem priced.duals priced.folded is lawful (priced.obeyed routes lawful inside) inside.cheap (priced.alive routes lawful inside) i d lt)

pub priced_kept : (s : PricedOf) (gap : ℤ) (followers : List ℕ) → IsPriced s → IsGapFor s.duals s.graph (length (customers s.problem)) s.range.limit gap → KeepsCheap s.graph gap followers
    → IsPriced (record { problem = s.problem; range = s.range; duals = s.duals; graph = with_followers s.graph followers })
priced_kept s gap followers priced is keeps = record {
  problem = priced.problem;
  few = priced.few;
  moderate = priced.moderate;
  duals = priced.duals;
  folded = priced.folded;
  obeyed = priced.obeyed;
  alive = plans_kept s gap followers priced is keeps;
}

pub labels_kept : (s : PricedLabelsOf) (followers : List ℕ) → ArePricedLabels s → KeepsCheap s.priced.graph s.gap followers → AreAlive s.priced.graph followers
    → ArePricedLabels (record {
      priced = record { problem = s.priced.problem; range = s.priced.range; duals = s.priced.duals; graph = with_followers s.priced.graph followers };
      gap = s.gap;
      labels = s.labels;
      bound = s.bound;
    })
labels_kept s followers are keeps alive = record {
  priced = priced_kept s.priced s.gap followers are.priced are.gap keeps;
  gap = record { depth = are.gap.depth; least = λ route is. are.gap.least route (route_more s.priced.graph followers route alive some is); covers = are.gap.covers };
  kept = kept_fewer s.priced.graph followers s.labels are.kept;
  closed = closed_fewer s.priced.graph followers s.gap s.labels alive are.closed;
  bound = are.bound;
}
  where
    some : 1 ≤ s.priced.graph.folded.places
    some = omega (arith, are.priced.folded.places, are.priced.problem.some_places)

pub plans_held : (s : PricedOf) (gap : ℤ) (followers : List ℕ) → IsPriced s → IsGapFor s.duals s.graph (length (customers s.problem)) s.range.limit gap → KeepsCheap s.graph gap followers
    → HoldPlans (record { problem = s.problem; range = s.range; followers = followers })
plans_held s gap followers priced is keeps = record {
  problem = priced.problem;
  few = priced.few;
  moderate = priced.moderate;
  long = keeps.long ∙ priced.folded.places;
  plans = λ routes lawful cheap i d lt.
      let route = plans_kept s gap followers priced is keeps routes lawful cheap i d lt in
      along_ending (with_followers s.graph followers) 0 (get_or routes i d) route.start route.is_ending.alive;
}

-- ---- the list

-- where the lower bound is above the limit, no route is useful
pub none_useful : (s : PricedLabelsOf) (stops : List ℕ) → ArePricedLabels s → s.priced.range.limit < s.bound → IsUsefulIn s.priced.problem s.priced.range stops → ⊥
none_useful s stops are above useful =
    let inside = plan_in_range s.priced.problem s.priced.range stops useful in
    omega (arith, above, inside.cheap, are.bound useful.plan.routes useful.canonical.plan_of.lawful inside)

pub empty_pool : (s : PricedLabelsOf) → ArePricedLabels s → s.priced.range.limit < s.bound → IsPoolIn s.priced.problem s.priced.range []
empty_pool s are above = record {
  routes = All-nil (IsListed s.priced.problem);
  complete = λ stops useful. absurd (none_useful s stops are above useful);
}

-- useful routes are cheap with full counts
pub useful_cheap : (s : PricedOf) (gap : ℤ) (memories stops : List ℕ) → IsPriced s → IsGapFor s.duals s.graph (length (customers s.problem)) s.range.limit gap → AreFull s.duals memories
    → IsUsefulIn s.problem s.range stops → IsCheap (with_memories s.graph memories) gap stops
useful_cheap s gap memories stops priced is full useful =
    let routes = useful.plan.routes in
    let plan_of = useful.canonical.plan_of in
    let inside = plan_in_range s.problem s.range stops useful in
    All-contains (IsCheap (with_memories s.graph memories) gap) routes stops
    (cheap_full s.problem s.duals s.graph memories routes s.range.limit gap priced.problem priced.duals priced.folded full is plan_of.lawful (priced.obeyed routes plan_of.lawful inside) inside.cheap (priced.alive routes plan_of.lawful inside))
    useful.among

-- labels serve the graph with full counts
pub closed_below : (s : PricedLabelsOf) (memories : List ℕ) → ArePricedLabels s → AreWider s.priced.graph.folded memories → IsClosedBelow (with_memories s.priced.graph memories) s.gap s.labels
closed_below s memories are wider = record {
  narrow = s.priced.graph;
  is = refl;
  wider = wider;
  alive = λ from to f t alive. alive;
  are_kept = are.kept;
  closed = are.closed;
}
