-- Which routes of a pool stand in no cheap choice, by their reduced costs.
use Rattle.std.proofs.Common.{◌≡◌, ℕ, ◌<◌, inl, inr, Bool, true, false, List, get_or, length, map, sym, ◌∙◌, ap, arith, ℤ, pos, ◌<ℤ◌, int_le}
use Rattle.std.specs.List.{Contains, filter}
use Rattle.std.proofs.lemmas.Bool.{cases_lt, true≢false}
use Rattle.std.proofs.lemmas.List.{get_or-map, length-map}
use Rattle.std.proofs.lemmas.List.Elements.{All-contains, filter_passes}
use Rattle.vrp_partition.specs.Choice.{cost_of}
use Rattle.vrp_partition.specs.Pricing.{IsPriced, MarksWithin}
use Rattle.vrp_partition.specs.Prices.{Prices, gap_of, is_within_gap, reduced_cost_of}
use Rattle.vrp_partition.specs.declared.priced.PricedPool.{PricedPool}
use Rattle.vrp_partition.specs.declared.prices.TheConstants.{SCALE}
use Rattle.vrp_partition.specs.declared.route.Route.{Route}
use Rattle.vrp_partition.proofs.CheapestChoices.{none_negative_pool}
use Rattle.vrp_partition.proofs.PoolParts.{kept_choice, none_in_gap}

different : {P : Type 0} (b : Bool) → b ≡ true → b ≡ false → P
different b is isnt = absurd (true≢false (sym is ∙ isnt))

mark_is : (prices : Prices) (scale at : ℕ) (gap : ℤ) (pool : List Route) (costs : List ℤ) (route : Route) → costs ≡ map (reduced_cost_of prices scale) pool → at < length pool
    → get_or (map (λ cost. int_le cost gap) costs) at false ≡ is_within_gap prices scale gap (get_or pool at route)
mark_is prices scale at gap pool costs route are lt =
    get_or-map (λ cost. int_le cost gap) costs at (pos 0) false (omega (arith, lt, length-map pool (reduced_cost_of prices scale), ap length are))
    ∙ ap (λ cost. int_le cost gap) (ap (λ cs. get_or cs at (pos 0)) are ∙ get_or-map (reduced_cost_of prices scale) pool at route (pos 0) lt)

marks_long : (prices : Prices) (scale : ℕ) (gap : ℤ) (pool : List Route) (costs : List ℤ) → costs ≡ map (reduced_cost_of prices scale) pool → length (map (λ cost. int_le cost gap) costs) ≡ length pool
marks_long prices scale gap pool costs are = length-map costs (λ cost. int_le cost gap) ∙ (ap length are ∙ length-map pool (reduced_cost_of prices scale))

-- by the gap below the limit
pub marked : (priced : PricedPool) (pool : List Route) (customers trucks fewest limit : ℕ) (gap : ℤ) → IsPriced pool customers fewest priced → gap ≡ gap_of priced.prices SCALE customers trucks limit
    → MarksWithin pool customers trucks fewest limit (map (λ cost. int_le cost gap) priced.costs.items)
marked priced pool customers trucks fewest limit gap is is_gap = record {
  long = marks_long priced.prices SCALE gap pool priced.costs.items is.costs;
  rest = λ at route lt unmarked routes choice many has. elim (cases_lt limit (cost_of routes)) [
    | inl more ↦ more
    | inr within ↦
        let none = none_negative_pool priced.prices SCALE pool priced.costs.items is.costs is.none in
        let p = is_within_gap priced.prices SCALE (gap_of priced.prices SCALE customers trucks limit) in
        let kept = kept_choice priced.prices SCALE customers trucks fewest limit pool routes is.valid none choice many within in
        let among : Contains (filter p pool) (get_or pool at route) = All-contains (Contains (filter p pool)) routes (get_or pool at route) kept.known has in
        let passes : p (get_or pool at route) ≡ true = All-contains (λ r. p r ≡ true) (filter p pool) (get_or pool at route) (filter_passes p pool) among in
        different (p (get_or pool at route)) passes (ap (λ z. is_within_gap priced.prices SCALE z (get_or pool at route)) (sym is_gap) ∙ (sym (mark_is priced.prices SCALE at gap pool priced.costs.items route is.costs lt) ∙ unmarked))
  ];
}

-- where the gap is negative, whatever the marks
pub marked_none : (priced : PricedPool) (pool : List Route) (customers trucks fewest limit : ℕ) (gap : ℤ) → IsPriced pool customers fewest priced → gap_of priced.prices SCALE customers trucks limit <ℤ pos 0
    → MarksWithin pool customers trucks fewest limit (map (λ cost. int_le cost gap) priced.costs.items)
marked_none priced pool customers trucks fewest limit gap is negative = record {
  long = marks_long priced.prices SCALE gap pool priced.costs.items is.costs;
  rest = λ at route lt unmarked routes choice many has. none_in_gap priced.prices SCALE customers trucks fewest limit pool is.valid (none_negative_pool priced.prices SCALE pool priced.costs.items is.costs is.none) negative routes choice many;
}
