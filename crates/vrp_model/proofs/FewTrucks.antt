-- How many routes there are trucks for.
use Rattle.std.proofs.Common.{◌≡◌, ℕ, ◌≤◌, Bool, List, Option, Some, arith}
use Rattle.std.specs.Option.{ForSome}
use Rattle.std.specs.Prelude.{slice_index}
use Rattle.vrp_model.specs.Inner.Kept.{IsKeptProblem}
use Rattle.vrp_model.specs.LeastArc.{IsLeastIn}
use Rattle.vrp_model.specs.Problem.{HasTrucks, Problem}
use Rattle.vrp_model.specs.declared.limits.TheConstants.{MAX_NODES}

-- where there are trucks for this many routes, there are for fewer
pub fewer_routes : (p : Problem) (some all : ℕ) → some ≤ all → HasTrucks p all → HasTrucks p some
fewer_routes p some all less may = λ trucks is. omega (arith, less, may trucks is)

-- a known number of trucks is one number
pub same_number : (some other : ℕ) → Some some ≡ Some other → some ≡ other
same_number some other is = cc

-- ---- the same problem with another number of trucks

abbrev with_limit : Problem → Option ℕ → Problem
with_limit p trucks = record { nodes = p.nodes; demands = p.demands; weights = p.weights; capacity = p.capacity; trucks = trucks }

same_least_in : (p : Problem) (trucks : Option ℕ) (to weight : ℕ) → IsLeastIn p to weight → IsLeastIn (with_limit p trucks) to weight
same_least_in p trucks to weight is = record { met = is.met; least = is.least }

pub kept_with_limit : (p : Problem) (trucks : Option ℕ) (least : List ℕ) (symmetric : Bool) → ForSome trucks (λ k. 1 ≤ k) → ForSome trucks (λ k. k ≤ MAX_NODES) → IsKeptProblem p least symmetric → IsKeptProblem (with_limit p trucks) least symmetric
kept_with_limit p trucks least symmetric some few kept =
    let known = kept.problem in
    record {
      problem = record {
        some_places = known.some_places;
        few_places = known.few_places;
        one_demand_each = known.one_demand_each;
        weight_square = known.weight_square;
        small_weights = known.small_weights;
        empty_depot = known.empty_depot;
        fitting_demands = known.fitting_demands;
        small_capacity = known.small_capacity;
        some_trucks = some;
        few_trucks = few;
      };
      least = record {
        one_each = kept.least.one_each;
        home = record { some = λ more. same_least_in p trucks 0 (slice_index least 0) (kept.least.home.some more); none = kept.least.home.none };
        each = λ to above within. same_least_in p trucks to (slice_index least to) (kept.least.each to above within);
      };
      told = kept.told;
    }
