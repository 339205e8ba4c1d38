use Rattle.std.proofs.Common.{◌≡◌, ◌≤◌, Bool, Vec, ℕ, Global, List, length, map, sym, subst, arith}
use Rattle.std.specs.List.{AllPairs}
use Rattle.std.specs.List.Sorted.{IsPermutation}
use Rattle.std.proofs.lemmas.List.{length-map}
use Rattle.vrp_canonical.specs.Ordering.{AreMarked, AreOrdered, stops_in, stops_of}
use Rattle.vrp_canonical.specs.Reaching.{IsPoolOf}
use Rattle.vrp_model.specs.Fleet.{IsFleet}
use Rattle.vrp_canonical.specs.declared.ordered.ListedRoute.{ListedRoute}
use Rattle.vrp_canonical.proofs.CanonicalPlans.{both_told, told}
use Rattle.vrp_canonical.proofs.OrderedPools.{narrowed_pool, whole_pool}
use Rattle.vrp_model.specs.Order.{IsEarlier}
use Rattle.vrp_model.specs.Problem.{Problem, customers}
use Rattle.vrp_partition.specs.Pricing.{MarksWithin}
use Rattle.vrp_model.specs.CustomerSet.{set_of}
use Rattle.vrp_routes.specs.Pool.{IsPool}
use Rattle.vrp_canonical.proofs.narrowed.Narrowing.narrowed_routes.Goals as goal

pub returns-clause-ordered : goal.returns-clause-ordered
returns-clause-ordered g c =
    let pool = c.args.pool.now in
    let routes = c.args.routes.now in
    let whole = c.args.whole.now in
    let marks = c.in-Some.marks in
    let listed = c.in_ok-listed.listed in
    let are : AreMarked (map stops_in pool) routes marks.items (length pool) listed.items =
    subst (λ (ms : List Bool). AreMarked (map stops_in pool) routes ms (length pool) listed.items) c.as_slice.ensures.value c.in_ok-listed.ensures in
    let marked : MarksWithin routes whole.unserved whole.trucks 0 whole.most marks.items =
    told c.in_ok-marks.field-0 marks (λ (ms : Vec Bool Global). MarksWithin routes whole.unserved whole.trucks 0 whole.most ms.items) c.in-Some.is c.in_ok-marks.ensures.marks in
    both_told c.in_ok-ordered.ordered (λ (o : Vec ListedRoute Global). IsPermutation listed.items o.items) (λ (o : Vec ListedRoute Global). AllPairs IsEarlier (map stops_of o.items))
    (λ (o : Vec ListedRoute Global). (p : Problem) (limit : ℕ) → IsPool p limit pool → IsFleet p whole.trucks → whole.unserved ≡ set_of (customers p) → whole.most ≤ limit → AreOrdered p whole.most o.items)
    (λ o moved rising. λ p limit is_pool fleet unserved within. record {
      pool_of = narrowed_pool p limit whole.most whole.trucks (length pool) (map stops_in pool) routes marks.items listed.items o.items
          (subst (IsPoolOf p limit (map stops_in pool)) (sym c.requires) (whole_pool p limit pool is_pool)) fleet within
          (subst (λ n. MarksWithin routes n whole.trucks 0 whole.most marks.items) unserved marked) (omega (arith, length-map pool stops_in)) are moved;
      rising = rising;
    })
    c.in_ok-ordered.ensures.moved c.in_ok-ordered.ensures.rising
