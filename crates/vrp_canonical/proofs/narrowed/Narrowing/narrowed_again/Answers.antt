use Rattle.std.proofs.Common.{◌≡◌, ◌≤◌, Bool, Vec, Global, List, length, map, ap, subst, ◌∙◌, arith}
use Rattle.std.specs.List.{AllPairs}
use Rattle.std.specs.List.Sorted.{IsPermutation}
use Rattle.std.proofs.lemmas.List.{length-map}
use Rattle.vrp_canonical.specs.Ordering.{AreMarked, AreOrdered, route_of, stops_of}
use Rattle.vrp_model.specs.Fleet.{IsFleet}
use Rattle.vrp_canonical.specs.declared.ordered.ListedRoute.{ListedRoute}
use Rattle.vrp_canonical.proofs.CanonicalPlans.{both_told, told}
use Rattle.vrp_canonical.proofs.OrderedPools.{narrowed_pool}
use Rattle.vrp_model.specs.Order.{IsEarlier}
use Rattle.vrp_model.specs.Problem.{Problem, customers}
use Rattle.vrp_partition.specs.Pricing.{MarksWithin}
use Rattle.vrp_partition.specs.declared.route.Route.{Route}
use Rattle.vrp_model.specs.CustomerSet.{set_of}
use Rattle.vrp_canonical.proofs.narrowed.Narrowing.narrowed_again.Goals as goal

pub returns-then-whole-before-clause-ordered : goal.returns-then-whole-before-clause-ordered
returns-then-whole-before-clause-ordered g c = λ p are fleet unserved within.
    let same : c.args.before.now.most ≡ c.args.whole.now.most = omega (arith, c.if-whole-before.true) in
    subst (λ n. AreOrdered p n c.args.ordered.items) same are

pub returns-clause-ordered : goal.returns-clause-ordered
returns-clause-ordered g c =
    let ordered = c.args.ordered.items in
    let stops = map stops_of ordered in
    let routes = map route_of ordered in
    let before = c.args.before.now in
    let whole = c.args.whole.now in
    let marks = c.in-Some.marks in
    let kept = c.in_ok-kept.kept in
    let are : AreMarked stops routes marks.items (length ordered) kept.items =
    subst (λ (ms : List Bool). AreMarked stops routes ms (length ordered) kept.items) c.as_slice-3.ensures.value
    (subst (λ (xs : List ListedRoute). AreMarked (map stops_of xs) (map route_of xs) c.as_slice-3.result.now (length xs) kept.items) c.as_slice-2.ensures.value c.in_ok-kept.ensures) in
    let same : c.as_slice-routes.result.now ≡ routes = c.as_slice-routes.ensures.value ∙ c.in_ok-routes.ensures ∙ ap (map route_of) c.as_slice.ensures.value in
    let marked : MarksWithin routes whole.unserved whole.trucks 0 whole.most marks.items =
    subst (λ (rs : List Route). MarksWithin rs whole.unserved whole.trucks 0 whole.most marks.items) same
    (told c.in_ok-found.found marks (λ (ms : Vec Bool Global). MarksWithin c.as_slice-routes.result.now whole.unserved whole.trucks 0 whole.most ms.items) c.in-Some.is c.in_ok-found.ensures.marks) in
    both_told c.in_ok-left.left (λ (o : Vec ListedRoute Global). IsPermutation kept.items o.items) (λ (o : Vec ListedRoute Global). AllPairs IsEarlier (map stops_of o.items))
    (λ (o : Vec ListedRoute Global). (p : Problem) → AreOrdered p before.most ordered → IsFleet p whole.trucks → whole.unserved ≡ set_of (customers p) → whole.most ≤ before.most → AreOrdered p whole.most o.items)
    (λ o moved rising. λ p ordered_are fleet unserved within. record {
      pool_of = narrowed_pool p before.most whole.most whole.trucks (length ordered) stops routes marks.items kept.items o.items
          ordered_are.pool_of fleet within
          (subst (λ n. MarksWithin routes n whole.trucks 0 whole.most marks.items) unserved marked) (omega (arith, length-map ordered stops_of)) are moved;
      rising = rising;
    })
    c.in_ok-left.ensures.moved c.in_ok-left.ensures.rising
