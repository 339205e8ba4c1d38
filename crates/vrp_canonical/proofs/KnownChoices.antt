-- A choice route by route.
use Rattle.std.proofs.Common.{◌≡◌, ℕ, ◌+◌, List, [], ◌∷◌, ◌++◌, length, length-append, refl, ap, arith}
use Rattle.std.specs.Int.{bit_at}
use Rattle.std.specs.List.{All, Contains}
use Rattle.std.proofs.lemmas.List.Elements.{All-nil, All-push}
use Rattle.std.proofs.lemmas.List.Sums.{sum_by-append, sum_by-cons}
use Rattle.std.proofs.lemmas.Nat.Bits.{bit_at-zero}
use Rattle.vrp_canonical.specs.Passing.{IsAfter}
use Rattle.vrp_canonical.specs.Reaching.{Reaches}
use Rattle.vrp_canonical.specs.declared.residual.Residual.{Residual}
use Rattle.vrp_canonical.proofs.Begun.{taken_bit}
use Rattle.vrp_partition.specs.Choice.{cost_of, set_of, visits}
use Rattle.vrp_partition.specs.declared.route.Route.{Route}

-- these routes of the part leave this of a residual problem
pub record Leave (part : List Route) (rest : Residual) (routes : List Route) (left : Residual) : Type 0 where
  pub known : All (Contains part) routes
  pub once : (k : ℕ) → visits set_of routes k + bit_at left.unserved k ≡ bit_at rest.unserved k
  pub trucks : length routes + left.trucks ≡ rest.trucks
  pub most : cost_of routes + left.most ≡ rest.most

pub none_yet : (part : List Route) (rest : Residual) → Leave part rest [] rest
none_yet part rest = record {
  known = All-nil (Contains part);
  once = λ k. let none : visits set_of [] k ≡ 0 = refl in omega (arith, none);
  trucks = omega arith;
  most = let none : cost_of [] ≡ 0 = refl in omega (arith, none);
}

pub one_more : (part : List Route) (rest : Residual) (routes : List Route) (left next : Residual) (route : Route)
    → Leave part rest routes left → Contains part route → IsAfter left route next → Leave part rest (routes ++ route ∷ []) next
one_more part rest routes left next route leave here after = record {
  known = All-push (Contains part) routes route leave.known here;
  once = λ k. omega (arith, leave.once k, ap (λ n. bit_at n k) after.unserved, taken_bit route.set left.unserved k after.within, sum_by-append (λ (r : Route). bit_at r.set k) routes (route ∷ []), sum_by-cons (λ (r : Route). bit_at r.set k) route []);
  trucks = omega (arith, leave.trucks, after.trucks, length-append routes (route ∷ []));
  most = omega (arith, leave.most, after.most, sum_by-append (λ (r : Route). r.cost) routes (route ∷ []), sum_by-cons (λ (r : Route). r.cost) route []);
}

pub none_left_over : (part : List Route) (rest : Residual) (routes : List Route) (left : Residual) → Leave part rest routes left → left.unserved ≡ 0 → Reaches part rest.unserved rest.trucks rest.most
none_left_over part rest routes left leave none = record {
  parts = routes;
  choice = record {
    known = leave.known;
    once = λ k. omega (arith, leave.once k, ap (λ n. bit_at n k) none, bit_at-zero k);
    few = omega (arith, leave.trucks);
  };
  cheap = omega (arith, leave.most);
}
