-- A prefix has at most two symbols for each customer, and so few routes.
use Rattle.std.proofs.Common.{◌≡◌, ℕ, zero, suc, ◌+◌, ◌-◌, ◌*◌, ◌≤◌, min, Bool, true, not, ◌==◌, List, [], ◌∷◌, length, refl, arith}
use Rattle.std.proofs.lemmas.Bool.Decides.{nat_tests}
use Rattle.std.specs.List.{slice_split}
use Rattle.std.proofs.lemmas.List.FromFn.{length-range_with_len}
use Rattle.std.proofs.lemmas.List.Splits.{length-slice_split}
use Rattle.std.proofs.lemmas.List.Sums.{count_by-le-length, length-filter}
use Rattle.vrp_model.specs.Problem.{IsProblem, Problem, customers, place_count}
use Rattle.vrp_model.specs.Word.{HasStops, IsPrefix, routes_of, served_in}
use Rattle.vrp_model.specs.declared.limits.TheConstants.{MAX_NODES}
use Rattle.vrp_model.proofs.DistinctWithin.{length_among}

short_behind : (before : ℕ) (word : List ℕ) → HasStops before word → length word ≤ 2 * length (served_in word) + min before 1
short_behind before [] has = omega arith
short_behind before (zero ∷ word) has =
    let rest = short_behind 0 word has.1 in
    omega (arith, rest, has.0 refl)
short_behind before (suc k ∷ word) has =
    let rest = short_behind (suc k) word has.1 in
    let kept : not (suc k == 0) ≡ true = grind (arith, nat_tests) in
    rw kept (omega (arith, rest))

pub length_customers : (p : Problem) → IsProblem p → length (customers p) + 1 ≡ place_count p
length_customers p problem = omega (arith, length-range_with_len 1 (place_count p - 1), problem.some_places)

pub served_are_few : (p : Problem) (prefix : List ℕ) → IsProblem p → IsPrefix p prefix → length (served_in prefix) + 1 ≤ place_count p
served_are_few p prefix problem is_prefix =
    omega (arith, length_among (served_in prefix) (customers p) is_prefix.once is_prefix.known, length_customers p problem)

pub prefixes_are_short : (p : Problem) (prefix : List ℕ) → IsProblem p → IsPrefix p prefix → length prefix + 2 ≤ 2 * place_count p
prefixes_are_short p prefix problem is_prefix =
    omega (arith, short_behind 0 prefix is_prefix.stops, served_are_few p prefix problem is_prefix)

-- a prefix has no more routes than symbols, and one
pub routes_are_few : (p : Problem) (prefix : List ℕ) → IsProblem p → IsPrefix p prefix → length (routes_of prefix) + 1 ≤ 2 * MAX_NODES
routes_are_few p prefix problem is_prefix =
    let parts = slice_split (λ k. k == 0) prefix in
    let Kept : List ℕ → Bool = λ r. not (length r == 0) in
    omega (
      arith,
      length-filter Kept parts,
      count_by-le-length Kept parts,
      length-slice_split (λ k. k == 0) prefix,
      count_by-le-length (λ k. k == 0) prefix,
      prefixes_are_short p prefix problem is_prefix,
      problem.few_places,
    )
