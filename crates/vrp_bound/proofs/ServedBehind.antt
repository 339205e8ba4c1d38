-- What a feasible word serves behind a prefix.
use Rattle.std.proofs.Common.{◌≡◌, ◌≢◌, ℕ, zero, suc, ◌+◌, ◌-◌, ◌≤◌, ◌<◌, ◌==◌, not, inl, inr, List, [], ◌∷◌, ◌++◌, length, refl, sym, ap, subst, ◌∙◌, append_assoc, arith}
use Rattle.std.specs.List.{All, Contains, sum_by}
use Rattle.std.specs.List.Sorted.{IsPermutation}
use Rattle.std.specs.Prelude.{slice_index_or}
use Rattle.std.proofs.lemmas.Bool.{cases_lt}
use Rattle.std.proofs.lemmas.List.Elements.{All-contains, filter-append}
use Rattle.std.proofs.lemmas.List.Sorted.{sum_by-IsPermutation}
use Rattle.std.proofs.lemmas.List.Sums.{sum_by-append}
use Rattle.vrp_model.specs.Problem.{Problem, customers}
use Rattle.vrp_model.specs.Prefix.{open_load}
use Rattle.vrp_model.specs.Route.{cost_along, load_of}
use Rattle.vrp_model.specs.Word.{IsPrefix, IsLawfulWord, last_symbol, routes_of, served_in, word_cost}
use Rattle.vrp_model.proofs.PrefixWithSymbol.{unserved_if_added}
use Rattle.vrp_model.proofs.UnservedCustomers.{unserved_differs}
use Rattle.vrp_model.proofs.PrefixesBefore.{prefixes_before}
use Rattle.vrp_model.proofs.PlanWords.{cost_parts}
use Rattle.vrp_model.proofs.DistinctLists.{customers_distinct, same_elements}
use Rattle.vrp_model.proofs.LastRoute.{load_at_customer, load_at_depot}
use Rattle.vrp_model.proofs.Words.{last_behind, last_is, serves_customer}

pub served_more : (prefix more : List ℕ) → served_in (prefix ++ more) ≡ served_in prefix ++ served_in more
served_more prefix more = filter-append (λ k. not (k == 0)) prefix more

-- what is summed over the customers is what the prefix serves and what is served behind it
pub sum_of_all : (f : ℕ → ℕ) (p : Problem) (prefix more : List ℕ) → IsLawfulWord p (prefix ++ more) → sum_by f (served_in prefix) + sum_by f (served_in more) ≡ sum_by f (customers p)
sum_of_all f p prefix more lawful =
    let served = served_in (prefix ++ more) in
    let moved : IsPermutation (customers p) served = same_elements served (customers p) (customers_distinct p) lawful.prefix.once lawful.prefix.known lawful.every in
    omega (arith, sum_by-IsPermutation f (customers p) served moved, ap (sum_by f) (served_more prefix more), sum_by-append f (served_in prefix) (served_in more))

-- a word goes on behind a longer prefix
pub with_symbol : (p : Problem) (prefix more : List ℕ) (k : ℕ) → IsLawfulWord p (prefix ++ k ∷ more) → IsLawfulWord p ((prefix ++ k ∷ []) ++ more)
with_symbol p prefix more k lawful = subst (IsLawfulWord p) (sym (append_assoc prefix (k ∷ []) more)) lawful

pub prefix_of : (p : Problem) (prefix more : List ℕ) → IsLawfulWord p (prefix ++ more) → IsPrefix p prefix
prefix_of p prefix more lawful = prefixes_before p prefix more lawful.prefix

pub cost_behind : (p : Problem) (prefix more : List ℕ) (at : ℕ) → at ≡ last_symbol prefix → word_cost p (prefix ++ more) ≡ word_cost p prefix + cost_along p at more
cost_behind p prefix more at is = cost_parts p 0 prefix more ∙ ap (λ n. word_cost p prefix + cost_along p n more) (sym (is ∙ last_is prefix))

-- the customer at the end is served
last_served : (before : ℕ) (word : List ℕ) → 0 < length word → 0 < last_behind before word → Contains (served_in word) (last_behind before word)
last_served before [] some above = absurd (omega (arith, some))
last_served before (zero ∷ []) some above = absurd (omega (arith, above))
last_served before (suc k ∷ []) some above = subst (λ (xs : List ℕ). Contains xs (suc k)) (sym (serves_customer k [])) (0, omega arith, refl)
last_served before (zero ∷ j ∷ word) some above = last_served 0 (j ∷ word) (omega arith) above
last_served before (suc k ∷ j ∷ word) some above =
    let (i, lt, is) = last_served (suc k) (j ∷ word) (omega arith) above in
    subst (λ (xs : List ℕ). Contains xs (last_behind (suc k) (j ∷ word))) (sym (serves_customer k (j ∷ word))) (suc i, omega (arith, lt), is)

some_length : (word : List ℕ) → 0 < last_behind 0 word → 0 < length word
some_length [] above = absurd (omega (arith, above))
some_length (k ∷ word) above = omega arith

-- a customer isn't followed by itself
pub differs_from_last : (p : Problem) (prefix : List ℕ) (k : ℕ) → 0 < k → IsPrefix p (prefix ++ k ∷ []) → last_symbol prefix ≢ k
differs_from_last p prefix k some after same =
    let unserved = unserved_if_added p prefix k some after in
    let above : 0 < last_behind 0 prefix = omega (arith, some, same, last_is prefix) in
    let served = last_served 0 prefix (some_length prefix above) above in
    All-contains (λ s. s ≢ k) (served_in prefix) (last_behind 0 prefix) (unserved_differs p prefix k unserved) served (sym (last_is prefix) ∙ same)

last_fits : (p : Problem) (routes : List (List ℕ)) → All (λ r. load_of p r ≤ p.capacity) routes → load_of p (slice_index_or routes (length routes - 1) []) ≤ p.capacity
last_fits p [] all = omega arith
last_fits p (route ∷ routes) all = all (length (route ∷ routes) - 1) [] (omega arith)

pub light_prefix : (p : Problem) (prefix : List ℕ) → IsPrefix p prefix → open_load p prefix ≤ p.capacity
light_prefix p prefix is_prefix = elim (cases_lt 0 (last_symbol prefix)) [
  | inl above ↦ omega (arith, load_at_customer p prefix above, last_fits p (routes_of prefix) is_prefix.fits)
  | inr none ↦ omega (arith, load_at_depot p prefix (omega (arith, none)))
]
