-- The least arcs that an instance keeps are those of its problem.
use Rattle.std.proofs.Common.{◌≡◌, ℕ, ◌+◌, ◌*◌, ◌<◌, ◌≤◌, [], ◌∷◌, ◌++◌, sym, ◌∙◌, inl, inr, List, length, subst, arith}
use Rattle.std.proofs.lemmas.Bool.{cases_lt}
use Rattle.std.proofs.lemmas.List.{get_or_append_left, get_or_push}
use Rattle.std.specs.Prelude.{slice_index}
use Rattle.vrp_model.specs.LeastArc.{IsLeastHome, IsLeastIn}
use Rattle.vrp_model.specs.Inner.LeastArcs.{AreLeastArcs, IsLeastBefore, IsLeastArc}
use Rattle.vrp_model.specs.Problem.{IsProblem, Problem, place_count}

-- the least arc into one place more
pub least_arcs_push : (weights least : List ℕ) (places to weight : ℕ) → length least ≡ to → ((k : ℕ) → k < to → IsLeastArc weights places k (slice_index least k)) → IsLeastArc weights places to weight → (k : ℕ) → k < to + 1 → IsLeastArc weights places k (slice_index (least ++ weight ∷ []) k)
least_arcs_push weights least places to weight count each is k within = elim (cases_lt k to) [
  | inl before ↦ rw (get_or_append_left least (weight ∷ []) 0 k (omega arith)) (each k before)
  | inr past ↦
      let here : k ≡ to = omega arith in
      rw (get_or_push least weight 0 k (count ∙ sym here), here) is
]

least_in_is : (p : Problem) (to weight : ℕ) → IsLeastBefore p.weights (place_count p) to (place_count p) weight → IsLeastIn p to weight
least_in_is p to weight before = record { met = before.met; least = before.least }

arcs_by_count : (p : Problem) (least : List ℕ) → length least ≡ place_count p → 0 < place_count p → ((to : ℕ) → to < place_count p → IsLeastArc p.weights (place_count p) to (slice_index least to)) → AreLeastArcs p least
arcs_by_count p least one_each some each = record {
  one_each = one_each;
  home = record {
    some = λ more. least_in_is p 0 (slice_index least 0) ((each 0 some).some more);
    none = λ alone. (each 0 some).none alone;
  };
  each = λ to above within. least_in_is p to (slice_index least to) ((each to within).some (omega (arith, above, within)));
}

pub least_arcs_are : (p : Problem) (least : List ℕ) (places : ℕ) → places ≡ place_count p → length least ≡ places → 0 < places → ((to : ℕ) → to < places → IsLeastArc p.weights places to (slice_index least to)) → AreLeastArcs p least
least_arcs_are p least places count one_each some each =
    arcs_by_count p least (subst (λ n. length least ≡ n) count one_each) (subst (λ n. 0 < n) count some)
    (subst (λ n. (to : ℕ) → to < n → IsLeastArc p.weights n to (slice_index least to)) count each)

pub least_in_small : (p : Problem) (to weight : ℕ) → IsProblem p → IsLeastIn p to weight → weight ≤ 1000000000
least_in_small p to weight problem is = let (from, within, differs, same) = is.met in omega (arith, same, problem.small_weights (from * place_count p + to))

pub least_home_small : (p : Problem) (weight : ℕ) → IsProblem p → IsLeastHome p weight → weight ≤ 1000000000
least_home_small p weight problem is = elim (cases_lt 1 (place_count p)) [
  | inl more ↦ least_in_small p 0 weight problem (is.some more)
  | inr alone ↦ omega (arith, is.none (omega (arith, alone, problem.some_places)))
]
