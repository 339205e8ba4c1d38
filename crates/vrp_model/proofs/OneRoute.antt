-- The word of one route through two customers.
use Rattle.std.proofs.Common.{◌≡◌, ◌≢◌, ℕ, ◌+◌, ◌-◌, ◌≤◌, List, [], ◌∷◌, sym, ap, subst, inl, inr, arith}
use Rattle.std.specs.List.{range_with_len}
use Rattle.std.specs.List.Sorted.{IsPermutation}
use Rattle.std.proofs.lemmas.List.Elements.{All-cons, All-nil}
use Rattle.std.proofs.lemmas.List.Sorted.{IsPermutation-append_comm, IsPermutation-refl}
use Rattle.vrp_model.specs.Problem.{IsProblem, IsSymmetric, Problem, customers, demand_of, place_count}
use Rattle.vrp_model.specs.Route.{load_of}
use Rattle.vrp_model.specs.Word.{IsLawfulWord, RunsForward}
use Rattle.vrp_model.proofs.Ordered.{three_cases}
use Rattle.vrp_model.proofs.PlanWords.{word_of_plan}

both_ways : (first : ℕ) → 1 ≤ first → first ≤ 2 → IsPermutation (first ∷ (3 - first) ∷ []) (1 ∷ 2 ∷ [])
both_ways first from to =
    elim (three_cases first 2) [
      | inl less ↦ let one : first ≡ 1 = omega arith in rw one (IsPermutation-refl (1 ∷ 2 ∷ []))
      | inr (inl two) ↦ rw two (IsPermutation-append_comm (2 ∷ []) (1 ∷ []))
      | inr (inr more) ↦ absurd (omega arith)
    ]

lawful_route : (p : Problem) (first second : ℕ) → IsProblem p → IsPermutation (first ∷ second ∷ []) (customers p) → demand_of p first + demand_of p second ≤ p.capacity → (IsSymmetric p → first ≤ second)
    → IsLawfulWord p (first ∷ second ∷ 0 ∷ [])
lawful_route p first second problem served fits forward =
    let route : List ℕ = first ∷ second ∷ [] in
    let light : load_of p route ≤ p.capacity = omega (arith, fits) in
    (word_of_plan p (route ∷ []) record {
      served = served;
      stops = All-cons (λ r. r ≢ []) route [] (λ none. cc) (All-nil (λ r. r ≢ []));
      fits = All-cons (λ r. load_of p r ≤ p.capacity) route [] light (All-nil (λ r. load_of p r ≤ p.capacity));
      few = problem.some_trucks;
    } (λ k more. absurd (omega (arith, more))) (λ symmetric. All-cons RunsForward route [] (forward symmetric) (All-nil RunsForward))).0

-- where there are two customers and one truck can carry both, the word that begins with one of them is feasible
pub joined_word : (p : Problem) (first : ℕ) → IsProblem p → place_count p ≡ 3 → 1 ≤ first → first ≤ 2 → demand_of p first + demand_of p (3 - first) ≤ p.capacity → (IsSymmetric p → first ≤ 3 - first) → IsLawfulWord p (first ∷ (3 - first) ∷ 0 ∷ [])
joined_word p first problem three from to fits forward =
    let all : customers p ≡ 1 ∷ 2 ∷ [] = ap (λ n. range_with_len 1 (n - 1)) three in
    lawful_route p first (3 - first) problem (subst (IsPermutation (first ∷ (3 - first) ∷ [])) (sym all) (both_ways first from to)) fits forward
