-- The word of the plan that sends one truck to each customer is feasible.
use Rattle.std.proofs.Common.{◌-◌, ℕ, [], ◌∷◌, length, get_or, map, arith}
use Rattle.std.proofs.lemmas.List.Elements.{All-map}
use Rattle.vrp_model.specs.Problem.{HasTrucks, IsProblem, Problem, customers, place_count}
use Rattle.vrp_model.specs.Word.{IsLawfulWord, RunsForward, word_of}
use Rattle.vrp_model.proofs.PlanLemmas.{IsLawful-singles, rising_singles}
use Rattle.vrp_model.proofs.PlanWords.{word_of_plan}

-- a route of one stop runs forward
one_runs_forward : (stop : ℕ) → RunsForward (stop ∷ [])
one_runs_forward stop = omega arith

pub lawful_singles : (p : Problem) → IsProblem p → HasTrucks p (length (customers p)) → IsLawfulWord p (word_of (map (λ customer. customer ∷ []) (customers p)))
lawful_singles p problem few =
    (word_of_plan p (map (λ customer. customer ∷ []) (customers p)) (IsLawful-singles p problem few) (rising_singles (place_count p - 1))
    (λ symmetric. All-map RunsForward (λ customer. customer ∷ []) (customers p) (λ k d inside. one_runs_forward (get_or (customers p) k d)))).0
