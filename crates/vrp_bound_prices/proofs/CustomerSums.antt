-- Sums over customers, one by one.
use Rattle.std.proofs.Common.{◌≡◌, ℕ, ◌+◌, ◌<◌, take, ap, ◌∙◌}
use Rattle.std.specs.List.{sum_by}
use Rattle.std.proofs.lemmas.List.Sums.{sum_by_push}
use Rattle.vrp_model.specs.Problem.{Problem, customers, place_count}
use Rattle.vrp_model.proofs.CustomerPlaces.{all_taken, up_to}

pub sum_more : (f : ℕ → ℕ) (p : Problem) (i : ℕ) → i + 1 < place_count p → sum_by f (take (i + 1) (customers p)) ≡ sum_by f (take i (customers p)) + f (i + 1)
sum_more f p i lt = ap (sum_by f) (up_to p i lt) ∙ sum_by_push f (take i (customers p)) (i + 1)

pub sum_all : (f : ℕ → ℕ) (p : Problem) (count : ℕ) → count + 1 ≡ place_count p → sum_by f (take count (customers p)) ≡ sum_by f (customers p)
sum_all f p count all = ap (sum_by f) (all_taken p count all)
