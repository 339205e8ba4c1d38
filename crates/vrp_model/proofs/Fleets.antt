-- No plan has more routes than customers, or than trucks.
use Rattle.std.proofs.Common.{◌≡◌, ◌≢◌, ℕ, ◌-◌, ◌≤◌, min, Some, None, List, [], ◌∷◌, length, length-append, sym, ◌∙◌, arith}
use Rattle.std.specs.List.{All, concat}
use Rattle.std.proofs.lemmas.List.Elements.{All-tail}
use Rattle.vrp_model.specs.Fleet.{IsFleet}
use Rattle.vrp_model.specs.Problem.{Problem, place_count}
use Rattle.vrp_model.proofs.FewTrucks.{same_number}
use Rattle.vrp_model.proofs.FittingPlans.{as_many_stops}
use Rattle.vrp_model.proofs.PlanWords.{has_length}

few_filled : (routes : List (List ℕ)) → All (λ r. r ≢ []) routes → length routes ≤ length (concat routes)
few_filled [] some = omega arith
few_filled (r ∷ routes) some = omega (arith, has_length r (some 0 r (omega arith)), few_filled routes (All-tail (λ r. r ≢ []) r routes some), length-append r (concat routes))

pub fleet_some : (p : Problem) (trucks n : ℕ) → p.trucks ≡ Some trucks → n ≡ min trucks (place_count p - 1) → IsFleet p n
fleet_some p trucks n are is = record {
  has = λ routes few k e. omega (arith, same_number trucks k (sym are ∙ e), few, is);
  most = λ routes lawful. omega (arith, lawful.few trucks are, few_filled routes lawful.stops, as_many_stops p routes lawful.served, is);
}

pub fleet_none : (p : Problem) (n : ℕ) → p.trucks ≡ None → n ≡ place_count p - 1 → IsFleet p n
fleet_none p n are is = record {
  has = λ routes few k e. absurd (let clash : None ≡ Some k = sym are ∙ e in cc clash);
  most = λ routes lawful. omega (arith, few_filled routes lawful.stops, as_many_stops p routes lawful.served, is);
}
